pub mod NumberLemmas
pub mod FormLemmas
pub mod SortingLemmas
pub mod MeaningLemmas
pub mod RuleLemmas
pub mod OrderLemmas
pub mod WordNumbers
pub mod TableLemmas
