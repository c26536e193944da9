pub mod LowLemmas
pub mod MemberLemmas
pub mod ListLemmas
pub mod EndLemmas
