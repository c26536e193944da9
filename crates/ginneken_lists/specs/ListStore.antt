-- How a list stores its pairs.
use Rattle.ginneken_lists.specs.Pairs.{IsList}
use Rattle.ginneken_lists.specs.StoredPairs.{pairs_of}
use Rattle.ginneken_lists.specs.declared.list.OptionList.TheInside.{Inside}

-- the stored pairs are a list
abbrev pub IsStored : Inside → Type 0
IsStored list = IsList (pairs_of list.pairs.items)
