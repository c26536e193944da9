use Rattle.std.proofs.Common.{◌≡◌, All, take, IsTrue}
use Rattle.book_state.specs.Extents.{listed}
use Rattle.book_state.proofs.extents.listed_victims.Given as goal

abbrev pub invariant-loop-part : goal.invariant-loop-part
invariant-loop-part l = record {
  listed_so : l.victims ≡ listed (take l.part-index l.parts);
  whole : All (λ p. IsTrue p.whole) (take l.part-index l.parts);
}
