use Rattle.ginneken_lists.specs.Pairs.{AreMarked}
use Rattle.delay_rows.proofs.lists.told_by.Given as goal

abbrev pub invariant-loop-step : goal.invariant-loop-step
invariant-loop-step g l = record {
  can_next : (goal.iterator-loop-step g).can_next l.step-iterator;
  is_finite : (goal.iterator-loop-step g).is_finite l.step-iterator;
  marks : AreMarked l.trail l.list;
}
