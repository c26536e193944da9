use Rattle.std.proofs.Common.{◌≡◌, length}
use Rattle.elmore_delay.specs.Placements.{NamesKinds}
use Rattle.delay_rows.proofs.buffered.placed.Given as goal

abbrev pub invariant-loop-word : goal.invariant-loop-word
invariant-loop-word l = record {
  can_next : (goal.iterator-loop-word).can_next l.word-iterator;
  is_finite : (goal.iterator-loop-word).is_finite l.word-iterator;
  nodes : length l.placement ≡ length l.tree.nodes;
  kinds : NamesKinds l.library l.placement;
}
