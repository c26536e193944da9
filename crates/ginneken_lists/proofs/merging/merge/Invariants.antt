use Rattle.std.specs.Prelude.{◌+◌, ◌-◌, ◌≤◌, length}
use Rattle.std.specs.Vec.{vec_len, vec_capacity}
use Rattle.ginneken_lists.specs.Trails.{trail_of}
use Rattle.ginneken_lists.specs.TrailStore.{AreChoices}
use Rattle.ginneken_lists.proofs.MergeLemmas.{AreGoing}
use Rattle.ginneken_lists.proofs.merging.merge.Given as goal

abbrev pub invariant-loop-before : goal.invariant-loop-before
invariant-loop-before g l = record {
  going : AreGoing (trail_of l.fn.choices.items) (trail_of l.choices.items) l.left l.right l.merged.items l.before l.beside l.fn.steps l.steps;
  choices : AreChoices l.choices.items;
  room : vec_len l.merged + (length l.left + length l.right) ≤ vec_capacity l.merged + (l.before + l.beside);
  choice_room : vec_len l.choices + (length l.left + length l.right) ≤ vec_capacity l.choices + (l.before + l.beside);
}

abbrev pub decreases-loop-before : goal.decreases-loop-before
decreases-loop-before g l = (length l.left - l.before) + (length l.right - l.beside)
