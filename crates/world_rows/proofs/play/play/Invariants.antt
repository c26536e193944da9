use Rattle.world_rows.specs.Plays.{IsPlayed}
use Rattle.world_rows.proofs.play.play.Given as goal

abbrev pub invariant-loop-word : goal.invariant-loop-word
invariant-loop-word g l = record {
  next : (goal.iterator-loop-word g).can_next l.rest;
  ends : (goal.iterator-loop-word g).is_finite l.rest;
  played : IsPlayed l.table.design.now l.table.workers l.world.setting;
}
