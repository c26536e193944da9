use Rattle.std.specs.Prelude.{◌≡◌, ◌+◌, ◌-◌, ◌<◌, get_or}
use Rattle.ginneken_lists.proofs.WiringLemmas.{AreWired}
use Rattle.ginneken_lists.proofs.wiring.wire.Given as goal

abbrev pub invariant-loop-at : goal.invariant-loop-at
invariant-loop-at g l = record {
  wired : AreWired l.wire l.fn.pairs.items l.pairs.items l.kept l.at;
  some : 0 < l.kept;
  last : l.last ≡ get_or l.pairs.items (l.kept - 1) l.last;
  steps : l.steps ≡ l.fn.steps + l.at;
}
