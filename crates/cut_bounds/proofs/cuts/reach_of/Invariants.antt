use Rattle.std.proofs.Common.{ℕ, ◌<◌, take}
use Rattle.cut_bounds.specs.Cuts.{AreWithin}
use Rattle.cut_bounds.proofs.CutLemmas.{AreEnds}
use Rattle.cut_bounds.proofs.cuts.reach_of.Given as goal

abbrev pub invariant-loop-tile : goal.invariant-loop-tile
invariant-loop-tile l = record {
  ends : AreEnds l.axis l.start (take l.tile-index l.tiles) l.reach.first l.reach.last;
  first : (lines : ℕ) → AreWithin l.axis lines l.tiles → l.reach.first < lines;
  last : (lines : ℕ) → AreWithin l.axis lines l.tiles → l.reach.last < lines;
}
