use Rattle.std.proofs.Common.{ℕ, ◌+◌, min, List, get_or, take, sym, subst, arith}
use Rattle.std.proofs.lemmas.List.{take_all, take_more}
use Rattle.cut_bounds.specs.declared.axis.Tile.{Tile}
use Rattle.cut_bounds.proofs.CutLemmas.{AreEnds, no-ends, more-ends, all-ends}
use Rattle.cut_bounds.proofs.cuts.reach_of.Goals as goal

pub loop-tile-init : goal.loop-tile-init
loop-tile-init c = record {
  ends = no-ends c.args.axis c.along-start.result;
  first = λ lines within. let w = within 0 record { x = 0; y = 0 } c.requires in omega (arith, w, c.along-start.ensures);
  last = λ lines within. let w = within 0 record { x = 0; y = 0 } c.requires in omega (arith, w, c.along-start.ensures);
}

pub loop-tile-preserved : goal.loop-tile-preserved
loop-tile-preserved c =
    let was = c.loop-tile.invariant in
    let at = c.loop-tile.tile-index in
    let tiles = c.args.tiles.now in
    record {
      ends = subst (λ (n : ℕ). AreEnds c.args.axis c.along-start.result (take (at + 1) tiles) n c.max.result) (sym c.min.ensures)
          (subst (λ (n : ℕ). AreEnds c.args.axis c.along-start.result (take (at + 1) tiles) (min c.loop-tile.reach.first c.along-line.result) n) (sym c.max.ensures)
          (more-ends c.args.axis c.along-start.result (take at tiles) (take (at + 1) tiles) (get_or tiles at _) c.loop-tile.reach.first c.loop-tile.reach.last
          c.along-line.result was.ends (take_more tiles at _ c.loop-tile-test.true) c.along-line.ensures));
      first = λ lines within. let a = was.first lines within in omega (arith, a, c.min.ensures);
      last = λ lines within. let a = was.last lines within in let b = within at record { x = 0; y = 0 } c.loop-tile-test.true in omega (arith, a, b, c.max.ensures, c.along-line.ensures);
    }

pub returns-clause-reached : goal.returns-clause-reached
returns-clause-reached c =
    let all = take_all c.loop-tile.tile-index c.args.tiles.now c.loop-tile-test.false in
    (all-ends c.args.axis c.along-start.result c.args.tiles.now _ c.loop-tile.reach.first c.loop-tile.reach.last c.requires c.along-start.ensures
    (subst (λ (ts : List Tile). AreEnds c.args.axis c.along-start.result ts c.loop-tile.reach.first c.loop-tile.reach.last) all c.loop-tile.invariant.ends)).0

pub returns-clause-passed : goal.returns-clause-passed
returns-clause-passed c =
    let all = take_all c.loop-tile.tile-index c.args.tiles.now c.loop-tile-test.false in
    (all-ends c.args.axis c.along-start.result c.args.tiles.now _ c.loop-tile.reach.first c.loop-tile.reach.last c.requires c.along-start.ensures
    (subst (λ (ts : List Tile). AreEnds c.args.axis c.along-start.result ts c.loop-tile.reach.first c.loop-tile.reach.last) all c.loop-tile.invariant.ends)).1
