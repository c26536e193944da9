use Rattle.std.proofs.Common.{get_or, refl, sym, ◌∙◌}
use Rattle.cut_bounds.specs.declared.wall.MeasuredWall.{MeasuredWall}
use Rattle.cut_bounds.specs.declared.wall.Wall.TheVariants.{Column}
use Rattle.cut_bounds.proofs.FullestLemmas.{fullest-more, fullest-same}
use Rattle.cut_bounds.proofs.fullest.fullest_of.Goals as goal

pub loop-wall-preserved-then-not-is_needed : goal.loop-wall-preserved-then-not-is_needed
loop-wall-preserved-then-not-is_needed c =
    let l = c.loop-wall in
    let d : MeasuredWall = record { wall = Column 0; needs = 0; holds = 0 } in
    fullest-same c.args.walls.now l.wall-index (get_or c.args.walls.now l.wall-index d) d l.fullest.items c.loop-wall-test.true refl
    (sym c.is_needed.ensures ∙ c.if-not-is_needed.true) l.invariant

pub loop-wall-preserved : goal.loop-wall-preserved
loop-wall-preserved c =
    let l = c.loop-wall in
    let d : MeasuredWall = record { wall = Column 0; needs = 0; holds = 0 } in
    fullest-more c.args.walls.now l.wall-index (get_or c.args.walls.now l.wall-index d) d l.fullest.items c.place.new.fullest.items c.loop-wall-test.true refl
    (sym c.is_needed.ensures ∙ c.if-not-is_needed.false) l.invariant c.in_ok-place.ensures
