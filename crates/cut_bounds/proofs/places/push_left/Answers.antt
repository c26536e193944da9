use Rattle.std.proofs.Common.{◌+◌, ◌-◌, arith}
use Rattle.cut_bounds.proofs.PlaceLemmas.{column-small}
use Rattle.cut_bounds.proofs.places.push_left.Goals as goal

pub push_run-requires : goal.push_run-requires
push_run-requires c =
    column-small c.args.shape c.number-first.result (c.args.area.y1 + 1 - c.args.area.y0) c.args.area.y0 c.columns.result c.columns.ensures.columns c.number-first.ensures.inside
    (omega (arith, c.requires.rows, c.requires.top))
