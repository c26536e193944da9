use Rattle.std.proofs.Common.{◌+◌, ◌-◌, arith}
use Rattle.cut_bounds.proofs.PlaceLemmas.{row-small}
use Rattle.cut_bounds.proofs.places.push_lower.Goals as goal

pub push_run-requires : goal.push_run-requires
push_run-requires c =
    row-small c.args.shape c.tiles.result c.number.result (c.args.area.x1 + 1 - c.args.area.x0) c.tiles.ensures.tiles c.number.ensures.inside
    (omega (arith, c.requires.right))
