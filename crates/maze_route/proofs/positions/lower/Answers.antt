use Rattle.std.proofs.Common.{arith}
use Rattle.maze_route.proofs.PositionLemmas.{lowered-again, layer-turn}
use Rattle.maze_route.proofs.positions.lower.Goals as goal

pub loop-layer-preserved : goal.loop-layer-preserved
loop-layer-preserved g c =
    let price = g.C.Costs.price c.args.costs.now in
    record {
      lowered = lowered-again c.args.numbers.now c.loop-layer.numbers c.lower_layer.new.numbers c.loop-layer.invariant.lowered c.lower_layer.ensures.lowered;
      under = layer-turn c.args.pane.grid c.args.pane.window price c.args.way c.loop-layer.layer c.loop-layer.numbers c.lower_layer.new.numbers c.loop-layer.invariant.under
          c.lower_layer.ensures.lowered (c.lower_layer.ensures.under price c.requires.table);
    }

pub returns-clause-under : goal.returns-clause-under
returns-clause-under g c low cost within before level is =
    let fits = c.args.pane.fits in
    c.loop-layer.invariant.under low cost within before (omega (arith, level, fits.layers, c.loop-layer-test.false, c.layers-layer-end.ensures.layers)) is
