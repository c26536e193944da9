use Rattle.maze_route.proofs.ScaleLemmas.{scales-of}
use Rattle.maze_route.proofs.scales.Scales.of.Goals as goal

pub returns : goal.returns
returns g c =
    let pane = c.args.field.now.pane in
    scales-of pane.grid pane.window (g.C.Costs.price c.args.costs.now) _ pane.fits.window c.in_ok-positions.ensures.size c.in_ok-positions-2.ensures.size
    c.in_ok-positions.ensures.positions c.in_ok-positions-2.ensures.positions
