use Rattle.std.proofs.Common.{◌∙◌, refl, arith}
use Rattle.gr_base.specs.Grid.{number_of}
use Rattle.gr_base.proofs.GridLemmas.{few_cells}
use Rattle.maze_route.specs.Positions.{start_of}
use Rattle.maze_route.proofs.PositionLemmas.{lowered-again, line-held, prices-under, lines-turn, lines-done}
use Rattle.maze_route.proofs.positions.lower_layer.Goals as goal

pub lower_line-requires-clause-inside : goal.lower_line-requires-clause-inside
lower_line-requires-clause-inside c = λ place below.
    let held = line-held c.args.pane c.args.way c.args.layer c.loop-line.line place c.start-first.result _ c.requires.layer (omega (arith, c.loop-line-test.true, c.lines-line-end.ensures))
    (omega (arith, below, c.loop-line.invariant.lowered.size, c.requires.size)) c.start-first.ensures refl in
    omega (arith, held.inside, c.requires.prices)

pub lower_line-requires-clause-few : goal.lower_line-requires-clause-few
lower_line-requires-clause-few c = let few = few_cells c.args.pane.shape in omega (arith, few, c.requires.prices)

pub loop-line-preserved : goal.loop-line-preserved
loop-line-preserved c =
    let p = c.args.pane in
    let way = c.args.way in
    let size = c.loop-line.invariant.lowered.size ∙ c.requires.size in
    record {
      lowered = lowered-again c.args.numbers.now c.loop-line.numbers c.lower_line.new.numbers c.loop-line.invariant.lowered c.lower_line.ensures.lowered;
      under = λ price table. lines-turn p.grid p.window price way c.args.layer c.loop-line.line (number_of p.grid (start_of p.window way c.args.layer c.loop-line.line)) c.loop-line.numbers
          c.lower_line.new.numbers refl size (c.loop-line.invariant.under price table) c.lower_line.ensures.lowered
          (prices-under p price way c.args.layer c.loop-line.line c.start-first.result _ c.args.prices.now c.lower_line.new.numbers table c.requires.layer
          (omega (arith, c.loop-line-test.true, c.lines-line-end.ensures)) c.start-first.ensures size c.lower_line.ensures.under);
    }

pub returns-clause-under : goal.returns-clause-under
returns-clause-under c = λ price table.
    lines-done c.args.pane.grid c.args.pane.window price c.args.way c.args.layer c.loop-line.line c.loop-line.numbers
    (omega (arith, c.loop-line-test.false, c.lines-line-end.ensures)) (c.loop-line.invariant.under price table)
