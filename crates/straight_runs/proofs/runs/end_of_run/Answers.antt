use Rattle.std.proofs.Common.{sym, ◌∙◌, arith}
use Rattle.gr_base.specs.Grid.{cells_of, edge_at}
use Rattle.straight_runs.specs.Lows.{edges_from}
use Rattle.straight_runs.proofs.ListLemmas.{edge-from, reach-on, reach-off}
use Rattle.straight_runs.proofs.runs.end_of_run.Goals as goal

pub high-end-requires : goal.high-end-requires
high-end-requires c =
    c.requires.lows.within (edge_at c.loop-shape.end c.args.way)
    (edge-from c.args.way c.args.lows.now c.loop-shape.end ∙ sym c.has_low.ensures ∙ c.loop-shape-test.true)

pub loop-shape-preserved : goal.loop-shape-preserved
loop-shape-preserved c = record {
  same =
      reach-on c.args.shape (edges_from c.args.way c.args.lows.now) c.requires.lows.within c.args.way (cells_of c.args.shape) c.loop-shape.end c.high-end.result
      (omega arith) c.high-end.ensures.high (edge-from c.args.way c.args.lows.now c.loop-shape.end ∙ sym c.has_low.ensures ∙ c.loop-shape-test.true)
      ∙ c.loop-shape.invariant.same;
  inside = c.high-end.ensures.cell;
}

pub returns-clause-end : goal.returns-clause-end
returns-clause-end c =
    sym (reach-off c.args.shape (edges_from c.args.way c.args.lows.now) c.requires.lows.within c.args.way (cells_of c.args.shape) c.loop-shape.end
    (edge-from c.args.way c.args.lows.now c.loop-shape.end ∙ sym c.has_low.ensures ∙ c.loop-shape-test.false))
    ∙ c.loop-shape.invariant.same
