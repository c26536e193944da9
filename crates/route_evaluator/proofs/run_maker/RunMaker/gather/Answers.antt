use Rattle.std.proofs.Common.{List, All, IsTrue, map, sym, ap, subst, ◌∙◌}
use Rattle.std.proofs.Math.Path.{fun_ext}
use Rattle.gr_base.specs.declared.grid.Edge.{Edge}
use Rattle.gr_base.specs.EdgeSets.{set_of}
use Rattle.gr_base.specs.Grid.{has_edge}
use Rattle.route_evaluator.specs.EdgeNumbers.{edge_numbered}
use Rattle.route_evaluator.proofs.ListedLemmas.{listed, listed-inside}
use Rattle.route_evaluator.proofs.run_maker.RunMaker.gather.Goals as goal

pub returns : goal.returns
returns c =
    let numbers = c.gather_net.new.edges.numbers in
    let same = c.in_ok-list_edges.ensures ∙ ap (map edge_numbered) c.numbers.ensures.numbers in
    record {
      maker = record {
        bound = c.in_ok-gather_net.ensures.bound;
        grid = subst (λ (edges : List Edge). All (λ e. IsTrue (has_edge c.args.design.now.frame.shape e)) edges) (sym same)
            (listed-inside c.args.design.now.frame.shape numbers c.in_ok-gather_net.ensures.grid);
      };
      edges = ap set_of same ∙ fun_ext (listed numbers) ∙ c.in_ok-gather_net.ensures.edges;
    }
