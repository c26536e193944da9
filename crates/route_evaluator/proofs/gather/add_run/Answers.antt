use Rattle.std.proofs.Common.{◌≡◌, refl, ℕ, ap, ◌∙◌, arith}
use Rattle.gr_base.specs.Grid.{way_between}
use Rattle.gr_base.specs.declared.grid.Shape.{Shape}
use Rattle.gr_base.specs.declared.grid.Way.{Way}
use Rattle.gr_base.proofs.GridLemmas.{edge-low}
use Rattle.solution_text.specs.declared.run.Run.{Run}
use Rattle.route_evaluator.specs.NumberSets.{NumberSetView, with_number}
use Rattle.route_evaluator.proofs.EdgeNumberLemmas.{number-under}
use Rattle.route_evaluator.proofs.GatherLemmas.{first_of, last_of, under-start, under-edge, under-next, under-end}
use Rattle.route_evaluator.proofs.gather.add_run.Goals as goal

way-same : (g : Shape) (run : Run) (way : Way) (low high : ℕ) → way ≡ way_between g low high → low ≡ first_of run → high ≡ last_of run →
    way ≡ way_between g (first_of run) (last_of run)
way-same g run way low high is from to =
    is ∙ ap (λ (n : ℕ). way_between g n high) from ∙ ap (λ (n : ℕ). way_between g (first_of run) n) to

pub loop-low-init : goal.loop-low-init
loop-low-init c = record {
  bound = refl;
  under = under-start c.args.shape c.args.run c.way_between-way.result c.min-low.result c.args.edges.now.numbers c.min-low.ensures;
}

pub insert-requires : goal.insert-requires
insert-requires c =
    let way = way-same c.args.shape c.args.run c.way_between-way.result c.min-low.result c.max-high.result c.way_between-way.ensures c.min-low.ensures c.max-high.ensures in
    let edge = under-edge c.args.shape c.args.run c.way_between-way.result c.loop-low.low c.args.edges.now.numbers c.loop-low.edges.numbers c.requires.run way
    c.loop-low.invariant.under (omega (arith, c.max-high.ensures, c.loop-low-test.true)) in
    let under = number-under c.loop-low.low _ c.way_between-way.result (edge-low c.args.shape _ edge) in
    omega (arith, under, c.edge_number.ensures, c.loop-low.invariant.bound, c.requires.bound)

pub high-low-requires : goal.high-low-requires
high-low-requires c =
    let way = way-same c.args.shape c.args.run c.way_between-way.result c.min-low.result c.max-high.result c.way_between-way.ensures c.min-low.ensures c.max-high.ensures in
    under-edge c.args.shape c.args.run c.way_between-way.result c.loop-low.low c.args.edges.now.numbers c.loop-low.edges.numbers c.requires.run way
    c.loop-low.invariant.under (omega (arith, c.max-high.ensures, c.loop-low-test.true))

pub loop-low-preserved : goal.loop-low-preserved
loop-low-preserved c =
    let way = way-same c.args.shape c.args.run c.way_between-way.result c.min-low.result c.max-high.result c.way_between-way.ensures c.min-low.ensures c.max-high.ensures in
    record {
      bound = ap (λ (s : NumberSetView). s.bound) c.in_ok-insert.ensures ∙ c.loop-low.invariant.bound;
      under =
          under-next c.args.shape c.args.run c.way_between-way.result c.loop-low.low c.high-low.result c.args.edges.now.numbers c.loop-low.edges.numbers c.insert.new.self.numbers
          c.requires.run way c.loop-low.invariant.under (omega (arith, c.max-high.ensures, c.loop-low-test.true))
          (ap (λ (s : NumberSetView). s.numbers) c.in_ok-insert.ensures ∙ ap (λ (n : ℕ). with_number c.loop-low.edges.numbers n) c.edge_number.ensures)
          c.high-low.ensures.high;
    }

pub returns-clause-bound : goal.returns-clause-bound
returns-clause-bound c = c.loop-low.invariant.bound

pub returns-clause-edges : goal.returns-clause-edges
returns-clause-edges c =
    let way = way-same c.args.shape c.args.run c.way_between-way.result c.min-low.result c.max-high.result c.way_between-way.ensures c.min-low.ensures c.max-high.ensures in
    under-end c.args.shape c.args.run c.way_between-way.result c.loop-low.low c.args.edges.now.numbers c.loop-low.edges.numbers c.requires.run way
    c.loop-low.invariant.under (omega (arith, c.max-high.ensures, c.loop-low-test.false))
