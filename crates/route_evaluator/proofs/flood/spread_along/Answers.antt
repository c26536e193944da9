use Rattle.std.proofs.Common.{ℕ, sym, ap, ◌∙◌}
use Rattle.gr_base.specs.Grid.{edge_at}
use Rattle.route_evaluator.specs.NumberSets.{has_number}
use Rattle.route_evaluator.proofs.flood.spread_along.Goals as goal

pub high-requires : goal.high-requires
high-requires c =
    c.requires.grid (edge_at c.args.cell c.args.way)
    (ap (λ (n : ℕ). has_number c.args.edges.now.numbers n) (sym c.edge_number.ensures) ∙ sym c.has.ensures ∙ c.if-has.true)
