use Rattle.std.proofs.Common.{◌≡◌, ℕ, ◌*◌, sum_by, ap, ◌∙◌, arith}
use Rattle.std.specs.List.{range_with_len}
use Rattle.gr_base.specs.Grid.{cells_of}
use Rattle.gr_base.specs.declared.grid.Shape.{Shape}
use Rattle.grid_demand.specs.Tables.{CapacityView}
use Rattle.net_prices.specs.PriceTables.{allowed_by, prices_by}
use Rattle.price_bounds.specs.Costs.{held_numbered}
use Rattle.price_bounds.proofs.CostLemmas.{all-held, more-held}
use Rattle.price_bounds.proofs.held.held_price_of.Goals as goal

pub loop-number-preserved : goal.loop-number-preserved
loop-number-preserved c =
    let l = c.loop-number in
    let fits = l.invariant.fits in
    record {
      held = λ d is.
          more-held (held_numbered d (prices_by c.args.rates c.args.weights.now) (allowed_by d c.args.rates.usable_only)) l.number l.held c.from-held.result
          (l.invariant.held d is) (c.from-held.ensures ∙ c.held_at.ensures.held d is);
      fits = omega (arith, fits, c.held_at.ensures.most, c.from-held.ensures);
    }

pub returns : goal.returns
returns c d is =
    let l = c.loop-number in
    let p = prices_by c.args.rates c.args.weights.now in
    let allowed = allowed_by d c.args.rates.usable_only in
    let framed = ap (λ (g : Shape). cells_of g) c.shape.ensures.shape in
    let sized = ap (λ (v : CapacityView). cells_of v.shape) is in
    let all : l.number ≡ 2 * cells_of d.frame.shape =
    omega (arith, l.auto.number-end, c.loop-number-test.false, c.cells-number-end.ensures.cells, framed, sized) in
    l.invariant.held d is ∙ ap (λ (n : ℕ). sum_by (held_numbered d p allowed) (range_with_len 0 n)) all ∙ all-held d p allowed
