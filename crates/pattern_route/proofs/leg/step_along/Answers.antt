use Rattle.std.proofs.Common.{◌≡◌, ℕ, min, Option, Some, IsTrue, refl, sym, ap, subst, ◌∙◌}
use Rattle.std.specs.Prelude.{IsSome}
use Rattle.gr_base.specs.Grid.{edge_at, has_edge, is_wire}
use Rattle.pattern_route.specs.Steps.{toward}
use Rattle.pattern_route.specs.Lines.{way_along, place_on}
use Rattle.pattern_route.proofs.LineLemmas.{step-joined, step-price, wire-along}
use Rattle.pattern_route.proofs.leg.step_along.Goals as goal

pub cost-requires : goal.cost-requires
cost-requires g c =
    let least = c.min-low.ensures ∙ ap (λ n. min c.args.from n) c.one_toward.ensures in
    let step = step-joined c.args.shape c.args.line c.args.from c.args.to (toward c.args.from c.args.to) c.min-low.result refl least c.requires.apart c.requires.from c.requires.to in
    rw (c.requires.grid, c.cell.ensures, c.way.ensures) step.edge

pub unreachable-requires : goal.unreachable-requires
unreachable-requires g c =
    let least = c.min-low.ensures ∙ ap (λ n. min c.args.from n) c.one_toward.ensures in
    let step = step-joined c.args.shape c.args.line c.args.from c.args.to (toward c.args.from c.args.to) c.min-low.result refl least c.requires.apart c.requires.from c.requires.to in
    let e = edge_at c.cell.result c.way.result in
    let edge : IsTrue (has_edge c.args.shape e) = rw (c.cell.ensures, c.way.ensures) step.edge in
    let wire : IsTrue (is_wire e) = rw c.way.ensures (wire-along c.cell.result c.args.line.axis) in
    let P : Option ℕ → Type 0 = λ o. IsSome o in
    let none = subst P (sym c.cost.ensures.price ∙ c.in-None.is) (c.requires.flat.priced e edge wire) in
    cc

pub returns-clause-cost : goal.returns-clause-cost
returns-clause-cost g c =
    let least = c.min-low.ensures ∙ ap (λ n. min c.args.from n) c.one_toward.ensures in
    let step = step-joined c.args.shape c.args.line c.args.from c.args.to (toward c.args.from c.args.to) c.min-low.result refl least c.requires.apart c.requires.from c.requires.to in
    let price = g.C.Costs.price c.args.costs.now in
    let here : price (edge_at c.cell.result c.way.result) ≡ Some c.in-Some.cost = sym c.cost.ensures.price ∙ c.in-Some.is in
    let priced : price (edge_at (place_on c.args.shape c.args.line c.min-low.result) (way_along c.args.line.axis)) ≡ Some c.in-Some.cost =
    ap (λ low. price (edge_at low (way_along c.args.line.axis))) (sym c.cell.ensures) ∙
    ap (λ way. price (edge_at c.cell.result way)) (sym c.way.ensures) ∙ here in
    sym (step-price c.args.shape price (place_on c.args.shape c.args.line c.args.from)
    (place_on c.args.shape c.args.line (toward c.args.from c.args.to)) c.in-Some.cost
    (edge_at (place_on c.args.shape c.args.line c.min-low.result) (way_along c.args.line.axis)) step.joins priced)
