use Rattle.std.proofs.Common.{◌≡◌, ℕ, ◌-◌, ◌<◌, IsTrue, refl, sym, subst, ◌∙◌, arith}
use Rattle.gr_base.specs.Grid.{place_at, stride, has_room}
use Rattle.maze_route.proofs.SpotLemmas.{spot-behind, no-behind, step-back, place-back, rest-at, inside-at, made, unmade}
use Rattle.maze_route.specs.Steps.{size_of, cell_in, least_to}
use Rattle.maze_route.proofs.StepLemmas.{next-room}
use Rattle.maze_route.proofs.steps.behind.Goals as goal

pub overflow_sub-low : goal.overflow_sub-low
overflow_sub-low g c =
    let back = spot-behind c.args.field.now.pane c.args.spot c.args.way c.requires.spot (sym c.has_behind.ensures ∙ c.if-not-has_behind.false) in
    omega (arith, c.stride.ensures, back.next.high, c.requires.spot.cell)

pub cost-requires : goal.cost-requires
cost-requires g c =
    let p = c.args.field.now.pane in
    let to = c.args.spot.local - stride p.shape c.args.way in
    let back = spot-behind p c.args.spot c.args.way c.requires.spot (sym c.has_behind.ensures ∙ c.if-not-has_behind.false) in
    let local : to ≡ c.args.spot.local - c.stride-2.result = omega (arith, c.stride-2.ensures) in
    let P : ℕ → Type 0 = λ n. (n < size_of p) × ((c.args.spot.cell - c.stride.result ≡ cell_in p n) × IsTrue (has_room p.shape (place_at p.shape n) c.args.way)) in
    let low : c.args.spot.cell - c.stride.result ≡ cell_in p to = omega (arith, c.stride.ensures, back.next.high, c.requires.spot.cell) in
    let all = subst P local (back.next.low_inside, (low, next-room p to c.args.spot.local c.args.way back.next)) in
    record { grid = c.requires.grid; priced = c.requires.priced; inside = all.0; low = all.1.0; room = all.1.1 }

pub returns-then-not-has_behind-clause-step : goal.returns-then-not-has_behind-clause-step
returns-then-not-has_behind-clause-step g c aim =
    no-behind c.args.field.now.pane (g.C.Costs.price c.args.costs.now) aim c.args.spot c.args.way c.requires.spot (sym c.has_behind.ensures ∙ c.if-not-has_behind.true)

pub returns-in_default-clause-step : goal.returns-in_default-clause-step
returns-in_default-clause-step g c aim =
    let to = c.args.spot.local - stride c.args.field.now.pane.shape c.args.way in
    let back = spot-behind c.args.field.now.pane c.args.spot c.args.way c.requires.spot (sym c.has_behind.ensures ∙ c.if-not-has_behind.false) in
    let low : c.args.spot.cell - c.stride.result ≡ cell_in c.args.field.now.pane to = omega (arith, c.stride.ensures, back.next.high, c.requires.spot.cell) in
    unmade c.args.field.now.pane aim to c.cost.result c.in_default.is _
    (step-back c.args.field.now.pane (g.C.Costs.price c.args.costs.now) aim c.args.spot c.args.way to (c.args.spot.cell - c.stride.result) c.cost.result c.requires.spot back.next low c.cost.ensures.price)

pub overflow_sub-cell : goal.overflow_sub-cell
overflow_sub-cell g c =
    let back = spot-behind c.args.field.now.pane c.args.spot c.args.way c.requires.spot (sym c.has_behind.ensures ∙ c.if-not-has_behind.false) in
    omega (arith, c.stride-2.ensures, back.sum)

pub one_back-requires : goal.one_back-requires
one_back-requires g c = sym c.has_behind.ensures ∙ c.if-not-has_behind.false

pub returns-clause-step : goal.returns-clause-step
returns-clause-step g c aim =
    let to = c.args.spot.local - stride c.args.field.now.pane.shape c.args.way in
    let back = spot-behind c.args.field.now.pane c.args.spot c.args.way c.requires.spot (sym c.has_behind.ensures ∙ c.if-not-has_behind.false) in
    let low : c.args.spot.cell - c.stride.result ≡ cell_in c.args.field.now.pane to = omega (arith, c.stride.ensures, back.next.high, c.requires.spot.cell) in
    let rest = rest-at c.args.field.now.pane aim to (least_to aim c.one_back.result) c.one_back.result (place-back c.args.field.now.pane c.args.spot c.args.way to c.one_back.result c.requires.spot back.next c.one_back.ensures) refl in
    made c.args.field.now.pane aim to (c.args.spot.local - c.stride-2.result) c.in-Some.cost (least_to aim c.one_back.result) c.cost.result c.in-Some.is (omega (arith, c.stride-2.ensures)) rest _
    (step-back c.args.field.now.pane (g.C.Costs.price c.args.costs.now) aim c.args.spot c.args.way to (c.args.spot.cell - c.stride.result) c.cost.result c.requires.spot back.next low c.cost.ensures.price)

pub returns-clause-inside : goal.returns-clause-inside
returns-clause-inside g c =
    let to = c.args.spot.local - stride c.args.field.now.pane.shape c.args.way in
    let back = spot-behind c.args.field.now.pane c.args.spot c.args.way c.requires.spot (sym c.has_behind.ensures ∙ c.if-not-has_behind.false) in
    inside-at c.args.field.now.pane to c.one_back.result back.next.low_inside (place-back c.args.field.now.pane c.args.spot c.args.way to c.one_back.result c.requires.spot back.next c.one_back.ensures)
