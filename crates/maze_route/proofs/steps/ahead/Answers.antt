use Rattle.std.proofs.Common.{◌+◌, IsTrue, refl, sym, subst, ◌∙◌, arith}
use Rattle.gr_base.specs.declared.grid.Cell.{Cell}
use Rattle.gr_base.specs.Grid.{stride, has_room}
use Rattle.maze_route.proofs.SpotLemmas.{spot-inside, few-each, few-local, spot-ahead, no-ahead, step-on, place-on, rest-at, inside-at, made, unmade}
use Rattle.maze_route.specs.Steps.{least_to}
use Rattle.maze_route.proofs.steps.ahead.Goals as goal

pub has_room-requires : goal.has_room-requires
has_room-requires g c = spot-inside c.args.field.now.pane c.args.spot c.requires.spot

pub cost-requires : goal.cost-requires
cost-requires g c =
    let P : Cell → Type 0 = λ q. IsTrue (has_room c.args.field.now.pane.shape q c.args.way) in
    record {
      grid = c.requires.grid;
      priced = c.requires.priced;
      inside = c.requires.spot.inside;
      low = c.requires.spot.cell;
      room = subst P c.requires.spot.place (sym c.has_room.ensures ∙ c.if-not-has_room.false);
    }

pub returns-then-not-has_room-clause-step : goal.returns-then-not-has_room-clause-step
returns-then-not-has_room-clause-step g c aim =
    no-ahead c.args.field.now.pane (g.C.Costs.price c.args.costs.now) aim c.args.spot c.args.way c.requires.spot (sym c.has_room.ensures ∙ c.if-not-has_room.true)

pub returns-in_default-clause-step : goal.returns-in_default-clause-step
returns-in_default-clause-step g c aim =
    let to = c.args.spot.local + stride c.args.field.now.pane.shape c.args.way in
    let next = spot-ahead c.args.field.now.pane c.args.spot c.args.way c.requires.spot (sym c.has_room.ensures ∙ c.if-not-has_room.false) in
    unmade c.args.field.now.pane aim to c.cost.result c.in_default.is _
    (step-on c.args.field.now.pane (g.C.Costs.price c.args.costs.now) aim c.args.spot c.args.way to c.cost.result c.requires.spot next c.cost.ensures.price)

pub overflow_add-result : goal.overflow_add-result
overflow_add-result g c =
    let next = spot-ahead c.args.field.now.pane c.args.spot c.args.way c.requires.spot (sym c.has_room.ensures ∙ c.if-not-has_room.false) in
    let few = few-local c.args.field.now.pane (c.args.spot.local + stride c.args.field.now.pane.shape c.args.way) next.inside in
    omega (arith, c.stride.ensures)

pub one_on-requires : goal.one_on-requires
one_on-requires g c =
    let few = few-each c.args.field.now.pane.shape c.args.spot.place (spot-inside c.args.field.now.pane c.args.spot c.requires.spot) in
    record { x = few.0; y = few.1.0; layer = few.1.1 }

pub returns-clause-step : goal.returns-clause-step
returns-clause-step g c aim =
    let to = c.args.spot.local + stride c.args.field.now.pane.shape c.args.way in
    let next = spot-ahead c.args.field.now.pane c.args.spot c.args.way c.requires.spot (sym c.has_room.ensures ∙ c.if-not-has_room.false) in
    let rest = rest-at c.args.field.now.pane aim to (least_to aim c.one_on.result) c.one_on.result (place-on c.args.field.now.pane c.args.spot c.args.way to c.one_on.result c.requires.spot next c.one_on.ensures) refl in
    made c.args.field.now.pane aim to (c.args.spot.local + c.stride.result) c.in-Some.cost (least_to aim c.one_on.result) c.cost.result c.in-Some.is (omega (arith, c.stride.ensures)) rest _
    (step-on c.args.field.now.pane (g.C.Costs.price c.args.costs.now) aim c.args.spot c.args.way to c.cost.result c.requires.spot next c.cost.ensures.price)

pub returns-clause-inside : goal.returns-clause-inside
returns-clause-inside g c =
    let to = c.args.spot.local + stride c.args.field.now.pane.shape c.args.way in
    let next = spot-ahead c.args.field.now.pane c.args.spot c.args.way c.requires.spot (sym c.has_room.ensures ∙ c.if-not-has_room.false) in
    inside-at c.args.field.now.pane to c.one_on.result next.inside (place-on c.args.field.now.pane c.args.spot c.args.way to c.one_on.result c.requires.spot next c.one_on.ensures)

pub returns-clause-cell : goal.returns-clause-cell
returns-clause-cell g c =
    let next = spot-ahead c.args.field.now.pane c.args.spot c.args.way c.requires.spot (sym c.has_room.ensures ∙ c.if-not-has_room.false) in
    omega (arith, c.stride.ensures, next.inside)
