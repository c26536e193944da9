use Rattle.std.proofs.Common.{IsTrue, sym, subst}
use Rattle.cost_rules.specs.Prices.{ArePrices}
use Rattle.gr_base.specs.declared.grid.Shape.{Shape}
use Rattle.gr_base.specs.declared.grid.Way.TheVariants.{East, North}
use Rattle.gr_base.specs.Grid.{has_edge}
use Rattle.maze_route.proofs.FieldLemmas.{edge-there, table-price, table-most}
use Rattle.maze_route.proofs.field.Field.cost.Goals as goal

pub via-requires : goal.via-requires
via-requires g c =
    subst (λ (s : Shape). IsTrue (has_edge s c.args.edge)) (sym c.requires.grid) (edge-there c.args.self.now.pane c.args.low c.args.edge c.requires.inside c.requires.low c.requires.room)

pub returns-in-East-clause-price : goal.returns-in-East-clause-price
returns-in-East-clause-price g c =
    table-price c.args.self.now.pane (g.C.Costs.price c.args.costs.now) East c.args.self.now.east.items c.args.low c.args.edge c.held_at.result c.requires.priced.east c.requires.inside
    c.requires.low c.in-East.is c.requires.room c.held_at.ensures

pub returns-in-East-clause-most : goal.returns-in-East-clause-most
returns-in-East-clause-most g c =
    let ways = g.C.Costs.ways c.args.costs.now in
    let price = g.C.Costs.price c.args.costs.now in
    table-most c.args.self.now.pane ways price c.args.low c.args.edge c.held_at.result
    (subst (λ (s : Shape). ArePrices s ways price) c.requires.grid (g.met.C.Costs.prices c.args.costs.now)) c.requires.inside c.requires.low c.requires.room
    (table-price c.args.self.now.pane price East c.args.self.now.east.items c.args.low c.args.edge c.held_at.result c.requires.priced.east c.requires.inside c.requires.low c.in-East.is
    c.requires.room c.held_at.ensures)

pub returns-in-North-clause-price : goal.returns-in-North-clause-price
returns-in-North-clause-price g c =
    table-price c.args.self.now.pane (g.C.Costs.price c.args.costs.now) North c.args.self.now.north.items c.args.low c.args.edge c.held_at-in-North.result c.requires.priced.north
    c.requires.inside c.requires.low c.in-North.is c.requires.room c.held_at-in-North.ensures

pub returns-in-North-clause-most : goal.returns-in-North-clause-most
returns-in-North-clause-most g c =
    let ways = g.C.Costs.ways c.args.costs.now in
    let price = g.C.Costs.price c.args.costs.now in
    table-most c.args.self.now.pane ways price c.args.low c.args.edge c.held_at-in-North.result
    (subst (λ (s : Shape). ArePrices s ways price) c.requires.grid (g.met.C.Costs.prices c.args.costs.now)) c.requires.inside c.requires.low c.requires.room
    (table-price c.args.self.now.pane price North c.args.self.now.north.items c.args.low c.args.edge c.held_at-in-North.result c.requires.priced.north c.requires.inside c.requires.low
    c.in-North.is c.requires.room c.held_at-in-North.ensures)

pub returns-in-Up-clause-most : goal.returns-in-Up-clause-most
returns-in-Up-clause-most g c =
    let ways = g.C.Costs.ways c.args.costs.now in
    let price = g.C.Costs.price c.args.costs.now in
    table-most c.args.self.now.pane ways price c.args.low c.args.edge c.via.result
    (subst (λ (s : Shape). ArePrices s ways price) c.requires.grid (g.met.C.Costs.prices c.args.costs.now)) c.requires.inside c.requires.low c.requires.room
    (c.via.ensures.price c.in-Up.is)
