use Rattle.std.proofs.Common.{◌<◌, Some, slice_get, length, sym, ap, ◌∙◌, arith}
use Rattle.grid_demand.specs.Overfull.{OverfullView, told_edges}
use Rattle.grid_demand.proofs.ToldEdges.{told-inside, told-edge, told-length}
use Rattle.grid_demand.proofs.overfull.Overfull.edge.Goals as goal

pub edge_placed-requires-clause-few : goal.edge_placed-requires-clause-few
edge_placed-requires-clause-few c = omega (arith, c.len.ensures, c.self.invariant.few, c.self.inside.over.ok.0)

pub edge_placed-requires-clause-place : goal.edge_placed-requires-clause-place
edge_placed-requires-clause-place c =
    let same = told-length c.self.inside.over.items c.self.inside.places.items c.self.invariant.places in
    let seen = ap (λ (o : OverfullView). length (told_edges o.table)) c.self.view_is in
    let inside : c.args.at < length c.self.inside.places.items = omega (arith, same, seen, c.requires) in
    let below = told-inside c.self.inside.over.items c.self.inside.places.items c.args.at c.index.result.now c.self.invariant.places inside c.index.ensures in
    omega (arith, below, c.len.ensures, c.self.inside.over.ok.0)

pub returns : goal.returns
returns c =
    let same = told-length c.self.inside.over.items c.self.inside.places.items c.self.invariant.places in
    let seen = ap (λ (o : OverfullView). length (told_edges o.table)) c.self.view_is in
    let inside : c.args.at < length c.self.inside.places.items = omega (arith, same, seen, c.requires) in
    ap (λ (o : OverfullView). slice_get (told_edges o.table) c.args.at) (sym c.self.view_is)
    ∙ told-edge c.self.inside.over.items c.self.inside.places.items c.len.result c.args.at c.index.result.now c.self.invariant.places inside c.index.ensures
    (omega (arith, c.len.ensures, c.self.inside.over.ok.0))
    ∙ sym (ap Some c.edge_placed.ensures)
