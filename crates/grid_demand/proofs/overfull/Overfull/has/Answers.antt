use Rattle.std.proofs.Common.{false, length, sym, ap, ◌∙◌, arith}
use Rattle.std.proofs.lemmas.List.{get_or_read}
use Rattle.gr_base.specs.Sums.{wire_number}
use Rattle.grid_demand.specs.Overfull.{OverfullView, is_told}
use Rattle.grid_demand.proofs.PlaneLemmas.{stands, length-by_number}
use Rattle.grid_demand.proofs.overfull.Overfull.has.Goals as goal

pub index-requires : goal.index-requires
index-requires c =
    let over = c.self.inside.over.items in
    let long = sym (length-by_number false over) ∙ ap (λ (o : OverfullView). length o.table) c.self.view_is in
    let here = stands false over c.len.result (wire_number c.args.e) c.place.result (omega (arith, c.requires, long))
    (omega (arith, c.len.ensures, c.self.inside.over.ok.0)) c.place.ensures in
    omega (arith, here.below, c.self.inside.over.ok.0)

pub returns : goal.returns
returns c =
    let over = c.self.inside.over.items in
    let long = sym (length-by_number false over) ∙ ap (λ (o : OverfullView). length o.table) c.self.view_is in
    let here = stands false over c.len.result (wire_number c.args.e) c.place.result (omega (arith, c.requires, long))
    (omega (arith, c.len.ensures, c.self.inside.over.ok.0)) c.place.ensures in
    get_or_read over c.place.result c.index.result.now here.below c.index.ensures false ∙ here.value
    ∙ ap (λ (o : OverfullView). is_told o.table c.args.e) c.self.view_is
