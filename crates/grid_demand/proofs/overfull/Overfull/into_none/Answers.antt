use Rattle.std.proofs.Common.{◌/◌, false, length, sym, ap, ◌∙◌, arith}
use Rattle.grid_demand.proofs.ClearedTables.{cleared-all, told-below}
use Rattle.grid_demand.proofs.PlaneLemmas.{length-by_number}
use Rattle.grid_demand.proofs.overfull.Overfull.into_none.Goals as goal

pub clear_places-requires : goal.clear_places-requires
clear_places-requires c = told-below c.self.inside.over.items c.deref.result.now (c.deref.ensures.value ∙ c.self.invariant.places)

pub returns-clause-long : goal.returns-clause-long
returns-clause-long c =
    c.clear_places.ensures.long ∙ sym (length-by_number false c.self.inside.over.items) ∙ ap (λ v. length v.table) c.self.view_is

pub returns-clause-none : goal.returns-clause-none
returns-clause-none c n =
    let whole = length-by_number false c.self.inside.over.items in
    let seen = ap (λ v. length v.table) c.self.view_is in
    cleared-all c.clear_places.new.over.items c.self.inside.over.items c.deref.result.now (length c.args.self.table / 2) n
    (omega (arith, whole, seen, c.requires)) c.clear_places.ensures.long (c.deref.ensures.value ∙ c.self.invariant.places) c.clear_places.ensures.each
