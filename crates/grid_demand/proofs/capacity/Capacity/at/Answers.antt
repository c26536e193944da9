use Rattle.std.proofs.Common.{IsTrue, refl, ap, subst, ◌∙◌, arith}
use Rattle.std.proofs.lemmas.List.{get_or_read}
use Rattle.gr_base.specs.Grid.{has_edge}
use Rattle.gr_base.specs.Limits.{most_capacity}
use Rattle.gr_base.specs.Sums.{wire_number}
use Rattle.grid_demand.specs.CapacityStore.{seen}
use Rattle.grid_demand.specs.Tables.{CapacityView, capacity_at, IsCapacity}
use Rattle.grid_demand.proofs.CapacityLemmas.{capacity-place, capacity-table}
use Rattle.grid_demand.proofs.LoadLemmas.{index-most}
use Rattle.grid_demand.proofs.capacity.Capacity.at.Goals as goal

pub index-requires : goal.index-requires
index-requires c =
    let here = capacity-place (seen c.self.inside) c.args.self.now c.self.inside.capacities.items c.len.result c.args.e c.place.result
    c.self.invariant.tables c.self.view_is refl c.requires.edge (omega (arith, c.len.ensures, c.self.inside.capacities.ok.0)) c.place.ensures in
    omega (arith, here.below, c.self.inside.capacities.ok.0)

pub returns-clause-value : goal.returns-clause-value
returns-clause-value c =
    let here = capacity-place (seen c.self.inside) c.args.self.now c.self.inside.capacities.items c.len.result c.args.e c.place.result
    c.self.invariant.tables c.self.view_is refl c.requires.edge (omega (arith, c.len.ensures, c.self.inside.capacities.ok.0)) c.place.ensures in
    c.from.ensures ∙ get_or_read c.self.inside.capacities.items c.place.result c.index.result.now here.below c.index.ensures 0 ∙ here.value
    ∙ ap (λ (v : CapacityView). capacity_at v c.args.e) c.self.view_is

pub returns-clause-design : goal.returns-clause-design
returns-clause-design c d is =
    returns-clause-value c ∙ ap (λ (v : CapacityView). capacity_at v c.args.e) is
    ∙ capacity-table d c.args.e (subst (λ (v : CapacityView). IsTrue (has_edge v.shape c.args.e)) is c.requires.edge) c.requires.wire

pub returns-clause-most : goal.returns-clause-most
returns-clause-most c =
    let value = returns-clause-value c in
    let tables : IsCapacity c.args.self.now = subst (λ (v : CapacityView). IsCapacity v) c.self.view_is c.self.invariant.tables in
    let most = index-most most_capacity c.args.self.now.capacities (wire_number c.args.e) tables.capacities in
    omega (arith, value, most)
