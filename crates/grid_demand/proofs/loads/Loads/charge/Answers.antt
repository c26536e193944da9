use Rattle.std.proofs.Common.{◌≡◌, ℕ, ◌+◌, List, slice_index, slice_set, refl, ap, ◌∙◌, arith}
use Rattle.gr_base.specs.Grid.{cells_of}
use Rattle.gr_base.specs.Sums.{wire_number}
use Rattle.grid_demand.specs.LoadSums.{LoadsView, demand_at}
use Rattle.grid_demand.specs.LoadsStore.{seen}
use Rattle.grid_demand.specs.Planes.{by_number}
use Rattle.grid_demand.specs.Tables.{need_at}
use Rattle.grid_demand.proofs.ChargeLemmas.{written, charge-is, charge-whole}
use Rattle.grid_demand.proofs.LoadLemmas.{demand-place, demands-long}
use Rattle.grid_demand.proofs.loads.Loads.charge.Goals as goal

pub at-demand-requires : goal.at-demand-requires
at-demand-requires c =
    let here = demand-place (seen c.self.inside) c.args.self.now c.self.inside.demands c.len.result c.args.e c.place-at.result
    c.self.invariant.loads c.self.view_is refl c.requires.edge c.len.ensures c.place-at.ensures in
    here.below

pub overflow_add-demand : goal.overflow_add-demand
overflow_add-demand c =
    let here = demand-place (seen c.self.inside) c.args.self.now c.self.inside.demands c.len.result c.args.e c.place-at.result
    c.self.invariant.loads c.self.view_is refl c.requires.edge c.len.ensures c.place-at.ensures in
    let read = c.at-demand.ensures.value ∙ here.value ∙ ap (λ (l : LoadsView). demand_at l c.args.e) c.self.view_is in
    omega (arith, read, c.requires.room, c.need-need.ensures.most)

pub put-requires-clause-place : goal.put-requires-clause-place
put-requires-clause-place c =
    let here = demand-place (seen c.self.inside) c.args.self.now c.self.inside.demands c.len.result c.args.e c.place-at.result
    c.self.invariant.loads c.self.view_is refl c.requires.edge c.len.ensures c.place-at.ensures in
    here.below

pub put-requires-clause-small : goal.put-requires-clause-small
put-requires-clause-small c =
    let here = demand-place (seen c.self.inside) c.args.self.now c.self.inside.demands c.len.result c.args.e c.place-at.result
    c.self.invariant.loads c.self.view_is refl c.requires.edge c.len.ensures c.place-at.ensures in
    let read = c.at-demand.ensures.value ∙ here.value ∙ ap (λ (l : LoadsView). demand_at l c.args.e) c.self.view_is in
    omega (arith, read, c.requires.room, c.need-need.ensures.most)

-- what is written
sum : (c : goal.After-put) → by_number 0 c.put.new.self
    ≡ slice_set (by_number 0 c.self.inside.demands) (wire_number c.args.e)
    (slice_index (by_number 0 c.self.inside.demands) (wire_number c.args.e) + need_at c.args.capacity.now c.args.net c.args.e)
sum c =
    let xs = c.self.inside.demands in
    let here = demand-place (seen c.self.inside) c.args.self.now xs c.len.result c.args.e c.place-at.result
    c.self.invariant.loads c.self.view_is refl c.requires.edge c.len.ensures c.place-at.ensures in
    ap (λ (xs : List ℕ). by_number 0 xs) c.put.ensures
    ∙ written xs (cells_of c.self.inside.shape) (wire_number c.args.e) c.place-at.result c.at-demand.result c.need-need.result
    (need_at c.args.capacity.now c.args.net c.args.e) (demands-long (seen c.self.inside) xs c.self.invariant.loads refl) here
    c.at-demand.ensures.value c.need-need.ensures.value

pub invariant_of-self : goal.invariant_of-self
invariant_of-self c = record {
  loads =
      charge-whole c.args.capacity.now c.args.net c.args.e (seen c.self.inside) c.args.self.now _ c.self.invariant.loads c.self.view_is c.requires.edge c.requires.wire (sum c);
  unmarked = c.self.invariant.unmarked;
}

pub returns-clause-loads : goal.returns-clause-loads
returns-clause-loads c =
    charge-is c.args.capacity.now c.args.net c.args.e (seen c.self.inside) c.args.self.now _ c.self.invariant.loads c.self.view_is c.requires.edge c.requires.wire (sum c)

pub returns-clause-whole : goal.returns-clause-whole
returns-clause-whole c =
    charge-whole c.args.capacity.now c.args.net c.args.e (seen c.self.inside) c.args.self.now _ c.self.invariant.loads c.self.view_is c.requires.edge c.requires.wire (sum c)
