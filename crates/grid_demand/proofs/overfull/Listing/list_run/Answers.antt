use Rattle.std.proofs.Common.{ℕ, ◌+◌, Bool, true, List, slice_set, sym, subst, arith}
use Rattle.grid_demand.specs.Listings.{Lists}
use Rattle.grid_demand.proofs.OverfullSteps.{lists-within, lists-above}
use Rattle.grid_demand.proofs.overfull.Listing.list_run.Goals.{then-demand-capacity+in_ok-push, else-demand-capacity}
use Rattle.grid_demand.proofs.overfull.Listing.list_run.Goals as goal

pub loop-at-preserved : goal.loop-at-preserved
loop-at-preserved c = elim c.if-demand-capacity.branch [
  | then-demand-capacity+in_ok-push w ↦
      let over : List Bool = slice_set c.loop-at.self.over.items c.loop-at.at true in
      rw w.self-is
      (subst (λ (places : List ℕ). Lists c.args.demands.now c.args.capacities.now over places (c.loop-at.self.total + w.from.result) (c.loop-at.at + 1)) (sym w.in_ok-push.ensures.items)
      (lists-above c.args.demands.now c.args.capacities.now c.loop-at.self.over.items c.loop-at.self.places.items c.loop-at.self.total c.loop-at.at w.from.result c.loop-at.invariant
      (omega (arith, c.loop-at-test.true, c.requires.inside, c.loop-at.auto.at-end))
      (omega (arith, w.if-demand-capacity.true, c.from-capacity.ensures, c.at-demand.ensures.value)) (omega (arith, w.from.ensures, c.from-capacity.ensures, c.at-demand.ensures.value))
      (omega (arith, c.at-demand.ensures.value, c.at-demand.type_inv))))
  | else-demand-capacity w ↦
      rw w.self-is
      (lists-within c.args.demands.now c.args.capacities.now c.loop-at.self.over.items c.loop-at.self.places.items c.loop-at.self.total c.loop-at.at c.loop-at.invariant
      (omega (arith, w.if-demand-capacity.false, c.from-capacity.ensures, c.at-demand.ensures.value)))
]
