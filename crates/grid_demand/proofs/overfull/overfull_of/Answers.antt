use Rattle.std.proofs.Common.{◌-◌, ◌/◌, length, sym, ◌∙◌, arith}
use Rattle.grid_demand.proofs.OverfullSteps.{lists-passed, lists-told, lists-each, lists-sum}
use Rattle.grid_demand.proofs.PlaneLemmas.{length-by_number}
use Rattle.grid_demand.proofs.overfull.overfull_of.Goals as goal
use Rattle.grid_demand.proofs.overfull.overfull_of.Goals.{then-not-is_told_calm+in_ok-list_run, else-not-is_told_calm}

pub loop-from-preserved : goal.loop-from-preserved
loop-from-preserved c = record {
  place = omega (arith, c.min-to.ensures, c.loop-from.invariant.place, c.loop-from-test.true);
  lists = elim c.if-not-is_told_calm.branch [
    | then-not-is_told_calm+in_ok-list_run w ↦ rw w.listing-is w.in_ok-list_run.ensures
    | else-not-is_told_calm w ↦
        let is_calm = c.requires.calm c.loop-from.run (sym c.is_told_calm.ensures ∙ w.if-not-is_told_calm.false) in
        rw w.listing-is
        (lists-passed (c.min-to.result - c.loop-from.from) c.args.demands.now c.args.capacities.now c.loop-from.listing.over.items c.loop-from.listing.places.items c.loop-from.listing.total
        c.loop-from.from c.min-to.result c.loop-from.invariant.lists (omega (arith, c.min-to.ensures, c.loop-from-test.true))
        (λ n low high. is_calm n (omega (arith, c.loop-from.invariant.place, c.loop-from-test.true, low))
        (omega (arith, c.loop-from.invariant.place, c.loop-from-test.true, c.min-to.ensures, high)) (omega (arith, c.min-to.ensures, c.len-wires.ensures, high))))
  ];
}

pub invariant_of-result : goal.invariant_of-result
invariant_of-result c = record {
  places =
      lists-told c.args.demands.now c.args.capacities.now c.loop-from.listing.over.items c.loop-from.listing.places.items c.loop-from.listing.total c.loop-from.from
      (length c.args.demands.now / 2) c.loop-from.invariant.lists
      (omega (arith, c.loop-from-test.false, c.loop-from.invariant.place, c.len-wires.ensures)) c.requires.tables.halves;
  few = omega (arith, c.requires.tables.few, c.loop-from.invariant.lists.long);
}

pub returns-clause-long : goal.returns-clause-long
returns-clause-long c = length-by_number _ _ ∙ c.loop-from.invariant.lists.long

pub returns-clause-each : goal.returns-clause-each
returns-clause-each c n below =
    lists-each c.args.demands.now c.args.capacities.now c.loop-from.listing.over.items c.loop-from.listing.places.items c.loop-from.listing.total c.loop-from.from n
    c.loop-from.invariant.lists (omega (arith, c.loop-from-test.false, c.loop-from.invariant.place, c.len-wires.ensures)) c.requires.tables.same below

pub returns-clause-total : goal.returns-clause-total
returns-clause-total c =
    lists-sum c.args.demands.now c.args.capacities.now c.loop-from.listing.over.items c.loop-from.listing.places.items c.loop-from.listing.total c.loop-from.from
    c.loop-from.invariant.lists (omega (arith, c.loop-from-test.false, c.loop-from.invariant.place, c.len-wires.ensures)) c.requires.tables.same
