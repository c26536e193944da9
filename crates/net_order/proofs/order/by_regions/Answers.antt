use Rattle.std.proofs.Common.{List, ℕ, ◌/◌, ◌%◌, length, Vec, Global, sym, ap, subst, ◌∙◌}
use Rattle.std.proofs.lemmas.List.{length-map}
use Rattle.net_order.specs.Orders.{net_in, AreCutOf}
use Rattle.net_order.proofs.DealingLemmas.{dealt-in-turn}
use Rattle.net_order.proofs.RegionLemmas.{sorted-cut}
use Rattle.net_order.proofs.order.by_regions.Goals as goal

pub dealt_out-requires-clause-cut : goal.dealt_out-requires-clause-cut
dealt_out-requires-clause-cut g c =
    let workers = c.args.workers in
    let count = sym (length-map c.in_ok-placed.placed.items net_in) ∙ ap (λ (l : List ℕ). length l) c.in_ok-placed.ensures in
    subst (λ (l : List (Vec ℕ Global)). AreCutOf (length c.args.nets.now / workers) (length c.args.nets.now % workers) l) (sym c.deref.ensures.value)
    (subst (λ (n : ℕ). AreCutOf (n / workers) (n % workers) c.sort_each.new.regions.items) count
    (sorted-cut _ _ c.in_ok-regions.regions.items c.sort_each.new.regions.items c.in_ok-regions.ensures.cut c.sort_each.ensures.count c.sort_each.ensures.each))

pub returns : goal.returns
returns g c =
    dealt-in-turn c.args.survey.now.design.now c.args.round c.args.workers c.args.nets.now c.in_ok-placed.placed.items c.in_ok-order.order.items c.in_ok-regions.regions.items
    c.sort_each.new.regions.items c.deref.result.now c.requires.some c.in_ok-regions.ensures.count c.sort_each.ensures.count c.sort_each.ensures.each c.in_ok-regions.ensures.keys
    c.in_ok-regions.ensures.same c.in_ok-placed.ensures c.deref.ensures.value c.in_ok-order.ensures
