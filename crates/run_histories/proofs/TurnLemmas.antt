-- Replies to claims, routed nets, and plans over a history.
use Rattle.std.proofs.Common.{◌≡◌, ◌⊎◌, ℕ, ◌<◌, ◌≤◌, inl, inr, false, List, length, Option, Some, None, is_some, slice_get, if◌then◌else◌, IsTrue, refl, sym, ap, subst, ◌∙◌, arith}
use Rattle.std.proofs.lemmas.Bool.{both_ways}
use Rattle.std.proofs.lemmas.List.{length-map}
use Rattle.std.proofs.lemmas.Option.{slice_get_within}
use Rattle.cost_rules.specs.declared.site.Formula.{Formula}
use Rattle.gr_base.proofs.DesignLemmas.{routed-below}
use Rattle.gr_base.specs.Designs.{DesignView, IsDesign, is_routed, is_routed_net, pins_at}
use Rattle.gr_base.specs.Grid.{has_edge}
use Rattle.gr_base.specs.Limits.{most_nets}
use Rattle.gr_base.specs.Trees.{TreeView}
use Rattle.gr_base.specs.declared.frame.Net.{Net}
use Rattle.gr_base.specs.declared.grid.Edge.{Edge}
use Rattle.gr_base.specs.declared.grid.Shape.{Shape}
use Rattle.grid_demand.proofs.CapacityLemmas.{tables-of}
use Rattle.grid_demand.specs.LoadSums.{LoadsView}
use Rattle.grid_demand.specs.Tables.{CapacityView, capacity_of}
use Rattle.net_plan.specs.Prices.{HasBoundedDemand}
use Rattle.book_state.proofs.BookSteps.{demand-most}
use Rattle.book_state.specs.Books.{nets_of, booked, demand, reply_by_full, first_full, reply_to_free, reply_to_claim, AreLoadsOf}
use Rattle.book_state.specs.declared.entry.Claim.{Claim}
use Rattle.book_state.specs.declared.entry.Entry.{Entry}
use Rattle.book_state.specs.declared.entry.PlanKind.{PlanKind}
use Rattle.book_state.specs.declared.entry.Reply.{Reply}
use Rattle.book_state.specs.declared.entry.Reply.TheVariants.{Claimed, Taken}
use Rattle.run_histories.specs.Rounds.{IsPlan, IsPlanAfter, IsFull}

-- the reply to a claim of a net that isn't booked
full-answered : (demands : Edge → ℕ) (o : Option Edge) → (reply_by_full demands o ≡ Claimed) ⊎ IsFull (reply_by_full demands o)
full-answered demands None = inl refl
full-answered demands (Some e) = inr refl

free-answered : (c : CapacityView) (demands : Edge → ℕ) (claim : Claim) (slack : Option ℕ) →
    (reply_to_free c demands claim slack ≡ Claimed) ⊎ IsFull (reply_to_free c demands claim slack)
free-answered c demands claim None = inl refl
free-answered c demands claim (Some slack) = full-answered demands (first_full c demands claim.net slack claim.tree)

free-reply : (c : CapacityView) (h : List Entry) (claim : Claim) → booked h claim.net ≡ None → reply_to_claim c h claim ≡ reply_to_free c (demand c h) claim claim.slack
free-reply c h claim free = ap (λ (o : Option TreeView). if is_some o then Taken else reply_to_free c (demand c h) claim claim.slack) free

pub claim-answered : (c : CapacityView) (h : List Entry) (claim : Claim) → booked h claim.net ≡ None →
    (reply_to_claim c h claim ≡ Claimed) ⊎ IsFull (reply_to_claim c h claim)
claim-answered c h claim free =
    subst (λ (r : Reply). (r ≡ Claimed) ⊎ IsFull r) (sym (free-reply c h claim free)) (free-answered c (demand c h) claim claim.slack)

pub unbounded-claimed : (c : CapacityView) (h : List Entry) (claim : Claim) → booked h claim.net ≡ None → claim.slack ≡ None → reply_to_claim c h claim ≡ Claimed
unbounded-claimed c h claim free none =
    free-reply c h claim free ∙ ap (λ (slack : Option ℕ). reply_to_free c (demand c h) claim slack) none

-- the loads of a history are bounded
pub bounded-loads : (d : DesignView) (c : CapacityView) (h : List Entry) (l : LoadsView) → IsDesign d → c ≡ capacity_of d → AreLoadsOf c h l → HasBoundedDemand l
bounded-loads d c h l design is of = λ e edge wire.
    let of_design : AreLoadsOf (capacity_of d) h l = subst (λ (v : CapacityView). AreLoadsOf v h l) is of in
    let few : nets_of (capacity_of d) ≤ most_nets =
    (let few = design.few_nets in let long = length-map d.nets (λ (net : Net). net.width) in omega (arith, few, long)) in
    let demand_is = of_design.demand e (subst (λ (g : Shape). IsTrue (has_edge g e)) of_design.shape edge) wire in
    let most = demand-most (capacity_of d) h e (tables-of d design) few in
    omega (arith, demand_is, most)

-- a routed net is one of those that have a width
pub routed-within : (d : DesignView) (c : CapacityView) (number : ℕ) → c ≡ capacity_of d → IsTrue (is_routed d number) → number < nets_of c
routed-within d c number is routed =
    let below = routed-below d number routed in
    let long = length-map d.nets (λ (net : Net). net.width) in
    let nets : nets_of c ≡ length (capacity_of d).widths = ap nets_of is in
    omega (arith, below, long, nets)

-- a plan over the loads of a history is one over the history
pub plan-after : (d : DesignView) (formula : Formula) (c v : CapacityView) (h : List Entry) (l : LoadsView) (net : ℕ) (kind : PlanKind) (t : TreeView) → c ≡ capacity_of d → v ≡ c → AreLoadsOf c h l →
    IsPlan v l formula net (pins_at d net) kind t → IsPlanAfter d formula h net kind t
plan-after d formula c v h l net kind t is same of plan = record {
  loads = l;
  there = subst (λ (x : CapacityView). AreLoadsOf x h l) is of;
  plan = subst (λ (x : CapacityView). IsPlan x l formula net (pins_at d net) kind t) (same ∙ is) plan;
}
