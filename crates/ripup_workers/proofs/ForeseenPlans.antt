-- Plans for a net that are made before it is released.
use Rattle.std.proofs.Common.{◌≡◌, ℕ, ◌<◌, List, [], ◌∷◌, ◌++◌, length, take, Option, Some, None, IfSome, sym, subst}
use mathlib.Core.List.{IsPrefix}
use Rattle.book_front.proofs.Prefixes.{prefix-all, prefix-then}
use Rattle.cost_rules.specs.declared.site.Formula.{Formula}
use Rattle.gr_base.specs.Designs.{DesignView}
use Rattle.grid_demand.specs.LoadSums.{LoadsView}
use Rattle.grid_demand.specs.Tables.{CapacityView, capacity_of}
use Rattle.book_state.proofs.LiftSteps.{freed-still, freeing-entry}
use Rattle.book_state.proofs.StillSteps.{still-same, still-then}
use Rattle.book_state.specs.Books.{nets_of, AreLoadsOf}
use Rattle.book_state.specs.Lifted.{IsFreeing, IsLifted}
use Rattle.book_state.specs.Replicas.{ReplicaView}
use Rattle.book_state.specs.Still.{StaysBest}
use Rattle.book_state.specs.Views.{entry_of}
use Rattle.book_state.specs.declared.entry.Call.TheVariants.{Release}
use Rattle.book_state.specs.declared.entry.Entry.{Entry}
use Rattle.book_state.specs.declared.entry.PlanKind.{PlanKind}
use Rattle.book_state.specs.declared.entry.Reply.TheVariants.{Released}
use Rattle.run_histories.specs.Rounds.{IsPlanFor}
use Rattle.ripup_workers.specs.Foresight.{IsForeseen}
use Rattle.ripup_workers.specs.Turning.{IsPlanWithout, IsWindowOf}
use Rattle.ripup_workers.specs.declared.foresight.Foreseen.{Foreseen}
use Rattle.ripup_workers.proofs.TurningPlans.{still-plan, take-first}

pub lifted-loads : (c : CapacityView) (h : List Entry) (net : ℕ) (r : ReplicaView) → IsLifted c h net r → AreLoadsOf c (h ++ entry_of 0 (Release net) Released ∷ []) r.loads
lifted-loads c h net r lifted = lifted.loads (entry_of 0 (Release net) Released) (freeing-entry net)

-- a plan that was made over all that was seen
pub foreseen-now : (d : DesignView) (formula : Formula) (net : ℕ) (kind : PlanKind) (seen : List Entry) (f : Foreseen) → IsWindowOf d net kind f.window →
    IsPlanWithout d formula seen net kind f.tree → f.front ≡ length seen → IsForeseen d formula net kind seen f
foreseen-now d formula net kind seen f of_net plan long = record {
  window_of_net = of_net;
  first = seen;
  plan = plan;
  later = seen;
  still = λ e freeing. still-same (capacity_of d) net f.window f.tree (seen ++ e ∷ []);
  front_is = long;
  begins = prefix-all seen;
}

-- more was seen since
pub foreseen-more : (d : DesignView) (formula : Formula) (net : ℕ) (kind : PlanKind) (seen now : List Entry) (f : Foreseen) → IsPrefix seen now →
    IsForeseen d formula net kind seen f → IsForeseen d formula net kind now f
foreseen-more d formula net kind seen now f more was = record {
  window_of_net = was.window_of_net;
  first = was.first;
  plan = was.plan;
  later = was.later;
  still = was.still;
  front_is = was.front_is;
  begins = prefix-then was.later seen now was.begins more;
}

-- what was seen since leaves the plan the best
pub foreseen-later : (d : DesignView) (formula : Formula) (net : ℕ) (kind : PlanKind) (seen now : List Entry) (f g : Foreseen) → g.tree ≡ f.tree → g.window ≡ f.window → g.front ≡ length now →
    net < nets_of (capacity_of d) → IsForeseen d formula net kind seen f → IsPrefix seen now → StaysBest (capacity_of d) formula net f.window f.tree (take f.front now) now →
    IsForeseen d formula net kind now g
foreseen-later d formula net kind seen now f g same_tree same_window long within was more still =
    let c = capacity_of d in
    let later_is = take-first was.later now f.front (prefix-then was.later seen now was.begins more) was.front_is in
    let since : StaysBest c formula net f.window f.tree was.later now = subst (λ (h : List Entry). StaysBest c formula net f.window f.tree h now) later_is still in
    record {
      window_of_net = subst (λ w. IsWindowOf d net kind w) (sym same_window) was.window_of_net;
      first = was.first;
      plan = subst (λ t. IsPlanWithout d formula was.first net kind t) (sym same_tree) was.plan;
      later = now;
      still = λ e freeing. subst (λ w. StaysBest c formula net w g.tree (was.first ++ e ∷ []) (now ++ e ∷ [])) (sym same_window)
          (subst (λ t. StaysBest c formula net f.window t (was.first ++ e ∷ []) (now ++ e ∷ [])) (sym same_tree)
          (still-then c net f.window f.tree (was.first ++ e ∷ []) (was.later ++ e ∷ []) (now ++ e ∷ []) (was.still e freeing)
          (freed-still c f.window f.tree was.later now net e e within since freeing freeing)));
      front_is = long;
      begins = prefix-all now;
    }

-- the net was freed, and what else was seen since leaves the plan the best
pub foreseen-plan : (d : DesignView) (formula : Formula) (net : ℕ) (kind : PlanKind) (seen now : List Entry) (f : Foreseen) (loads : LoadsView) → IsForeseen d formula net kind seen f →
    IsPrefix seen now → AreLoadsOf (capacity_of d) now loads → ((e : Entry) → IsFreeing net e → StaysBest (capacity_of d) formula net f.window f.tree (take f.front now ++ e ∷ []) now) →
    IsPlanFor d formula now net kind f.tree
foreseen-plan d formula net kind seen now f loads was more of still =
    let c = capacity_of d in
    let e : Entry = entry_of 0 (Release net) Released in
    let later_is = take-first was.later now f.front (prefix-then was.later seen now was.begins more) was.front_is in
    still-plan d formula net kind f.tree f.window (was.first ++ e ∷ []) now loads (was.plan e (freeing-entry net)) was.window_of_net of
    (still-then c net f.window f.tree (was.first ++ e ∷ []) (was.later ++ e ∷ []) now (was.still e (freeing-entry net))
    (subst (λ (h : List Entry). StaysBest c formula net f.window f.tree (h ++ e ∷ []) now) later_is (still e (freeing-entry net))))

pub foreseen-after : (d : DesignView) (formula : Formula) (net : ℕ) (kind : PlanKind) (seen now : List Entry) (o : Option Foreseen) → IsPrefix seen now →
    IfSome o (IsForeseen d formula net kind seen) → IfSome o (IsForeseen d formula net kind now)
foreseen-after d formula net kind seen now None more was = tt
foreseen-after d formula net kind seen now (Some f) more was = foreseen-more d formula net kind seen now f more was
