-- Plans that stay the same while the history goes on.
use Rattle.std.proofs.Common.{◌≡◌, ℕ, List, [], ◌∷◌, take, length, Option, refl, sym, ap, subst, ◌∙◌, arith}
use Rattle.std.proofs.lemmas.List.{take-append-le, take_all}
use mathlib.Core.List.{IsPrefix}
use Rattle.book_front.proofs.Prefixes.{prefix-all, prefix-then}
use Rattle.cost_rules.specs.declared.site.Formula.{Formula}
use Rattle.gr_base.specs.Designs.{DesignView, pins_at}
use Rattle.gr_base.specs.Trees.{TreeView}
use Rattle.grid_demand.specs.LoadSums.{LoadsView}
use Rattle.grid_demand.specs.Tables.{CapacityView, capacity_of}
use Rattle.maze_route.specs.declared.window.Window.{Window}
use Rattle.net_plan.specs.Mazes.{window_of, IsMaze}
use Rattle.book_state.specs.Books.{AreLoadsOf}
use Rattle.book_state.specs.Still.{StaysBest}
use Rattle.book_state.specs.Views.{entry_of}
use Rattle.book_state.specs.declared.entry.Entry.{Entry}
use Rattle.book_state.specs.declared.entry.PlanKind.{PlanKind}
use Rattle.book_state.specs.declared.entry.PlanKind.TheVariants.{Maze}
use Rattle.book_state.specs.declared.entry.Reply.{Reply}
use Rattle.book_state.specs.declared.entry.Call.{Call}
use Rattle.book_state.specs.declared.entry.Call.TheVariants.{Claim as Claims}
use Rattle.run_histories.proofs.StillPlans.{still-maze}
use Rattle.run_histories.specs.Rounds.{IsPlan, IsPlanFor}
use Rattle.run_histories.specs.RunHistories.{Setting, one_worker}
use Rattle.track_book.specs.Passes.{PassView, IsAnswered}
use Rattle.ripup_workers.specs.Turning.{IsOver, HasTried, IsWindowOf, WasPlanned}

-- a first part of a list is what that many elements of it are
pub take-first : (first now : List Entry) (front : ℕ) → IsPrefix first now → front ≡ length first → take front now ≡ first
take-first first now front begins long =
    ap (λ (h : List Entry). take front h) (sym begins.1)
    ∙ take-append-le front first begins.0 (omega (arith, long))
    ∙ take_all front first (omega (arith, long))

-- where a later history leaves it the best in its window, the plan over the one history is one over the other
pub still-plan : (d : DesignView) (formula : Formula) (net : ℕ) (kind : PlanKind) (tree : TreeView) (w : Window) (first now : List Entry) (loads : LoadsView) →
    IsPlanFor d formula first net kind tree → IsWindowOf d net kind w → AreLoadsOf (capacity_of d) now loads → StaysBest (capacity_of d) formula net w tree first now → IsPlanFor d formula now net kind tree
still-plan d formula net kind tree w first now loads was of_net of still =
    let c = capacity_of d in
    let there : StaysBest c formula net (window_of c.shape (pins_at d net) of_net.margin) tree first now = subst (λ (v : Window). StaysBest c formula net v tree first now) of_net.window_is still in
    let plan : IsMaze c was.plan.loads formula net (pins_at d net) of_net.margin tree =
    subst (λ (k : PlanKind). IsPlan c was.plan.loads formula net (pins_at d net) k tree) of_net.kind_is was.plan.plan in
    let after : IsPlan c loads formula net (pins_at d net) (Maze of_net.margin) tree =
    still-maze c was.plan.loads loads formula net (pins_at d net) of_net.margin tree first now was.plan.there of there plan in
    record {
      plan = record {
        loads = loads;
        there = of;
        plan = subst (λ (k : PlanKind). IsPlan c loads formula net (pins_at d net) k tree) (sym of_net.kind_is) after;
      };
      routes = was.routes;
    }

-- a plan over all that was seen is one over a first part of it
pub planned-now : (d : DesignView) (formula : Formula) (net : ℕ) (kind : PlanKind) (tree : TreeView) (front : ℕ) (seen : List Entry) → IsPlanFor d formula seen net kind tree →
    front ≡ length seen → WasPlanned d formula net kind tree front seen
planned-now d formula net kind tree front seen plan long = record { first = seen; plan = plan; front_is = long; begins = prefix-all seen }

-- what a pass had seen begins what it has seen after a call
pub answered-begins : (c : CapacityView) (p q : PassView) (call : Call) (reply : Reply) → IsAnswered c p q call reply → IsPrefix p.seen q.seen
answered-begins c p q call reply answered =
    prefix-then p.seen answered.before q.seen answered.begins (entry_of p.number call reply ∷ [], sym answered.seen)

-- where what was seen since leaves it the best in its window, the plan is the same
pub same-plan : (d : DesignView) (formula : Formula) (net : ℕ) (kind : PlanKind) (tree : TreeView) (front : ℕ) (w : Window) (seen now : List Entry) (loads : LoadsView) →
    WasPlanned d formula net kind tree front seen → IsPrefix seen now → IsWindowOf d net kind w → AreLoadsOf (capacity_of d) now loads →
    StaysBest (capacity_of d) formula net w tree (take front now) now → IsPlanFor d formula now net kind tree
same-plan d formula net kind tree front w seen now loads was more of_net of still =
    let first_is = take-first was.first now front (prefix-then was.first seen now was.begins more) was.front_is in
    still-plan d formula net kind tree w was.first now loads was.plan of_net of
    (subst (λ (h : List Entry). StaysBest (capacity_of d) formula net w tree h now) first_is still)

-- after a claim the plan that was claimed is one over a first part of what was seen
pub was-planned : (d : DesignView) (formula : Formula) (net : ℕ) (kind : PlanKind) (slack : Option ℕ) (tree copy : TreeView) (front : ℕ) (reply : Reply) (p q : PassView) → copy ≡ tree → front ≡ length p.seen →
    IsPlanFor d formula p.seen net kind tree → ((t : Setting) → IsOver d formula t → HasTried t net kind slack reply p q) → WasPlanned d formula net kind copy front q.seen
was-planned d formula net kind slack tree copy front reply p q same long plan tried =
    let one = tried (one_worker d formula 0) (record { design = refl; formula_is = refl }) in
    record {
      first = p.seen;
      plan = subst (λ (t : TreeView). IsPlanFor d formula p.seen net kind t) (sym same) plan;
      front_is = long;
      begins = answered-begins (capacity_of (one_worker d formula 0).design) p q (Claims one.claim) reply one.answered;
    }
