-- Routing in batches is decided by what is asked for.
use Rattle.std.proofs.Common.{◌≡◌, ℕ, ℤ, ◌-◌, Bool, true, false, nat_lt, inl, inr, List, [], ◌++◌, length, slice_get, take, Option, Some, None, IsSomeAnd, IsTrue, Result, Ok, Err, if◌then◌else◌, codes, refl, sym, ap, subst, ◌∙◌}
use Rattle.std.proofs.Math.Path.{fun_ext}
use Rattle.std.proofs.lemmas.Bool.{cases_Bool}
use Rattle.std.proofs.lemmas.Option.{same_Some}
use Rattle.std.specs.List.{flat_map, range_with_len}
use Rattle.cost_rules.specs.declared.site.Formula.{Formula}
use Rattle.gr_base.specs.Designs.{DesignView, IsDesign, is_routed}
use Rattle.gr_base.specs.EdgeSets.{Edges}
use Rattle.gr_base.specs.Trees.{TreeView, tree_at}
use Rattle.gr_text.specs.Lines.{number_line}
use Rattle.book_state.specs.Books.{booked}
use Rattle.book_state.specs.Marks.{least_mark}
use Rattle.book_state.specs.declared.entry.Entry.{Entry}
use Rattle.batch_rounds.proofs.OnlyHistories.{batched-only}
use Rattle.batch_rounds.specs.BatchedHistories.{Batching, batches_of, IsBatched}
use Rattle.elmore_delay.specs.Loadings.{LoadingView}
use Rattle.elmore_delay.specs.PlanLists.{plan_at}
use Rattle.elmore_delay.specs.declared.plans.Plan.{Plan}
use Rattle.buffer_plan.specs.Best.{time_with}
use Rattle.buffer_plan.specs.Plans.{loading_of, IsPlan}
use Rattle.polar_lists.specs.PolarPlans.{IsPolarPlan}
use Rattle.rc_library.specs.Libraries.{LibraryView}
use Rattle.report_text.specs.BufferTexts.{buffers_in, buffers_text, net_buffers, net_lines, plan_text, total_line}
use Rattle.report_text.specs.Texts.{report_text}
use Rattle.route_evaluator.specs.Verdicts.{IsVerdict}
use Rattle.route_evaluator.specs.declared.verdict.Verdict.{Verdict}
use Rattle.solution_text.specs.Cover.{cover}
use Rattle.solution_text.specs.WrittenText.{written_text}
use Rattle.text_commands.specs.Buffering.{AreBestPlans, ArePlansBy}
use Rattle.text_commands.specs.Judging.{report_of}
use Rattle.word_reader.specs.declared.order.Options.{Options}
use Rattle.router_top.specs.Booking.{batching_of, booked_edges, IsHistoryBy}
use Rattle.router_top.specs.Repeating.{AskForSameBatches, BatchesDecide}
use Rattle.router_top.specs.Beginning.{kept_nets, kept_told}
use Rattle.router_top.specs.Routing.{told_between, IsRouting, IsRoutingOf}
use Rattle.router_top.specs.Tracing.{rounds_told}
use Rattle.router_top.specs.declared.beginning.Beginning.{Beginning}
use Rattle.router_top.specs.declared.kept.Kept.{Kept}
use Rattle.book_state.specs.Views.{BookView}
use Rattle.gr_io.specs.Devices.{Reading, Gains}
use Rattle.gr_io.specs.declared.shelf.Slot.TheVariants.{Design, Library}
use Rattle.ispd_reader.specs.DesignText.{design_of}
use Rattle.rc_library.specs.LibraryText.{library_of}
use Rattle.run_histories.specs.declared.hands.HandLog.{HandLog}
use Rattle.std.specs.Option.{option_map}
use Rattle.router_top.proofs.DemandLemmas.{sum-kept}

-- histories of the same batches are the same
histories-same : (d : DesignView) (one other : Options) (h g : List Entry) → IsDesign d → AskForSameBatches one other →
    IsHistoryBy d [] one one.batch h → IsHistoryBy d [] other other.batch g → h ≡ g
histories-same d one other h g design asked made made_too =
    batched-only (batching_of d [] one asked.batch) g h design
    (subst (λ (t : Batching). IsBatched t g) same (subst (λ (o : Option ℕ). IsHistoryBy d [] other o g) asked.second made_too).batched)
    (subst (λ (o : Option ℕ). IsHistoryBy d [] one o h) asked.first made).batched
  where
    same : batching_of d [] other asked.batch ≡ batching_of d [] one asked.batch
    same =
        ap (λ (f : Formula). batches_of d [] f other.rounds asked.batch) (sym asked.rule)
        ∙ ap (λ (n : ℕ). batches_of d [] one.rule n asked.batch) (sym asked.rounds)

-- the numbers of the report are those of the sets of edges
numbers-only : (d : DesignView) (via_cost : ℕ) (sets : ℕ → Edges) (v w : Verdict) → IsVerdict d via_cost sets v → IsVerdict d via_cost sets w → report_of v ≡ report_of w
numbers-only d via_cost sets v w one other =
    ap (λ (n : ℕ). report_text n v.total v.max v.wirelength v.vias) (one.routed ∙ sym other.routed)
    ∙ ap (λ (n : ℕ). report_text w.routed n v.max v.wirelength v.vias) (one.total ∙ sym other.total)
    ∙ ap (λ (n : ℕ). report_text w.routed w.total n v.wirelength v.vias) (one.max ∙ sym other.max)
    ∙ ap (λ (n : ℕ). report_text w.routed w.total w.max n v.vias) (one.wirelength ∙ sym other.wirelength)
    ∙ ap (λ (n : ℕ). report_text w.routed w.total w.max w.wirelength n) (one.vias ∙ sym other.vias)

-- a tree has one plan
plan-only : (p q : Plan) → p.placement ≡ q.placement → p.required ≡ q.required → p ≡ q
plan-only p q placed required =
    ap (λ (kinds : List (Option ℕ)). plan_of kinds p.required) placed ∙ ap (λ (time : ℤ). plan_of q.placement time) required
  where
    plan_of : List (Option ℕ) → ℤ → Plan
    plan_of kinds time = record { placement = kinds; required = time }

best-only : (l : LoadingView) (o u : Option Plan) → IsSomeAnd o (IsPlan l) → IsSomeAnd u (IsPlan l) → o ≡ u
best-only l None u one other = absurd one
best-only l (Some p) None one other = absurd other
best-only l (Some p) (Some q) one other =
    let placed = one.placement ∙ sym other.placement in
    ap (λ (plan : Plan). Some plan) (plan-only p q placed (one.required ∙ ap (time_with l) placed ∙ sym other.required))

polar-only : (l : LoadingView) (o u : Option Plan) → IsPolarPlan l o → IsPolarPlan l u → o ≡ u
polar-only l None None none nor = refl
polar-only l None (Some q) none one = absurd (none q.placement one.best.legal)
polar-only l (Some p) None one none = absurd (none p.placement one.best.legal)
polar-only l (Some p) (Some q) one other =
    let placed = same_Some p.placement q.placement (sym one.placement ∙ other.placement) in
    ap (λ (plan : Plan). Some plan) (plan-only p q placed (one.required ∙ ap (time_with l) placed ∙ sym other.required))

by-tree : (P : TreeView → Option Plan → Type 0) → ((t : TreeView) (o u : Option Plan) → P t o → P t u → o ≡ u) →
    (tree : Option TreeView) (o u : Option Plan) → IsSomeAnd tree (λ t. P t o) → IsSomeAnd tree (λ t. P t u) → o ≡ u
by-tree P only None o u one other = absurd one
by-tree P only (Some t) o u one other = only t o u one other

-- plans for the same trees
module _ (d : DesignView) (lib : LibraryView) (trees others : List (Option TreeView)) (plans more : List (Option Plan))
    (same : (net : ℕ) → tree_at trees net ≡ tree_at others net) where
  plan-same : AreBestPlans d lib trees plans → AreBestPlans d lib others more → (net : ℕ) → is_routed d net ≡ true → plan_at plans net ≡ plan_at more net
  plan-same planned planned_too net routed = by (nat_lt lib.version 3) planned planned_too
    where
      there : (P : TreeView → Option Plan → Type 0) → IsSomeAnd (tree_at others net) (λ t. P t (plan_at more net)) →
          IsSomeAnd (tree_at trees net) (λ t. P t (plan_at more net))
      there P is = subst (λ (tree : Option TreeView). IsSomeAnd tree (λ t. P t (plan_at more net))) (sym (same net)) is

      by : (keeps_signals : Bool) → ArePlansBy keeps_signals d lib trees plans → ArePlansBy keeps_signals d lib others more → plan_at plans net ≡ plan_at more net
      by true one other =
          by-tree (λ t o. IsSomeAnd o (IsPlan (loading_of d lib net t))) (λ t. best-only (loading_of d lib net t)) (tree_at trees net) (plan_at plans net)
          (plan_at more net) ((one net).routed routed) (there (λ t o. IsSomeAnd o (IsPlan (loading_of d lib net t))) ((other net).routed routed))
      by false one other =
          by-tree (λ t o. IsPolarPlan (loading_of d lib net t) o) (λ t. polar-only (loading_of d lib net t)) (tree_at trees net) (plan_at plans net)
          (plan_at more net) ((one net).routed routed) (there (λ t o. IsPolarPlan (loading_of d lib net t) o) ((other net).routed routed))

  module _ (each : (net : ℕ) → is_routed d net ≡ true → plan_at plans net ≡ plan_at more net) where
    total-same : total_line d plans ≡ total_line d more
    total-same =
        ap (number_line (codes "buffers"))
        (sym (sum-kept (is_routed d) counted (λ net. buffers_in (plan_at plans net)) nets (λ net routed. on net routed) (λ net unrouted. off net unrouted))
        ∙ sum-kept (is_routed d) counted (λ net. buffers_in (plan_at more net)) nets (λ net routed. on net routed ∙ ap buffers_in (each net routed))
        (λ net unrouted. off net unrouted))
      where
        nets : List ℕ
        nets = range_with_len 0 (length d.nets)

        counted : ℕ → ℕ
        counted net = if is_routed d net then buffers_in (plan_at plans net) else 0

        on : (net : ℕ) → is_routed d net ≡ true → counted net ≡ buffers_in (plan_at plans net)
        on net routed = ap (λ (b : Bool). if b then buffers_in (plan_at plans net) else 0) routed

        off : (net : ℕ) → is_routed d net ≡ false → counted net ≡ 0
        off net unrouted = ap (λ (b : Bool). if b then buffers_in (plan_at plans net) else 0) unrouted

    lines-same : (net : ℕ) → net_buffers d lib trees plans net ≡ net_buffers d lib others more net
    lines-same net =
        elim (cases_Bool (is_routed d net)) [
          | inl routed ↦
              ap (λ (text : List ℕ). if is_routed d net then text else [])
              (ap (λ (tree : Option TreeView). plan_text d.frame lib (slice_get d.nets net) tree (plan_at plans net)) (same net)
              ∙ ap (λ (plan : Option Plan). plan_text d.frame lib (slice_get d.nets net) (tree_at others net) plan) (each net routed))
          | inr unrouted ↦
              ap (λ (b : Bool). if b then plan_text d.frame lib (slice_get d.nets net) (tree_at trees net) (plan_at plans net) else []) unrouted
              ∙ sym (ap (λ (b : Bool). if b then plan_text d.frame lib (slice_get d.nets net) (tree_at others net) (plan_at more net) else []) unrouted)
        ]

    texts-same : buffers_text d lib trees plans ≡ buffers_text d lib others more
    texts-same =
        ap (λ (line : List ℕ). line ++ net_lines d lib trees plans 0 (length d.nets)) total-same
        ∙ ap (λ (lines : ℕ → List ℕ). total_line d more ++ flat_map lines (range_with_len 0 (length d.nets - 0))) (fun_ext lines-same)

  buffers-same : AreBestPlans d lib trees plans → AreBestPlans d lib others more → buffers_text d lib trees plans ≡ buffers_text d lib others more
  buffers-same planned planned_too = texts-same (plan-same planned planned_too)

-- no net is given a tree
abbrev IsFromNothing : Beginning → Type 0
IsFromNothing b = (b.from_solution ≡ false) × (b.given ≡ [])

-- for a design and a library, what is asked for decides the text and the report of routing in batches
routings-same : (d : DesignView) (lib : LibraryView) (begun begun_too : Beginning) (one other : Options) (b c : BookView) (hands logs : List HandLog)
    (text report written told : List ℕ) → AskForSameBatches one other →
    IsFromNothing begun → IsFromNothing begun_too →
    IsRoutingOf d lib begun one b hands text report → IsRoutingOf d lib begun_too other c logs written told → (text ≡ written) × (report ≡ told)
routings-same d lib begun begun_too one other b c hands logs text report written told asked nothing nothing_too r s = (
  texts,
  r.reports
      ∙ ap (λ (first : List ℕ). first ++ told_between d begun one b.history ++ buffers_text d lib r.trees r.plans) numbers
      ∙ ap (λ (between : List ℕ). report_of s.verdict ++ between ++ buffers_text d lib r.trees r.plans) betweens
      ∙ ap (λ (rest : List ℕ). report_of s.verdict ++ told_between d begun_too other c.history ++ rest)
      (buffers-same d lib r.trees s.trees r.plans s.plans trees r.planned s.planned)
      ∙ sym s.reports,
)
  where
    none : (x : Beginning) → IsFromNothing x → kept_told d x ≡ []
    none x is = ap (λ (told : Bool). if told then number_line (codes "kept") (kept_nets d x.given) else []) is.0

    same : b.history ≡ c.history
    same =
        histories-same d one other b.history c.history r.design asked
        (subst (λ (given : List (Option TreeView)). IsHistoryBy d given one one.batch b.history) nothing.1 r.made.made)
        (subst (λ (given : List (Option TreeView)). IsHistoryBy d given other other.batch c.history) nothing_too.1 s.made.made)

    betweens : told_between d begun one b.history ≡ told_between d begun_too other c.history
    betweens =
        ap (λ (first : List ℕ). first ++ rounds_told one.trace b.history) (none begun nothing ∙ sym (none begun_too nothing_too))
        ∙ ap (λ (trace : Bool). kept_told d begun_too ++ rounds_told trace b.history) asked.trace
        ∙ ap (λ (h : List Entry). kept_told d begun_too ++ rounds_told other.trace h) same

    chosen : r.chosen ≡ s.chosen
    chosen = same_Some r.chosen s.chosen (sym r.least ∙ ap least_mark same ∙ s.least)

    parts : take r.chosen b.history ≡ take s.chosen c.history
    parts = ap (take r.chosen) same ∙ ap (λ (n : ℕ). take n c.history) chosen

    texts : text ≡ written
    texts = r.says ∙ ap (λ (h : List Entry). written_text d (booked_edges h)) parts ∙ sym s.says

    judged : IsVerdict d one.via_cost (cover d text) s.verdict
    judged =
        subst (λ (n : ℕ). IsVerdict d n (cover d text) s.verdict) (sym asked.via_cost)
        (subst (λ (bytes : List ℕ). IsVerdict d other.via_cost (cover d bytes) s.verdict) (sym texts) s.judged)

    numbers : report_of r.verdict ≡ report_of s.verdict
    numbers = numbers-only d one.via_cost (cover d text) r.verdict s.verdict r.judged judged

    trees : (net : ℕ) → tree_at r.trees net ≡ tree_at s.trees net
    trees net = r.booked net ∙ ap (λ (h : List Entry). booked h net) parts ∙ sym (s.booked net)

abbrev value-in : {A E : Type 0} → A → Option (Result A E) → A
value-in a None = a
value-in a (Some (Ok b)) = b
value-in a (Some (Err e)) = a

-- the same, for the design and the library that shelves hold
routed-same : (design library : List ℕ) (one other : Options) (shelf again : Reading) (b c : BookView) (hands logs : List HandLog)
    (text report written told : List ℕ) → AskForSameBatches one other → IsTrue shelf.tells → IsTrue again.tells →
    shelf.held Design design ≡ again.held Design design → shelf.held Library library ≡ again.held Library library →
    IsRouting shelf design library None one b hands text report → IsRouting again design library None other c logs written told →
    (text ≡ written) × (report ≡ told)
routed-same design library one other shelf again b c hands logs text report written told asked tells tells_again designs libraries r s =
    routings-same s.design s.library r.beginning s.beginning one other b c hands logs text report written told asked r.begun s.begun
    (subst (λ (l : LibraryView). IsRoutingOf s.design l r.beginning one b hands text report) same_library
    (subst (λ (d : DesignView). IsRoutingOf d r.library r.beginning one b hands text report) same_design r.routed)) s.routed
  where
    same_design : r.design ≡ s.design
    same_design = ap (value-in r.design) (sym (r.said tells) ∙ ap (option_map design_of) designs ∙ s.said tells_again)

    same_library : r.library ≡ s.library
    same_library =
        ap (value-in r.library)
        (sym (r.read tells) ∙ ap (option_map (library_of r.design)) libraries
        ∙ ap (λ (d : DesignView). option_map (library_of d) (again.held Library library)) same_design ∙ s.read tells_again)

by-kept : (design library : List ℕ) (one other : Options) (shelf again : Reading) (kept kept_again : Option Kept)
    (text report written told : List ℕ) → AskForSameBatches one other → IsTrue shelf.tells → IsTrue again.tells →
    shelf.held Design design ≡ again.held Design design → shelf.held Library library ≡ again.held Library library →
    IsSomeAnd kept (λ k. IsRouting shelf design library None one k.book.state k.hands.items text report) →
    IsSomeAnd kept_again (λ k. IsRouting again design library None other k.book.state k.hands.items written told) →
    (text ≡ written) × (report ≡ told)
by-kept design library one other shelf again None kept_again text report written told asked tells tells_again designs libraries r s = absurd r
by-kept design library one other shelf again (Some k) None text report written told asked tells tells_again designs libraries r s = absurd s
by-kept design library one other shelf again (Some k) (Some m) text report written told asked tells tells_again designs libraries r s =
    routed-same design library one other shelf again k.book.state m.book.state k.hands.items m.hands.items text report written told asked
    tells tells_again designs libraries r s

pub batches-decide : BatchesDecide
batches-decide design library one other shelf again out err out_again err_again kept kept_again asked tells tells_again designs libraries run run_again =
    let done = run.whole refl in
    let done_again = run_again.whole refl in
    let same = by-kept design library one other shelf again kept kept_again done.text done.report done_again.text done_again.report asked
    tells tells_again designs libraries done.says.1 done_again.says.1 in
    record {
      text = done.text;
      report = done.report;
      on_out = done.out_gains;
      on_err = done.err_gains;
      on_out_again = subst (Gains out_again) (sym same.0) done_again.out_gains;
      on_err_again = subst (Gains err_again) (sym same.1) done_again.err_gains;
    }
