-- The trees that a history leaves booked.
use Rattle.std.proofs.Common.{◌≡◌, ℕ, ◌+◌, ◌<◌, ◌≤◌, Bool, true, false, List, map, length, take, get_or, Option, Some, None, Result, Ok, Err, IfOk, IsSomeAnd, IsTrue, if◌then◌else◌, inl, inr, refl, sym, ap, subst, ◌∙◌, arith}
use Rattle.std.specs.List.{range_with_len}
use Rattle.std.specs.Option.{option_and_then}
use Rattle.std.proofs.lemmas.Bool.{cases_Bool, cases_lt}
use Rattle.std.proofs.lemmas.List.{length-map}
use Rattle.std.proofs.lemmas.List.FromFn.{length-map-range_with_len, get_or-map-range_with_len}
use Rattle.std.proofs.lemmas.Option.{slice_get-get_or, slice_get_past}
use Rattle.cost_rules.specs.declared.site.Formula.{Formula}
use Rattle.gr_base.proofs.DesignLemmas.{routed-net}
use Rattle.gr_base.specs.Designs.{DesignView, is_routed, is_routed_net}
use Rattle.gr_base.specs.EdgeSets.{IsJoined}
use Rattle.gr_base.specs.Plans.{IsRouteOf, IsRouteOfNet}
use Rattle.gr_base.specs.Trees.{TreeView, IsTree, edges_of, edges_or_none, route_edges, tree_at}
use Rattle.gr_base.specs.declared.frame.Net.{Net}
use Rattle.gr_base.specs.declared.grid.Shape.{Shape}
use Rattle.gr_base.proofs.General.{and-some}
use Rattle.gr_base.proofs.TreeEdges.{joins-pins}
use Rattle.grid_demand.specs.Tables.{CapacityView, capacity_of}
use Rattle.grid_demand.specs.LoadSums.{LoadsView}
use Rattle.book_state.specs.Books.{nets_of, booked, AreLoadsOf}
use Rattle.book_state.specs.Entries.{is_mark}
use Rattle.book_state.specs.Marks.{least_mark}
use Rattle.book_state.specs.Views.{BookView}
use Rattle.book_state.specs.declared.entry.Entry.{Entry}
use Rattle.route_evaluator.specs.Verdicts.{AreLoadsBy}
use Rattle.straight_runs.specs.Routed.{HaveTrees}
use Rattle.run_histories.specs.Hands.{log_of}
use Rattle.run_histories.specs.Rounds.{marker}
use Rattle.batch_rounds.specs.BatchedHistories.{batches_of, claimant, IsBatched, IsNumbered}
use Rattle.batch_rounds.specs.Made.{IsMade as IsMadeInBatches}
use Rattle.batch_rounds.specs.declared.rounds.Batched.{Batched}
use Rattle.ripup_workers.specs.Made.{IsMade}
use Rattle.ripup_workers.specs.declared.rounds.Rounds.{Rounds}
use Rattle.router_top.proofs.DemandLemmas.{booked-demand}
use Rattle.router_top.specs.Booking.{setting_of, AllJoined, AreTrees, AreBookedRoutes, AreChosenRoutes, AreRoundsOf, IsBookOf, IsHistoryBy}
use Rattle.router_top.specs.declared.booking.BookedRoutes.{BookedRoutes}
use Rattle.word_reader.specs.declared.order.Options.{Options}
use Rattle.run_histories.specs.Standing.{Stands}

past-unrouted : (d : DesignView) (net : ℕ) → length d.nets ≤ net → is_routed d net ≡ false
past-unrouted d net past = ap is_routed_net (slice_get_past d.nets net past)

-- the list of all bookings has each net's
pub routes-booked : (d : DesignView) (c : CapacityView) (h : List Entry) (trees : List (Option TreeView)) → c ≡ capacity_of d → Stands d h →
    trees ≡ map (booked h) (range_with_len 0 (nets_of c)) → (net : ℕ) → tree_at trees net ≡ booked h net
routes-booked d c h trees capacity stands is net =
    elim (cases_lt net (nets_of c)) [
      | inl below ↦
          let within : net < length trees = omega (arith, below, ap length is, length-map-range_with_len (booked h) 0 (nets_of c)) in
          ap (option_and_then (λ (tree : Option TreeView). tree)) (slice_get-get_or trees net None within)
          ∙ ap (λ (ts : List (Option TreeView)). get_or ts net None) is ∙ get_or-map-range_with_len (booked h) 0 (nets_of c) net net None below (omega arith)
      | inr past ↦
          let count : nets_of c ≡ length d.nets = ap nets_of capacity ∙ length-map d.nets (λ (n : Net). n.width) in
          let outside : length trees ≤ net = omega (arith, past, ap length is, length-map-range_with_len (booked h) 0 (nets_of c)) in
          ap (option_and_then (λ (tree : Option TreeView). tree)) (slice_get_past trees net outside)
          ∙ sym (stands.free net (past-unrouted d net (omega (arith, past, count))))
    ]

some-weaken : (P Q : TreeView → Type 0) (o : Option TreeView) → ((t : TreeView) → P t → Q t) → IsSomeAnd o P → IsSomeAnd o Q
some-weaken P Q None all some = some
some-weaken P Q (Some t) all some = all t some

-- each routed net has a tree that routes it
held-tree : (d : DesignView) (h : List Entry) (trees : List (Option TreeView)) → Stands d h → ((net : ℕ) → tree_at trees net ≡ booked h net) →
    (net : ℕ) → IsTrue (is_routed d net) → IsSomeAnd (tree_at trees net) (IsRouteOfNet d net)
held-tree d h trees stands same net routed = subst (λ (o : Option TreeView). IsSomeAnd o (IsRouteOfNet d net)) (sym (same net)) (stands.held net routed)

-- so it has one in the design's grid
pub routes-routed : (d : DesignView) (h : List Entry) (trees : List (Option TreeView)) → Stands d h → ((net : ℕ) → tree_at trees net ≡ booked h net) → HaveTrees d trees
routes-routed d h trees stands same net routed =
    let one = routed-net d net routed in
    some-weaken (IsRouteOfNet d net) (λ tree. tree.shape ≡ d.frame.shape) (tree_at trees net) (λ t r. (r one.net one.there).shape) (held-tree d h trees stands same net routed)

pub routes-free : (d : DesignView) (h : List Entry) (trees : List (Option TreeView)) → Stands d h → ((net : ℕ) → tree_at trees net ≡ booked h net) →
    (net : ℕ) → is_routed d net ≡ false → tree_at trees net ≡ None
routes-free d h trees stands same net unrouted = same net ∙ stands.free net unrouted

-- what has a tree is routed, so each tree is one in the design's grid
pub routes-trees : (d : DesignView) (h : List Entry) (trees : List (Option TreeView)) → Stands d h → ((net : ℕ) → tree_at trees net ≡ booked h net) →
    ((net : ℕ) (t : TreeView) → IsTrue (is_routed d net) → tree_at trees net ≡ Some t → IsTree t) → AreTrees d.frame.shape trees
routes-trees d h trees stands same are net t is =
    elim (cases_Bool (is_routed d net)) [
      | inl routed ↦
          (are net t routed is, and-some (λ (tree : TreeView). tree.shape ≡ d.frame.shape) (tree_at trees net) t is (routes-routed d h trees stands same net routed))
      | inr unrouted ↦ (let none = routes-free d h trees stands same net unrouted in cc)
    ]

-- the trees join the pins of the routed nets
pub routes-joined : (d : DesignView) (h : List Entry) (trees : List (Option TreeView)) → Stands d h → ((net : ℕ) → tree_at trees net ≡ booked h net) →
    ((net : ℕ) (t : TreeView) → IsTrue (is_routed d net) → tree_at trees net ≡ Some t → IsTree t) → AllJoined d (route_edges trees)
routes-joined d h trees stands same are number net is routed = by (tree_at trees number) refl
  where
    has : IsTrue (is_routed d number)
    has = ap is_routed_net is ∙ routed

    by : (o : Option TreeView) → tree_at trees number ≡ o → IsJoined d.frame.shape (route_edges trees number) net.pins
    by None there = absurd (subst (λ (o : Option TreeView). IsSomeAnd o (IsRouteOfNet d number)) there (held-tree d h trees stands same number has))
    by (Some t) there =
        let r : IsRouteOf d.frame.shape net t = and-some (IsRouteOfNet d number) (tree_at trees number) t there (held-tree d h trees stands same number has) net is in
        let joined : IsJoined t.shape (edges_of t) net.pins = joins-pins t net.pins (are number t has there) r.pins in
        subst (λ (o : Option TreeView). IsJoined d.frame.shape (edges_or_none o) net.pins) (sym there)
        (subst (λ (g : Shape). IsJoined g (edges_of t) net.pins) r.shape joined)

-- the loads at the mark of booked routes are the routes'
pub loads-booked : (d : DesignView) (given : List (Option TreeView)) (options : Options) (r : BookedRoutes) (l : LoadsView) → AreBookedRoutes d given options r →
    AreLoadsOf r.rounds.book.state.capacity (take r.rounds.chosen r.rounds.book.state.history) l → AreLoadsBy d (route_edges r.routes) l
loads-booked d given options r l are loads =
    let h = take r.rounds.chosen r.rounds.book.state.history in
    let of : AreLoadsOf (capacity_of d) h l = subst (λ (c : CapacityView). AreLoadsOf c h l) are.rounds.made.capacity loads in
    record {
      shape = of.shape;
      demand = λ e edge wire. of.demand e edge wire ∙ booked-demand d h (route_edges r.routes) are.rounds.stands.free
          (λ net routed f. ap (λ (o : Option TreeView). edges_or_none o f) (are.booked net)) e;
    }

-- the trees that are booked where a history stands, each of which is one, are a design's routes
pub chosen-routes : (d : DesignView) (given : List (Option TreeView)) (options : Options) (r : BookedRoutes) → AreBookedRoutes d given options r →
    ((net : ℕ) (t : TreeView) → IsTrue (is_routed d net) → tree_at r.routes net ≡ Some t → IsTree t) → AreChosenRoutes d r.rounds.book.state r.rounds.chosen r.routes
chosen-routes d given options r are trees =
    let h = take r.rounds.chosen r.rounds.book.state.history in
    record {
      least = are.rounds.least;
      booked = are.booked;
      routed = routes-routed d h r.routes are.rounds.stands are.booked;
      free = routes-free d h r.routes are.rounds.stands are.booked;
      joined = routes-joined d h r.routes are.rounds.stands are.booked trees;
    }

-- who marks and who claims in batches are among the callers
number-within : (e : Entry) (workers : ℕ) → 1 ≤ workers → IsNumbered e → e.number ≤ workers
number-within e workers some is = by (is_mark e) is
  where
    by : (b : Bool) → e.number ≡ (if b then marker else claimant) → e.number ≤ workers
    by true is = omega (arith, is)
    by false is = omega (arith, is, some)

-- rounds in batches, with their logs
pub rounds-batched : (d : DesignView) (given : List (Option TreeView)) (options : Options) (batch : ℕ) (formula : Formula) (b : Batched) (r : Rounds) → formula ≡ options.rule → options.batch ≡ Some batch → 1 ≤ options.workers →
    IsMadeInBatches (batches_of d given formula options.rounds batch) b → r.book.state ≡ b.state → r.hands.items ≡ map (log_of b.state.history) (range_with_len 0 (options.workers + 1)) →
    r.chosen ≡ b.chosen → AreRoundsOf d given options r
rounds-batched d given options batch formula b r rule asked some made state logs chosen = record {
  made = subst (λ (s : BookView). IsBookOf d given options s r.hands.items) (sym state) (record {
    capacity = made.capacity;
    legal = made.legal;
    made = subst (λ (o : Option ℕ). IsHistoryBy d given options o b.state.history) (sym asked) (record {
      batched = subst (λ (f : Formula). IsBatched (batches_of d given f options.rounds batch) b.state.history) rule made.batched;
      numbers = made.numbers;
    });
    parted = record { logs = logs; all = λ place e there. number-within e options.workers some (made.numbers place e there) };
  });
  least = ap (λ (s : BookView). least_mark s.history) state ∙ made.least ∙ ap (λ (n : ℕ). Some n) (sym chosen);
  within = let long = ap (λ (s : BookView). length s.history) state in let most = made.within in omega (arith, chosen, long, most);
  stands = subst (Stands d) (sym (ap (λ (n : ℕ). take n r.book.state.history) chosen ∙ ap (λ (s : BookView). take b.chosen s.history) state)) made.stands;
}

-- rounds by workers
pub rounds-made : {E : Type 0} (d : DesignView) (given : List (Option TreeView)) (options : Options) (r : Result Rounds E) → options.batch ≡ None →
    IfOk r (IsMade (setting_of d given options)) → IfOk r (AreRoundsOf d given options)
rounds-made d given options (Err e) none made = tt
rounds-made d given options (Ok r) none made = record {
  made = record {
    capacity = made.capacity;
    legal = made.legal;
    made = subst (λ (o : Option ℕ). IsHistoryBy d given options o r.book.state.history) (sym none) made.run;
    parted = made.parted;
  };
  least = made.least;
  within = made.within;
  stands = made.stands;
}
