-- Routings that begin from a solution's routes.
use Rattle.std.proofs.Common.{◌≡◌, ℕ, ◌≤◌, ◌&&◌, ◌↔◌, Bool, true, false, inl, inr, List, take, Option, Some, None, is_none, IsTrue, if◌then◌else◌, refl, sym, ap, subst, ◌∙◌, arith}
use Rattle.std.proofs.lemmas.Bool.{cases_Bool, false≢true}
use Rattle.gr_base.proofs.General.{is-some}
use Rattle.gr_base.proofs.TreeEdges.{tree-grid_edges}
use Rattle.gr_base.specs.Capacities.{capacity}
use Rattle.gr_base.specs.Designs.{DesignView, is_routed, pins_at}
use Rattle.gr_base.specs.EdgeSets.{Edges}
use Rattle.gr_base.specs.Grid.{has_edge}
use Rattle.gr_base.specs.Sums.{demand as demand_by, total_over}
use Rattle.gr_base.specs.Trees.{TreeView, edges_of, edges_or_none, tree_at, tree_edges}
use Rattle.gr_base.specs.declared.grid.Edge.{Edge}
use Rattle.gr_base.specs.declared.grid.Shape.{Shape}
use Rattle.grid_demand.proofs.CapacityLemmas.{capacity-table}
use Rattle.grid_demand.proofs.LoadLemmas.{total_overflow-same}
use Rattle.grid_demand.specs.Tables.{CapacityView, capacity_at, capacity_of}
use Rattle.book_state.specs.Books.{booked, demand, overflow_after, IsLegal}
use Rattle.book_state.specs.Views.{BookView}
use Rattle.book_state.specs.declared.entry.Entry.{Entry}
use Rattle.gr_io.specs.Devices.{Reading}
use Rattle.kept_routes.proofs.ChainLemmas.{path-edges}
use Rattle.kept_routes.proofs.KeptLemmas.{whole-shape}
use Rattle.kept_routes.specs.Kept.{AreKept, CanBeKept, IsNeeded, driver_of}
use Rattle.route_evaluator.specs.Verdicts.{IsVerdict}
use Rattle.route_evaluator.specs.declared.verdict.Verdict.{Verdict}
use Rattle.router_top.proofs.DemandLemmas.{booked-demand}
use Rattle.router_top.specs.Booking.{batching_of, booked_edges, setting_of, IsHistoryBy}
use Rattle.router_top.specs.Routing.{IsRouting, IsRoutingOf}
use Rattle.run_histories.specs.GivenRoutes.{given_to, is_open}
use Rattle.run_histories.specs.declared.hands.HandLog.{HandLog}
use Rattle.solution_text.proofs.LawLemmas.{written-text-covers}
use Rattle.solution_text.specs.Cover.{cover}
use Rattle.solution_text.specs.Runs.{LieIn}
use Rattle.straight_runs.proofs.ListLemmas.{list-within}
use Rattle.word_reader.specs.declared.order.Options.{Options}
use Rattle.given_laws.proofs.BatchBeginnings.{batch-begins}
use Rattle.given_laws.proofs.FirstMarks.{first-mark, no-more, only-chosen, IsFirstMark, IsNoMore}
use Rattle.given_laws.proofs.OpenClaims.{AreGridTrees, BeginsOpen, IsGridTree}
use Rattle.given_laws.proofs.PartLemmas.{ArePartsOf, length-most, max-most, total-most, vias-most}
use Rattle.given_laws.proofs.RunBeginnings.{run-begins}
use Rattle.given_laws.specs.Laws.{AreAllKept, IsNoWorse}

-- the history of a book begins with the claims of the given trees and of open nets, by workers or in batches
begins-by : (d : DesignView) (given : List (Option TreeView)) (options : Options) (batch : Option ℕ) (h : List Entry) → IsHistoryBy d given options batch h →
    BeginsOpen d given options.rounds h
begins-by d given options None h run = run-begins (setting_of d given options) h run
begins-by d given options (Some batch) h made = batch-begins (batching_of d given options batch) h made.batched

-- the trees of kept nets, and which nets are open
module _ (d : DesignView) (sets : ℕ → Edges) (given : List (Option TreeView)) (are : AreKept d sets given) where
  kept-grid : AreGridTrees d given
  kept-grid net t there = let kept = are.kept net t there in (kept.1.tree, whole-shape d net kept.0.routed t kept.1.routes)

  kept-tree : (net : ℕ) → CanBeKept d sets net → (t : TreeView) × (tree_at given net ≡ Some t)
  kept-tree net kept = is-some (tree_at given net) (are.all net kept)

  kept-to : (net : ℕ) (kept : CanBeKept d sets net) → given_to d given net ≡ Some (kept-tree net kept).0
  kept-to net kept = ap (λ (b : Bool). if b then tree_at given net else None) kept.routed ∙ (kept-tree net kept).1

  kept-shut : (net : ℕ) → CanBeKept d sets net → is_open d given net ≡ false
  kept-shut net kept =
      ap (λ (b : Bool). b && is_none (tree_at given net)) kept.routed ∙ ap (λ (o : Option TreeView). is_none o) (kept-tree net kept).1

  all-shut : AreAllKept d sets → (net : ℕ) → is_open d given net ≡ false
  all-shut all net = elim (cases_Bool (is_routed d net)) [
    | inl routed ↦ kept-shut net (all net routed)
    | inr unrouted ↦ ap (λ (b : Bool). b && is_none (tree_at given net)) unrouted
  ]

  -- an edge that lies on a way to a pin is one of the net's
  needed-in : (net : ℕ) (e : Edge) → IsNeeded d sets net e → IsTrue (sets net e)
  needed-in net e on = path-edges d.frame.shape (sets net) (driver_of (pins_at d net)) on.pin on.path e on.leads on.along

  given-parts : ArePartsOf d (λ net. edges_or_none (given_to d given net)) sets
  given-parts net routed e has = by (tree_at given net) refl (ap (λ (b : Bool). edges_or_none (if b then tree_at given net else None) e) (sym routed) ∙ has)
    where
      by : (o : Option TreeView) → tree_at given net ≡ o → edges_or_none o e ≡ true → IsTrue (sets net e)
      by None there nothing = absurd (false≢true nothing)
      by (Some t) there edge = needed-in net e (((are.kept net t there).1.edges e).0 edge)

-- a routing, by its first mark and the chosen one
module _ (shelf : Reading) (design library : List ℕ) (from : Option (List ℕ)) (options : Options) (book : BookView) (hands : List HandLog) (text report : List ℕ)
    (is : IsRouting shelf design library from options book hands text report) where
  abbrev d : DesignView
  d = is.design

  abbrev given : List (Option TreeView)
  given = is.beginning.given

  abbrev r : IsRoutingOf d is.library is.beginning options book hands text report
  r = is.routed

  abbrev c : CapacityView
  c = capacity_of d

  abbrev h : List Entry
  h = book.history

  abbrev last : List Entry
  last = take r.chosen h

  legal : IsLegal c h
  legal = subst (λ (v : CapacityView). IsLegal v h) r.made.capacity r.made.legal

  first : (place : ℕ) × IsFirstMark d given options.rounds h place
  first = first-mark d given options.rounds h (begins-by d given options options.batch h r.made.made)

  abbrev early : List Entry
  early = take first.0 h

  -- what the text covers: the edges of the routed nets' trees
  text-edges : ((net : ℕ) (t : TreeView) → booked last net ≡ Some t → IsGridTree d t) → (net : ℕ) (e : Edge) →
      cover d text net e ≡ (is_routed d net && edges_or_none (booked last net) e)
  text-edges trees net e =
      ap (λ (bytes : List ℕ). cover d bytes net e) r.says
      ∙ written-text-covers d r.design (booked_edges last) (λ n. lie (booked last n) (trees n)) net e
    where
      lie : (o : Option TreeView) → ((t : TreeView) → o ≡ Some t → IsGridTree d t) → LieIn d.frame.shape (edges_or_none o)
      lie None trees e among = absurd (false≢true among)
      lie (Some t) trees e among =
          let tree = trees t refl in
          subst (λ (g : Shape). IsTrue (has_edge g e)) tree.1 (list-within t.shape (tree_edges t) (tree-grid_edges t tree.0) e among)

  -- the overflow that the verdict tells is that at the chosen mark
  text-overflow : r.verdict.total ≡ overflow_after c last
  text-overflow =
      r.judged.total
      ∙ sym (total_overflow-same d.frame.shape (demand c last) (demand_by d (cover d text)) (capacity_at c) (capacity d)
      (λ e edge wire. ap (λ (v : CapacityView). demand v last e) (sym r.made.capacity) ∙ r.demand e edge wire)
      (λ e edge wire. capacity-table d e edge wire))

  module _ (sets : ℕ → Edges) (are : AreKept d sets given) where
    grid-at : ((net : ℕ) → booked last net ≡ booked early net) → (net : ℕ) (t : TreeView) → booked last net ≡ Some t → IsGridTree d t
    grid-at same net t is = first.1.trees (kept-grid d sets given are) net t (sym (same net) ∙ is)

    -- in no rounds each kept net has the tree that it was given
    pub as-given : options.rounds ≡ 0 → (net : ℕ) → CanBeKept d sets net → (e : Edge) → IsTrue (cover d text net e) ↔ IsNeeded d sets net e
    as-given none net kept e =
        let same = only-chosen c h legal r.chosen r.least first.0 (first.1.alone none) in
        let tree = kept-tree d sets given are net kept in
        let there : booked last net ≡ Some tree.0 =
        same net ∙ first.1.kept net (kept-shut d sets given are net kept) ∙ kept-to d sets given are net kept in
        let covered : cover d text net e ≡ edges_of tree.0 e =
        text-edges (grid-at same) net e ∙ ap (λ (routed : Bool). routed && edges_or_none (booked last net) e) kept.routed
        ∙ ap (λ (o : Option TreeView). edges_or_none o e) there in
        let edges = (are.kept net tree.0 tree.1).1.edges e in
        (λ has. edges.0 (sym covered ∙ has), λ needed. covered ∙ edges.1 needed)

    module _ (all : AreAllKept d sets) where
      abbrev given_edges : ℕ → Edges
      given_edges net = edges_or_none (given_to d given net)

      begun : (net : ℕ) → booked early net ≡ given_to d given net
      begun net = first.1.kept net (all-shut d sets given are all net)

      -- overflow at the first mark is that of the given trees
      early-overflow : overflow_after c early ≡ total_over d given_edges
      early-overflow =
          total_overflow-same d.frame.shape (demand c early) (demand_by d given_edges) (capacity_at c) (capacity d)
          (λ e edge wire. booked-demand d early given_edges
          (λ net unrouted. begun net ∙ ap (λ (routed : Bool). if routed then tree_at given net else None) unrouted)
          (λ net routed f. ap (λ (o : Option TreeView). edges_or_none o f) (sym (begun net))) e)
          (λ e edge wire. capacity-table d e edge wire)

      no_more : IsNoMore c h r.chosen first.0
      no_more = no-more c h legal r.chosen r.least first.0 first.1.mark first.1.there first.1.marked first.1.first

      given-most : overflow_after c early ≤ total_over d sets
      given-most =
          let most = total-most d given_edges sets (given-parts d sets given are) in
          let is = early-overflow in
          omega (arith, most, is)

      -- where overflow is as much, the text covers parts of these sets
      parts : overflow_after c last ≡ overflow_after c early → ArePartsOf d (cover d text) sets
      parts level net routed e has =
          given-parts d sets given are net routed e
          (ap (λ (o : Option TreeView). edges_or_none o e) (sym (begun net) ∙ sym (same net))
          ∙ sym (text-edges (grid-at same) net e ∙ ap (λ (b : Bool). b && edges_or_none (booked last net) e) routed) ∙ has)
        where
          same : (n : ℕ) → booked last n ≡ booked early n
          same = no_more.same level

      pub none-worse : (other : Verdict) → IsVerdict d options.via_cost sets other → IsNoWorse r.verdict other
      none-worse other judged = record {
        total =
            let most = no_more.total in
            let least = given-most in
            omega (arith, text-overflow, most, least, judged.total);
        max = λ equal. let most = max-most d (cover d text) sets (parts (level equal)) in omega (arith, most, r.judged.max, judged.max);
        wirelength = λ equal.
            let most = length-most d (cover d text) sets (parts (level equal)) options.via_cost in
            omega (arith, most, r.judged.wirelength, judged.wirelength);
        vias = λ equal. let most = vias-most d (cover d text) sets (parts (level equal)) in omega (arith, most, r.judged.vias, judged.vias);
      }
        where
          level : r.verdict.total ≡ other.total → overflow_after c last ≡ overflow_after c early
          level equal =
              let most = no_more.total in
              let least = given-most in
              omega (arith, text-overflow, most, least, judged.total, equal)
