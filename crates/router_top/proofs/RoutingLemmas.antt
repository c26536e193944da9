-- A routing, by the text of its trees.
use Rattle.std.proofs.Common.{◌≡◌, ℕ, ◌&&◌, Bool, false, List, take, Option, Some, None, Ok, IsTrue, inl, inr, refl, sym, ap, subst, ◌∙◌}
use Rattle.std.proofs.Math.Path.{fun_ext}
use Rattle.std.proofs.lemmas.Bool.{cases_Bool}
use Rattle.gr_base.specs.Designs.{DesignView, IsDesign, is_routed}
use Rattle.gr_base.specs.EdgeSets.{Edges}
use Rattle.gr_base.specs.Grid.{has_edge}
use Rattle.gr_base.specs.Sums.{demand as demand_by}
use Rattle.gr_base.specs.Trees.{TreeView, edges_or_none, route_edges, tree_at, tree_edges}
use Rattle.gr_base.specs.declared.grid.Edge.{Edge}
use Rattle.gr_base.specs.declared.grid.Shape.{Shape}
use Rattle.gr_base.proofs.TreeEdges.{tree-grid_edges}
use Rattle.grid_demand.specs.Tables.{CapacityView, capacity_of}
use Rattle.book_state.specs.Books.{booked, demand as demand_after}
use Rattle.book_state.specs.declared.entry.Entry.{Entry}
use Rattle.route_evaluator.proofs.VerdictLemmas.{verdict-same}
use Rattle.straight_runs.proofs.ListLemmas.{list-within}
use Rattle.solution_text.specs.Cover.{cover}
use Rattle.solution_text.specs.Runs.{LieIn}
use Rattle.solution_text.specs.WrittenText.{written_text}
use Rattle.solution_text.proofs.LawLemmas.{written-text-covers}
use Rattle.gr_io.specs.Devices.{Reading}
use Rattle.router_top.specs.Beginning.{IsBegunFrom}
use Rattle.router_top.specs.declared.beginning.Beginning.{Beginning}
use Rattle.router_top.specs.Booking.{booked_edges, AllJoined, AreTrees}
use Rattle.router_top.specs.Routing.{IsRoutedDesign, IsRouting, IsRoutingOf}
use Rattle.rc_library.specs.Libraries.{LibraryView}
use Rattle.command_form.specs.Said.{design_said, library_said}
use Rattle.word_reader.specs.declared.order.Options.{Options}
use Rattle.router_top.specs.declared.routing.RoutedDesign.{RoutedDesign}
use Rattle.router_top.proofs.DemandLemmas.{booked-demand}

-- the edges of the trees lie in the grid
pub lie-in : (g : Shape) (trees : List (Option TreeView)) → AreTrees g trees → (net : ℕ) → LieIn g (route_edges trees net)
lie-in g trees are net = by_tree (tree_at trees net) refl
  where
    by_tree : (o : Option TreeView) → tree_at trees net ≡ o → LieIn g (edges_or_none o)
    by_tree None is e among = cc
    by_tree (Some t) is e among =
        let tree = are net t is in
        subst (λ (h : Shape). IsTrue (has_edge h e)) tree.1 (list-within t.shape (tree_edges t) (tree-grid_edges t tree.0) e among)

-- what a text of trees covers: the edges of the routed nets' trees
pub text-covers : (d : DesignView) (trees : List (Option TreeView)) → IsDesign d → AreTrees d.frame.shape trees →
    (net : ℕ) (e : Edge) → cover d (written_text d (route_edges trees)) net e ≡ (is_routed d net && route_edges trees net e)
text-covers d trees design are = written-text-covers d design (route_edges trees) (lie-in d.frame.shape trees are)

-- where only routed nets have trees, a text of them covers just their edges
text-same : (d : DesignView) (trees : List (Option TreeView)) → IsDesign d → AreTrees d.frame.shape trees → ((net : ℕ) → is_routed d net ≡ false → tree_at trees net ≡ None) →
    (net : ℕ) (e : Edge) → route_edges trees net e ≡ cover d (written_text d (route_edges trees)) net e
text-same d trees design are none net e =
    elim (cases_Bool (is_routed d net)) [
      | inl routed ↦ sym (text-covers d trees design are net e ∙ ap (λ (b : Bool). b && route_edges trees net e) routed)
      | inr unrouted ↦
          let nothing : route_edges trees net e ≡ false = ap (λ (o : Option TreeView). edges_or_none o e) (none net unrouted) in
          sym (text-covers d trees design are net e ∙ ap (λ (b : Bool). b && route_edges trees net e) unrouted ∙ sym nothing)
    ]

-- the sets of the trees are those of the bookings
pub booked-same : (d : DesignView) (h : List Entry) (trees : List (Option TreeView)) → ((net : ℕ) → tree_at trees net ≡ booked h net) →
    (net : ℕ) (e : Edge) → route_edges trees net e ≡ booked_edges h net e
booked-same d h trees same net e = ap (λ (o : Option TreeView). edges_or_none o e) (same net)

-- booked demand is that of the text
demand-same : (d : DesignView) (c : CapacityView) (h : List Entry) (trees : List (Option TreeView)) → IsDesign d → c ≡ capacity_of d → AreTrees d.frame.shape trees →
    ((net : ℕ) → tree_at trees net ≡ booked h net) → ((net : ℕ) → is_routed d net ≡ false → tree_at trees net ≡ None) →
    (e : Edge) → demand_after c h e ≡ demand_by d (cover d (written_text d (route_edges trees))) e
demand-same d c h trees design capacity are same none e =
    ap (λ (x : CapacityView). demand_after x h e) capacity
    ∙ booked-demand d h (cover d (written_text d (route_edges trees))) (λ net unrouted. sym (same net) ∙ none net unrouted)
    (λ net routed edge. sym (text-same d trees design are none net edge) ∙ booked-same d h trees same net edge) e

-- sets of edges that join the nets, and others that have the same edges
joined-same : (d : DesignView) (sets others : ℕ → Edges) → ((net : ℕ) (e : Edge) → sets net e ≡ others net e) → AllJoined d sets → AllJoined d others
joined-same d sets others same joined = subst (λ (s : ℕ → Edges). AllJoined d s) (fun_ext (λ net. fun_ext (λ e. same net e))) joined

-- routes of a design and their report are a routing
routing-of : (d : DesignView) (lib : LibraryView) (b : Beginning) (options : Options) (r : RoutedDesign) → IsDesign d → IsRoutedDesign d lib b options r →
    IsRoutingOf d lib b options r.rounds.book.state r.rounds.hands.items (written_text d (route_edges r.routes)) r.report
routing-of d lib b options r design is = record {
  design = design;
  made = is.made;
  chosen = r.rounds.chosen;
  least = is.routes.least;
  says = ap (written_text d) (fun_ext (λ net. fun_ext (λ e. booked-same d h r.routes is.routes.booked net e)));
  joined = joined-same d (route_edges r.routes) (cover d (written_text d (route_edges r.routes))) same is.routes.joined;
  demand = λ e edge wire. demand-same d r.rounds.book.state.capacity h r.routes design is.made.capacity is.trees is.routes.booked is.routes.free e;
  verdict = is.verdict;
  judged = verdict-same d options.via_cost (route_edges r.routes) (cover d (written_text d (route_edges r.routes))) is.verdict same is.judged;
  trees = r.routes;
  booked = is.routes.booked;
  plans = is.plans;
  planned = is.planned;
  reports = is.reports;
}
  where
    h : List Entry
    h = take r.rounds.chosen r.rounds.book.state.history

    same : (net : ℕ) (e : Edge) → route_edges r.routes net e ≡ cover d (written_text d (route_edges r.routes)) net e
    same = text-same d r.routes design is.trees is.routes.free

-- likewise those of a design that was read
pub is-routing : (shelf : Reading) (design_name library_name : List ℕ) (from : Option (List ℕ)) (d : DesignView) (lib : LibraryView) (b : Beginning) (options : Options) (r : RoutedDesign) →
    (IsTrue shelf.tells → design_said shelf.held design_name ≡ Some (Ok d)) → (IsTrue shelf.tells → library_said shelf.held library_name d ≡ Some (Ok lib)) →
    IsBegunFrom shelf d from b → IsDesign d → IsRoutedDesign d lib b options r →
    IsRouting shelf design_name library_name from options r.rounds.book.state r.rounds.hands.items (written_text d (route_edges r.routes)) r.report
is-routing shelf design_name library_name from d lib b options r said read begun design is = record {
  design = d;
  said = said;
  library = lib;
  read = read;
  beginning = b;
  begun = begun;
  routed = routing-of d lib b options r design is;
}
