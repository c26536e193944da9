-- The edges of a tree that is cut to its pins are those on ways to pins.
use Rattle.std.proofs.Common.{◌≡◌, ℕ, ◌<◌, ◌↔◌, inr, true, List, ◌∷◌, length, Some, slice_get, IsTrue, sym, subst, ◌∙◌}
use Rattle.std.proofs.lemmas.Option.{slice_get-get_or}
use Rattle.gr_base.specs.EdgeSets.{Edges, set_of}
use Rattle.gr_base.specs.Trees.{TreeView, IsTree, cell_at, edges_of, holds, is_among, walk_edges}
use Rattle.gr_base.specs.declared.grid.Edge.{Edge}
use Rattle.gr_base.specs.declared.grid.Shape.{Shape}
use Rattle.gr_base.proofs.TreeEdges.{found-at}
use Rattle.route_evaluator.specs.NetTrees.{AreTree, HasJust, IsPath, OnePath}
use Rattle.route_evaluator.proofs.NetTreeLemmas.{first-pin}
use Rattle.route_evaluator.proofs.PathLemmas.{path-more, step-more}
use Rattle.route_evaluator.proofs.TreePaths.{one-path}
use Rattle.kept_routes.specs.Cuts.{IsCut}
use Rattle.kept_routes.specs.Kept.{LiesOnWay, driver_of}
use Rattle.kept_routes.proofs.ChainLemmas.{chain, edge-among, path-edges}

module _ (set : Edges) (pins : List ℕ) (t now : TreeView) (tree : IsTree t) (just : HasJust set t) (are : AreTree t.shape set pins) (some : 0 < length pins)
    (start : cell_at t.nodes 0 ≡ slice_get pins 0) (held : (pin : ℕ) → is_among pins pin ≡ true → holds t pin ≡ true) (cut : IsCut t pins now) where
  first : cell_at t.nodes 0 ≡ Some (driver_of pins)
  first = start ∙ slice_get-get_or pins 0 0 some

  in-set : (e : Edge) → edges_of t e ≡ true → set e ≡ true
  in-set e is = sym (just e) ∙ is

  within : (e : Edge) → edges_of now e ≡ true → set e ≡ true
  within e is = let of = cut.edges e is in in-set e (edge-among t of.node e of.edge)

  -- an edge of the cut tree lies on a way
  lies : (e : Edge) → edges_of now e ≡ true → LiesOnWay t.shape set pins e
  lies e is =
      let of = cut.edges e is in
      let to = chain t tree (driver_of pins) first of.wanted.below of.wanted.pin of.wanted.there in
      record {
        pin = of.wanted.pin;
        is_pin = of.wanted.is_pin;
        path = to.path;
        leads = path-more t.shape (edges_of t) set (step-more t.shape (edges_of t) set in-set) (driver_of pins) of.wanted.pin to.path to.leads;
        along = to.along of.node e of.wanted.above of.behind of.edge;
      }

  now-first : holds now (driver_of pins) ≡ true
  now-first = found-at now.nodes 0 (driver_of pins) (cut.start ∙ first)

  now-held : (pin : ℕ) → is_among pins pin ≡ true → holds now pin ≡ true
  now-held pin among = cut.held pin among (held pin among)

  -- and each that does is one
  has : (e : Edge) → LiesOnWay t.shape set pins e → edges_of now e ≡ true
  has e on =
      let one : OnePath now.shape (edges_of now) (driver_of pins) on.pin = one-path now cut.tree (driver_of pins) on.pin now-first (now-held on.pin on.is_pin) in
      let leads : IsPath t.shape (edges_of now) (driver_of pins) on.pin one.path =
      subst (λ (g : Shape). IsPath g (edges_of now) (driver_of pins) on.pin one.path) cut.shape one.leads in
      let only = are (driver_of pins) on.pin (inr (first-pin pins some)) (inr on.is_pin) in
      let mine = only.only one.path (path-more t.shape (edges_of now) set (step-more t.shape (edges_of now) set within) (driver_of pins) on.pin one.path leads) in
      let same : on.path ≡ one.path = only.only on.path on.leads ∙ sym mine in
      path-edges t.shape (edges_of now) (driver_of pins) on.pin one.path e leads
      (subst (λ (path : List ℕ). set_of (walk_edges t.shape (driver_of pins ∷ path)) e ≡ true) same on.along)

  pub cut-edges : (e : Edge) → IsTrue (edges_of now e) ↔ LiesOnWay t.shape set pins e
  cut-edges e = (lies e, has e)
