-- The trees of nets that can be kept.
use Rattle.std.proofs.Common.{◌≡◌, ℕ, ◌+◌, ◌<◌, ◌≤◌, ◌↔◌, inl, inr, Bool, true, false, List, [], ◌∷◌, ◌==◌, length, get_or, set, replicate, All, Option, Some, None, is_some, slice_get, IfSome, IsTrue, sym, ap, subst, ◌∙◌, arith}
use Rattle.std.specs.Option.{option_and_then}
use Rattle.std.proofs.lemmas.Bool.{cases_eq, cases_lt, eqb-true, or_cases, false≢true}
use Rattle.std.proofs.lemmas.List.{get_or-set_same, get_or-set_other, get_or-replicate, get_or_past, length-replicate, length-set}
use Rattle.std.proofs.lemmas.List.Elements.{All-tail}
use Rattle.std.proofs.lemmas.Option.{none-some, same_Some, slice_get-get_or, slice_get_past}
use Rattle.gr_base.specs.Designs.{DesignView, IsDesign, IsNet, is_routed, pins_at}
use Rattle.gr_base.specs.EdgeSets.{Edges}
use Rattle.gr_base.specs.Plans.{IsRouteOf, IsRouteOfNet}
use Rattle.gr_base.specs.Trees.{TreeView, IsTree, edges_of, holds, is_among, tree_at}
use Rattle.gr_base.specs.declared.frame.Net.{Net}
use Rattle.gr_base.specs.declared.grid.Edge.{Edge}
use Rattle.gr_base.specs.declared.grid.Shape.{Shape}
use Rattle.gr_base.proofs.DesignLemmas.{IsNetOf, routed-below, routed-net}
use Rattle.route_evaluator.specs.NetTrees.{AreTree, HasJust}
use Rattle.route_evaluator.proofs.CountedLemmas.{pins-are}
use Rattle.route_evaluator.proofs.NetTreeLemmas.{All-pins, pins-all}
use Rattle.grid_demand.proofs.CapacityLemmas.{get-all}
use Rattle.kept_routes.specs.Cuts.{IsCut}
use Rattle.kept_routes.specs.Keepers.{AreKeptBefore}
use Rattle.kept_routes.specs.Kept.{AreKept, CanBeKept, HasUsableWires, IsKeptTree, IsNeeded, LiesOnWay}
use Rattle.kept_routes.proofs.WayLemmas.{cut-edges}

held-among : (P : ℕ → Type 0) (pins : List ℕ) → All P pins → (pin : ℕ) → is_among pins pin ≡ true → P pin
held-among P [] each pin among = absurd (false≢true among)
held-among P (x ∷ xs) each pin among =
    elim (or_cases (x == pin) (is_among xs pin) among) [
      | inl same ↦ subst P (eqb-true x pin same) (each 0 x (omega arith))
      | inr later ↦ held-among P xs (All-tail P x xs each) pin later
    ]

among-held : (P : ℕ → Bool) (pins : List ℕ) → ((pin : ℕ) → is_among pins pin ≡ true → P pin ≡ true) → All (λ pin. IsTrue (P pin)) pins
among-held P pins each = All-pins P pins (pins-all P pins each)

-- ---- the tree of one net

pub whole-shape : (d : DesignView) (net : ℕ) → IsTrue (is_routed d net) → (t : TreeView) → IsRouteOfNet d net t → t.shape ≡ d.frame.shape
whole-shape d net routed t routes = let one = routed-net d net routed in (routes one.net one.there).shape

module _ (d : DesignView) (sets : ℕ → Edges) (net : ℕ) (routed : IsTrue (is_routed d net)) (design : IsDesign d) (pins : List ℕ) (pins_is : pins ≡ pins_at d net)
    (t now : TreeView) (tree : IsTree t) (just : HasJust (sets net) t) (are : AreTree d.frame.shape (sets net) (pins_at d net)) (routes : IsRouteOfNet d net t)
    (cut : IsCut t pins now) where
  one : IsNetOf d net
  one = routed-net d net routed

  route : IsRouteOf d.frame.shape one.net t
  route = routes one.net one.there

  pins-same : one.net.pins ≡ pins
  pins-same = pins-are d net one.net one.there ∙ sym pins_is

  held : (pin : ℕ) → is_among pins pin ≡ true → holds t pin ≡ true
  held = held-among (λ pin. IsTrue (holds t pin)) pins (subst (λ (ps : List ℕ). All (λ pin. IsTrue (holds t pin)) ps) pins-same route.pins)

  some : 0 < length pins
  some =
      let found : IfSome (Some one.net) (IsNet d.frame.shape) =
      subst (λ (o : Option Net). IfSome o (IsNet d.frame.shape)) one.there (get-all (IsNet d.frame.shape) d.nets net design.nets) in
      subst (λ (ps : List ℕ). 0 < length ps) pins-same found.driver

  are_tree : AreTree t.shape (sets net) pins
  are_tree =
      subst (λ (g : Shape). AreTree g (sets net) pins) (sym route.shape)
      (subst (λ (ps : List ℕ). AreTree d.frame.shape (sets net) ps) (sym pins_is) are)

  edges : (e : Edge) → IsTrue (edges_of now e) ↔ IsNeeded d sets net e
  edges e =
      let of : IsTrue (edges_of now e) ↔ LiesOnWay t.shape (sets net) pins e =
      cut-edges (sets net) pins t now tree just are_tree some
      (route.driver ∙ ap (λ (ps : List ℕ). slice_get ps 0) pins-same) held cut e in
      subst (λ (g : Shape). IsTrue (edges_of now e) ↔ LiesOnWay g (sets net) (pins_at d net) e) route.shape
      (subst (λ (ps : List ℕ). IsTrue (edges_of now e) ↔ LiesOnWay t.shape (sets net) ps e) pins_is of)

  route-now : (value : Net) → slice_get d.nets net ≡ Some value → IsRouteOf d.frame.shape value now
  route-now value there =
      let of = routes value there in
      let own : value.pins ≡ pins = pins-are d net value there ∙ sym pins_is in
      record {
        shape = cut.shape ∙ of.shape;
        driver = cut.start ∙ of.driver;
        pins = subst (λ (ps : List ℕ). All (λ pin. IsTrue (holds now pin)) ps) (sym own)
            (among-held (holds now) pins (λ pin among. cut.held pin among (held pin among)));
      }

  -- the net is kept, where its wires are in usable directions
  pub kept-tree : HasUsableWires d now → CanBeKept d sets net × IsKeptTree d sets net now
  kept-tree usable_wires = (
    record {
      routed = routed;
      tree = are;
      directed = λ e needed wire. usable_wires e ((edges e).1 needed) wire;
    },
    record { tree = cut.tree; routes = route-now; edges = edges },
  )

  -- and isn't, where some aren't
  pub not-kept : (HasUsableWires d now → ⊥) → CanBeKept d sets net → ⊥
  not-kept unusable kept = unusable (λ e has wire. kept.directed e ((edges e).0 has) wire)

-- ---- net after net

tree-is : (trees : List (Option TreeView)) (net : ℕ) → tree_at trees net ≡ get_or trees net None
tree-is trees net = elim (cases_lt net (length trees)) [
  | inl below ↦ ap (option_and_then (λ (tree : Option TreeView). tree)) (slice_get-get_or trees net None below)
  | inr past ↦ ap (option_and_then (λ (tree : Option TreeView). tree)) (slice_get_past trees net past) ∙ sym (get_or_past trees net None past)
]

module _ (d : DesignView) (sets : ℕ → Edges) where
  pub none-kept : (trees : List (Option TreeView)) → trees ≡ replicate (length d.nets) None → AreKeptBefore d sets 0 trees
  none-kept trees is = record {
    long = ap (λ (ts : List (Option TreeView)). length ts) is ∙ length-replicate (length d.nets) None;
    kept = λ net t there. absurd (none-some t (sym (nothing net) ∙ there));
    all = λ net below. absurd (omega (arith, below));
  }
    where
      nothing : (net : ℕ) → tree_at trees net ≡ None
      nothing net = ap (λ (ts : List (Option TreeView)). tree_at ts net) is ∙ tree-is (replicate (length d.nets) None) net ∙
          (elim (cases_lt net (length d.nets)) [
            | inl below ↦ get_or-replicate (length d.nets) net None None below
            | inr past ↦ get_or_past (replicate (length d.nets) None) net None (omega (arith, past, length-replicate {A = Option TreeView} (length d.nets) None))
          ])

  module _ (trees : List (Option TreeView)) (at : ℕ) (before : AreKeptBefore d sets at trees) where
    -- one more net, which isn't kept
    pub keep-skip : (CanBeKept d sets at → ⊥) → AreKeptBefore d sets (at + 1) trees
    keep-skip none = record {
      long = before.long;
      kept = before.kept;
      all = λ net below kept. elim (cases_eq net at) [
        | inl same ↦ absurd (none (subst (CanBeKept d sets) same kept))
        | inr apart ↦ before.all net (omega (arith, below, apart)) kept
      ];
    }

    pub keep-unrouted : is_routed d at ≡ false → AreKeptBefore d sets (at + 1) trees
    keep-unrouted unrouted = keep-skip (λ kept. false≢true (sym unrouted ∙ kept.routed))

    -- and one that is
    pub keep-set : (t : TreeView) → at < length trees → CanBeKept d sets at × IsKeptTree d sets at t → AreKeptBefore d sets (at + 1) (set trees at (Some t))
    keep-set t inside is = record {
      long = length-set trees at (Some t) ∙ before.long;
      kept = λ net other there. elim (cases_eq net at) [
        | inl same ↦
            let equal : t ≡ other = same_Some t other (sym now ∙ ap (tree_at (set trees at (Some t))) (sym same) ∙ there) in
            subst (λ (n : ℕ). CanBeKept d sets n × IsKeptTree d sets n other) (sym same)
            (subst (λ (x : TreeView). CanBeKept d sets at × IsKeptTree d sets at x) equal is)
        | inr apart ↦ before.kept net other (sym (elsewhere net apart) ∙ there)
      ];
      all = λ net below kept. elim (cases_eq net at) [
        | inl same ↦ ap (λ (n : ℕ). is_some (tree_at (set trees at (Some t)) n)) same ∙ ap (λ (o : Option TreeView). is_some o) now
        | inr apart ↦ ap (λ (o : Option TreeView). is_some o) (elsewhere net apart) ∙ (before.all net (omega (arith, below, apart)) kept)
      ];
    }
      where
        now : tree_at (set trees at (Some t)) at ≡ Some t
        now = tree-is (set trees at (Some t)) at ∙ get_or-set_same trees at (Some t) None inside

        elsewhere : (net : ℕ) → (net ≡ at → ⊥) → tree_at (set trees at (Some t)) net ≡ tree_at trees net
        elsewhere net apart =
            tree-is (set trees at (Some t)) net ∙ get_or-set_other trees at net (Some t) None apart ∙ sym (tree-is trees net)

  pub keep-all : (trees : List (Option TreeView)) (count : ℕ) → length d.nets ≤ count → AreKeptBefore d sets count trees → AreKept d sets trees
  keep-all trees count past before = record {
    long = before.long;
    kept = before.kept;
    all = λ net kept. before.all net (omega (arith, past, routed-below d net kept.routed)) kept;
  }
