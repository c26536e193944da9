-- Pattern plans by prices that are the same on the edges of the grid are the same.
use Rattle.std.proofs.Common.{◌≡◌, ℕ, zero, suc, ◌+◌, ◌<◌, ◌≤◌, inl, inr, Bool, true, false, nat_lt, List, [], ◌∷◌, ◌++◌, length, map, fold, All, Option, Some, None, unwrap_or, if◌then◌else◌, IfSome, IsTrue, refl, sym, ap, subst, ◌∙◌, arith}
use Rattle.std.specs.List.{list_any, range_with_len, sum_by}
use Rattle.std.specs.Option.{option_map, option_and_then}
use Rattle.std.proofs.lemmas.Bool.{cases_lt, and_parts}
use Rattle.std.proofs.lemmas.Bool.Decides.{nat_tests}
use Rattle.std.proofs.lemmas.List.Elements.{All-nil, All-cons, All-head, All-tail, All-append, All-map, All-weaker, All-get_or}
use Rattle.std.proofs.lemmas.List.{get_or_past}
use Rattle.gr_base.proofs.GridLemmas.{some_columns, some_rows, place-inside, number-below, edge_of-joins}
use Rattle.gr_base.specs.Grid.{gap, cells_of, place_at, edge_of, has_edge, on_layer, IsInside, Joins}
use Rattle.gr_base.specs.Trees.{TreeView, IsTree, attached}
use Rattle.gr_base.specs.declared.grid.Cell.{Cell}
use Rattle.gr_base.specs.declared.grid.Edge.{Edge}
use Rattle.gr_base.specs.declared.grid.Shape.{Shape}
use Rattle.gr_base.specs.declared.grid.Way.{Way}
use Rattle.layer_assign.proofs.FlatLemmas.{on_layer-edge, root_edge, some_edge}
use Rattle.layer_assign.specs.Assignments.{wire_cost, cost_of, met, goes_on, IsAssignment, IsLeast, IsFirst, IsFlat as IsFlattened}
use Rattle.layer_assign.specs.Spans.{span_of, climb}
use Rattle.book_state.proofs.RangeSums.{sum-same}
use Rattle.pattern_route.proofs.StepLemmas.{all-onward, all-lines}
use Rattle.pattern_route.specs.Lines.{IsBetween}
use Rattle.pattern_route.specs.Steps.{onward}
use Rattle.pattern_route.specs.Walks.{tile, along_row, along_column, by_column, by_row, flat_walks, step_cost, cost_onward, walk_cost, cheaper, least_of, first_least, flat_walk}
use Rattle.steiner_topology.specs.Tile.{Tile}
use Rattle.steiner_topology.specs.Topology.{point, place_of, parent_of, topology_of}
use Rattle.steiner_topology.specs.declared.point.Point.{Point}
use Rattle.net_plan.proofs.OnlyLemmas.{pattern-only}
use Rattle.net_plan.proofs.PointLemmas.{topology-in}
use Rattle.net_plan.specs.FlatPrices.{lesser, flat_price}
use Rattle.net_plan.specs.FlatTrees.{tile_under, is_tile, with_tile, distinct_tiles, cell_at_point, cell_above, up_to_tree, with_point, first_tile, IsTileIn, AreTilesIn, IsFlatTree}
use Rattle.net_plan.specs.Orders.{order_of}
use Rattle.net_plan.specs.Patterns.{IsPatternTree}

-- prices that are the same on the edges of a grid
abbrev pub AreSamePrices : Shape → (Edge → Option ℕ) → (Edge → Option ℕ) → Type 0
AreSamePrices g p q = (e : Edge) → IsTrue (has_edge g e) → p e ≡ q e

-- walks in the grid cost the same
module _ (g : Shape) (p q : Edge → Option ℕ) (same : AreSamePrices g p q) where
  step-same : (u v : ℕ) → u < cells_of g → v < cells_of g → step_cost g p u v ≡ step_cost g q u v
  step-same u v u_in v_in = by (edge_of g u v) (edge_of-joins g u v u_in v_in)
    where
      by : (o : Option Edge) → IfSome o (λ e. Joins g e u v) → unwrap_or (option_and_then p o) 0 ≡ unwrap_or (option_and_then q o) 0
      by None joins = refl
      by (Some e) joins = ap (λ (o : Option ℕ). unwrap_or o 0) (same e joins.edge)

  onward-same : (u : ℕ) (walk : List ℕ) → u < cells_of g → All (λ v. v < cells_of g) walk → cost_onward g p u walk ≡ cost_onward g q u walk
  onward-same u [] u_in walk_in = refl
  onward-same u (v ∷ walk) u_in walk_in =
      let v_in = All-head (λ c. c < cells_of g) v walk walk_in in
      let first = step-same u v u_in v_in in
      let rest = onward-same v walk v_in (All-tail (λ c. c < cells_of g) v walk walk_in) in
      omega (arith, first, rest)

  walk-same : (walk : List ℕ) → All (λ v. v < cells_of g) walk → walk_cost g p walk ≡ walk_cost g q walk
  walk-same [] walk_in = refl
  walk-same (u ∷ walk) walk_in = onward-same u walk (All-head (λ c. c < cells_of g) u walk walk_in) (All-tail (λ c. c < cells_of g) u walk walk_in)

-- the first least one is the same by costs that are the same
abbrev AreSameCosts : (List ℕ → ℕ) → (List ℕ → ℕ) → List ℕ → Type 0
AreSameCosts f h walk = f walk ≡ h walk

cheaper-same : (f h : List ℕ → ℕ) (a b : List ℕ) → f a ≡ h a → f b ≡ h b → cheaper f a b ≡ cheaper h a b
cheaper-same f h a b of_a of_b =
    ap (λ (n : ℕ). if nat_lt n (f a) then b else a) of_b ∙ ap (λ (n : ℕ). if nat_lt (h b) n then b else a) of_a

either-same : (f h : List ℕ → ℕ) (test : Bool) (a b : List ℕ) → f a ≡ h a → f b ≡ h b → f (if test then b else a) ≡ h (if test then b else a)
either-same f h true a b of_a of_b = of_b
either-same f h false a b of_a of_b = of_a

least-same : (f h : List ℕ → ℕ) (a : List ℕ) (walks : List (List ℕ)) → f a ≡ h a → All (AreSameCosts f h) walks → least_of f a walks ≡ least_of h a walks
least-same f h a [] here each = refl
least-same f h a (b ∷ walks) here each =
    let next = All-head (AreSameCosts f h) b walks each in
    least-same f h (cheaper f a b) walks (either-same f h (nat_lt (f b) (f a)) a b here next) (All-tail (AreSameCosts f h) b walks each)
    ∙ ap (λ (w : List ℕ). least_of h w walks) (cheaper-same f h a b here next)

first-same : (f h : List ℕ → ℕ) (walks : List (List ℕ)) → All (AreSameCosts f h) walks → first_least f walks ≡ first_least h walks
first-same f h [] each = refl
first-same f h (a ∷ walks) each = least-same f h a walks (All-head (AreSameCosts f h) a walks each) (All-tail (AreSameCosts f h) a walks each)

-- flat walks lie in the grid
module _ (g : Shape) (level : g.layers ≡ 1) where
  abbrev In : ℕ → Type 0
  In cell = cell < cells_of g

  tile-in : (x y : ℕ) → x < g.columns → y < g.rows → In (tile g x y)
  tile-in x y x_in y_in = number-below g (record { x = x; y = y; layer = 0 }) (record { column = x_in; row = y_in; layer = omega (arith, level) })

  between-below : (start p end most : ℕ) → IsBetween start p end → start < most → end < most → p < most
  between-below start p end most between low high = omega (arith, between, low, high)

  row-in : (y from to : ℕ) → y < g.rows → from < g.columns → to < g.columns → All In (along_row g y from to)
  row-in y from to y_in from_in to_in =
      All-map In (λ x. tile g x y) (onward from to)
      (all-onward (λ x. In (tile g x y)) (gap from to) from from to refl (omega arith)
      (λ x between. tile-in x y (between-below from x to g.columns between from_in to_in) y_in))

  column-in : (x from to : ℕ) → x < g.columns → from < g.rows → to < g.rows → All In (along_column g x from to)
  column-in x from to x_in from_in to_in =
      All-map In (λ y. tile g x y) (onward from to)
      (all-onward (λ y. In (tile g x y)) (gap from to) from from to refl (omega arith)
      (λ y between. tile-in x y x_in (between-below from y to g.rows between from_in to_in)))

  walks-in : (a b : Cell) → IsInside g a → IsInside g b → All (λ walk. All In walk) (flat_walks g a b)
  walks-in a b a_in b_in =
      All-append (λ walk. All In walk) (map (by_column g a b) (a.x ∷ onward a.x b.x)) (map (by_row g a b) (a.y ∷ onward a.y b.y))
      (All-map (λ walk. All In walk) (by_column g a b) (a.x ∷ onward a.x b.x) (all-lines (λ x. All In (by_column g a b x)) a.x b.x (λ x between.
      let x_in = between-below a.x x b.x g.columns between a_in.column b_in.column in
      All-cons In (tile g a.x a.y) _ (tile-in a.x a.y a_in.column a_in.row)
      (All-append In (along_row g a.y a.x x) _ (row-in a.y a.x x a_in.row a_in.column x_in)
      (All-append In (along_column g x a.y b.y) (along_row g b.y x b.x) (column-in x a.y b.y x_in a_in.row b_in.row)
      (row-in b.y x b.x b_in.row x_in b_in.column))))))
      (All-map (λ walk. All In walk) (by_row g a b) (a.y ∷ onward a.y b.y) (all-lines (λ y. All In (by_row g a b y)) a.y b.y (λ y between.
      let y_in = between-below a.y y b.y g.rows between a_in.row b_in.row in
      All-cons In (tile g a.x a.y) _ (tile-in a.x a.y a_in.column a_in.row)
      (All-append In (along_column g a.x a.y y) _ (column-in a.x a.y y a_in.column a_in.row y_in)
      (All-append In (along_row g y a.x b.x) (along_column g b.x y b.y) (row-in y a.x b.x y_in a_in.column b_in.column)
      (column-in b.x y b.y b_in.column y_in b_in.row))))))

  flat-walk-same : (p q : Edge → Option ℕ) → AreSamePrices g p q → (a b : ℕ) → In a → In b → flat_walk g p a b ≡ flat_walk g q a b
  flat-walk-same p q same a b a_in b_in =
      first-same (walk_cost g p) (walk_cost g q) (flat_walks g (place_at g a) (place_at g b))
      (All-weaker (λ walk. All In walk) (AreSameCosts (walk_cost g p) (walk_cost g q)) (λ walk inside. walk-same g p q same walk inside)
      (flat_walks g (place_at g a) (place_at g b)) (walks-in (place_at g a) (place_at g b) (place-inside g a a_in) (place-inside g b b_in)))

  -- so the trees that they make are the same
  trees-same : (p q : Edge → Option ℕ) → AreSamePrices g p q → (points : List Point) → AreTilesIn g points → (order : List ℕ) (t : TreeView) →
      fold (with_point g p points) t order ≡ fold (with_point g q points) t order
  trees-same p q same points inside [] t = refl
  trees-same p q same points inside (v ∷ order) t =
      let walk = flat-walk-same p q same (cell_at_point g points v) (cell_above g points v) (point-in v) (point-in (parent_of points v)) in
      trees-same p q same points inside order (with_point g p points t v)
      ∙ ap (λ (w : List ℕ). fold (with_point g q points) (attached t (up_to_tree t w)) order) walk
    where
      place-in : (u : ℕ) → IsTileIn g (place_of points u)
      place-in u = elim (cases_lt u (length points)) [
        | inl below ↦ All-get_or (λ (x : Point). IsTileIn g x.tile) points u (point (0, 0) 0) below inside
        | inr past ↦
            subst (λ (x : Point). IsTileIn g x.tile) (sym (get_or_past points u (point (0, 0) 0) past))
            (record { column = some_columns g; row = some_rows g })
      ]

      point-in : (u : ℕ) → In (cell_at_point g points u)
      point-in u = let at = place-in u in tile-in (place_of points u).0 (place_of points u).1 at.column at.row

-- flat prices are the same too
flat-same : (g flat : Shape) (p q : Edge → Option ℕ) → IsFlattened g flat → AreSamePrices g p q → AreSamePrices flat (flat_price g p) (flat_price g q)
flat-same g flat p q flattened same e edge = from 0 g.layers None (omega arith)
  where
    from : (a n : ℕ) (least : Option ℕ) → a + n ≤ g.layers →
        fold lesser least (map (λ layer. p (on_layer g layer e)) (range_with_len a n)) ≡ fold lesser least (map (λ layer. q (on_layer g layer e)) (range_with_len a n))
    from a zero least few = refl
    from a (suc n) least few =
        ap (λ (o : Option ℕ). fold lesser (lesser least o) (map (λ layer. p (on_layer g layer e)) (range_with_len (a + 1) n)))
        (same (on_layer g a e) (on_layer-edge g flat a e flattened edge (omega arith)))
        ∙ from (a + 1) n (lesser least (q (on_layer g a e))) (omega arith)

-- the tiles of cells in the grid lie in the grid
tile-under-in : (g flat : Shape) → IsFlattened g flat → (cell : ℕ) → cell < cells_of g → IsTileIn flat (tile_under g cell)
tile-under-in g flat flattened cell inside =
    let place = place-inside g cell inside in
    record { column = omega (arith, place.column, flattened.columns); row = omega (arith, place.row, flattened.rows) }

distinct-in : (P : Tile → Type 0) (tiles more : List Tile) → All P tiles → All P more → All P (fold with_tile tiles more)
distinct-in P tiles [] all of_more = all
distinct-in P tiles (t ∷ more) all of_more = distinct-in P (with_tile tiles t) more (by (list_any (is_tile t) tiles)) (All-tail P t more of_more)
  where
    by : (b : Bool) → All P (if b then tiles else tiles ++ t ∷ [])
    by true = all
    by false = All-append P tiles (t ∷ []) all (All-cons P t [] (All-head P t more of_more) (All-nil P))

flat-tree-same : (g : Shape) (p q : Edge → Option ℕ) (pins : List ℕ) (t : TreeView) → AreSamePrices g p q → All (λ pin. pin < cells_of g) pins →
    IsFlatTree g q pins t → IsFlatTree g p pins t
flat-tree-same g p q pins t same inside is = record {
  flattened = is.flattened;
  exact = is.exact
      ∙ sym (trees-same t.shape is.flattened.layers (flat_price g p) (flat_price g q) (flat-same g t.shape p q is.flattened same) points points-in (order_of points)
      (first_tile t.shape points));
}
  where
    points : List Point
    points = topology_of (distinct_tiles g pins)

    points-in : AreTilesIn t.shape points
    points-in = topology-in t.shape (distinct_tiles g pins)
        (distinct-in (IsTileIn t.shape) [] (map (tile_under g) pins) (All-nil (IsTileIn t.shape))
        (All-map (IsTileIn t.shape) (tile_under g) pins
        (All-weaker (λ pin. pin < cells_of g) (λ pin. IsTileIn t.shape (tile_under g pin)) (tile-under-in g t.shape is.flattened) pins inside)))

-- assignments cost the same
module _ (g : Shape) (ways : ℕ → Way → Bool) (p q : Edge → Option ℕ) (same : AreSamePrices g p q) (t : TreeView) (tree : IsTree t) (flattened : IsFlattened g t.shape) where
  wire-cost-same : (a : ℕ → ℕ) → IsAssignment g ways t a → (node : ℕ) → node < length t.nodes → wire_cost g p t node (a node) ≡ wire_cost g q t node (a node)
  wire-cost-same a assigned zero below =
      let none = root_edge t tree in
      ap (λ (o : Option Edge). unwrap_or (option_and_then (λ e. p (on_layer g (a 0) e)) o) 0) none
      ∙ sym (ap (λ (o : Option Edge). unwrap_or (option_and_then (λ e. q (on_layer g (a 0) e)) o) 0) none)
  wire-cost-same a assigned (suc n) below =
      let edge = some_edge t (suc n) tree (omega arith) below in
      let may : unwrap_or (option_map (goes_on g ways (a (suc n))) (Some edge.0)) false ≡ true =
      sym (ap (λ (o : Option Edge). unwrap_or (option_map (goes_on g ways (a (suc n))) o) false) edge.1.0) ∙ assigned (suc n) (omega arith) below in
      let test = (and_parts (nat_lt (a (suc n)) g.layers) (ways (a (suc n)) edge.0.way) may).0 in
      let low : a (suc n) < g.layers = grind (arith, nat_tests) in
      ap (λ (o : Option Edge). unwrap_or (option_and_then (λ e. p (on_layer g (a (suc n)) e)) o) 0) edge.1.0
      ∙ ap (λ (o : Option ℕ). unwrap_or o 0) (same (on_layer g (a (suc n)) edge.0) (on_layer-edge g t.shape (a (suc n)) edge.0 flattened edge.1.1 low))
      ∙ sym (ap (λ (o : Option Edge). unwrap_or (option_and_then (λ e. q (on_layer g (a (suc n)) e)) o) 0) edge.1.0)

  cost-same : (pins : List ℕ) (a : ℕ → ℕ) → IsAssignment g ways t a → cost_of g p t pins a ≡ cost_of g q t pins a
  cost-same pins a assigned =
      ap (λ (n : ℕ). n + sum_by (λ node. climb (span_of (met g t pins a node))) (range_with_len 0 (length t.nodes)))
      (sum-same (λ node. wire_cost g p t node (a node)) (λ node. wire_cost g q t node (a node)) 0 (length t.nodes)
      (λ node low high. wire-cost-same a assigned node (omega arith)))

  least-kept : (pins : List ℕ) (a : ℕ → ℕ) → IsAssignment g ways t a → IsLeast g ways q t pins a → IsLeast g ways p t pins a
  least-kept pins a assigned least b other =
      let one = cost-same pins a assigned in
      let two = cost-same pins b other in
      let most = least b other in
      omega (arith, one, two, most)

  first-kept : (pins : List ℕ) (a : ℕ → ℕ) → IsAssignment g ways t a → IsFirst g ways q t pins a → IsFirst g ways p t pins a
  first-kept pins a assigned first b other costs node later below alike =
      first b other (sym (cost-same pins b other) ∙ costs ∙ cost-same pins a assigned) node later below alike

-- a pattern plan by the one prices is one by the others
pattern-kept : (g : Shape) (ways : ℕ → Way → Bool) (p q : Edge → Option ℕ) (pins : List ℕ) (t : TreeView) → AreSamePrices g p q → All (λ pin. pin < cells_of g) pins →
    IsPatternTree g ways q pins t → IsPatternTree g ways p pins t
pattern-kept g ways p q pins t same inside is = record {
  tree = is.tree;
  shape = is.shape;
  driver = is.driver;
  flat = is.flat;
  flat_tree = is.flat_tree;
  layers = is.layers;
  is_flat = flat-tree-same g p q pins is.flat same inside is.is_flat;
  assignment = is.assignment;
  least = least-kept g ways p q same is.flat is.flat_tree is.is_flat.flattened pins is.layers is.assignment is.least;
  first = first-kept g ways p q same is.flat is.flat_tree is.is_flat.flattened pins is.layers is.assignment is.first;
  edges = is.edges;
  nodes = is.nodes;
}

pub patterns-same : (g : Shape) (ways : ℕ → Way → Bool) (p q : Edge → Option ℕ) (pins : List ℕ) (t u : TreeView) → AreSamePrices g p q → All (λ pin. pin < cells_of g) pins →
    IsPatternTree g ways p pins t → IsPatternTree g ways q pins u → u ≡ t
patterns-same g ways p q pins t u same inside one other =
    pattern-only g ways p pins t u one (pattern-kept g ways p q pins u same inside other)
