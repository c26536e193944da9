-- The flat tree of pins over a design's grid.
use Rattle.std.proofs.lemmas.Nat.{mod-mul-add, mul-add-lt}
use Rattle.gr_base.proofs.GridLemmas.{place-inside, number-place}
use Rattle.gr_base.specs.Grid.{cells_of, place_at}
use Rattle.std.proofs.Common.{◌≡◌, ℕ, ◌+◌, ◌*◌, ◌%◌, ◌<◌, get_or, arith, Result, Ok, Err, IfOk, Option, List, [], ◌∷◌, fold, All, IsTrue, refl, sym, ap, subst, ◌∙◌}
use Rattle.cost_rules.specs.declared.site.Formula.{Formula}
use Rattle.gr_base.specs.Designs.{DesignView, IsFrame}
use Rattle.gr_base.specs.Trees.{TreeView, holds}
use Rattle.gr_base.specs.declared.grid.Edge.{Edge}
use Rattle.gr_base.specs.declared.grid.Shape.{Shape}
use Rattle.grid_demand.specs.LoadSums.{LoadsView}
use Rattle.grid_demand.specs.Tables.{CapacityView, capacity_of}
use Rattle.pattern_route.specs.Walks.{IsFlat}
use Rattle.steiner_topology.specs.Tile.{Tile}
use Rattle.steiner_topology.specs.Topology.{topology_of}
use Rattle.steiner_topology.specs.declared.point.Point.{Point}
use Rattle.layer_assign.specs.Assignments.{tile_of, tile_count, IsFlat as IsFlattened}
use Rattle.net_plan.specs.FlatPrices.{flat_price}
use Rattle.net_plan.specs.FlatTrees.{tile_under, distinct_tiles, cell_of_tile, with_point, first_tile, tree_of, IsFlatTree, HoldsTiles}
use Rattle.net_plan.specs.Orders.{order_of}
use Rattle.net_plan.specs.Prices.{price_of}
use Rattle.net_plan.proofs.FlatPriceLemmas.{flat-priced}
use Rattle.net_plan.proofs.TileLemmas.{distinct-all}

-- what follows of the answer from what holds of it
pub if-then : {A E : Type 0} {P Q : A → Type 0} (r : Result A E) → ((x : A) → P x → Q x) → IfOk r P → IfOk r Q
if-then (Ok x) then_holds p = then_holds x p
if-then (Err e) then_holds p = p

-- what holds of two things holds of the answer, where they hold of it
pub if-both : {A E : Type 0} {P Q R : A → Type 0} (r : Result A E) → ((x : A) → P x → Q x → R x) → IfOk r P → IfOk r Q → IfOk r R
if-both (Ok x) both p q = both x p q
if-both (Err e) both p q = p

pub if-three : {A E : Type 0} {P Q R S : A → Type 0} (r : Result A E) → ((x : A) → P x → Q x → R x → S x) → IfOk r P → IfOk r Q → IfOk r R → IfOk r S
if-three (Ok x) all p q r = all x p q r
if-three (Err e) all p q r = p

-- the prices of a design's capacity make its flat grid one whose wire edges all have a price
pub flat-priced_by : (d : DesignView) (c : CapacityView) (l : LoadsView) (f : Formula) (net : ℕ) (flat : Shape) → c ≡ capacity_of d → IsFrame d.frame →
    IsFlattened c.shape flat → IsFlat flat (flat_price c.shape (price_of c l f net))
flat-priced_by d c l f net flat is frame =
    let P : CapacityView → Type 0 = λ c. IsFlattened c.shape flat → IsFlat flat (flat_price c.shape (price_of c l f net)) in
    subst P (sym is) (λ flattened. flat-priced d l f net flat frame flattened)

-- a tree that grows stays on its grid
fold-shape : (flat : Shape) (price : Edge → Option ℕ) (points : List Point) (order : List ℕ) (t : TreeView) →
    (fold (with_point flat price points) t order).shape ≡ t.shape
fold-shape flat price points [] t = refl
fold-shape flat price points (v ∷ order) t = fold-shape flat price points order (with_point flat price points t v)

tree-shape : (flat : Shape) (price : Edge → Option ℕ) (points : List Point) → (tree_of flat price points).shape ≡ flat
tree-shape flat price points = fold-shape flat price points (order_of points) (first_tile flat points)

-- the tree of the tiles is the flat tree of the pins
pub flat-tree : (g flat : Shape) (price : Edge → Option ℕ) (pins : List ℕ) (tiles : List Tile) (t : TreeView) → IsFlattened g flat →
    tiles ≡ distinct_tiles g pins → t ≡ tree_of flat (flat_price g price) (topology_of tiles) → IsFlatTree g price pins t
flat-tree g flat price pins tiles t flattened tiles_are is =
    let shape : t.shape ≡ flat = ap (λ (u : TreeView). u.shape) is ∙ tree-shape flat (flat_price g price) (topology_of tiles) in
    record {
      flattened = subst (IsFlattened g) (sym shape) flattened;
      exact =
          is ∙ ap (λ (s : Shape). tree_of s (flat_price g price) (topology_of tiles)) (sym shape) ∙
          ap (λ (ts : List Tile). tree_of t.shape (flat_price g price) (topology_of ts)) tiles_are;
    }

-- the number of a cell's tile
tile-number : (g flat : Shape) (cell : ℕ) → IsFlattened g flat → cell < cells_of g → cell_of_tile flat (tile_under g cell) ≡ tile_of g cell
tile-number g flat cell flattened below =
    let place = place_at g cell in
    let inside = place-inside g cell below in
    let low : place.y * g.columns + place.x < g.columns * g.rows = mul-add-lt place.y g.columns place.x g.rows inside.row inside.column in
    let number : place.layer * tile_count g + (place.y * g.columns + place.x) ≡ cell =
    by-layers place.layer g.rows g.columns place.y place.x cell (number-place g cell) in
    let rest : (place.layer * tile_count g + (place.y * g.columns + place.x)) % tile_count g ≡ place.y * g.columns + place.x =
    mod-mul-add place.layer (tile_count g) (place.y * g.columns + place.x) (omega arith) in
    let flat_number : cell_of_tile flat (tile_under g cell) ≡ place.y * g.columns + place.x =
    ap (λ (n : ℕ). (0 * flat.rows + place.y) * n + place.x) flattened.columns ∙ on-ground flat.rows place.y g.columns place.x in
    flat_number ∙ sym rest ∙ ap (λ (n : ℕ). n % tile_count g) number
  where
    by-layers : (layer rows columns y x n : ℕ) → (layer * rows + y) * columns + x ≡ n → layer * (columns * rows) + (y * columns + x) ≡ n
    by-layers layer rows columns y x n is = omega arith

    on-ground : (rows y columns x : ℕ) → (0 * rows + y) * columns + x ≡ y * columns + x
    on-ground rows y columns x = omega arith

pub flat-tiles : (g flat : Shape) (pins : List ℕ) (tiles : List Tile) (t : TreeView) → IsFlattened g flat → All (λ pin. pin < cells_of g) pins →
    tiles ≡ distinct_tiles g pins → All (λ tile. IsTrue (holds t (cell_of_tile flat tile))) tiles → HoldsTiles g pins t
flat-tiles g flat pins tiles t flattened cells tiles_are all =
    let P : Tile → Type 0 = λ tile. IsTrue (holds t (cell_of_tile flat tile)) in
    All-both (λ pin. pin < cells_of g) (λ pin. P (tile_under g pin)) (λ pin. IsTrue (holds t (tile_of g pin)))
    (λ pin below held. ap (holds t) (sym (tile-number g flat pin flattened below)) ∙ held) pins cells
    (distinct-all g pins P (subst (All P) tiles_are all))
  where
    All-both : (P Q R : ℕ → Type 0) → ((n : ℕ) → P n → Q n → R n) → (ns : List ℕ) → All P ns → All Q ns → All R ns
    All-both P Q R both ns p q = λ k d below. both (get_or ns k d) (p k d below) (q k d below)

-- the same prices, where capacity, loads, formula and net are the same
pub same-flat_price : (c d : CapacityView) (l m : LoadsView) (f h : Formula) (net other : ℕ) → c ≡ d → l ≡ m → f ≡ h → net ≡ other →
    ◌≡◌ {A = Edge → Option ℕ} (flat_price c.shape (price_of c l f net)) (flat_price d.shape (price_of d m h other))
same-flat_price c d l m f h net other cs ls fs ns =
    ap (λ (x : CapacityView). flat_price x.shape (price_of x l f net)) cs ∙ ap (λ (x : LoadsView). flat_price d.shape (price_of d x f net)) ls ∙
    ap (λ (x : Formula). flat_price d.shape (price_of d m x net)) fs ∙ ap (λ (x : ℕ). flat_price d.shape (price_of d m h x)) ns

pub same-tree : (flat : Shape) (p q : Edge → Option ℕ) (points : List Point) (t : TreeView) → ◌≡◌ {A = Edge → Option ℕ} p q →
    t ≡ tree_of flat p points → t ≡ tree_of flat q points
same-tree flat p q points t same is = is ∙ ap (λ (price : Edge → Option ℕ). tree_of flat price points) same
