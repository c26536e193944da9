-- Tiles and edges of a flat tree, and the cells and edges over them.
use Rattle.std.proofs.Common.{◌≡◌, ℕ, suc, zero, ◌+◌, ◌*◌, ◌<◌, ◌≤◌, Bool, true, false, ◌&&◌, nat_lt, List, [], ◌∷◌, length, take, Option, Some, None, unwrap_or, slice_get, IfSome, IsTrue, refl, sym, ap, subst, ◌∙◌, arith}
use Rattle.std.proofs.lemmas.Nat.{div_below, div-mul-add, mod-mul-add, mul-add-lt}
use Rattle.std.proofs.lemmas.Bool.Decides.{nat_tests}
use Rattle.std.proofs.lemmas.Option.{none-some, same_Some}
use Rattle.std.proofs.lemmas.List.{length-take-le}
use Rattle.std.specs.Option.{option_map}
use Rattle.cost_rules.specs.Prices.{layer_of}
use Rattle.gr_base.specs.ParentEdges.{parent_edge}
use Rattle.gr_base.specs.Grid.{cells_of, number_of, IsInside, place_at, AreNeighbours, edge_of, has_edge, has_room, Joins, on_layer}
use Rattle.gr_base.specs.Trees.{TreeView, cell_at, parent_at, IsTree, AllHang}
use Rattle.gr_base.specs.declared.grid.Cell.{Cell}
use Rattle.gr_base.specs.declared.grid.Edge.{Edge}
use Rattle.gr_base.specs.declared.grid.Shape.{Shape}
use Rattle.gr_base.specs.declared.grid.Way.{Way}
use Rattle.gr_base.specs.declared.grid.Way.TheVariants.{East, North, Up}
use Rattle.gr_base.specs.declared.tree.Node.{Node}
use Rattle.gr_base.proofs.GridLemmas.{some_columns, some_rows, some_layers, number-place, place-inside, place-number, number-below, edge-low, edge-room, few_cells, edge_of-joins}
use Rattle.gr_base.proofs.TreeLemmas.{hangs-at, parent-earlier, parent-of, cell_at-take, read-cell, cell-inside, few-nodes}
use Rattle.gr_base.proofs.TreeEdges.{edge_of-self, edge_of-some, edge-at}
use Rattle.layer_assign.specs.Assignments.{IsFlat, tile_count, tile_of, level_of, cell_on, parent_of, tile_at, goes_on, may_take}

pub some_tiles : (g : Shape) → 0 < tile_count g
some_tiles g = let c = some_columns g in let r = some_rows g in let h = mul-add-lt 0 g.columns 0 g.rows r c in omega (arith, h)

-- the place of the cell over a tile
abbrev pub over : Shape → ℕ → ℕ → Cell
over flat tile layer = record { x = (place_at flat tile).x; y = (place_at flat tile).y; layer = layer }

flat-number : (x y lay fr fc c r tile layer : ℕ) → lay < 1 → fc ≡ c → fr ≡ r → (lay * fr + y) * fc + x ≡ tile → (layer * r + y) * c + x ≡ layer * (c * r) + tile
flat-number x y lay fr fc c r tile layer low columns rows is =
    let none : lay ≡ 0 = omega arith in
    let one = subst (λ (k : ℕ). (k * fr + y) * fc + x ≡ tile) none is in
    let two = subst (λ (k : ℕ). (0 * fr + y) * k + x ≡ tile) columns one in
    omega (arith, two)

pub over-number : (g flat : Shape) (tile layer : ℕ) → IsFlat g flat → tile < cells_of flat → number_of g (over flat tile layer) ≡ cell_on g tile layer
over-number g flat tile layer is inside =
    let place = place-inside flat tile inside in
    let low : (place_at flat tile).layer < 1 = let h = place.layer in let e = is.layers in omega arith in
    flat-number (place_at flat tile).x (place_at flat tile).y (place_at flat tile).layer flat.rows flat.columns g.columns g.rows tile layer low is.columns is.rows (number-place flat tile)

pub over-inside : (g flat : Shape) (tile layer : ℕ) → IsFlat g flat → tile < cells_of flat → layer < g.layers → IsInside g (over flat tile layer)
over-inside g flat tile layer is inside below =
    let place = place-inside flat tile inside in
    record {
      column = let h = place.column in let e = is.columns in omega arith;
      row = let h = place.row in let e = is.rows in omega arith;
      layer = below;
    }

pub cell_on-below : (g flat : Shape) (tile layer : ℕ) → IsFlat g flat → tile < cells_of flat → layer < g.layers → cell_on g tile layer < cells_of g
cell_on-below g flat tile layer is inside below =
    subst (λ (n : ℕ). n < cells_of g) (over-number g flat tile layer is inside) (number-below g (over flat tile layer) (over-inside g flat tile layer is inside below))

pub place-on : (g flat : Shape) (tile layer : ℕ) → IsFlat g flat → tile < cells_of flat → layer < g.layers → place_at g (cell_on g tile layer) ≡ over flat tile layer
place-on g flat tile layer is inside below =
    subst (λ (n : ℕ). place_at g n ≡ over flat tile layer) (over-number g flat tile layer is inside)
    (place-number g (over flat tile layer) (over-inside g flat tile layer is inside below))

pub flat-cells : (g flat : Shape) → IsFlat g flat → cells_of flat ≡ tile_count g
flat-cells g flat is =
    subst (λ (k : ℕ). flat.columns * flat.rows * flat.layers ≡ k * g.rows) is.columns
    (subst (λ (k : ℕ). flat.columns * flat.rows * flat.layers ≡ flat.columns * k) is.rows
    (subst (λ (k : ℕ). flat.columns * flat.rows * k ≡ flat.columns * flat.rows) (sym is.layers) (omega arith)))

room_on : (g flat : Shape) (place : Cell) (layer : ℕ) (way : Way) → IsFlat g flat → place.layer < flat.layers → IsTrue (has_room flat place way) →
    IsTrue (has_room g (record { x = place.x; y = place.y; layer = layer }) way)
room_on g flat place layer East is low room = let e = is.columns in grind (arith, nat_tests)
room_on g flat place layer North is low room = let e = is.rows in grind (arith, nat_tests)
room_on g flat place layer Up is low room = let e = is.layers in grind (arith, nat_tests)

both : (p q : Bool) → IsTrue p → IsTrue q → IsTrue (p && q)
both p q yes_p yes_q = grind (arith, nat_tests)

-- the edge over a flat edge is one of the grid's, and lies on its layer
pub on_layer-edge : (g flat : Shape) (layer : ℕ) (e : Edge) → IsFlat g flat → IsTrue (has_edge flat e) → layer < g.layers → IsTrue (has_edge g (on_layer g layer e))
on_layer-edge g flat layer e is edge below =
    let low = edge-low flat e edge in
    let place = place-inside flat e.low low in
    let P : Cell → Type 0 = λ cell. IsTrue (has_room g cell e.way) in
    both (nat_lt (cell_on g e.low layer) (cells_of g)) (has_room g (place_at g (cell_on g e.low layer)) e.way)
    (let h = cell_on-below g flat e.low layer is low below in grind (arith, nat_tests))
    (subst P (sym (place-on g flat e.low layer is low below)) (room_on g flat (place_at flat e.low) layer e.way is place.layer (edge-room flat e edge)))

pub on_layer-layer : (g flat : Shape) (layer : ℕ) (e : Edge) → IsFlat g flat → IsTrue (has_edge flat e) → layer < g.layers → layer_of g (on_layer g layer e) ≡ layer
on_layer-layer g flat layer e is edge below =
    ap (λ (cell : Cell). cell.layer) (place-on g flat e.low layer is (edge-low flat e edge) below)

-- the tile and the layer of the cell of a tile on a layer
pub tile-on : (g : Shape) (tile layer : ℕ) → tile < tile_count g → tile_of g (cell_on g tile layer) ≡ tile
tile-on g tile layer below = mod-mul-add layer (tile_count g) tile below

pub level-on : (g : Shape) (tile layer : ℕ) → tile < tile_count g → level_of g (cell_on g tile layer) ≡ layer
level-on g tile layer below = div-mul-add layer (tile_count g) tile below

pub level-below : (g : Shape) (cell : ℕ) → cell < cells_of g → level_of g cell < g.layers
level-below g cell below = div_below cell (tile_count g) g.layers (some_tiles g) (omega arith)

-- the cell and the parent of a node by number
pub tile-at : (t : TreeView) (node cell : ℕ) → cell_at t.nodes node ≡ Some cell → tile_at t node ≡ cell
tile-at t node cell is = ap (λ (o : Option ℕ). unwrap_or o 0) is

pub parent-at : (t : TreeView) (node parent : ℕ) → parent_at t.nodes node ≡ Some parent → parent_of t node ≡ parent
parent-at t node parent is = ap (λ (o : Option ℕ). unwrap_or o 0) is

-- a node of a tree
pub node-at : (nodes : List Node) (k : ℕ) → k < length nodes → (node : Node) × (slice_get nodes k ≡ Some node)
node-at [] k below = absurd (omega arith)
node-at (x ∷ xs) zero below = (x, refl)
node-at (x ∷ xs) (suc k) below = node-at xs k (omega arith)

pub read-parent : (nodes : List Node) (k : ℕ) (node : Node) → slice_get nodes k ≡ Some node → parent_at nodes k ≡ Some node.parent
read-parent nodes k node is = ap (λ (o : Option Node). option_map (λ (n : Node). n.parent) o) is

pub parent-before : (t : TreeView) (node : ℕ) → IsTree t → 0 < node → node < length t.nodes → parent_of t node < node
parent-before t node tree positive below =
    let at = node-at t.nodes node below in
    let early = parent-earlier t.shape t.nodes node at.0 tree.hanging at.1 positive in
    let e = parent-at t node at.0.parent (read-parent t.nodes node at.0 at.1) in
    omega (arith, e, early)

pub root_parent : (g : Shape) (nodes : List Node) (node : Node) → AllHang g [] nodes → slice_get nodes 0 ≡ Some node → node.parent ≡ 0
root_parent g [] node hanging is = absurd (none-some node is)
root_parent g (root ∷ others) node hanging is = subst (λ (n : Node). n.parent ≡ 0) (same_Some root node is) hanging.0.parent

-- node 0 has no edge
pub root_edge : (t : TreeView) → IsTree t → parent_edge t 0 ≡ None
root_edge t tree =
    let at = node-at t.nodes 0 tree.rooted in
    let up : parent_at t.nodes 0 ≡ Some 0 = read-parent t.nodes 0 at.0 at.1 ∙ ap (λ (k : ℕ). Some k) (root_parent t.shape t.nodes at.0 tree.hanging at.1) in
    let cell = read-cell t.nodes 0 at.0 at.1 in
    edge-at t.shape t.nodes 0 at.0.cell 0 at.0.cell cell up cell ∙ edge_of-self t.shape at.0.cell

-- the cell of a node's parent, which is a neighbour
pub parent-cell : (t : TreeView) (node : ℕ) → IsTree t → 0 < node → node < length t.nodes →
    (cell_at t.nodes (parent_of t node) ≡ Some (tile_at t (parent_of t node))) × AreNeighbours t.shape (tile_at t node) (tile_at t (parent_of t node))
parent-cell t node tree positive below =
    let at = node-at t.nodes node below in
    let hangs = hangs-at t.shape t.nodes node at.0 tree.hanging at.1 in
    let count : 0 < length (take node t.nodes) = let h = length-take-le node t.nodes (omega arith) in omega arith in
    let parent = parent-of t.shape (take node t.nodes) at.0 count hangs.parent in
    let found = cell_at-take t.nodes node at.0.parent parent.0 parent.1.0 in
    let up = parent-at t node at.0.parent (read-parent t.nodes node at.0 at.1) in
    let own = tile-at t node at.0.cell (read-cell t.nodes node at.0 at.1) in
    let P : ℕ → Type 0 = λ k. cell_at t.nodes k ≡ Some (tile_at t k) in
    let other : tile_at t at.0.parent ≡ parent.0 = tile-at t at.0.parent parent.0 found in
    let Q : ℕ → Type 0 = λ c. AreNeighbours t.shape c (tile_at t (parent_of t node)) in
    let R : ℕ → Type 0 = λ c. AreNeighbours t.shape at.0.cell c in
    let S : ℕ → Type 0 = λ k. AreNeighbours t.shape at.0.cell (tile_at t k) in (
      subst P (sym up) (found ∙ ap (λ (c : ℕ). Some c) (sym other)),
      subst Q (sym own) (subst S (sym up) (subst R (sym other) parent.1.1)),
    )

-- each other node has an edge of the flat grid
pub node_edge : (t : TreeView) (node : ℕ) → IsTree t → 0 < node → node < length t.nodes →
    parent_edge t node ≡ edge_of t.shape (tile_at t node) (tile_at t (parent_of t node))
node_edge t node tree positive below =
    let at = node-at t.nodes node below in
    let up = parent-cell t node tree positive below in
    let cell = read-cell t.nodes node at.0 at.1 in
    let own : tile_at t node ≡ at.0.cell = tile-at t node at.0.cell cell in
    let is : cell_at t.nodes node ≡ Some (tile_at t node) = cell ∙ ap (λ (c : ℕ). Some c) (sym own) in
    let parent = read-parent t.nodes node at.0 at.1 in
    let by : parent_at t.nodes node ≡ Some (parent_of t node) = parent ∙ ap (λ (k : ℕ). Some k) (sym (parent-at t node at.0.parent parent)) in
    edge-at t.shape t.nodes node (tile_at t node) (parent_of t node) (tile_at t (parent_of t node)) is by up.0

-- a tree has few nodes
pub few : (t : TreeView) → IsTree t → length t.nodes ≤ 8388608
few t tree = let most = few-nodes t.shape t.nodes tree.hanging in let cells = few_cells t.shape in omega arith

pub few_layers : (g : Shape) → g.layers ≤ 16
few_layers g = let v = g.valid in grind (arith, nat_tests)

-- the edge of a node is one of the flat grid's
pub some_edge : (t : TreeView) (node : ℕ) → IsTree t → 0 < node → node < length t.nodes → (e : Edge) × ((parent_edge t node ≡ Some e) × IsTrue (has_edge t.shape e))
some_edge t node tree positive below =
    let at = node-at t.nodes node below in
    let cell = read-cell t.nodes node at.0 at.1 in
    let own : tile_at t node ≡ at.0.cell = tile-at t node at.0.cell cell in
    let up = parent-cell t node tree positive below in
    let edge = edge_of-some t.shape (tile_at t node) (tile_at t (parent_of t node)) up.1 in
    let inside : tile_at t node < cells_of t.shape = let h = cell-inside t.shape t.nodes node at.0.cell tree.hanging cell in omega arith in
    let above = cell-inside t.shape t.nodes (parent_of t node) (tile_at t (parent_of t node)) tree.hanging up.0 in
    let joins = edge_of-joins t.shape (tile_at t node) (tile_at t (parent_of t node)) inside above in
    let P : Option Edge → Type 0 = λ o. IfSome o (λ e. Joins t.shape e (tile_at t node) (tile_at t (parent_of t node))) in
    (edge.0, (node_edge t node tree positive below ∙ edge.1, (subst P edge.1 joins).edge))

-- where every layer goes every way each edge has a layer
pub open_layers : (g : Shape) (t : TreeView) → IsTree t → (node : ℕ) → 0 < node → node < length t.nodes → (layer : ℕ) × IsTrue (may_take g (λ _ _. true) t node layer)
open_layers g t tree node later below =
    let edge = some_edge t node tree later below in
    let goes : goes_on g (λ _ _. true) 0 edge.0 ≡ true = let some = some_layers g in grind (arith, nat_tests) in
    (0, subst (λ (o : Option Edge). unwrap_or (option_map (goes_on g (λ _ _. true) 0) o) false ≡ true) (sym edge.1.0) goes)
