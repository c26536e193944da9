-- The tree of the cells that a flood reached, each hung on the one that it was reached from.
use Rattle.std.proofs.Common.{◌≡◌, ℕ, ◌+◌, ◌<◌, ◌≤◌, inl, inr, Bool, true, false, cond, ◌||◌, ◌==◌, List, [], ◌∷◌, ◌++◌, map, length, get_or, take, Option, Some, is_some, slice_get, refl, sym, ap, subst, ◌∙◌, arith}
use Rattle.std.specs.List.{list_any, cons_option}
use Rattle.std.specs.Option.{option_to_list}
use Rattle.std.proofs.lemmas.Bool.{cases_Bool, or_cases, false≢true}
use Rattle.std.proofs.lemmas.Bool.Decides.{nat_tests}
use Rattle.std.proofs.lemmas.Grind.{get_or_default_zero}
use Rattle.std.proofs.lemmas.List.{length-append, length-map, length-take-le, get_or-take, map-append, take_all, take_more}
use Rattle.std.proofs.lemmas.Option.{slice_get-get_or, slice_get-map}
use Rattle.gr_base.specs.declared.grid.Edge.{Edge}
use Rattle.gr_base.specs.declared.grid.Shape.{Shape}
use Rattle.gr_base.specs.declared.tree.Node.{Node}
use Rattle.gr_base.specs.Grid.{cells_of, edge_of}
use Rattle.gr_base.specs.EdgeSets.{Edges, is_edge, set_of}
use Rattle.gr_base.specs.Trees.{TreeView, node_of, cell_at, has_cell, node_with, holds, IsTree, IsWalkTo, attached, tree_edges, edges_of}
use Rattle.gr_base.proofs.General.{eqb-swap}
use Rattle.gr_base.proofs.TreeLemmas.{found-any}
use Rattle.gr_base.proofs.TreeEdges.{edge_of-swap, near-from, edge_of-self}
use Rattle.gr_base.proofs.TreeGrowth.{adds-edges, attached-tree, edges-hung}
use Rattle.gr_base.proofs.TreeDistinct.{is_edge-same}
use Rattle.route_evaluator.specs.Floods.{IsFlood, IsReach}
use Rattle.route_evaluator.specs.NetTrees.{StepsTo}
use Rattle.route_evaluator.specs.NumberSets.{has_number}
use Rattle.route_evaluator.proofs.ChargeSteps.{times-before}
use Rattle.route_evaluator.proofs.CountLemmas.{times, times-has}
use Rattle.route_evaluator.proofs.FloodLemmas.{joins-edge_of, has-at, flood-closed}
use Rattle.route_evaluator.proofs.PathLemmas.{joins-apart}

abbrev pub cells_in : List Node → List ℕ
cells_in nodes = map (λ (node : Node). node.cell) nodes

-- a tree of edges of the set with the first of these cells, in their order
pub record IsPlanted (g : Shape) (set : Edges) (cells : List ℕ) (count : ℕ) (t : TreeView) : Type 0 where
  pub tree : IsTree t
  pub shape : t.shape ≡ g
  pub nodes : cells_in t.nodes ≡ take count cells
  pub within : (e : Edge) → edges_of t e ≡ true → set e ≡ true
  pub size : length (tree_edges t) + 1 ≡ count

held-cells : (nodes : List Node) (cell : ℕ) → is_some (node_with nodes cell) ≡ has_number (cells_in nodes) cell
held-cells nodes cell = found-any 0 nodes cell ∙ any nodes
  where
    any : (xs : List Node) → list_any (has_cell cell) xs ≡ has_number (cells_in xs) cell
    any [] = refl
    any (x ∷ xs) =
        ap (λ (b : Bool). b || list_any (has_cell cell) xs) (eqb-swap x.cell cell) ∙ ap (λ (b : Bool). (cell == x.cell) || b) (any xs)

-- ---- the first cell

pub flood-same : (g : Shape) (set : Edges) (first : ℕ) (cells listed parents : List ℕ) → listed ≡ cells → IsFlood g set first (length cells) cells parents →
    IsFlood g set first (length listed) listed parents
flood-same g set first cells listed parents same flood = subst (λ (xs : List ℕ). IsFlood g set first (length xs) xs parents) (sym same) flood

pub planted-first : (g : Shape) (set : Edges) (first : ℕ) (cells parents : List ℕ) (t : TreeView) → IsFlood g set first (length cells) cells parents →
    t ≡ record { shape = g; nodes = node_of first 0 ∷ [] } → IsPlanted g set cells 1 t
planted-first g set first cells parents t flood is =
    let below : first < cells_of g = subst (λ (n : ℕ). n < cells_of g) flood.start (flood.inside 0 0 flood.some) in
    let tree : IsTree (record { shape = g; nodes = node_of first 0 ∷ [] }) =
    record { rooted = omega arith; hanging = (record { inside = below; fresh = refl; parent = refl }, tt) } in
    let none : tree_edges t ≡ [] =
    ap (λ (x : TreeView). tree_edges x) is ∙ ap (λ (o : Option Edge). cons_option o []) (edge_of-self g first) in
    record {
      tree = subst (λ (x : TreeView). IsTree x) (sym is) tree;
      shape = ap (λ (x : TreeView). x.shape) is;
      nodes = ap (λ (x : TreeView). cells_in x.nodes) is ∙ sym (one cells flood.some flood.start);
      within = λ e inside. absurd (false≢true (sym (ap (λ (es : List Edge). set_of es e) none) ∙ inside));
      size = ap (λ (es : List Edge). length es + 1) none;
    }
  where
    one : (xs : List ℕ) → 0 < length xs → get_or xs 0 0 ≡ first → take 1 xs ≡ first ∷ []
    one [] some start = absurd (omega arith)
    one (x ∷ xs) some start = ap (λ (n : ℕ). n ∷ take 0 xs) start ∙ ap (λ (ys : List ℕ). first ∷ ys) (nothing xs)
      where
        nothing : (ys : List ℕ) → take 0 ys ≡ []
        nothing [] = refl
        nothing (y ∷ ys) = refl

-- ---- one more cell

-- a cell isn't among those before it
fresh-cell : (cells : List ℕ) (place : ℕ) → place < length cells → times cells (get_or cells place 0) ≤ 1 → has_number (take place cells) (get_or cells place 0) ≡ false
fresh-cell cells place below once =
    let x : ℕ = get_or cells place 0 in
    let none = times-before cells place below once in
    let is = times-has (take place cells) x (omega (arith, none)) in
    elim (cases_Bool (has_number (take place cells) x)) [
      | inl has ↦ let one : cond {A = ℕ} (has_number (take place cells) x) 1 0 ≡ 1 = rw has refl in absurd (omega (arith, none, is, one))
      | inr other ↦ other
    ]

module _ (g : Shape) (set : Edges) (first : ℕ) (cells parents : List ℕ) (flood : IsFlood g set first (length cells) cells parents) (once : (n : ℕ) → times cells n ≤ 1)
    (place parent : ℕ) (some : 0 < place) (below : place < length cells) (read : parent ≡ get_or parents place parent) (t : TreeView) (planted : IsPlanted g set cells place t) where
  abbrev cell : ℕ
  cell = get_or cells place 0

  abbrev from : ℕ
  from = get_or cells parent 0

  abbrev walk : List ℕ
  walk = cell ∷ from ∷ []

  is : parent ≡ get_or parents place 0
  is = read ∙ get_or_default_zero parents place parent (omega (arith, flood.long, below))

  earlier : parent < place
  earlier = subst (λ (n : ℕ). n < place) (sym is) (flood.came place some below).earlier

  step : StepsTo g set from cell
  step = subst (λ (n : ℕ). StepsTo g set (get_or cells n 0) cell) (sym is) (flood.came place some below).step

  held-is : (c : ℕ) → holds t c ≡ has_number (take place cells) c
  held-is c = held-cells t.nodes c ∙ ap (λ (xs : List ℕ). has_number xs c) planted.nodes

  held-from : holds t from ≡ true
  held-from =
      held-is from ∙ ap (has_number (take place cells)) (sym (get_or-take place cells parent 0 earlier))
      ∙ has-at (take place cells) parent (omega (arith, length-take-le place cells (omega arith), earlier))

  edge-is : edge_of t.shape cell from ≡ Some step.edge
  edge-is = ap (λ (s : Shape). edge_of s cell from) planted.shape ∙ edge_of-swap g cell from ∙ joins-edge_of g step.edge from cell step.joins

  pub walk-to : IsWalkTo t walk
  walk-to = (
    record {
      inside = subst (λ (s : Shape). cell < cells_of s) (sym planted.shape) (flood.inside place 0 below);
      outside = held-is cell ∙ fresh-cell cells place below (once cell);
      once = let test : (from == cell) ≡ false = (let ne = joins-apart g step.edge from cell step.joins in grind (arith, nat_tests)) in rw test refl;
      neighbours = near-from t.shape cell from step.edge edge-is;
    },
    held-from,
  )

  -- the parent's place is its node
  pub parent-node : cell_at t.nodes parent ≡ Some from
  parent-node =
      sym (slice_get-map (λ (node : Node). node.cell) t.nodes parent) ∙ ap (λ (xs : List ℕ). slice_get xs parent) planted.nodes
      ∙ slice_get-get_or (take place cells) parent 0 (omega (arith, length-take-le place cells (omega arith), earlier))
      ∙ ap (λ (n : ℕ). Some n) (get_or-take place cells parent 0 earlier)

  pub planted-next : IsPlanted g set cells (place + 1) (attached t walk)
  planted-next =
      let now : (e : Edge) → edges_of (attached t walk) e ≡ (edges_of t e || (is_edge e step.edge || false)) = λ e.
      adds-edges t walk planted.tree walk-to e ∙ ap (λ (o : Option Edge). edges_of t e || set_of (option_to_list o ++ []) e) edge-is in
      record {
        tree = attached-tree t walk planted.tree walk-to;
        shape = planted.shape;
        nodes =
            map-append (λ (node : Node). node.cell) t.nodes (node_of cell _ ∷ []) ∙ ap (λ (xs : List ℕ). xs ++ cell ∷ []) planted.nodes
            ∙ sym (take_more cells place 0 below);
        within = λ e inside. elim (or_cases (edges_of t e) (is_edge e step.edge || false) (sym (now e) ∙ inside)) [
          | inl old ↦ planted.within e old
          | inr new ↦ elim (or_cases (is_edge e step.edge) false new) [
            | inl same ↦ ap set (is_edge-same e step.edge same) ∙ step.among
            | inr none ↦ absurd (false≢true none)
          ]
        ];
        size =
            let more = edges-hung t.shape t.nodes cell from planted.tree.hanging held-from in
            let one : length (tree_edges (attached t walk)) ≡ length (tree_edges t ++ step.edge ∷ []) =
            ap (λ (es : List Edge). length es) more ∙ ap (λ (o : Option Edge). length (tree_edges t ++ option_to_list o)) edge-is in
            omega (arith, one, length-append (tree_edges t) (step.edge ∷ []), planted.size);
      }

-- ---- all cells

pub planted-all : (g : Shape) (set : Edges) (first : ℕ) (cells parents : List ℕ) (t : TreeView) → IsFlood g set first (length cells) cells parents →
    IsPlanted g set cells (length cells) t → IsReach g set first cells t
planted-all g set first cells parents t flood planted =
    let all : cells_in t.nodes ≡ cells = planted.nodes ∙ take_all (length cells) cells (omega arith) in
    let held : (cell : ℕ) → holds t cell ≡ has_number cells cell = λ cell. held-cells t.nodes cell ∙ ap (λ (xs : List ℕ). has_number xs cell) all in
    record {
      tree = planted.tree;
      shape = planted.shape;
      start =
          sym (slice_get-map (λ (node : Node). node.cell) t.nodes 0) ∙ ap (λ (xs : List ℕ). slice_get xs 0) all
          ∙ slice_get-get_or cells 0 0 flood.some ∙ ap (λ (n : ℕ). Some n) flood.start;
      within = planted.within;
      count = omega (arith, planted.size, ap (λ (xs : List ℕ). length xs) all, length-map t.nodes (λ (node : Node). node.cell));
      held = held;
      closed = λ cell other has step.
          held other
          ∙ flood-closed g set first cells parents flood cell other (sym (held cell) ∙ has) (subst (λ (s : Shape). StepsTo s set cell other) planted.shape step);
    }
