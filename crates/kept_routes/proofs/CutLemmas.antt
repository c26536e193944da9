-- A tree is cut to its first node and the marked ones.
use Rattle.std.proofs.Common.{◌≡◌, ◌⊎◌, ℕ, ◌+◌, ◌<◌, ◌≤◌, ◌||◌, ◌==◌, inl, inr, Bool, true, false, List, [], ◌∷◌, ◌++◌, length, get_or, set, replicate, Option, Some, None, is_some, Result, Ok, Err, IfOk, if◌then◌else◌, IsTrue, refl, sym, ap, subst, ◌∙◌, arith}
use Rattle.std.specs.List.{cons_option}
use Rattle.std.specs.Option.{option_to_list}
use Rattle.std.proofs.lemmas.Bool.{cases_eq, or_cases, eqb-true, false≢true, false_from_ne_true}
use Rattle.std.proofs.lemmas.List.{length-set, get_or-set_same, get_or-set_other, get_or-replicate, length-replicate}
use Rattle.std.proofs.lemmas.Option.{same_Some}
use Rattle.gr_base.specs.EdgeSets.{is_edge, set_of}
use Rattle.gr_base.specs.Grid.{cells_of, edge_of}
use Rattle.gr_base.specs.ParentEdges.{parent_edge}
use Rattle.gr_base.specs.Trees.{TreeView, IsTree, IsWalkTo, attached, cell_at, edges_of, holds, node_of, node_with, parent_at}
use Rattle.gr_base.specs.declared.grid.Edge.{Edge}
use Rattle.gr_base.specs.declared.grid.Shape.{Shape}
use Rattle.gr_base.specs.declared.tree.Node.{Node}
use Rattle.gr_base.proofs.General.{is-some}
use Rattle.gr_base.proofs.ParentEdgeLemmas.{parent-some}
use Rattle.gr_base.proofs.TreeDistinct.{is_edge-same}
use Rattle.gr_base.proofs.TreeEdges.{edge-at, edge_of-self, found-at, near-from}
use Rattle.gr_base.proofs.TreeGrowth.{adds-cells, adds-edges, attached-tree}
use Rattle.gr_base.proofs.TreeLemmas.{cell_at-append, cell_at-within, cell-inside, cell-only, node_with-at, root-cell, some_from}
use Rattle.kept_routes.specs.Cuts.{is_set, AreClosed, AreWanted, IsCut, IsCutTo, IsMarkedEdge}

-- the tree of the first node and of the marked ones below a number, with the numbers of its nodes
pub record IsCutBefore (t : TreeView) (marks : List Bool) (count : ℕ) (numbers : List ℕ) (now : TreeView) : Type 0 where
  pub tree : IsTree now
  pub shape : now.shape ≡ t.shape
  pub start : cell_at now.nodes 0 ≡ cell_at t.nodes 0
  pub long : length numbers ≡ length t.nodes
  pub at : (node cell : ℕ) → node < count → (node ≡ 0) ⊎ IsTrue (is_set marks node) → cell_at t.nodes node ≡ Some cell →
      cell_at now.nodes (get_or numbers node 0) ≡ Some cell
  pub held : (cell : ℕ) → IsTrue (holds now cell) → (node : ℕ) × (node < count) × (cell_at t.nodes node ≡ Some cell)
  pub edges : (e : Edge) → IsTrue (edges_of now e) → IsMarkedEdge t marks e

-- ---- the first node

pub cut-first : (t : TreeView) (marks : List Bool) (cell : ℕ) (numbers : List ℕ) (now : TreeView) → IsTree t → cell_at t.nodes 0 ≡ Some cell →
    numbers ≡ replicate (length t.nodes) 0 → now ≡ record { shape = t.shape; nodes = node_of cell 0 ∷ [] } → IsCutBefore t marks 1 numbers now
cut-first t marks cell numbers now tree first zeros is =
    subst (λ (x : TreeView). IsCutBefore t marks 1 numbers x) (sym is) (record {
      tree = record { rooted = omega arith; hanging = (record { inside = cell-inside t.shape t.nodes 0 cell tree.hanging first; fresh = refl; parent = refl }, tt) };
      shape = refl;
      start = sym first;
      long = ap (λ (ns : List ℕ). length ns) zeros ∙ length-replicate (length t.nodes) 0;
      at = λ node other below kept there.
          let zero : node ≡ 0 = omega (arith, below) in
          let number : get_or numbers node 0 ≡ 0 =
          ap (λ (ns : List ℕ). get_or ns node 0) zeros ∙ get_or-replicate (length t.nodes) node 0 0 (cell_at-within t.nodes node other there) in
          let same : cell ≡ other = same_Some cell other (sym first ∙ ap (cell_at t.nodes) (sym zero) ∙ there) in
          ap (cell_at (node_of cell 0 ∷ [])) number ∙ ap (λ (c : ℕ). Some c) same;
      held = λ other holds_it. (0, omega arith, first ∙ ap (λ (c : ℕ). Some c) (only other (cell == other) refl holds_it));
      edges = λ e has. absurd (false≢true (sym (none e) ∙ has));
    })
  where
    one : TreeView
    one = record { shape = t.shape; nodes = node_of cell 0 ∷ [] }

    only : (other : ℕ) (b : Bool) → (cell == other) ≡ b → is_some {T = ℕ} (if b then Some 0 else None) ≡ true → cell ≡ other
    only other true same holds_it = eqb-true cell other same
    only other false same holds_it = absurd (false≢true holds_it)

    none : (e : Edge) → edges_of one e ≡ false
    none e = ap (λ (o : Option Edge). set_of (cons_option o []) e) (edge_of-self t.shape cell)

-- ---- one more node

last-cell : (nodes : List Node) (node : Node) → cell_at (nodes ++ node ∷ []) (length nodes) ≡ Some node.cell
last-cell [] node = refl
last-cell (first ∷ nodes) node = last-cell nodes node

module _ (t : TreeView) (marks : List Bool) (at parent cell other : ℕ) (numbers : List ℕ) (now : TreeView) (tree : IsTree t) (long : length marks ≡ length t.nodes)
    (closed : AreClosed t marks) (behind : 0 < at) (on : is_set marks at ≡ true) (up : parent_at t.nodes at ≡ Some parent) (less : parent < at)
    (own : cell_at t.nodes at ≡ Some cell) (above : cell_at t.nodes parent ≡ Some other) (cut : IsCutBefore t marks at numbers now) where
  abbrev walk : List ℕ
  walk = cell ∷ other ∷ []

  edge : (e : Edge) × (parent_edge t at ≡ Some e)
  edge =
      let some = parent-some t at parent cell other (record { tree = tree; cell = own; parent_is = up; other = above }) in
      is-some (parent_edge t at) (some.1 behind)

  edge-is : edge_of now.shape cell other ≡ Some edge.0
  edge-is = ap (λ (g : Shape). edge_of g cell other) cut.shape ∙ sym (edge-at t.shape t.nodes at cell parent other own up above) ∙ edge.1

  pub parent-there : cell_at now.nodes (get_or numbers parent 0) ≡ Some other
  parent-there = cut.at parent other less (inr (closed at parent behind on up)) above

  fresh : holds now cell ≡ false
  fresh = false_from_ne_true (holds now cell) (λ held.
      let was = cut.held cell held in
      let same : was.0 ≡ at = same_Some was.0 at (sym (cell-only t.shape t.nodes was.0 cell tree.hanging was.2) ∙ cell-only t.shape t.nodes at cell tree.hanging own) in
      omega (arith, was.1, same))

  differ : (other == cell) ≡ false
  differ = false_from_ne_true (other == cell) (λ same.
      let is : other ≡ cell = eqb-true other cell same in
      let one : parent ≡ at =
      same_Some parent at (sym (cell-only t.shape t.nodes parent other tree.hanging above) ∙ ap (node_with t.nodes) is ∙ cell-only t.shape t.nodes at cell tree.hanging own) in
      omega (arith, one, less))

  pub walk-to : IsWalkTo now walk
  walk-to = (
    record {
      inside = subst (λ (g : Shape). cell < cells_of g) (sym cut.shape) (cell-inside t.shape t.nodes at cell tree.hanging own);
      outside = fresh;
      once = ap (λ (b : Bool). b || false) differ;
      neighbours = near-from now.shape cell other edge.0 edge-is;
    },
    found-at now.nodes (get_or numbers parent 0) other parent-there,
  )

  number-at : (node found : ℕ) → node < at + 1 → (node ≡ 0) ⊎ IsTrue (is_set marks node) → cell_at t.nodes node ≡ Some found →
      cell_at (attached now walk).nodes (get_or (set numbers at (length now.nodes)) node 0) ≡ Some found
  number-at node found below kept there = elim (cases_eq node at) [
    | inl same ↦
        let inside : at < length numbers = (let w = cell_at-within t.nodes at cell own in omega (arith, w, cut.long)) in
        let is : cell ≡ found = same_Some cell found (sym own ∙ ap (cell_at t.nodes) (sym same) ∙ there) in
        ap (λ (k : ℕ). cell_at (attached now walk).nodes (get_or (set numbers at (length now.nodes)) k 0)) same
        ∙ ap (cell_at (attached now walk).nodes) (get_or-set_same numbers at (length now.nodes) 0 inside)
        ∙ last-cell now.nodes (node_of cell _) ∙ ap (λ (c : ℕ). Some c) is
    | inr apart ↦
        ap (cell_at (attached now walk).nodes) (get_or-set_other numbers at node (length now.nodes) 0 apart)
        ∙ cell_at-append now.nodes _ (get_or numbers node 0) found (cut.at node found (omega (arith, below, apart)) kept there)
  ]

  pub cut-next : IsCutBefore t marks (at + 1) (set numbers at (length now.nodes)) (attached now walk)
  cut-next = record {
    tree = attached-tree now walk cut.tree walk-to;
    shape = cut.shape;
    start =
        let root = root-cell now.nodes cut.tree.rooted in
        cell_at-append now.nodes _ 0 root.0 root.1 ∙ sym root.1 ∙ cut.start;
    long = length-set numbers at (length now.nodes) ∙ cut.long;
    at = number-at;
    held = λ c held. elim (or_cases (holds now c) ((cell == c) || ((other == c) || false)) (sym (adds-cells now walk walk-to c) ∙ held)) [
      | inl old ↦ (let was = cut.held c old in (was.0, omega (arith, was.1), was.2))
      | inr new ↦ elim (or_cases (cell == c) ((other == c) || false) new) [
        | inl here ↦ (at, omega arith, own ∙ ap (λ (x : ℕ). Some x) (eqb-true cell c here))
        | inr rest ↦ elim (or_cases (other == c) false rest) [
          | inl there ↦ (parent, omega (arith, less), above ∙ ap (λ (x : ℕ). Some x) (eqb-true other c there))
          | inr none ↦ absurd (false≢true none)
        ]
      ]
    ];
    edges = λ e has.
        let now_is : edges_of (attached now walk) e ≡ (edges_of now e || (is_edge e edge.0 || false)) =
        adds-edges now walk cut.tree walk-to e ∙ ap (λ (o : Option Edge). edges_of now e || set_of (option_to_list o ++ []) e) edge-is in
        elim (or_cases (edges_of now e) (is_edge e edge.0 || false) (sym now_is ∙ has)) [
          | inl old ↦ cut.edges e old
          | inr new ↦ elim (or_cases (is_edge e edge.0) false new) [
            | inl same ↦
                record { node = at; behind = behind; edge = edge.1 ∙ ap (λ (x : Edge). Some x) (sym (is_edge-same e edge.0 same)); marked = on }
            | inr none ↦ absurd (false≢true none)
          ]
        ];
  }

-- a node that isn't marked
pub cut-skip : (t : TreeView) (marks : List Bool) (at : ℕ) (numbers : List ℕ) (now : TreeView) → 0 < at → is_set marks at ≡ false →
    IsCutBefore t marks at numbers now → IsCutBefore t marks (at + 1) numbers now
cut-skip t marks at numbers now behind off cut = record {
  tree = cut.tree;
  shape = cut.shape;
  start = cut.start;
  long = cut.long;
  at = λ node cell below kept there. elim (cases_eq node at) [
    | inl same ↦ elim kept [
      | inl zero ↦ absurd (omega (arith, same, zero, behind))
      | inr on ↦ absurd (false≢true (sym off ∙ ap (is_set marks) (sym same) ∙ on))
    ]
    | inr apart ↦ cut.at node cell (omega (arith, below, apart)) kept there
  ];
  held = λ cell held. (let was = cut.held cell held in (was.0, omega (arith, was.1), was.2));
  edges = cut.edges;
}

-- ---- all nodes

pub cut-all : (t : TreeView) (marks : List Bool) (count : ℕ) (numbers : List ℕ) (now : TreeView) → length t.nodes ≤ count →
    IsCutBefore t marks count numbers now → IsCutTo t marks now
cut-all t marks count numbers now past cut = record {
  tree = cut.tree;
  shape = cut.shape;
  start = cut.start;
  held = λ node cell kept there.
      let below = cell_at-within t.nodes node cell there in
      found-at now.nodes (get_or numbers node 0) cell (cut.at node cell (omega (arith, below, past)) kept there);
  edges = cut.edges;
}

-- where the nodes on ways to pins are marked
pub cut-pins : (t : TreeView) (pins : List ℕ) (marks : List Bool) (now : TreeView) → AreWanted t pins marks → IsCutTo t marks now → IsCut t pins now
cut-pins t pins marks now wanted cut = record {
  tree = cut.tree;
  shape = cut.shape;
  start = cut.start;
  held = λ pin among held.
      let found = some_from (node_with t.nodes pin) held in
      cut.held found.0 pin (inr (wanted.all pin found.0 among found.1)) (node_with-at t.nodes pin found.0 found.1);
  edges = λ e has.
      let of = cut.edges e has in
      record { node = of.node; behind = of.behind; edge = of.edge; wanted = wanted.only of.node of.marked };
}

pub cut-pins-ok : {E : Type 0} (t : TreeView) (pins : List ℕ) (marks read : List Bool) (r : Result TreeView E) → read ≡ marks → AreWanted t pins marks →
    IfOk r (IsCutTo t read) → IfOk r (IsCut t pins)
cut-pins-ok t pins marks read (Err e) is wanted cut = tt
cut-pins-ok t pins marks read (Ok now) is wanted cut = cut-pins t pins marks now wanted (subst (λ (bs : List Bool). IsCutTo t bs now) is cut)
