use Rattle.std.proofs.Common.{◌≡◌, ◌≢◌, ℕ, zero, suc, ◌+◌, ◌-◌, ◌*◌, ◌%◌, ◌<◌, inl, inr, true, false, List, length, replicate, set, get_or, Option, Some, refl, sym, ap, subst, ◌∙◌, arith}
use Rattle.std.proofs.lemmas.Bool.{cases_eq, both_ways}
use Rattle.std.proofs.lemmas.List.{length-replicate}
use Rattle.std.proofs.lemmas.Nat.{mod_below}
use Rattle.gr_base.specs.Trees.{TreeView, cell_at, node_with, IsTree}
use Rattle.gr_base.specs.declared.grid.Shape.{Shape}
use Rattle.gr_base.proofs.TreeLemmas.{node_with-at, cell_at-within}
use Rattle.layer_assign.specs.declared.span.Span.{Span}
use Rattle.layer_assign.specs.Spans.{span_in}
use Rattle.layer_assign.specs.Assignments.{IsFlat, tile_count, tile_of, tile_at, cell_on}
use Rattle.layer_assign.specs.Raising.{end_of, is_done, IsEarly, IsIn, IsColumn, IsRaised, AreEnds}
use Rattle.layer_assign.proofs.FlatLemmas.{few, few_layers, some_tiles, tile-at}
use Rattle.layer_assign.proofs.ColumnLemmas.{column-in, held-early}
use Rattle.layer_assign.proofs.RaisingLemmas.{end-set, end-kept, done-set, done-kept}
use Rattle.layer_assign.proofs.SpanLemmas.{raised-as, raised-column}
use Rattle.layer_assign.proofs.OrderLemmas.{raised-by}
use Rattle.layer_assign.proofs.raised.raise_from.Goals as goal

tiles-at : (g : Shape) (columns rows : ℕ) → columns ≡ g.columns → rows ≡ g.rows → columns * rows ≡ tile_count g
tiles-at g columns rows first second = ap (λ (n : ℕ). n * rows) first ∙ ap (λ (n : ℕ). g.columns * n) second

none_done : (n u : ℕ) → is_done (replicate n 0) u ≡ false
none_done zero u = refl
none_done (suc n) zero = refl
none_done (suc n) (suc u) = none_done n u

no_ends : (n u : ℕ) → end_of (replicate n 0) u ≡ 0
no_ends zero u = refl
no_ends (suc n) zero = refl
no_ends (suc n) (suc u) = no_ends n u

-- only the first node is done
first_done : (ends : List ℕ) (n start count : ℕ) → ends ≡ replicate n 0 → start < length ends → 0 < count →
    (is_done (set ends start count) start ≡ true) × ((u : ℕ) → u ≢ start → is_done (set ends start count) u ≡ false)
first_done ends n start count is below some = (
  done-set ends start count below some,
  λ u other. done-kept ends start u count other ∙ ap (λ (xs : List ℕ). is_done xs u) is ∙ none_done n u,
)

-- and its cells are all of the tree's
first_ends : (g : Shape) (t : TreeView) (spans : ℕ → Span) (ends : List ℕ) (n start cell : ℕ) (r : TreeView) → IsFlat g t.shape → IsTree t → ends ≡ replicate n 0 → start < length ends →
    start < length t.nodes → node_with t.nodes (tile_of g cell) ≡ Some start → IsColumn g cell (spans start) r → AreEnds g t spans (set ends start (length r.nodes)) r
first_ends g t spans ends n start cell r flat tree is below inside found column = record {
  most = λ node.
      elim (cases_eq node start) [
        | inl same ↦ let e = ap (λ (k : ℕ). end_of (set ends start (length r.nodes)) k) same ∙ end-set ends start (length r.nodes) below in omega (arith, e)
        | inr other ↦ let e = end-kept ends start node (length r.nodes) other ∙ ap (λ (xs : List ℕ). end_of xs node) is ∙ no_ends n node in omega (arith, e)
      ];
  early = λ node layer lt done inside_span.
      elim (cases_eq node start) [
        | inl same ↦
            let end : length r.nodes ≡ end_of (set ends start (length r.nodes)) node =
            sym (ap (λ (k : ℕ). end_of (set ends start (length r.nodes)) k) same ∙ end-set ends start (length r.nodes) below) in
            let here = subst (λ (k : ℕ). IsIn (spans k) layer) same inside_span in
            let high = here.high in
            let tile : tile_of g cell ≡ tile_at t node =
            sym (ap (λ (k : ℕ). tile_at t k) same ∙ tile-at t start (tile_of g cell) (node_with-at t.nodes (tile_of g cell) start found)) in
            let within = column-in g (tile_of g cell) (spans start).low ((spans start).high + 1) layer (mod_below cell (tile_count g) (some_tiles g)) here.low (omega arith) in
            let held = column.cells_are (cell_on g (tile_of g cell) layer) ∙ within in
            subst (λ (k : ℕ). IsEarly r k (cell_on g (tile_at t node) layer)) end
            (subst (λ (k : ℕ). IsEarly r (length r.nodes) (cell_on g k layer)) tile (held-early r (cell_on g (tile_of g cell) layer) (length r.nodes) held refl))
        | inr other ↦
            let none : is_done (set ends start (length r.nodes)) node ≡ false =
            done-kept ends start node (length r.nodes) other ∙ ap (λ (xs : List ℕ). is_done xs node) is ∙ none_done n node in
            absurd (both_ways _ none done)
      ];
}

-- what the fields of the function's values say together
record Planted (g : Shape) (t : TreeView) (a : ℕ → ℕ) (spans : ℕ → Span) (cell : ℕ) (ends : List ℕ) (start : ℕ) (r : TreeView) : Type 0 where
  only : (u : ℕ) → u ≢ start → is_done ends u ≡ false
  first : is_done ends start ≡ true
  raised : IsRaised g t a spans (Some cell) (is_done ends) start r
  are_ends : AreEnds g t spans ends r

planted_all : (g : Shape) (t : TreeView) (a : ℕ → ℕ) (spans : ℕ → Span) (cell : ℕ) (ends : List ℕ) (n start count : ℕ) (r : TreeView) → IsFlat g t.shape → IsTree t → ends ≡ replicate n 0 →
    n ≡ length t.nodes → node_with t.nodes (tile_of g cell) ≡ Some start → IsColumn g cell (spans start) r → count ≡ length r.nodes → 0 < count →
    Planted g t a spans cell (set ends start count) start r
planted_all g t a spans cell ends n start count r flat tree is size found column long some =
    let below = cell_at-within t.nodes start (tile_of g cell) (node_with-at t.nodes (tile_of g cell) start found) in
    let fits : length ends ≡ n = ap (λ (xs : List ℕ). length xs) is ∙ length-replicate n 0 in
    let marks = first_done ends n start count is (omega arith) some in
    record {
      only = marks.1;
      first = marks.0;
      raised = raised-column g t a spans cell start (is_done (set ends start count)) r found marks.0 marks.1 column;
      are_ends =
          subst (λ (k : ℕ). AreEnds g t spans (set ends start k) r) (sym long)
          (first_ends g t spans ends n start cell r flat tree is (omega arith) below found column);
    }

start_inside : (t : TreeView) (g : Shape) (cell start : ℕ) → node_with t.nodes (tile_of g cell) ≡ Some start → start < length t.nodes
start_inside t g cell start found = cell_at-within t.nodes start (tile_of g cell) (node_with-at t.nodes (tile_of g cell) start found)

start_found : (t : TreeView) (g : Shape) (cell start columns rows : ℕ) (o : Option ℕ) → columns ≡ g.columns → rows ≡ g.rows → o ≡ node_with t.nodes (cell % (columns * rows)) → o ≡ Some start →
    node_with t.nodes (tile_of g cell) ≡ Some start
start_found t g cell start columns rows o first second is found =
    ap (λ (n : ℕ). node_with t.nodes (cell % n)) (sym (tiles-at g columns rows first second)) ∙ sym is ∙ found

planted_by : (g : Shape) (t : TreeView) (a : ℕ → ℕ) (spans : ℕ → Span) (cell columns rows : ℕ) (o : Option ℕ) (start : ℕ) (span : Span) (r : TreeView) (ends : List ℕ) (n count : ℕ) → IsFlat g t.shape →
    IsTree t → columns ≡ g.columns → rows ≡ g.rows → o ≡ node_with t.nodes (cell % (columns * rows)) → o ≡ Some start → span ≡ spans start → IsColumn g cell span r → ends ≡ replicate n 0 →
    n ≡ length t.nodes → count ≡ length r.nodes → 0 < length r.nodes → Planted g t a spans cell (set ends start count) start r
planted_by g t a spans cell columns rows o start span r ends n count flat tree first second is found span_is column none size long some =
    planted_all g t a spans cell ends n start count r flat tree none size (start_found t g cell start columns rows o first second is found)
    (subst (λ (s : Span). IsColumn g cell s r) span_is column) long (omega arith)

pub span_of_node-requires : goal.span_of_node-requires
span_of_node-requires c =
    let found = start_found c.args.flat.now c.args.shape c.args.cell c.unwrap-start.result c.columns.result c.rows.result c.node_at.result c.columns.ensures.columns c.rows.ensures.rows c.node_at.ensures.node c.unwrap-start.ensures in
    let below = start_inside c.args.flat.now c.args.shape c.args.cell c.unwrap-start.result found in
    let count = c.requires.count in
    omega arith

pub cells_in-room-requires-clause-few : goal.cells_in-room-requires-clause-few
cells_in-room-requires-clause-few c = let most = few c.args.flat.now c.len.ensures.tree in let count = c.requires.count in omega arith

pub cells_in-room-requires-clause-spans : goal.cells_in-room-requires-clause-spans
cells_in-room-requires-clause-spans c = λ node lt.
    let count = c.requires.count in
    let layers = few_layers c.args.shape in
    let within = c.requires.spans.within node (omega arith) in
    let high = within.high in
    record { ordered = within.ordered; high = omega arith }

pub plant-requires-clause-high : goal.plant-requires-clause-high
plant-requires-clause-high c =
    let found = start_found c.args.flat.now c.args.shape c.args.cell c.unwrap-start.result c.columns.result c.rows.result c.node_at.result c.columns.ensures.columns c.rows.ensures.rows c.node_at.ensures.node c.unwrap-start.ensures in
    let below = start_inside c.args.flat.now c.args.shape c.args.cell c.unwrap-start.result found in
    subst (λ (s : Span). s.high < c.args.shape.layers) (sym c.span_of_node.ensures) (c.requires.spans.within c.unwrap-start.result below).high

pub index_mut-requires : goal.index_mut-requires
index_mut-requires c =
    let found = start_found c.args.flat.now c.args.shape c.args.cell c.unwrap-start.result c.columns.result c.rows.result c.node_at.result c.columns.ensures.columns c.rows.ensures.rows c.node_at.ensures.node c.unwrap-start.ensures in
    let below = start_inside c.args.flat.now c.args.shape c.args.cell c.unwrap-start.result found in
    let fits : length c.refill.new.list.items ≡ c.len.result = ap (λ (xs : List ℕ). length xs) c.in_ok-refill.ensures ∙ length-replicate c.len.result 0 in
    omega (arith, below, fits, c.len.ensures.len, c.refill.new.list.ok.0)

pub raise_ancestors-requires-clause-start : goal.raise_ancestors-requires-clause-start
raise_ancestors-requires-clause-start c =
    start_inside c.args.flat.now c.args.shape c.args.cell c.unwrap-start.result
    (start_found c.args.flat.now c.args.shape c.args.cell c.unwrap-start.result c.columns.result c.rows.result c.node_at.result c.columns.ensures.columns c.rows.ensures.rows c.node_at.ensures.node c.unwrap-start.ensures)

pub raise_ancestors-requires-clause-first : goal.raise_ancestors-requires-clause-first
raise_ancestors-requires-clause-first c =
    let planted =
    planted_by c.args.shape c.args.flat.now (λ node. get_or c.args.layers.now node 0) (span_in c.args.spans.now) c.args.cell c.columns.result c.rows.result c.node_at.result c.unwrap-start.result
    c.span_of_node.result c.in_ok-tree.tree c.refill.new.list.items c.len.result c.len-2.result c.requires.flat c.len.ensures.tree c.columns.ensures.columns c.rows.ensures.rows c.node_at.ensures.node
    c.unwrap-start.ensures c.span_of_node.ensures c.in_ok-tree.ensures.column c.in_ok-refill.ensures c.len.ensures.len c.len-2.ensures.len c.len-2.ensures.tree.rooted in
    planted.first

pub raise_ancestors-requires-clause-only : goal.raise_ancestors-requires-clause-only
raise_ancestors-requires-clause-only c = λ node is.
    let planted =
    planted_by c.args.shape c.args.flat.now (λ node. get_or c.args.layers.now node 0) (span_in c.args.spans.now) c.args.cell c.columns.result c.rows.result c.node_at.result c.unwrap-start.result
    c.span_of_node.result c.in_ok-tree.tree c.refill.new.list.items c.len.result c.len-2.result c.requires.flat c.len.ensures.tree c.columns.ensures.columns c.rows.ensures.rows c.node_at.ensures.node
    c.unwrap-start.ensures c.span_of_node.ensures c.in_ok-tree.ensures.column c.in_ok-refill.ensures c.len.ensures.len c.len-2.ensures.len c.len-2.ensures.tree.rooted in
    elim (cases_eq node c.unwrap-start.result) [
      | inl same ↦ omega arith
      | inr other ↦ absurd (both_ways _ (planted.only node other) is)
    ]

pub raise_ancestors-requires-clause-ends : goal.raise_ancestors-requires-clause-ends
raise_ancestors-requires-clause-ends c =
    let planted =
    planted_by c.args.shape c.args.flat.now (λ node. get_or c.args.layers.now node 0) (span_in c.args.spans.now) c.args.cell c.columns.result c.rows.result c.node_at.result c.unwrap-start.result
    c.span_of_node.result c.in_ok-tree.tree c.refill.new.list.items c.len.result c.len-2.result c.requires.flat c.len.ensures.tree c.columns.ensures.columns c.rows.ensures.rows c.node_at.ensures.node
    c.unwrap-start.ensures c.span_of_node.ensures c.in_ok-tree.ensures.column c.in_ok-refill.ensures c.len.ensures.len c.len-2.ensures.len c.len-2.ensures.tree.rooted in
    let ends = set c.refill.new.list.items c.unwrap-start.result c.len-2.result in
    subst (λ (s : Shape). AreEnds s c.args.flat.now (span_in c.args.spans.now) ends c.in_ok-tree.tree) (sym c.in_ok-tree.ensures.column.shape) planted.are_ends

pub raise_ancestors-requires-clause-raised : goal.raise_ancestors-requires-clause-raised
raise_ancestors-requires-clause-raised c =
    let planted =
    planted_by c.args.shape c.args.flat.now (λ node. get_or c.args.layers.now node 0) (span_in c.args.spans.now) c.args.cell c.columns.result c.rows.result c.node_at.result c.unwrap-start.result
    c.span_of_node.result c.in_ok-tree.tree c.refill.new.list.items c.len.result c.len-2.result c.requires.flat c.len.ensures.tree c.columns.ensures.columns c.rows.ensures.rows c.node_at.ensures.node
    c.unwrap-start.ensures c.span_of_node.ensures c.in_ok-tree.ensures.column c.in_ok-refill.ensures c.len.ensures.len c.len-2.ensures.len c.len-2.ensures.tree.rooted in
    raised-as c.in_ok-tree.tree.shape c.args.shape c.args.flat.now (λ node. get_or c.args.layers.now node 0) (span_in c.args.spans.now) (cell_at c.in_ok-tree.tree.nodes 0) (Some c.args.cell)
    (is_done (set c.refill.new.list.items c.unwrap-start.result c.len-2.result)) c.unwrap-start.result c.in_ok-tree.tree (sym c.in_ok-tree.ensures.column.shape) (sym c.in_ok-tree.ensures.column.starts) planted.raised

pub raise_others-requires-clause-ends : goal.raise_others-requires-clause-ends
raise_others-requires-clause-ends c =
    let raised = c.in_ok-raise_ancestors.ensures.raised in
    subst (λ (s : Shape). AreEnds s c.args.flat.now (span_in c.args.spans.now) c.raise_ancestors.new.ends.items c.raise_ancestors.new.tree) (sym raised.shape) c.in_ok-raise_ancestors.ensures.ends

pub raise_others-requires-clause-raised : goal.raise_others-requires-clause-raised
raise_others-requires-clause-raised c =
    let t = c.args.flat.now in
    let a : ℕ → ℕ = λ node. get_or c.args.layers.now node 0 in
    let raised : IsRaised c.in_ok-tree.tree.shape t a (span_in c.args.spans.now) (cell_at c.in_ok-tree.tree.nodes 0) (is_done c.raise_ancestors.new.ends.items) 0 c.raise_ancestors.new.tree =
    c.in_ok-raise_ancestors.ensures.raised in
    raised-as c.raise_ancestors.new.tree.shape c.in_ok-tree.tree.shape t a (span_in c.args.spans.now) (cell_at c.raise_ancestors.new.tree.nodes 0) (cell_at c.in_ok-tree.tree.nodes 0)
    (is_done c.raise_ancestors.new.ends.items) 0 c.raise_ancestors.new.tree (sym raised.shape) (sym raised.starts) raised

pub returns-clause-raised : goal.returns-clause-raised
returns-clause-raised c =
    let g = c.args.shape in
    let t = c.args.flat.now in
    let a : ℕ → ℕ = λ node. get_or c.args.layers.now node 0 in
    let column = c.in_ok-tree.ensures.column in
    let raised : IsRaised c.in_ok-tree.tree.shape t a (span_in c.args.spans.now) (cell_at c.in_ok-tree.tree.nodes 0) (is_done c.raise_ancestors.new.ends.items) 0 c.raise_ancestors.new.tree =
    c.in_ok-raise_ancestors.ensures.raised in
    raised-as g c.raise_ancestors.new.tree.shape t a (span_in c.args.spans.now) (Some c.args.cell) (cell_at c.raise_ancestors.new.tree.nodes 0)
    (λ _. true) 0 c.raise_others.new.tree (raised.shape ∙ column.shape) (raised.starts ∙ column.starts) c.in_ok-raise_others.ensures.raised

pub returns-clause-nodes : goal.returns-clause-nodes
returns-clause-nodes c =
    let g = c.args.shape in
    let t = c.args.flat.now in
    let a : ℕ → ℕ = λ node. get_or c.args.layers.now node 0 in
    let spans = span_in c.args.spans.now in
    let start = c.unwrap-start.result in
    let n = length t.nodes - 1 in
    let column = c.in_ok-tree.ensures.column in
    let raised : IsRaised c.in_ok-tree.tree.shape t a spans (cell_at c.in_ok-tree.tree.nodes 0) (is_done c.raise_ancestors.new.ends.items) 0 c.raise_ancestors.new.tree =
    c.in_ok-raise_ancestors.ensures.raised in
    let found = start_found t g c.args.cell start c.columns.result c.rows.result c.node_at.result c.columns.ensures.columns c.rows.ensures.rows c.node_at.ensures.node c.unwrap-start.ensures in
    raised-by g t a spans c.args.cell start c.span_of_node.result c.in_ok-tree.tree c.raise_ancestors.new.tree c.raise_others.new.tree found c.span_of_node.ensures c.in_ok-tree.ensures.nodes column.shape
    c.in_ok-raise_ancestors.ensures.nodes raised.shape c.in_ok-raise_others.ensures.nodes
