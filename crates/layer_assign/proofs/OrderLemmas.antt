-- Trees that are raised node by node in an order.
use Rattle.std.proofs.Common.{◌≡◌, ℕ, zero, suc, ◌+◌, ◌-◌, ◌<◌, ◌≤◌, true, false, List, length, Option, Some, None, unwrap_or, slice_index, if◌then◌else◌, refl, sym, ap, ◌∙◌, arith}
use Rattle.gr_base.proofs.TreeLemmas.{node_with-at, cell_at-within}
use Rattle.gr_base.specs.Trees.{TreeView, IsTree, holds, node_with}
use Rattle.gr_base.specs.declared.grid.Shape.{Shape}
use Rattle.layer_assign.specs.declared.span.Span.{Span}
use Rattle.layer_assign.specs.Spans.{span_in, span_of}
use Rattle.layer_assign.specs.Assignments.{cell_on, tile_of, tile_at, parent_of, met}
use Rattle.layer_assign.specs.NodeOrder.{hung_on, rising, sinking, entering, visiting, climbing, filled, filling, planted, raised_from, met_span, raised_tree}
use Rattle.layer_assign.specs.Raising.{IsIn, HoldEdges}
use Rattle.layer_assign.proofs.FlatLemmas.{parent-before}

-- a cell hung on another, by the names of both
pub hung-named : (old new : TreeView) (cell on up at : ℕ) → new ≡ hung_on old cell on → cell ≡ up → on ≡ at → new ≡ hung_on old up at
hung-named old new cell on up at hung first second =
    hung ∙ ap (λ (c : ℕ). hung_on old c on) first ∙ ap (λ (c : ℕ). hung_on old up c) second

pub rising-next : (g : Shape) (tile layer n k : ℕ) (old new : TreeView) → k ≡ suc n →
    new ≡ hung_on old (cell_on g tile (layer + 1)) (cell_on g tile layer) → rising g tile (layer + 1) n new ≡ rising g tile layer k old
rising-next g tile layer n k old new count hung =
    ap (rising g tile (layer + 1) n) hung ∙ ap (λ (m : ℕ). rising g tile layer m old) (sym count)

pub rising-end : (g : Shape) (tile layer k : ℕ) (t : TreeView) → k ≡ 0 → t ≡ rising g tile layer k t
rising-end g tile layer k t none = ap (λ (m : ℕ). rising g tile layer m t) (sym none)

pub sinking-next : (g : Shape) (tile low n k layer : ℕ) (old new : TreeView) → k ≡ suc n → layer ≡ low + n →
    new ≡ hung_on old (cell_on g tile layer) (cell_on g tile (layer + 1)) → sinking g tile low n new ≡ sinking g tile low k old
sinking-next g tile low n k layer old new count is hung =
    ap (sinking g tile low n) (hung ∙ ap (λ (l : ℕ). hung_on old (cell_on g tile l) (cell_on g tile (l + 1))) is)
    ∙ ap (λ (m : ℕ). sinking g tile low m old) (sym count)

pub sinking-end : (g : Shape) (tile low k : ℕ) (t : TreeView) → k ≡ 0 → t ≡ sinking g tile low k t
sinking-end g tile low k t none = ap (λ (m : ℕ). sinking g tile low m t) (sym none)

-- a tile that is entered, by the names of what leads there
pub visited-named : (g : Shape) (t : TreeView) (a : ℕ → ℕ) (spans : ℕ → Span) (old new : TreeView) (edge from to at_from at_to at_layer : ℕ) (s : Span) →
    new ≡ entering g at_from at_to at_layer s old → at_layer ≡ a edge → tile_at t to ≡ at_to → tile_at t from ≡ at_from → s ≡ spans to →
    new ≡ visiting g t a spans edge from to old
visited-named g t a spans old new edge from to at_from at_to at_layer s entered layer_is to_is from_is span_is =
    entered
    ∙ ap (λ (v : ℕ). entering g v at_to at_layer s old) (sym from_is)
    ∙ ap (λ (u : ℕ). entering g (tile_at t from) u at_layer s old) (sym to_is)
    ∙ ap (λ (l : ℕ). entering g (tile_at t from) (tile_at t to) l s old) layer_is
    ∙ ap (λ (r : Span). entering g (tile_at t from) (tile_at t to) (a edge) r old) span_is

-- how many ancestors are looked at doesn't matter, where there are enough
pub climbing-most : (g : Shape) (flat : TreeView) (a : ℕ → ℕ) (spans : ℕ → Span) (n m node : ℕ) (t : TreeView) → IsTree flat → node < length flat.nodes → node ≤ n → node ≤ m →
    climbing g flat a spans n node t ≡ climbing g flat a spans m node t
climbing-most g flat a spans zero zero node t tree below first second = refl
climbing-most g flat a spans zero (suc m) node t tree below first second =
    let none : node ≡ 0 = omega arith in
    sym (ap (λ (u : ℕ). climbing g flat a spans (suc m) u t) none)
climbing-most g flat a spans (suc n) zero node t tree below first second =
    let none : node ≡ 0 = omega arith in
    ap (λ (u : ℕ). climbing g flat a spans (suc n) u t) none
climbing-most g flat a spans (suc n) (suc m) zero t tree below first second = refl
climbing-most g flat a spans (suc n) (suc m) (suc k) t tree below first second =
    let before = parent-before flat (suc k) tree (omega arith) below in
    climbing-most g flat a spans n m (parent_of flat (suc k)) (visiting g flat a spans (suc k) (suc k) (parent_of flat (suc k)) t) tree (omega arith) (omega arith) (omega arith)

pub climbing-next : (g : Shape) (flat : TreeView) (a : ℕ → ℕ) (spans : ℕ → Span) (node parent : ℕ) (old new : TreeView) → IsTree flat → 0 < node → node < length flat.nodes →
    parent_of flat node ≡ parent → new ≡ visiting g flat a spans node node parent old →
    climbing g flat a spans parent parent new ≡ climbing g flat a spans node node old
climbing-next g flat a spans zero parent old new tree later below is visited = absurd (omega arith)
climbing-next g flat a spans (suc k) parent old new tree later below is visited =
    let before = parent-before flat (suc k) tree later below in
    climbing-most g flat a spans parent k parent new tree (omega arith) (omega arith) (omega arith)
    ∙ ap (climbing g flat a spans k parent) visited
    ∙ ap (λ (p : ℕ). climbing g flat a spans k p (visiting g flat a spans (suc k) (suc k) p old)) (sym is)

pub climbing-end : (g : Shape) (flat : TreeView) (a : ℕ → ℕ) (spans : ℕ → Span) (node : ℕ) (t : TreeView) → node ≡ 0 → t ≡ climbing g flat a spans node node t
climbing-end g flat a spans node t none = ap (λ (u : ℕ). climbing g flat a spans u u t) (sym none)

-- a node whose tile is in, and one whose tile isn't
pub filling-kept : (g : Shape) (flat : TreeView) (a : ℕ → ℕ) (spans : ℕ → Span) (node n k : ℕ) (t : TreeView) → k ≡ suc n → holds t (cell_on g (tile_at flat node) (spans node).low) ≡ true →
    filling g flat a spans n (node + 1) t ≡ filling g flat a spans k node t
filling-kept g flat a spans node n k t count held =
    let kept : filled g flat a spans node t ≡ t = rw held refl in
    ap (filling g flat a spans n (node + 1)) (sym kept) ∙ ap (λ (m : ℕ). filling g flat a spans m node t) (sym count)

pub filling-next : (g : Shape) (flat : TreeView) (a : ℕ → ℕ) (spans : ℕ → Span) (node parent n k : ℕ) (old new : TreeView) → k ≡ suc n →
    holds old (cell_on g (tile_at flat node) (spans node).low) ≡ false → parent_of flat node ≡ parent → new ≡ visiting g flat a spans node parent node old →
    filling g flat a spans n (node + 1) new ≡ filling g flat a spans k node old
filling-next g flat a spans node parent n k old new count free is visited =
    let more : filled g flat a spans node old ≡ visiting g flat a spans node (parent_of flat node) node old = rw free refl in
    ap (filling g flat a spans n (node + 1)) (visited ∙ ap (λ (p : ℕ). visiting g flat a spans node p node old) (sym is) ∙ sym more)
    ∙ ap (λ (m : ℕ). filling g flat a spans m node old) (sym count)

pub filling-end : (g : Shape) (flat : TreeView) (a : ℕ → ℕ) (spans : ℕ → Span) (node k : ℕ) (t : TreeView) → k ≡ 0 → t ≡ filling g flat a spans k node t
filling-end g flat a spans node k t none = ap (λ (m : ℕ). filling g flat a spans m node t) (sym none)

-- layers and spans that are the same at each node
pub record AreSameAt (flat : TreeView) (a b : ℕ → ℕ) (s r : ℕ → Span) : Type 0 where
  pub layers : (node : ℕ) → 0 < node → node < length flat.nodes → a node ≡ b node
  pub spans : (node : ℕ) → node < length flat.nodes → s node ≡ r node

visiting-same : (g : Shape) (flat : TreeView) (a b : ℕ → ℕ) (s r : ℕ → Span) (edge from to : ℕ) (t : TreeView) → a edge ≡ b edge → s to ≡ r to →
    visiting g flat a s edge from to t ≡ visiting g flat b r edge from to t
visiting-same g flat a b s r edge from to t layer span =
    ap (λ (l : ℕ). entering g (tile_at flat from) (tile_at flat to) l (s to) t) layer
    ∙ ap (λ (x : Span). entering g (tile_at flat from) (tile_at flat to) (b edge) x t) span

climbing-same : (g : Shape) (flat : TreeView) (a b : ℕ → ℕ) (s r : ℕ → Span) (most node : ℕ) (t : TreeView) → IsTree flat → AreSameAt flat a b s r → node < length flat.nodes →
    climbing g flat a s most node t ≡ climbing g flat b r most node t
climbing-same g flat a b s r zero node t tree same below = refl
climbing-same g flat a b s r (suc most) zero t tree same below = refl
climbing-same g flat a b s r (suc most) (suc k) t tree same below =
    let node = suc k in
    let up = parent_of flat node in
    let before = parent-before flat node tree (omega arith) below in
    climbing-same g flat a b s r most up (visiting g flat a s node node up t) tree same (omega arith)
    ∙ ap (climbing g flat b r most up) (visiting-same g flat a b s r node node up t (same.layers node (omega arith) below) (same.spans up (omega arith)))

filled-same : (g : Shape) (flat : TreeView) (a b : ℕ → ℕ) (s r : ℕ → Span) (node : ℕ) (t : TreeView) → AreSameAt flat a b s r → 0 < node → node < length flat.nodes →
    filled g flat a s node t ≡ filled g flat b r node t
filled-same g flat a b s r node t same later below =
    let up = parent_of flat node in
    ap (λ (x : TreeView). if holds t (cell_on g (tile_at flat node) (s node).low) then t else x)
    (visiting-same g flat a b s r node up node t (same.layers node later below) (same.spans node below))
    ∙ ap (λ (x : Span). if holds t (cell_on g (tile_at flat node) x.low) then t else visiting g flat b r node up node t) (same.spans node below)

filling-same : (g : Shape) (flat : TreeView) (a b : ℕ → ℕ) (s r : ℕ → Span) (n node : ℕ) (t : TreeView) → AreSameAt flat a b s r → 0 < node → node + n ≤ length flat.nodes →
    filling g flat a s n node t ≡ filling g flat b r n node t
filling-same g flat a b s r zero node t same later within = refl
filling-same g flat a b s r (suc n) node t same later within =
    filling-same g flat a b s r n (node + 1) (filled g flat a s node t) same (omega arith) (omega arith)
    ∙ ap (filling g flat b r n (node + 1)) (filled-same g flat a b s r node t same later (omega arith))

-- the node from which a tree is raised is one of the flat tree
start-in : (t : TreeView) (tile : ℕ) → 0 < length t.nodes → unwrap_or (node_with t.nodes tile) 0 < length t.nodes
start-in t tile some = by_node (node_with t.nodes tile) refl
  where
    by_node : (o : Option ℕ) → node_with t.nodes tile ≡ o → unwrap_or (node_with t.nodes tile) 0 < length t.nodes
    by_node (Some k) is =
        let below = cell_at-within t.nodes k tile (node_with-at t.nodes tile k is) in
        let e : unwrap_or (node_with t.nodes tile) 0 ≡ k = ap (λ (o : Option ℕ). unwrap_or o 0) is in
        omega (arith, e, below)
    by_node None is =
        let e : unwrap_or (node_with t.nodes tile) 0 ≡ 0 = ap (λ (o : Option ℕ). unwrap_or o 0) is in
        omega (arith, e, some)

pub raised-same : (g : Shape) (flat : TreeView) (a b : ℕ → ℕ) (s r : ℕ → Span) (cell : ℕ) → IsTree flat → AreSameAt flat a b s r →
    raised_from g flat a s cell ≡ raised_from g flat b r cell
raised-same g flat a b s r cell tree same =
    let start = unwrap_or (node_with flat.nodes (tile_of g cell)) 0 in
    let some = tree.rooted in
    let start_in = start-in flat (tile_of g cell) some in
    let n = length flat.nodes - 1 in
    filling-same g flat a b s r n 1 (climbing g flat a s start start (planted g cell (s start))) same (omega arith) (omega arith)
    ∙ ap (filling g flat b r n 1)
    (climbing-same g flat a b s r start start (planted g cell (s start)) tree same start_in
    ∙ ap (λ (x : Span). climbing g flat b r start start (planted g cell x)) (same.spans start start_in))

-- a tile that is visited, on the grid as it is named
pub visited-at : (g h : Shape) (t : TreeView) (a : ℕ → ℕ) (spans : ℕ → Span) (edge from to : ℕ) (old new : TreeView) → h ≡ g → new ≡ visiting h t a spans edge from to old →
    new ≡ visiting g t a spans edge from to old
visited-at g h t a spans edge from to old new same visited = visited ∙ ap (λ (s : Shape). visiting s t a spans edge from to old) same

pub low-in : (g : Shape) (t : TreeView) (a : ℕ → ℕ) (spans : ℕ → Span) (node : ℕ) → HoldEdges g t a spans → node < length t.nodes → IsIn (spans node) (spans node).low
low-in g t a spans node hold below = record { low = omega arith; high = (hold.within node below).ordered }

-- the three parts, one after another
pub raised-by : (g : Shape) (t : TreeView) (a : ℕ → ℕ) (spans : ℕ → Span) (cell start : ℕ) (span : Span) (first second third : TreeView) → node_with t.nodes (tile_of g cell) ≡ Some start →
    span ≡ spans start → first ≡ planted g cell span → first.shape ≡ g → second ≡ climbing first.shape t a spans start start first → second.shape ≡ first.shape →
    third ≡ filling second.shape t a spans (length t.nodes - 1) 1 second → third ≡ raised_from g t a spans cell
raised-by g t a spans cell start span first second third found is planted_is shape climbed kept filled_is =
    let n = length t.nodes - 1 in
    let rest : ℕ → TreeView = λ at. filling g t a spans n 1 (climbing g t a spans at at (planted g cell (spans at))) in
    filled_is
    ∙ ap (λ (s : Shape). filling s t a spans n 1 second) (kept ∙ shape)
    ∙ ap (filling g t a spans n 1)
    (climbed ∙ ap (λ (s : Shape). climbing s t a spans start start first) shape
    ∙ ap (climbing g t a spans start start) (planted_is ∙ ap (planted g cell) is))
    ∙ ap rest (sym (ap (λ (o : Option ℕ). unwrap_or o 0) found))

-- the tree by the spans of the layers that meet in each tile
pub raised-met : (g : Shape) (t : TreeView) (pins : List ℕ) (a : ℕ → ℕ) (spans : List Span) (r : TreeView) → IsTree t →
    ((node : ℕ) → node < length t.nodes → Some (span_in spans node) ≡ span_of (met g t pins a node)) →
    r ≡ raised_from g t a (span_in spans) (slice_index pins 0) → r ≡ raised_tree g t pins a
raised-met g t pins a spans r tree are raised =
    raised ∙ raised-same g t a a (span_in spans) (met_span g t pins a) (slice_index pins 0) tree (record {
      layers = λ node later inside. refl;
      spans = λ node inside. ap (λ (o : Option Span). unwrap_or o (record { low = 0; high = 0 })) (are node inside);
    })

-- layers that meet alike give the same tree
pub tree-same : (g : Shape) (t : TreeView) (pins : List ℕ) (a b : ℕ → ℕ) → IsTree t → ((node : ℕ) → 0 < node → node < length t.nodes → a node ≡ b node) →
    ((node : ℕ) → met g t pins a node ≡ met g t pins b node) → raised_tree g t pins a ≡ raised_tree g t pins b
tree-same g t pins a b tree layers meet =
    raised-same g t a b (met_span g t pins a) (met_span g t pins b) (slice_index pins 0) tree (record {
      layers = layers;
      spans = λ node inside. ap (λ (xs : List ℕ). unwrap_or (span_of xs) (record { low = 0; high = 0 })) (meet node);
    })
