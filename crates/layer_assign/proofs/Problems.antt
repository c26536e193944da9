-- The assignments of a flat tree's edges, as a problem for the elimination.
use Rattle.std.proofs.Common.{◌≡◌, ℕ, suc, zero, ◌+◌, ◌<◌, Bool, true, false, ◌&&◌, ◌==◌, nat_lt, if◌then◌else◌, inl, inr, List, [], ◌∷◌, ◌++◌, length, map, filter, fold, All, Option, Some, None, unwrap_or, IsTrue, refl, sym, ap, ◌∙◌, append_assoc, arith}
use Rattle.std.proofs.lemmas.Bool.{cases_Bool, both_ways}
use Rattle.std.proofs.lemmas.Bool.Decides.{nat_tests}
use Rattle.std.proofs.lemmas.List.{append-nil, map-append}
use Rattle.std.proofs.lemmas.List.Elements.{All-tail, All-map, All-weaker, All-filter, filter-append}
use Rattle.std.proofs.lemmas.List.Sums.{fold-append}
use Rattle.std.specs.List.{range_with_len, sum_by}
use Rattle.std.specs.Option.{option_map, option_and_then}
use Rattle.gr_base.specs.ParentEdges.{parent_edge}
use Rattle.gr_base.specs.Grid.{cells_of, on_layer}
use Rattle.gr_base.specs.Trees.{TreeView, IsTree}
use Rattle.gr_base.specs.declared.grid.Edge.{Edge}
use Rattle.gr_base.specs.declared.grid.Shape.{Shape}
use Rattle.gr_base.specs.declared.grid.Way.{Way}
use Rattle.layer_assign.specs.declared.span.Span.{Span}
use Rattle.layer_assign.specs.Spans.{span_of, widened, climb, IsWithin}
use Rattle.layer_assign.specs.Assignments.{tile_of, level_of, parent_of, tile_at, goes_on, may_take, wire_cost, ends_at, pin_layers, met_below, cost_of}
use Rattle.layer_assign.specs.Choices.{Follows, AreBest}
use Rattle.layer_assign.proofs.Sums.{sums, sums-range, sums-same, range-more}
use Rattle.layer_assign.proofs.Elimination.{widened-within, Problem, IsSound, span, whole, FollowsFrom, Eliminates, eliminated-least, eliminated-first, follows-assigned}
use Rattle.layer_assign.proofs.FlatLemmas.{level-below, parent-before, root_edge}

-- the span of the pins of a node's tile
abbrev pub pin_span : Shape → TreeView → List ℕ → ℕ → Option Span
pin_span g t pins node = span_of (pin_layers g pins (tile_at t node))

-- the assignments of a flat tree's edges to layers, as a problem
abbrev pub problem : Shape → (ℕ → Way → Bool) → (Edge → Option ℕ) → TreeView → List ℕ → Problem
problem g ways price t pins = record {
  layers = g.layers;
  nodes = length t.nodes;
  parent = parent_of t;
  wire = wire_cost g price t;
  may = may_take g ways t;
  base = pin_span g t pins;
}

-- the span of layers and one more
pub span-push : (layers : List ℕ) (l : ℕ) → span_of (layers ++ l ∷ []) ≡ widened (span_of layers) l
span-push layers l = fold-append widened None layers (l ∷ [])

filter_one : (f : ℕ → Bool) (a : ℕ → ℕ) (i : ℕ) (b : Bool) → f i ≡ b → map a (filter f (i ∷ [])) ≡ (if b then a i ∷ [] else [])
filter_one f a i true is = rw is refl
filter_one f a i false is = rw is refl

-- the layers that meet in a tile, of one more node
met-more : (first : List ℕ) (f : ℕ → Bool) (a : ℕ → ℕ) (i : ℕ) (b : Bool) → f i ≡ b →
    first ++ map a (filter f (range_with_len 0 (suc i))) ≡ (first ++ map a (filter f (range_with_len 0 i))) ++ (if b then a i ∷ [] else [])
met-more first f a i b is =
    let ks = range_with_len 0 i in
    let one : filter f (range_with_len 0 (suc i)) ≡ filter f ks ++ filter f (i ∷ []) = ap (λ (xs : List ℕ). filter f xs) (range-more i) ∙ filter-append f ks (i ∷ []) in
    let two : map a (filter f (range_with_len 0 (suc i))) ≡ map a (filter f ks) ++ map a (filter f (i ∷ [])) =
    ap (λ (xs : List ℕ). map a xs) one ∙ map-append a (filter f ks) (filter f (i ∷ [])) in
    ap (λ (xs : List ℕ). first ++ xs) two
    ∙ ap (λ (xs : List ℕ). first ++ (map a (filter f ks) ++ xs)) (filter_one f a i b is)
    ∙ sym (append_assoc first (map a (filter f ks)) (if b then a i ∷ [] else []))

-- the span of what meets in a tile, as the problem has it
pub met-span : (g : Shape) (ways : ℕ → Way → Bool) (price : Edge → Option ℕ) (t : TreeView) (pins : List ℕ) (a : ℕ → ℕ) (node i : ℕ) →
    span_of (met_below g t pins a node i) ≡ span (problem g ways price t pins) a node i
met-span g ways price t pins a node zero = ap (λ (ls : List ℕ). span_of ls) (append-nil (pin_layers g pins (tile_at t node)))
met-span g ways price t pins a node (suc i) =
    let before = met-span g ways price t pins a node i in
    let first = pin_layers g pins (tile_at t node) in
    elim (cases_Bool (ends_at t node i)) [
      | inl is ↦
          ap (λ (ls : List ℕ). span_of ls) (met-more first (ends_at t node) a i true is)
          ∙ span-push (met_below g t pins a node i) (a i)
          ∙ ap (λ (s : Option Span). widened s (a i)) before
          ∙ sym (rw is refl)
      | inr is ↦
          ap (λ (ls : List ℕ). span_of ls) (met-more first (ends_at t node) a i false is ∙ append-nil (met_below g t pins a node i))
          ∙ before
          ∙ sym (rw is refl)
    ]

-- the cost in words is the problem's
pub cost-whole : (g : Shape) (ways : ℕ → Way → Bool) (price : Edge → Option ℕ) (t : TreeView) (pins : List ℕ) (a : ℕ → ℕ) →
    cost_of g price t pins a ≡ whole (problem g ways price t pins) a
cost-whole g ways price t pins a =
    let n = length t.nodes in
    let wires = sums-range (λ node. wire_cost g price t node (a node)) n in
    let climbs =
    sums-range (λ node. climb (span_of (met_below g t pins a node n))) n
    ∙ sums-same (λ node. climb (span_of (met_below g t pins a node n))) (λ node. climb (span (problem g ways price t pins) a node n)) n
    (λ node below. ap (λ (s : Option Span). climb s) (met-span g ways price t pins a node n)) in
    ap (λ (k : ℕ). k + sum_by (λ node. climb (span_of (met_below g t pins a node n))) (range_with_len 0 n)) wires
    ∙ ap (λ (k : ℕ). sums (λ node. wire_cost g price t node (a node)) n + k) climbs

-- layers of the grid have a span in it
fold-within : (layers : ℕ) (first : Option Span) (all : List ℕ) → IsWithin layers first → All (λ layer. layer < layers) all → IsWithin layers (fold widened first all)
fold-within layers first [] within each = within
fold-within layers first (layer ∷ all) within each =
    fold-within layers (widened first layer) all (widened-within layers first layer within (each 0 0 (omega arith))) (All-tail (λ layer. layer < layers) layer all each)

-- pins that are cells of the grid have its layers
levels-below : (g : Shape) (f : ℕ → Bool) (pins : List ℕ) → All (λ pin. pin < cells_of g) pins → All (λ layer. layer < g.layers) (map (level_of g) (filter f pins))
levels-below g f pins each =
    All-map (λ layer. layer < g.layers) (level_of g) (filter f pins)
    (All-weaker (λ pin. pin < cells_of g) (λ pin. level_of g pin < g.layers) (λ pin below. level-below g pin below) (filter f pins) (All-filter f (λ pin. pin < cells_of g) pins each))

pub pin_span-within : (g : Shape) (t : TreeView) (pins : List ℕ) (node : ℕ) → All (λ pin. pin < cells_of g) pins → IsWithin g.layers (pin_span g t pins node)
pin_span-within g t pins node each =
    fold-within g.layers None (pin_layers g pins (tile_at t node)) tt (levels-below g (λ pin. tile_of g pin == tile_at t node) pins each)

may-some : (g : Shape) (ways : ℕ → Way → Bool) (layer : ℕ) (o : Option Edge) → unwrap_or (option_map (goes_on g ways layer) o) false ≡ true → layer < g.layers
may-some g ways layer None is = absurd (both_ways false refl is)
may-some g ways layer (Some e) is = below (nat_lt layer g.layers) (ways layer e.way) refl is
  where
    below : (p q : Bool) → nat_lt layer g.layers ≡ p → (p && q) ≡ true → layer < g.layers
    below true q same yes_q = grind (arith, nat_tests)
    below false q same yes_q = absurd (both_ways false refl yes_q)

pub may-below : (g : Shape) (ways : ℕ → Way → Bool) (t : TreeView) (node layer : ℕ) → IsTrue (may_take g ways t node layer) → layer < g.layers
may-below g ways t node layer may = may-some g ways layer (parent_edge t node) may

pub problem-sound : (g : Shape) (ways : ℕ → Way → Bool) (price : Edge → Option ℕ) (t : TreeView) (pins : List ℕ) → IsTree t →
    All (λ pin. pin < cells_of g) pins → IsSound (problem g ways price t pins)
problem-sound g ways price t pins tree each = record {
  earlier = λ v positive below. parent-before t v tree positive below;
  within = λ u. pin_span-within g t pins u each;
  below = λ v l may. may-below g ways t v l may;
  root = λ l. ap (λ (o : Option Edge). unwrap_or (option_and_then (λ e. price (on_layer g l e)) o) 0) (root_edge t tree);
}

-- choices that eliminate all layers lead to the first least assignment
pub eliminates-best : (g : Shape) (ways : ℕ → Way → Bool) (price : Edge → Option ℕ) (t : TreeView) (pins : List ℕ) (E choice : ℕ → Option Span → ℕ) → IsTree t →
    All (λ pin. pin < cells_of g) pins → Eliminates (problem g ways price t pins) 1 E choice → AreBest g ways price t pins choice
eliminates-best g ways price t pins E choice tree each done = record {
  allowed = λ a follows v positive below.
      follows-assigned p choice a sound (from a follows) (λ w later inside s precedes. done.allowed w (omega arith) later inside s precedes) (length t.nodes) (omega arith) v positive below;
  least = λ a assigned follows b other.
      let le = eliminated-least p E choice sound done a assigned (from a follows) b other in
      let one = cost-whole g ways price t pins a in
      let two = cost-whole g ways price t pins b in
      omega (arith, le, one, two);
  first = λ a assigned follows b other same node positive below alike.
      let one = cost-whole g ways price t pins a in
      let two = cost-whole g ways price t pins b in
      eliminated-first p E choice sound done a assigned (from a follows) b other (sym two ∙ same ∙ one) node positive below alike;
}
  where
    p : Problem
    p = problem g ways price t pins

    sound : IsSound (problem g ways price t pins)
    sound = problem-sound g ways price t pins tree each

    from : (a : ℕ → ℕ) → Follows g t pins choice a → FollowsFrom (problem g ways price t pins) choice 1 a
    from a follows = λ v one positive below.
        follows v positive below ∙ ap (λ (s : Option Span). choice v s) (met-span g ways price t pins a (parent_of t v) v)
