-- The spans of all tiles in the end, and the tree that is raised from them.
use Rattle.std.proofs.Common.{◌≡◌, ◌≢◌, ℕ, suc, zero, ◌+◌, ◌<◌, inl, inr, Bool, true, false, ◌&&◌, ◌||◌, ◌==◌, not, List, [], ◌∷◌, length, map, filter, fold, get_or, All, Option, Some, None, unwrap_or, IsSome, IsTrue, refl, sym, ap, subst, ◌∙◌, arith}
use Rattle.std.proofs.lemmas.Bool.{cases_Bool, cases_eq, cases_lt, eq-eqb}
use Rattle.std.proofs.lemmas.Bool.Decides.{nat_tests}
use Rattle.std.specs.List.{list_any, range_with_len}
use Rattle.std.specs.Option.{option_map}
use Rattle.gr_base.specs.Grid.{cells_of, on_layer}
use Rattle.gr_base.specs.EdgeSets.{is_edge}
use Rattle.gr_base.specs.Trees.{TreeView, cell_at, node_with, holds, edges_of, IsTree}
use Rattle.gr_base.specs.declared.grid.Edge.{Edge}
use Rattle.gr_base.specs.declared.grid.Shape.{Shape}
use Rattle.gr_base.proofs.TreeLemmas.{some_from, node_with-at, cell_at-within}
use Rattle.layer_assign.specs.declared.span.Span.{Span}
use Rattle.layer_assign.specs.Spans.{widened, growing, span_of, span_by, IsWithin}
use Rattle.layer_assign.specs.Assignments.{IsFlat, tile_of, level_of, cell_on, tile_at, parent_of, ends_at, met, ArePins}
use Rattle.layer_assign.specs.Raised.{in_column, is_via_of, is_via_in, is_wire_of, raised_edges}
use Rattle.layer_assign.specs.Raising.{any_below, IsIn, HoldEdges, IsRaised, IsColumn}
use Rattle.layer_assign.proofs.Elimination.{Problem, IsSound, span-within_below, ends-own, ends-parent}
use Rattle.layer_assign.proofs.FlatLemmas.{tile-at, root_edge}
use Rattle.layer_assign.proofs.Problems.{pin_span, problem, met-span, problem-sound}
use Rattle.layer_assign.proofs.ColumnLemmas.{cell-over}
use Rattle.layer_assign.proofs.RaisingLemmas.{any-same, any-none, any-changed, any-range, column_of, raised-on}

-- a problem without prices, whose spans are the tree's
abbrev pub plain : Shape → TreeView → List ℕ → Problem
plain g t pins = problem g (λ _ _. true) (λ _. None) t pins

-- a tile has a span, which has the layer
abbrev HasLayer : Option Span → ℕ → Type 0
HasLayer None layer = ⊥
HasLayer (Some s) layer = IsIn s layer

widened-has : (o : Option Span) (layer : ℕ) → HasLayer (widened o layer) layer
widened-has None layer = record { low = omega arith; high = omega arith }
widened-has (Some s) layer = record { low = omega arith; high = omega arith }

widened-keeps : (o : Option Span) (k layer : ℕ) → HasLayer o k → HasLayer (widened o layer) k
widened-keeps None k layer inside = absurd inside
widened-keeps (Some s) k layer inside = let low = inside.low in let high = inside.high in record { low = omega arith; high = omega arith }

fold-keeps : (o : Option Span) (k : ℕ) (layers : List ℕ) → HasLayer o k → HasLayer (fold widened o layers) k
fold-keeps o k [] inside = inside
fold-keeps o k (layer ∷ layers) inside = fold-keeps (widened o layer) k layers (widened-keeps o k layer inside)

some-span : (o : Option Span) (layer : ℕ) → HasLayer o layer → IsSome o
some-span None layer inside = absurd inside
some-span (Some s) layer inside = refl

-- the layers of edges that end in a tile lie in its span
pub span-holds : (ends : ℕ → ℕ → Bool) (first : ℕ → Option Span) (a : ℕ → ℕ) (u v i : ℕ) → v < i → ends u v ≡ true → HasLayer (span_by ends first a u i) (a v)
span-holds ends first a u v zero lt is = absurd (omega arith)
span-holds ends first a u v (suc i) lt is =
    elim (cases_eq v i) [
      | inl same ↦
          let here : ends u i ≡ true = ap (λ (k : ℕ). ends u k) (sym same) ∙ is in
          let last : HasLayer (widened (span_by ends first a u i) (a i)) (a v) =
          subst (λ (k : ℕ). HasLayer (widened (span_by ends first a u i) (a i)) (a k)) (sym same) (widened-has (span_by ends first a u i) (a i)) in
          rw here last
      | inr other ↦
          let before = span-holds ends first a u v i (omega arith) is in
          elim (cases_Bool (ends u i)) [
            | inl here ↦ rw here (widened-keeps (span_by ends first a u i) (a v) (a i) before)
            | inr here ↦ rw here before
          ]
    ]

-- so do those that lie in its first span
pub span-first : (ends : ℕ → ℕ → Bool) (first : ℕ → Option Span) (a : ℕ → ℕ) (u layer i : ℕ) → HasLayer (first u) layer → HasLayer (span_by ends first a u i) layer
span-first ends first a u layer zero inside = inside
span-first ends first a u layer (suc i) inside =
    let before = span-first ends first a u layer i inside in
    elim (cases_Bool (ends u i)) [
      | inl here ↦ rw here (widened-keeps (span_by ends first a u i) layer (a i) before)
      | inr here ↦ rw here before
    ]

-- the spans of the layers that meet hold the layers of their edges
pub hold-edges : (g : Shape) (t : TreeView) (pins : List ℕ) (a : ℕ → ℕ) (spans : ℕ → Span) → IsTree t → All (λ pin. pin < cells_of g) pins →
    ((v : ℕ) → 0 < v → v < length t.nodes → a v < g.layers) → ((u : ℕ) → u < length t.nodes → Some (spans u) ≡ span_of (met g t pins a u)) → HoldEdges g t a spans
hold-edges g t pins a spans tree cells below are = record {
  within = λ u lt. subst (λ (o : Option Span). IsWithin g.layers o) (sym (as_by u lt)) (span-within_below p a u (length t.nodes) sound (λ w later less. below w later less));
  own = λ v later lt. subst (λ (o : Option Span). HasLayer o (a v)) (sym (as_by v lt)) (span-holds (ends_at t) (pin_span g t pins) a v v (length t.nodes) lt (ends-own p v later));
  above = λ v later lt.
      let early = sound.earlier v later lt in
      subst (λ (o : Option Span). HasLayer o (a v)) (sym (as_by (parent_of t v) (omega arith)))
      (span-holds (ends_at t) (pin_span g t pins) a (parent_of t v) v (length t.nodes) lt (ends-parent p v later));
}
  where
    p : Problem
    p = plain g t pins

    sound : IsSound (plain g t pins)
    sound = problem-sound g (λ _ _. true) (λ _. None) t pins tree cells

    as_by : (u : ℕ) → u < length t.nodes → Some (spans u) ≡ span_by (ends_at t) (pin_span g t pins) a u (length t.nodes)
    as_by u lt = are u lt ∙ met-span g (λ _ _. true) (λ _. None) t pins a u (length t.nodes)

-- the layers of pins lie in the span of those that are kept
levels-hold : (g : Shape) (f : ℕ → Bool) (pins : List ℕ) (first : Option Span) (k : ℕ) → k < length pins → f (get_or pins k 0) ≡ true →
    HasLayer (fold widened first (map (level_of g) (filter f pins))) (level_of g (get_or pins k 0))
levels-hold g f [] first k lt is = absurd (omega arith)
levels-hold g f (pin ∷ pins) first zero lt is =
    rw is (fold-keeps (widened first (level_of g pin)) (level_of g pin) (map (level_of g) (filter f pins)) (widened-has first (level_of g pin)))
levels-hold g f (pin ∷ pins) first (suc k) lt is =
    elim (cases_Bool (f pin)) [
      | inl here ↦ rw here (levels-hold g f pins (widened first (level_of g pin)) k (omega arith) is)
      | inr here ↦ rw here (levels-hold g f pins first k (omega arith) is)
    ]

-- a pin's layer lies in the span of its tile
pin-met : (g : Shape) (t : TreeView) (pins : List ℕ) (a : ℕ → ℕ) (k node : ℕ) → k < length pins → node_with t.nodes (tile_of g (get_or pins k 0)) ≡ Some node →
    HasLayer (span_of (met g t pins a node)) (level_of g (get_or pins k 0))
pin-met g t pins a k node lt found =
    let pin = get_or pins k 0 in
    let at = node_with-at t.nodes (tile_of g pin) node found in
    let below = cell_at-within t.nodes node (tile_of g pin) at in
    let test : (tile_of g pin == tile_at t node) ≡ true = eq-eqb (tile_of g pin) (tile_at t node) (sym (tile-at t node (tile_of g pin) at)) in
    let base : HasLayer (pin_span g t pins node) (level_of g pin) = levels-hold g (λ p. tile_of g p == tile_at t node) pins None k lt test in
    subst (λ (o : Option Span). HasLayer o (level_of g pin)) (sym (met-span g (λ _ _. true) (λ _. None) t pins a node (length t.nodes)))
    (span-first (ends_at t) (pin_span g t pins) a node (level_of g pin) (length t.nodes) base)

pub pin-in : (g : Shape) (t : TreeView) (pins : List ℕ) (a : ℕ → ℕ) (spans : ℕ → Span) (k node : ℕ) → k < length pins → node_with t.nodes (tile_of g (get_or pins k 0)) ≡ Some node →
    ((u : ℕ) → u < length t.nodes → Some (spans u) ≡ span_of (met g t pins a u)) → IsIn (spans node) (level_of g (get_or pins k 0))
pin-in g t pins a spans k node lt found are =
    let below = cell_at-within t.nodes node (tile_of g (get_or pins k 0)) (node_with-at t.nodes (tile_of g (get_or pins k 0)) node found) in
    subst (λ (o : Option Span). HasLayer o (level_of g (get_or pins k 0))) (sym (are node below)) (pin-met g t pins a k node lt found)

-- in the end each tile has a span: that of its own edge, or of its first child's, or of a pin
pub met-some : (g : Shape) (t : TreeView) (pins : List ℕ) (a : ℕ → ℕ) (u : ℕ) → IsTree t → ArePins g t pins → u < length t.nodes → IsSome (span_of (met g t pins a u))
met-some g t pins a u tree are_pins lt =
    elim (cases_eq u 0) [
      | inl zero_u ↦
          elim (cases_lt 1 (length t.nodes)) [
            | inl more ↦
                let early = sound.earlier 1 (omega arith) more in
                let up : parent_of t 1 ≡ u = omega arith in
                ends u 1 more (subst (λ (k : ℕ). ends_at t k 1 ≡ true) up (ends-parent p 1 (omega arith)))
            | inr alone ↦
                let found = some_from (node_with t.nodes (tile_of g (get_or pins 0 0))) (are_pins.tiles 0 0 are_pins.some) in
                let below = cell_at-within t.nodes found.0 (tile_of g (get_or pins 0 0)) (node_with-at t.nodes (tile_of g (get_or pins 0 0)) found.0 found.1) in
                let same : found.0 ≡ u = omega arith in
                subst (λ (k : ℕ). IsSome (span_of (met g t pins a k))) same
                (some-span (span_of (met g t pins a found.0)) (level_of g (get_or pins 0 0)) (pin-met g t pins a 0 found.0 are_pins.some found.1))
          ]
      | inr later ↦ ends u u lt (ends-own p u (omega arith))
    ]
  where
    p : Problem
    p = plain g t pins

    sound : IsSound (plain g t pins)
    sound = problem-sound g (λ _ _. true) (λ _. None) t pins tree are_pins.cells

    ends : (k v : ℕ) → v < length t.nodes → ends_at t k v ≡ true → IsSome (span_of (met g t pins a k))
    ends k v inside is =
        let as_by : span_of (met g t pins a k) ≡ span_by (ends_at t) (pin_span g t pins) a k (length t.nodes) = met-span g (λ _ _. true) (λ _. None) t pins a k (length t.nodes) in
        subst (λ (o : Option Span). IsSome o) (sym as_by)
        (some-span (span_by (ends_at t) (pin_span g t pins) a k (length t.nodes)) (a v) (span-holds (ends_at t) (pin_span g t pins) a k v (length t.nodes) inside is))

-- what is found for each tile in the end
pub met-found : (g : Shape) (t : TreeView) (pins : List ℕ) (a : ℕ → ℕ) (spans : List (Option Span)) (n : ℕ) → n ≡ length t.nodes →
    ((u : ℕ) → u < length t.nodes → growing spans u ≡ span_by (ends_at t) (pin_span g t pins) a u n) →
    (u : ℕ) → u < length t.nodes → growing spans u ≡ span_of (met g t pins a u)
met-found g t pins a spans n end are u lt =
    are u lt ∙ ap (λ (k : ℕ). span_by (ends_at t) (pin_span g t pins) a u k) end ∙ sym (met-span g (λ _ _. true) (λ _. None) t pins a u (length t.nodes))

-- the tree holds the pins
pub raised-pins : (g : Shape) (t : TreeView) (pins : List ℕ) (a : ℕ → ℕ) (spans : ℕ → Span) (first : Option ℕ) (r : TreeView) → IsFlat g t.shape → IsTree t → ArePins g t pins →
    ((u : ℕ) → u < length t.nodes → Some (spans u) ≡ span_of (met g t pins a u)) → IsRaised g t a spans first (λ _. true) 0 r → All (λ pin. IsTrue (holds r pin)) pins
raised-pins g t pins a spans first r flat tree are_pins are raised = λ k d lt.
    let pin = get_or pins k 0 in
    let found = some_from (node_with t.nodes (tile_of g pin)) (are_pins.tiles k 0 lt) in
    let at = node_with-at t.nodes (tile_of g pin) found.0 found.1 in
    let below = cell_at-within t.nodes found.0 (tile_of g pin) at in
    let inside = pin-in g t pins a spans k found.0 lt found.1 are in
    let held = raised-on g t a spans first (λ _. true) 0 r found.0 (level_of g pin) flat tree raised below refl inside in
    let is : cell_on g (tile_at t found.0) (level_of g pin) ≡ pin = ap (λ (c : ℕ). cell_on g c (level_of g pin)) (tile-at t found.0 (tile_of g pin) at) ∙ cell-over g pin in
    subst (λ (c : ℕ). holds r c ≡ true) (is ∙ any_default pins k d lt) held
  where
    any_default : (xs : List ℕ) (k d : ℕ) → k < length xs → get_or xs k 0 ≡ get_or xs k d
    any_default [] k d lt = absurd (omega arith)
    any_default (x ∷ xs) zero d lt = refl
    any_default (x ∷ xs) (suc k) d lt = any_default xs k d (omega arith)

not_zero : (u : ℕ) → (suc u == 0) ≡ false
not_zero u = grind (arith, nat_tests)

-- the tree has the edges of the assignment
pub raised-edges : (g : Shape) (t : TreeView) (pins : List ℕ) (a : ℕ → ℕ) (spans : ℕ → Span) (first : Option ℕ) (r : TreeView) → IsTree t →
    ((u : ℕ) → u < length t.nodes → Some (spans u) ≡ span_of (met g t pins a u)) → IsRaised g t a spans first (λ _. true) 0 r → (e : Edge) → edges_of r e ≡ raised_edges g t pins a e
raised-edges g t pins a spans first r tree are raised e =
    let n = length t.nodes in
    let vias = any-same (λ u. true && is_via_of g (tile_at t u) (spans u) e) (λ u. is_via_in g (tile_at t u) (span_of (met g t pins a u)) e) n
    (λ u lt. ap (λ (o : Option Span). is_via_in g (tile_at t u) o e) (are u lt)) in
    let wires = any-same (λ u. (true && not (u == 0)) && is_wire_of g t a u e) (λ u. is_wire_of g t a u e) n (λ u lt. wire u) in
    raised.edges_are e
    ∙ ap (λ (b : Bool). b || any_below (λ u. (true && not (u == 0)) && is_wire_of g t a u e) n) vias
    ∙ ap (λ (b : Bool). any_below (λ u. is_via_in g (tile_at t u) (span_of (met g t pins a u)) e) n || b) wires
    ∙ swapped (any_below (λ u. is_via_in g (tile_at t u) (span_of (met g t pins a u)) e) n) (any_below (λ u. is_wire_of g t a u e) n)
    ∙ ap (λ (b : Bool). b || any_below (λ u. is_via_in g (tile_at t u) (span_of (met g t pins a u)) e) n) (sym (any-range (λ u. is_wire_of g t a u e) n))
    ∙ ap (λ (b : Bool). list_any (λ u. is_wire_of g t a u e) (range_with_len 0 n) || b) (sym (any-range (λ u. is_via_in g (tile_at t u) (span_of (met g t pins a u)) e) n))
  where
    swapped : (p q : Bool) → (p || q) ≡ (q || p)
    swapped true true = refl
    swapped true false = refl
    swapped false true = refl
    swapped false false = refl

    wire : (u : ℕ) → ((true && not (u == 0)) && is_wire_of g t a u e) ≡ is_wire_of g t a u e
    wire zero = sym (ap (λ (o : Option Edge). unwrap_or (option_map (λ f. is_edge e (on_layer g (a 0) f)) o) false) (root_edge t tree))
    wire (suc u) = rw (not_zero u) refl

-- the same of another name of the shape and of the first cell
pub raised-as : (g h : Shape) (t : TreeView) (a : ℕ → ℕ) (spans : ℕ → Span) (first other : Option ℕ) (done : ℕ → Bool) (left : ℕ) (r : TreeView) → h ≡ g → other ≡ first →
    IsRaised h t a spans other done left r → IsRaised g t a spans first done left r
raised-as g h t a spans first other done left r same starts raised =
    subst (λ (o : Option ℕ). IsRaised g t a spans o done left r) starts (subst (λ (s : Shape). IsRaised s t a spans other done left r) same raised)

only-one : (P : ℕ → Bool) (n p : ℕ) → p < n → ((u : ℕ) → u ≢ p → P u ≡ false) → any_below P n ≡ P p
only-one P n p lt none =
    any-changed (λ _. false) P n p lt refl (λ u less other. none u other)
    ∙ ap (λ (b : Bool). b || P p) (any-none (λ _. false) n (λ u less. refl))

-- a column alone
pub raised-column : (g : Shape) (t : TreeView) (a : ℕ → ℕ) (spans : ℕ → Span) (cell start : ℕ) (done : ℕ → Bool) (r : TreeView) → node_with t.nodes (tile_of g cell) ≡ Some start →
    done start ≡ true → ((u : ℕ) → u ≢ start → done u ≡ false) → IsColumn g cell (spans start) r → IsRaised g t a spans (Some cell) done start r
raised-column g t a spans cell start done r found own others column = record {
  shape = column.shape;
  starts = column.starts;
  cells_are = λ c.
      column.cells_are c
      ∙ ap (λ (tile : ℕ). in_column g tile (spans start).low ((spans start).high + 1) c) (sym tile)
      ∙ sym (only-one (λ u. done u && column_of g t spans c u) (length t.nodes) start below (λ u other. rw (others u other) refl)
      ∙ ap (λ (b : Bool). b && column_of g t spans c start) own);
  edges_are = λ e.
      column.edges_are e
      ∙ ap (λ (k : ℕ). is_via_of g k (spans start) e) (sym tile)
      ∙ sym (only-one (λ u. done u && is_via_of g (tile_at t u) (spans u) e) (length t.nodes) start below (λ u other. rw (others u other) refl)
      ∙ ap (λ (b : Bool). b && is_via_of g (tile_at t start) (spans start) e) own)
      ∙ sym (or_false (any_below (λ u. done u && is_via_of g (tile_at t u) (spans u) e) (length t.nodes)))
      ∙ ap (λ (b : Bool). any_below (λ u. done u && is_via_of g (tile_at t u) (spans u) e) (length t.nodes) || b)
      (sym (any-none (λ u. (done u && not (u == start)) && is_wire_of g t a u e) (length t.nodes) (λ u lt. no_wire u e)));
}
  where
    at : cell_at t.nodes start ≡ Some (tile_of g cell)
    at = node_with-at t.nodes (tile_of g cell) start found

    below : start < length t.nodes
    below = cell_at-within t.nodes start (tile_of g cell) at

    tile : tile_at t start ≡ tile_of g cell
    tile = tile-at t start (tile_of g cell) at

    or_false : (b : Bool) → (b || false) ≡ b
    or_false true = refl
    or_false false = refl

    no_wire : (u : ℕ) (e : Edge) → ((done u && not (u == start)) && is_wire_of g t a u e) ≡ false
    no_wire u e =
        elim (cases_eq u start) [
          | inl same ↦
              let test : (u == start) ≡ true = eq-eqb u start same in
              rw test (none (done u) (is_wire_of g t a u e))
          | inr other ↦ rw (others u other) refl
        ]
      where
        none : (p q : Bool) → ((p && false) && q) ≡ false
        none true q = refl
        none false q = refl
