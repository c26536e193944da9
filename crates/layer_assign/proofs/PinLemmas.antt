-- Lists of spans so far, as pins and edges make them grow.
use Rattle.std.proofs.Common.{◌≡◌, ◌≢◌, ℕ, suc, zero, ◌+◌, ◌<◌, inl, inr, Bool, true, false, ◌==◌, List, [], ◌∷◌, ◌++◌, length, map, filter, take, set, get_or, Option, Some, slice_get, if◌then◌else◌, refl, sym, ap, subst, ◌∙◌, arith}
use Rattle.std.proofs.lemmas.Bool.{cases_Bool, cases_eq, eqb-true, eq-eqb}
use Rattle.std.proofs.lemmas.Bool.Decides.{nat_tests}
use Rattle.std.proofs.lemmas.List.{append-nil, length-set, map-append, take_more}
use Rattle.std.proofs.lemmas.List.Elements.{filter-append}
use Rattle.std.proofs.lemmas.Option.{same_Some}
use Rattle.std.specs.Option.{option_and_then}
use Rattle.gr_base.specs.Trees.{TreeView, cell_at, node_with, IsTree}
use Rattle.gr_base.specs.declared.grid.Shape.{Shape}
use Rattle.gr_base.proofs.TreeLemmas.{node_with-at, cell-only, read-cell}
use Rattle.layer_assign.specs.declared.span.Span.{Span}
use Rattle.layer_assign.specs.Spans.{span_of, widened, growing, span_in}
use Rattle.layer_assign.specs.Assignments.{tile_of, level_of, tile_at, parent_of, ends_at, pin_layers}
use Rattle.layer_assign.proofs.FlatLemmas.{node-at, tile-at}
use Rattle.layer_assign.proofs.Following.{span-read}
use Rattle.layer_assign.proofs.Problems.{span-push}
use Rattle.layer_assign.proofs.TableLemmas.{get-set_same, get-set_other}

pin-one : (g : Shape) (pin tile : ℕ) (b : Bool) → (tile_of g pin == tile) ≡ b → pin_layers g (pin ∷ []) tile ≡ (if b then level_of g pin ∷ [] else [])
pin-one g pin tile true is = rw is refl
pin-one g pin tile false is = rw is refl

-- the layers of pins and of one more
pin_layers-push : (g : Shape) (pins : List ℕ) (pin tile : ℕ) (b : Bool) → (tile_of g pin == tile) ≡ b →
    pin_layers g (pins ++ pin ∷ []) tile ≡ pin_layers g pins tile ++ (if b then level_of g pin ∷ [] else [])
pin_layers-push g pins pin tile b is =
    let f : ℕ → Bool = λ p. tile_of g p == tile in
    ap (λ (xs : List ℕ). map (level_of g) xs) (filter-append f pins (pin ∷ []))
    ∙ map-append (level_of g) (filter f pins) (filter f (pin ∷ []))
    ∙ ap (λ (xs : List ℕ). pin_layers g pins tile ++ xs) (pin-one g pin tile b is)

-- the tile of a node is its cell's
pub tile-held : (t : TreeView) (u : ℕ) → u < length t.nodes → cell_at t.nodes u ≡ Some (tile_at t u)
tile-held t u below =
    let at = node-at t.nodes u below in
    let cell = read-cell t.nodes u at.0 at.1 in
    cell ∙ ap (λ (c : ℕ). Some c) (sym (tile-at t u at.0.cell cell))

-- other nodes have other tiles
pub tile-apart : (t : TreeView) (u v tile : ℕ) → IsTree t → u < length t.nodes → node_with t.nodes tile ≡ Some v → tile_at t u ≡ tile → u ≡ v
tile-apart t u v tile tree below is same =
    let own = cell-only t.shape t.nodes u (tile_at t u) tree.hanging (tile-held t u below) in
    same_Some u v (sym own ∙ ap (λ (c : ℕ). node_with t.nodes c) same ∙ is)

-- the spans of pins and of one more, which grows the span of its tile's node
pub pins-more : (g : Shape) (t : TreeView) (pins : List ℕ) (k pin node : ℕ) (spans : List (Option Span)) (s : Option Span) → IsTree t → k < length pins → pin ≡ get_or pins k 0 →
    node_with t.nodes (tile_of g pin) ≡ Some node → node < length spans → slice_get spans node ≡ Some s →
    ((u : ℕ) → u < length t.nodes → growing spans u ≡ span_of (pin_layers g (take k pins) (tile_at t u))) →
    (u : ℕ) → u < length t.nodes → growing (set spans node (widened s (level_of g pin))) u ≡ span_of (pin_layers g (take (k + 1) pins) (tile_at t u))
pins-more g t pins k pin node spans s tree within is found below read so_far u lt =
    let more : take (k + 1) pins ≡ take k pins ++ pin ∷ [] = take_more pins k 0 within ∙ ap (λ (p : ℕ). take k pins ++ p ∷ []) (sym is) in
    let whole : (b : Bool) → (tile_of g pin == tile_at t u) ≡ b →
    pin_layers g (take (k + 1) pins) (tile_at t u) ≡ pin_layers g (take k pins) (tile_at t u) ++ (if b then level_of g pin ∷ [] else []) =
    λ b test. ap (λ (ps : List ℕ). pin_layers g ps (tile_at t u)) more ∙ pin_layers-push g (take k pins) pin (tile_at t u) b test in
    let v = widened s (level_of g pin) in
    elim (cases_eq u node) [
      | inl same ↦
          let tile : tile_at t u ≡ tile_of g pin =
          ap (λ (n : ℕ). tile_at t n) same ∙ tile-at t node (tile_of g pin) (node_with-at t.nodes (tile_of g pin) node found) in
          let test : (tile_of g pin == tile_at t u) ≡ true = eq-eqb (tile_of g pin) (tile_at t u) (sym tile) in
          let own : growing spans u ≡ s = ap (λ (n : ℕ). growing spans n) same ∙ span-read spans node s read in
          ap (λ (n : ℕ). growing (set spans node v) n) same
          ∙ span-read (set spans node v) node v (get-set_same spans node v below)
          ∙ ap (λ (r : Option Span). widened r (level_of g pin)) (sym own ∙ so_far u lt)
          ∙ sym (span-push (pin_layers g (take k pins) (tile_at t u)) (level_of g pin))
          ∙ sym (ap (λ (ls : List ℕ). span_of ls) (whole true test))
      | inr other ↦
          elim (cases_Bool (tile_of g pin == tile_at t u)) [
            | inl test ↦ absurd (other (tile-apart t u node (tile_of g pin) tree lt found (sym (eqb-true (tile_of g pin) (tile_at t u) test))))
            | inr test ↦
                ap (λ (o : Option (Option Span)). option_and_then (λ (r : Option Span). r) o) (get-set_other spans node u v other)
                ∙ so_far u lt
                ∙ sym (ap (λ (ls : List ℕ). span_of ls) (whole false test ∙ append-nil (pin_layers g (take k pins) (tile_at t u))))
          ]
    ]

growing-set_same : (spans : List (Option Span)) (i : ℕ) (s : Option Span) → i < length spans → growing (set spans i s) i ≡ s
growing-set_same spans i s below = span-read (set spans i s) i s (get-set_same spans i s below)

growing-set_other : (spans : List (Option Span)) (i k : ℕ) (s : Option Span) → k ≢ i → growing (set spans i s) k ≡ growing spans k
growing-set_other spans i k s other = ap (λ (o : Option (Option Span)). option_and_then (λ (r : Option Span). r) o) (get-set_other spans i k s other)

-- a node's layer grows the spans of its tile and its parent's
pub grows-both : (t : TreeView) (spans : List (Option Span)) (node up layer : ℕ) (above own first second : Option Span) → up < node → node < length spans → parent_of t node ≡ up →
    slice_get spans up ≡ Some first → above ≡ widened first layer → slice_get (set spans up above) node ≡ Some second → own ≡ widened second layer →
    (other : ℕ) → growing (set (set spans up above) node own) other ≡ (if ends_at t other node then widened (growing spans other) layer else growing spans other)
grows-both t spans node up layer above own first second earlier below parent read above_is read_own own_is other =
    let long = length-set spans up above in
    elim (cases_eq other node) [
      | inl same ↦
          let test : ends_at t other node ≡ true = grind (arith, nat_tests) in
          rw test
          (ap (growing (set (set spans up above) node own)) same
          ∙ growing-set_same (set spans up above) node own (omega (arith, long))
          ∙ own_is
          ∙ ap (λ (s : Option Span). widened s layer) (sym (span-read (set spans up above) node second read_own)
          ∙ growing-set_other spans up node above (λ e. omega arith)
          ∙ ap (growing spans) (sym same)))
      | inr apart ↦
          elim (cases_eq other up) [
            | inl same ↦
                let test : ends_at t other node ≡ true = grind (arith, nat_tests) in
                rw test
                (growing-set_other (set spans up above) node other own apart
                ∙ ap (growing (set spans up above)) same
                ∙ growing-set_same spans up above (omega arith)
                ∙ above_is
                ∙ ap (λ (s : Option Span). widened s layer) (sym (span-read spans up first read) ∙ ap (growing spans) (sym same)))
            | inr away ↦
                let test : ends_at t other node ≡ false = grind (arith, nat_tests) in
                rw test (growing-set_other (set spans up above) node other own apart ∙ growing-set_other spans up other above away)
          ]
    ]

pub growing-read : (spans : List (Option Span)) (i : ℕ) (d : Option Span) → i < length spans → growing spans i ≡ get_or spans i d
growing-read [] i d below = absurd (omega arith)
growing-read (s ∷ spans) zero d below = refl
growing-read (s ∷ spans) (suc i) d below = growing-read spans i d (omega arith)

-- where each tile has a span
pub whole-at : (whole : List Span) (spans : List (Option Span)) (i : ℕ) → map Some whole ≡ spans → i < length spans → Some (span_in whole i) ≡ growing spans i
whole-at whole spans i is below =
    subst (λ (xs : List (Option Span)). i < length xs → Some (span_in whole i) ≡ growing xs i) is (each whole i) below
  where
    each : (xs : List Span) (k : ℕ) → k < length (map Some xs) → Some (span_in xs k) ≡ growing (map Some xs) k
    each [] k lt = absurd (omega arith)
    each (x ∷ xs) zero lt = refl
    each (x ∷ xs) (suc k) lt = each xs k (omega arith)
