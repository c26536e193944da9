-- Layers that follow choices, and the spans to which tiles grow.
use Rattle.std.proofs.Common.{◌≡◌, ℕ, suc, zero, ◌<◌, inl, inr, Bool, List, [], ◌∷◌, ◌++◌, length, get_or, Option, Some, slice_get, if◌then◌else◌, refl, sym, ap, subst, ◌∙◌, arith}
use Rattle.std.proofs.lemmas.Bool.{cases_eq, cases_Bool}
use Rattle.std.proofs.lemmas.List.{length-append, get_or_append_left, get_or_push}
use Rattle.std.specs.Option.{option_and_then}
use Rattle.std.proofs.lemmas.Option.{slice_get_read}
use Rattle.gr_base.specs.Trees.{TreeView}
use Rattle.layer_assign.specs.declared.span.Span.{Span}
use Rattle.layer_assign.specs.Spans.{widened, IsWithin, span_by, growing}
use Rattle.layer_assign.specs.Assignments.{parent_of, ends_at}
use Rattle.layer_assign.proofs.Elimination.{widened-within}

-- the span of a node that is read from a list
pub span-read : (spans : List (Option Span)) (node : ℕ) (s : Option Span) → slice_get spans node ≡ Some s → growing spans node ≡ s
span-read spans node s is = ap (λ (o : Option (Option Span)). option_and_then (λ (r : Option Span). r) o) is

-- what is read of the spans so far is within the grid where they all are
pub span-inside : (layers count : ℕ) (spans : List (Option Span)) (u : ℕ) (s : Option Span) → length spans ≡ count → u < count → s ≡ get_or spans u s →
    ((v : ℕ) → v < count → IsWithin layers (growing spans v)) → (growing spans u ≡ s) × IsWithin layers s
span-inside layers count spans u s long below read within =
    let at = span-read spans u s (slice_get_read spans (length spans) u s refl (omega arith) read) in
    (at, subst (λ (r : Option Span). IsWithin layers r) at (within u below))

-- a span depends on the layers of nodes below alone, and on the tile's first span
pub span_by-alike : (ends : ℕ → ℕ → Bool) (first : ℕ → Option Span) (a b : ℕ → ℕ) (u i : ℕ) → ((k : ℕ) → k < i → a k ≡ b k) → span_by ends first a u i ≡ span_by ends first b u i
span_by-alike ends first a b u zero same = refl
span_by-alike ends first a b u (suc i) same =
    let choose : Option Span → ℕ → Option Span = λ s l. if ends u i then widened s l else s in
    ap (λ (s : Option Span). choose s (a i)) (span_by-alike ends first a b u i (λ k lt. same k (omega arith))) ∙ ap (λ (l : ℕ). choose (span_by ends first b u i) l) (same i (omega arith))

pub span_by-first : (ends : ℕ → ℕ → Bool) (first other : ℕ → Option Span) (a : ℕ → ℕ) (u i : ℕ) → first u ≡ other u → span_by ends first a u i ≡ span_by ends other a u i
span_by-first ends first other a u zero same = same
span_by-first ends first other a u (suc i) same =
    ap (λ (s : Option Span). if ends u i then widened s (a i) else s) (span_by-first ends first other a u i same)

-- the layers of the nodes below a number, and the spans that they make
pub record Following (count most : ℕ) (t : TreeView) (first : ℕ → Option Span) (choice : ℕ → Option Span → ℕ) (spans : List (Option Span)) (layers : List ℕ) (number : ℕ) : Type 0 where
  pub layers_count : length layers ≡ number
  pub spans_count : length spans ≡ count
  pub spans_are : (u : ℕ) → u < count → growing spans u ≡ span_by (ends_at t) first (λ k. get_or layers k 0) u number
  pub follows : (v : ℕ) → 0 < v → v < number → get_or layers v 0 ≡ choice v (span_by (ends_at t) first (λ k. get_or layers k 0) (parent_of t v) v)
  pub within : (u : ℕ) → u < count → IsWithin most (growing spans u)

pub following-none : (count most : ℕ) (t : TreeView) (choice : ℕ → Option Span → ℕ) (spans : List (Option Span)) → length spans ≡ count →
    ((u : ℕ) → u < count → IsWithin most (growing spans u)) → Following count most t (growing spans) choice spans (0 ∷ []) 1
following-none count most t choice spans long within = record {
  layers_count = refl;
  spans_count = long;
  spans_are = λ u below. refl;
  follows = λ v positive below. absurd (omega arith);
  within = within;
}

-- one more node
pub following-more : (count most : ℕ) (t : TreeView) (first : ℕ → Option Span) (choice : ℕ → Option Span → ℕ) (spans new : List (Option Span)) (layers more : List ℕ) (number x : ℕ) → (s : Option Span) →
    0 < number → number < count → parent_of t number < number → growing spans (parent_of t number) ≡ s → x ≡ choice number s → x < most →
    more ≡ layers ++ x ∷ [] → length new ≡ count →
    ((u : ℕ) → u < count → growing new u ≡ (if ends_at t u number then widened (growing spans u) x else growing spans u)) →
    Following count most t first choice spans layers number → Following count most t first choice new more (suc number)
following-more count most t first choice spans new layers more number x s positive below above at is small pushed long grows so_far = record {
  layers_count = ap (λ (ls : List ℕ). length ls) pushed ∙ length-append layers (x ∷ []) ∙ (let e = so_far.layers_count in omega arith);
  spans_count = long;
  spans_are = λ u lt.
      let choose : Option Span → ℕ → Option Span = λ r l. if ends_at t u number then widened r l else r in
      grows u lt
      ∙ ap (λ (r : Option Span). choose r x) (so_far.spans_are u lt ∙ span_by-alike (ends_at t) first a b u number same)
      ∙ ap (λ (l : ℕ). choose (span_by (ends_at t) first b u number) l) (sym last);
  follows = λ v later lt.
      elim (cases_eq v number) [
        | inl e ↦
            let up : span_by (ends_at t) first b (parent_of t number) number ≡ s =
            sym (so_far.spans_are (parent_of t number) (omega arith) ∙ span_by-alike (ends_at t) first a b (parent_of t number) number same) ∙ at in
            subst (λ (k : ℕ). b k ≡ choice k (span_by (ends_at t) first b (parent_of t k) k)) (sym e)
            (last ∙ is ∙ ap (λ (r : Option Span). choice number r) (sym up))
        | inr other ↦
            sym (same v (omega arith)) ∙ so_far.follows v later (omega arith)
            ∙ ap (λ (r : Option Span). choice v r) (span_by-alike (ends_at t) first a b (parent_of t v) v (λ k less. same k (omega arith)))
      ];
  within = λ u lt.
      elim (cases_Bool (ends_at t u number)) [
        | inl ends ↦ subst (λ (r : Option Span). IsWithin most r) (sym (grows u lt ∙ rw ends refl)) (widened-within most (growing spans u) x (so_far.within u lt) small)
        | inr none ↦ subst (λ (r : Option Span). IsWithin most r) (sym (grows u lt ∙ rw none refl)) (so_far.within u lt)
      ];
}
  where
    a : ℕ → ℕ
    a k = get_or layers k 0

    b : ℕ → ℕ
    b k = get_or more k 0

    same : (k : ℕ) → k < number → a k ≡ b k
    same k lt = let e = so_far.layers_count in sym (ap (λ (ls : List ℕ). get_or ls k 0) pushed ∙ get_or_append_left layers (x ∷ []) 0 k (omega arith))

    last : b number ≡ x
    last = ap (λ (ls : List ℕ). get_or ls number 0) pushed ∙ get_or_push layers x 0 number so_far.layers_count
