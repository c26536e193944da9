-- Spans by number, and entries of tables by node and span.
use Rattle.std.proofs.Common.{◌≡◌, ◌≢◌, ℕ, suc, zero, ◌+◌, ◌-◌, ◌*◌, ◌/◌, ◌%◌, ◌<◌, ◌≤◌, inl, inr, ◌==◌, true, false, nat_lt, min, List, [], ◌∷◌, length, set, Option, Some, None, slice_get, IfSome, add-one, refl, sym, ap, subst, ◌∙◌, arith}
use Rattle.std.proofs.Math.Nat.{mul-le-mul_left}
use Rattle.std.proofs.lemmas.Bool.{cases_eq, cases_lt, cases_order}
use Rattle.std.proofs.lemmas.Bool.Decides.{nat_tests}
use Rattle.std.proofs.lemmas.List.{get_or-set_same, get_or-set_other}
use Rattle.std.proofs.lemmas.Nat.{div-mul-add, mod-mul-add, mul-add-lt}
use Rattle.gr_base.specs.declared.grid.Shape.{Shape}
use Rattle.gr_base.proofs.GridLemmas.{some_layers}
use Rattle.layer_assign.specs.declared.span.Span.{Span}
use Rattle.layer_assign.specs.Chosen.{holds_pins}
use Rattle.layer_assign.specs.Spans.{widened, IsSpan, IsWithin, triangle, span_number, spans_of, next_span, span_at}
use Rattle.layer_assign.specs.Choices.{entry}
use Rattle.layer_assign.specs.Tables.{HasRows}

-- the sums of the numbers up to one
triangle-next : (d e : ℕ) → e ≡ d + 1 → triangle e ≡ triangle d + e
unfolding triangle
triangle-next d zero is = absurd (omega arith)
triangle-next d (suc e) is = let same : e ≡ d = omega arith in ap (λ (k : ℕ). triangle k + suc e) same

triangle-rises : (d e : ℕ) → d ≤ e → triangle d ≤ triangle e
triangle-rises d zero le = let is : d ≡ 0 = omega arith in let same = ap triangle is in omega (arith, same)
triangle-rises d (suc e) le =
    elim (cases_eq d (suc e)) [
      | inl same ↦ let is = ap triangle same in omega (arith, is)
      | inr other ↦ let rest = triangle-rises d e (omega arith) in let more = triangle-next e (suc e) (omega arith) in omega (arith, rest, more)
    ]

-- a row of spans ends before the next one begins
triangle-below : (d e : ℕ) → d < e → triangle d + d < triangle e
triangle-below d e lt = let more = triangle-next d (d + 1) refl in let rises = triangle-rises (d + 1) e (omega arith) in omega (arith, more, rises)

twice : (n : ℕ) → n * (n + 1) ≡ 2 * triangle n
unfolding triangle
twice zero = refl
twice (suc n) = let rest = twice n in omega (arith, rest)

-- as code computes it
pub triangle-half : (n : ℕ) → n * (n + 1) / 2 ≡ triangle n
triangle-half n =
    let even : n * (n + 1) ≡ triangle n * 2 + 0 = let h = twice n in omega (arith, h) in
    ap (λ (k : ℕ). k / 2) even ∙ div-mul-add (triangle n) 2 0 (omega arith)

pub number-within : (layers : ℕ) (s : Option Span) → IsWithin layers s → span_number layers s < spans_of layers
number-within layers None within = omega arith
number-within layers (Some s) within =
    let ordered = within.ordered in
    let high = within.high in
    let below = triangle-below (layers - 1 - s.low) layers (omega arith) in
    omega arith

sixteen : triangle 16 ≡ 136
unfolding triangle
sixteen = refl

pub few_spans : (layers : ℕ) → layers ≤ 16 → spans_of layers ≤ 137
few_spans layers few = let rises = triangle-rises layers 16 few in let most = sixteen in omega (arith, rises, most)

pub in_row : (node spans number nodes : ℕ) → node < nodes → number < spans → node * spans + number < nodes * spans
in_row node spans number nodes below within = let h = mul-add-lt node spans number nodes below within in omega (arith, h)

-- an entry of a table
pub place-within : (layers nodes node : ℕ) (s : Option Span) (table : List ℕ) → HasRows layers nodes table → node < nodes → IsWithin layers s →
    node * spans_of layers + span_number layers s < length table
place-within layers nodes node s table rows below within =
    let h : node * spans_of layers + span_number layers s < nodes * spans_of layers =
    in_row node (spans_of layers) (span_number layers s) nodes below (number-within layers s within) in
    subst (λ (n : ℕ). node * spans_of layers + span_number layers s < n) (sym rows) h

pub place-small : (layers node : ℕ) (s : Option Span) → layers ≤ 16 → node < 8388608 → IsWithin layers s → node * spans_of layers + span_number layers s < 1149239296
place-small layers node s few below within =
    let h = in_row node (spans_of layers) (span_number layers s) 8388608 below (number-within layers s within) in
    plain (node * spans_of layers + span_number layers s) (spans_of layers) h (few_spans layers few)
  where
    plain : (place spans : ℕ) → place < 8388608 * spans → spans ≤ 137 → place < 1149239296
    plain place spans h few = omega arith

-- the elements of a list of which one is set
pub get-set_same : {X : Type 0} (xs : List X) (i : ℕ) (v : X) → i < length xs → slice_get (set xs i v) i ≡ Some v
get-set_same [] i v below = absurd (omega arith)
get-set_same (x ∷ xs) zero v below = refl
get-set_same (x ∷ xs) (suc i) v below = get-set_same xs i v (omega arith)

pub get-set_other : {X : Type 0} (xs : List X) (i k : ℕ) (v : X) → k ≢ i → slice_get (set xs i v) k ≡ slice_get xs k
get-set_other [] i k v other = refl
get-set_other (x ∷ xs) zero zero v other = absurd (other refl)
get-set_other (x ∷ xs) zero (suc k) v other = refl
get-set_other (x ∷ xs) (suc i) zero v other = refl
get-set_other (x ∷ xs) (suc i) (suc k) v other = get-set_other xs i k v (λ e. other (ap suc e))

-- one more element is as f says
pub get-set_more : {X : Type 0} (xs : List X) (f : ℕ → X) (i : ℕ) (v : X) → i < length xs → v ≡ f i →
    ((k : ℕ) → k < i → slice_get xs k ≡ Some (f k)) → (k : ℕ) → k < i + 1 → slice_get (set xs i v) k ≡ Some (f k)
get-set_more xs f i v below is so_far k lt =
    elim (cases_eq k i) [
      | inl same ↦ subst (λ (j : ℕ). slice_get (set xs i v) j ≡ Some (f j)) (sym same) (get-set_same xs i v below ∙ ap Some is)
      | inr other ↦ get-set_other xs i k v other ∙ so_far k (omega arith)
    ]

-- spans are told apart by their numbers
same_of : (layers : ℕ) (s t : Span) → IsSpan layers s → IsSpan layers t → span_number layers (Some s) ≡ span_number layers (Some t) → Some s ≡ Some t
same_of layers s t first second same =
    let ordered = first.ordered in
    let high = first.high in
    let other_ordered = second.ordered in
    let other_high = second.high in
    elim (cases_order s.low t.low) [
      | inl low ↦
          let rows : triangle (layers - 1 - s.low) ≡ triangle (layers - 1 - t.low) = ap (λ (k : ℕ). triangle (layers - 1 - k)) low in
          let highs : s.high ≡ t.high = omega arith in
          let by_low : ℕ → Option Span = λ k. Some (record { low = k; high = s.high }) in
          let by_high : ℕ → Option Span = λ k. Some (record { low = t.low; high = k }) in
          ap by_low low ∙ ap by_high highs
      | inr (inl less) ↦ let below = triangle-below (layers - 1 - t.low) (layers - 1 - s.low) (omega arith) in absurd (omega arith)
      | inr (inr more) ↦ let below = triangle-below (layers - 1 - s.low) (layers - 1 - t.low) (omega arith) in absurd (omega arith)
    ]

pub same_span : (layers : ℕ) (s t : Option Span) → IsWithin layers s → IsWithin layers t → span_number layers s ≡ span_number layers t → s ≡ t
same_span layers None None first second same = refl
same_span layers None (Some t) first second same = absurd (omega arith)
same_span layers (Some s) None first second same = absurd (omega arith)
same_span layers (Some s) (Some t) first second same = same_of layers s t first second same

-- a span that comes before another by number doesn't hold it
pub narrow-out : (layers : ℕ) (f s : Option Span) → IsWithin layers f → IsWithin layers s → span_number layers s < span_number layers f → holds_pins f s ≡ false
narrow-out layers None s first second less = absurd (omega arith)
narrow-out layers (Some f) None first second less = refl
narrow-out layers (Some f) (Some s) first second less =
    let ordered = first.ordered in
    let high = first.high in
    let other_ordered = second.ordered in
    let other_high = second.high in
    elim (cases_order s.low f.low) [
      | inl low ↦
          let rows : triangle (layers - 1 - s.low) ≡ triangle (layers - 1 - f.low) = ap (λ (k : ℕ). triangle (layers - 1 - k)) low in
          let short : s.high < f.high = omega arith in
          grind (arith, nat_tests)
      | inr (inl under) ↦ let below = triangle-below (layers - 1 - f.low) (layers - 1 - s.low) (omega arith) in absurd (omega arith)
      | inr (inr over) ↦ grind (arith, nat_tests)
    ]

-- a wider span has no less a number
pub number-wider : (layers : ℕ) (s : Option Span) (l : ℕ) → IsWithin layers s → l < layers → span_number layers s ≤ span_number layers (widened s l)
number-wider layers None l within below = omega arith
number-wider layers (Some s) l within below =
    let ordered = within.ordered in
    let high = within.high in
    elim (cases_lt l s.low) [
      | inl lower ↦
          let low : min s.low l ≡ l = omega arith in
          let less = triangle-below (layers - 1 - s.low) (layers - 1 - l) (omega arith) in
          let rows : triangle (layers - 1 - min s.low l) ≡ triangle (layers - 1 - l) = ap (λ (k : ℕ). triangle (layers - 1 - k)) low in
          omega (arith, rows, less)
      | inr above ↦
          let low : min s.low l ≡ s.low = omega arith in
          let rows : triangle (layers - 1 - min s.low l) ≡ triangle (layers - 1 - s.low) = ap (λ (k : ℕ). triangle (layers - 1 - k)) low in
          omega (arith, rows, low)
    ]

-- the next span has the next number, and after the widest the first
pub next-within : (layers : ℕ) (s : Option Span) → 0 < layers → IsWithin layers s → IsWithin layers (next_span layers s)
next-within layers None some within = record { ordered = omega arith; high = omega arith }
next-within layers (Some s) some within =
    let ordered = within.ordered in
    let high = within.high in
    elim (cases_lt (s.high + 1) layers) [
      | inl less ↦ let test : nat_lt (s.high + 1) layers ≡ true = grind (arith, nat_tests) in rw test (record { ordered = omega arith; high = less })
      | inr last ↦
          let test : nat_lt (s.high + 1) layers ≡ false = grind (arith, nat_tests) in
          elim (cases_eq s.low 0) [
            | inl zero_low ↦ let at : (s.low == 0) ≡ true = grind (arith, nat_tests) in rw test (rw at tt)
            | inr other ↦ let at : (s.low == 0) ≡ false = grind (arith, nat_tests) in rw test (rw at (record { ordered = omega arith; high = omega arith }))
          ]
    ]

next-number : (layers : ℕ) (s : Option Span) → 0 < layers → IsWithin layers s → span_number layers s + 1 < spans_of layers →
    span_number layers (next_span layers s) ≡ span_number layers s + 1
unfolding triangle
next-number layers None some within more = let none : layers - 1 - (layers - 1) ≡ 0 = omega arith in rw none (omega arith)
next-number layers (Some s) some within more =
    let ordered = within.ordered in
    let high = within.high in
    elim (cases_lt (s.high + 1) layers) [
      | inl less ↦ let test : nat_lt (s.high + 1) layers ≡ true = grind (arith, nat_tests) in rw test (omega arith)
      | inr last ↦
          let test : nat_lt (s.high + 1) layers ≡ false = grind (arith, nat_tests) in
          let row = triangle-next (layers - 1 - s.low) (layers - 1 - s.low + 1) refl in
          elim (cases_eq s.low 0) [
            | inl zero_low ↦
                let whole : triangle (layers - 1 - s.low + 1) ≡ triangle layers = ap triangle (omega arith) in
                absurd (omega (arith, row, whole))
            | inr other ↦
                let at : (s.low == 0) ≡ false = grind (arith, nat_tests) in
                let next : triangle (layers - 1 - s.low + 1) ≡ triangle (layers - 1 - (s.low - 1)) = ap triangle (omega arith) in
                rw test (rw at (omega (arith, row, next)))
          ]
    ]

next-last : (layers : ℕ) (s : Option Span) → 0 < layers → IsWithin layers s → span_number layers s + 1 ≡ spans_of layers → next_span layers s ≡ None
next-last layers None some within last = let more = triangle-below 0 layers some in absurd (omega (arith, more))
next-last layers (Some s) some within last =
    let ordered = within.ordered in
    let high = within.high in
    let low : s.low ≡ 0 = elim (cases_eq s.low 0) [
      | inl is ↦ is
      | inr other ↦
          let more = triangle-below (layers - 1 - s.low) (layers - 1) (omega arith) in
          let whole = triangle-below (layers - 1) layers (omega arith) in
          absurd (omega (arith, more, whole))
    ] in
    let row = triangle-next (layers - 1) (layers - 1 + 1) refl in
    let whole : triangle (layers - 1 + 1) ≡ triangle layers = ap triangle (omega arith) in
    let own : triangle (layers - 1 - s.low) ≡ triangle (layers - 1) = ap triangle (omega arith) in
    let test : nat_lt (s.high + 1) layers ≡ false = let wide : s.high + 1 ≡ layers = omega (arith, row, whole, own) in grind (arith, nat_tests) in
    let at : (s.low == 0) ≡ true = grind (arith, nat_tests) in
    rw test (rw at refl)

-- the spans by their numbers
pub span_at-within : (layers number : ℕ) → 0 < layers → IsWithin layers (span_at layers number)
unfolding span_at
span_at-within layers zero some = tt
span_at-within layers (suc number) some = next-within layers (span_at layers number) some (span_at-within layers number some)

pub span_at-numbered : (layers number : ℕ) → 0 < layers → number < spans_of layers → span_number layers (span_at layers number) ≡ number
unfolding span_at
span_at-numbered layers zero some below = refl
span_at-numbered layers (suc number) some below =
    let before = span_at-numbered layers number some (omega arith) in
    next-number layers (span_at layers number) some (span_at-within layers number some) (omega arith) ∙ omega arith

pub span_at-number : (layers : ℕ) (s : Option Span) → 0 < layers → IsWithin layers s → span_at layers (span_number layers s) ≡ s
span_at-number layers s some within =
    same_span layers (span_at layers (span_number layers s)) s (span_at-within layers (span_number layers s) some) within
    (span_at-numbered layers (span_number layers s) some (number-within layers s within))

pub span_at-next : (layers number : ℕ) → span_at layers (number + 1) ≡ next_span layers (span_at layers number)
unfolding span_at
span_at-next layers number = rw add-one refl

whole-round : (layers : ℕ) → 0 < layers → span_at layers (spans_of layers) ≡ None
whole-round layers some =
    let at = span_at-numbered layers (triangle layers) some (omega arith) in
    let count : spans_of layers ≡ triangle layers + 1 = omega arith in
    ap (span_at layers) count ∙ span_at-next layers (triangle layers)
    ∙ next-last layers (span_at layers (triangle layers)) some (span_at-within layers (triangle layers) some) (omega (arith, at))

shifted : (layers a b : ℕ) → span_at layers a ≡ None → span_at layers (a + b) ≡ span_at layers b
unfolding span_at
shifted layers a zero none = let at : a + 0 ≡ a = omega arith in ap (span_at layers) at ∙ none
shifted layers a (suc b) none =
    let at : a + suc b ≡ a + b + 1 = omega arith in
    ap (span_at layers) at ∙ span_at-next layers (a + b) ∙ ap (next_span layers) (shifted layers a b none)

-- rows follow one another
pub span_at-row : (layers row number : ℕ) → 0 < layers → span_at layers (row * spans_of layers + number) ≡ span_at layers number
span_at-row layers zero number some = let at : 0 * spans_of layers + number ≡ number = omega arith in ap (span_at layers) at
span_at-row layers (suc row) number some =
    let at : suc row * spans_of layers + number ≡ spans_of layers + (row * spans_of layers + number) = omega arith in
    ap (span_at layers) at ∙ shifted layers (spans_of layers) (row * spans_of layers + number) (whole-round layers some) ∙ span_at-row layers row number some

-- the spans of a turn
pub turn-within : (g : Shape) (s : Option Span) (number : ℕ) → s ≡ span_at g.layers number → IsWithin g.layers s
turn-within g s number is = subst (λ (r : Option Span). IsWithin g.layers r) (sym is) (span_at-within g.layers number (some_layers g))

pub turn-numbered : (g : Shape) (s : Option Span) (number : ℕ) → s ≡ span_at g.layers number → number < spans_of g.layers → span_number g.layers s ≡ number
turn-numbered g s number is below = ap (span_number g.layers) is ∙ span_at-numbered g.layers number (some_layers g) below

pub turn-next : (layers : ℕ) (s next : Option Span) (number : ℕ) → s ≡ span_at layers number → next ≡ next_span layers s → next ≡ span_at layers (number + 1)
turn-next layers s next number at is = is ∙ ap (next_span layers) at ∙ sym (span_at-next layers number)

pub ordered-within : (layers : ℕ) (s : Option Span) → IsWithin layers s → IfSome s (λ r. r.low ≤ r.high)
ordered-within layers None within = tt
ordered-within layers (Some s) within = within.ordered

-- places in a table are told apart by their node and number
pub place-apart : (spans u v x y : ℕ) → x < spans → y < spans → u * spans + x ≡ v * spans + y → (u ≡ v) × (x ≡ y)
place-apart spans u v x y first second same =
    let q = div-mul-add u spans x first in
    let r = div-mul-add v spans y second in
    let m = mod-mul-add u spans x first in
    let n = mod-mul-add v spans y second in (
      sym q ∙ ap (λ (k : ℕ). k / spans) same ∙ r,
      sym m ∙ ap (λ (k : ℕ). k % spans) same ∙ n,
    )

pub entry-set_same : (layers nodes : ℕ) (table : List ℕ) (u : ℕ) (s : Option Span) (x : ℕ) → HasRows layers nodes table → u < nodes → IsWithin layers s →
    entry layers (set table (u * spans_of layers + span_number layers s) x) u s ≡ x
entry-set_same layers nodes table u s x rows below within =
    get_or-set_same table (u * spans_of layers + span_number layers s) x 0 (place-within layers nodes u s table rows below within)

pub entry-set_other : (layers : ℕ) (table : List ℕ) (u v : ℕ) (s t : Option Span) (x : ℕ) → IsWithin layers s → IsWithin layers t →
    ((u ≡ v) → span_number layers s ≡ span_number layers t → ⊥) → entry layers (set table (u * spans_of layers + span_number layers s) x) v t ≡ entry layers table v t
entry-set_other layers table u v s t x first second apart =
    get_or-set_other table (u * spans_of layers + span_number layers s) (v * spans_of layers + span_number layers t) x 0
    (λ same.
    let parts = place-apart (spans_of layers) u v (span_number layers s) (span_number layers t) (number-within layers s first) (number-within layers t second) (sym same) in
    apart parts.0 parts.1)

-- a node's row lies in the table
pub row-within : (layers nodes node : ℕ) (table : List ℕ) → HasRows layers nodes table → node < nodes → node * spans_of layers + spans_of layers ≤ length table
row-within layers nodes node table rows below =
    let more : node + 1 ≤ nodes = omega arith in
    let le : spans_of layers * (node + 1) ≤ spans_of layers * nodes = mul-le-mul_left (spans_of layers) more in
    subst (λ (n : ℕ). node * spans_of layers + spans_of layers ≤ n) (sym rows) (plain (spans_of layers) le)
  where
    plain : (spans : ℕ) → spans * (node + 1) ≤ spans * nodes → node * spans + spans ≤ nodes * spans
    plain spans le = omega arith
