-- The first of some labelled cells, and their marks.
use Rattle.std.proofs.Common.{◌≡◌, ℕ, ◌+◌, ◌<◌, ◌≤◌, ◌⊎◌, inl, inr, Bool, true, false, ◌&&◌, ◌||◌, ◌==◌, nat_lt, nat_le, List, [], ◌∷◌, ◌++◌, length, take, get_or, Option, Some, None, slice_set, IsTrue, if◌then◌else◌, refl, sym, ap, subst, ◌∙◌, arith}
use Rattle.std.proofs.lemmas.Bool.{cases_lt, cases_eq, cases_Bool, both_ways}
use Rattle.std.proofs.lemmas.Bool.Decides.{nat_tests}
use Rattle.std.proofs.lemmas.List.{take_more, get_or-set_same, get_or-set_other}
use Rattle.std.proofs.lemmas.List.Folds.{list_any-append}
use Rattle.std.proofs.lemmas.Option.{none-some, same_Some}
use Rattle.gr_base.specs.Trees.{is_among}
use Rattle.maze_route.specs.Ends.{reached_at, is_earlier, earlier_of, IsFirst, IsFirstOf}
use Rattle.maze_route.specs.Search.{is_marked}
use Rattle.maze_route.specs.declared.pane.Reached.{Reached}

pub among-cases : (cells : List ℕ) (cell n : ℕ) → IsTrue (is_among (cells ++ cell ∷ []) n) → IsTrue (is_among cells n) ⊎ (cell ≡ n)
among-cases cells cell n among =
    let e : (is_among cells n || ((cell == n) || false)) ≡ true = sym (list_any-append (λ other. other == n) cells (cell ∷ [])) ∙ among in
    elim (cases_Bool (is_among cells n)) [
      | inl is ↦ inl is
      | inr isnt ↦ inr (grind (arith, nat_tests))
    ]

among-more : (cells : List ℕ) (cell n : ℕ) → IsTrue (is_among cells n) → IsTrue (is_among (cells ++ cell ∷ []) n)
among-more cells cell n among = list_any-append (λ other. other == n) cells (cell ∷ []) ∙ ap (λ b. b || ((cell == n) || false)) among

or-true : (a b : Bool) → b ≡ true → (a || b) ≡ true
or-true true b is = refl
or-true false b is = is

among-last : (cells : List ℕ) (cell : ℕ) → IsTrue (is_among (cells ++ cell ∷ []) cell)
among-last cells cell =
    let same : (cell == cell) ≡ true = grind (arith, nat_tests) in
    list_any-append (λ other. other == cell) cells (cell ∷ []) ∙ or-true (is_among cells cell) ((cell == cell) || false) (ap (λ b. b || false) same)

-- one more cell without a label
first-none : (label : ℕ → Option ℕ) (cells : List ℕ) (cell : ℕ) (first : Option Reached) → label cell ≡ None → IsFirstOf label cells first → IsFirstOf label (cells ++ cell ∷ []) first
first-none label cells cell None none is = λ other among.
    elim (among-cases cells cell other among) [
      | inl before ↦ is other before
      | inr same ↦ sym (ap label same) ∙ none
    ]
first-none label cells cell (Some best) none is = record {
  among = among-more cells cell best.cell is.among;
  labelled = is.labelled;
  before = λ other cost among labelled.
      elim (among-cases cells cell other among) [
        | inl before ↦ is.before other cost before labelled
        | inr same ↦ absurd (none-some cost (sym none ∙ ap label same ∙ labelled))
      ];
}

-- the new cell is the only one with a label, or the earlier one
first-new : (label : ℕ → Option ℕ) (cells : List ℕ) (cell cost : ℕ) → label cell ≡ Some cost →
    ((other c : ℕ) → IsTrue (is_among cells other) → label other ≡ Some c → (cost < c) ⊎ ((cost ≡ c) × (cell ≤ other))) → IsFirst label (cells ++ cell ∷ []) (reached_at cell cost)
first-new label cells cell cost is others = record {
  among = among-last cells cell;
  labelled = is;
  before = λ other c among labelled.
      elim (among-cases cells cell other among) [
        | inl before ↦ others other c before labelled
        | inr same ↦ inr (same_Some cost c (sym is ∙ ap label same ∙ labelled), omega arith)
      ];
}

earlier-true : (a m b n : ℕ) → is_earlier a m b n ≡ true → (a < b) ⊎ ((a ≡ b) × (m ≤ n))
earlier-true a m b n test =
    elim (cases_lt a b) [
      | inl less ↦ inl less
      | inr more ↦
          let not_less : nat_lt a b ≡ false = grind (arith, nat_tests) in
          let rest : (a == b && nat_le m n) ≡ true = sym (ap (λ t. t || (a == b && nat_le m n)) not_less) ∙ test in
          inr (grind (arith, nat_tests), grind (arith, nat_tests))
    ]

earlier-false : (a m b n : ℕ) → is_earlier a m b n ≡ false → (b < a) ⊎ ((a ≡ b) × (n < m))
earlier-false a m b n test =
    elim (cases_lt b a) [
      | inl less ↦ inl less
      | inr more ↦ elim (cases_lt a b) [
        | inl less ↦
            let yes_less : nat_lt a b ≡ true = grind (arith, nat_tests) in
            absurd (both_ways true (sym (ap (λ t. t || (a == b && nat_le m n)) yes_less) ∙ test) refl)
        | inr le ↦
            let same : a ≡ b = omega arith in
            inr (
              same,
              elim (cases_lt n m) [
                | inl low ↦ low
                | inr high ↦
                    let one : nat_lt a b ≡ false = grind (arith, nat_tests) in
                    let two : (a == b) ≡ true = grind (arith, nat_tests) in
                    let three : nat_le m n ≡ true = grind (arith, nat_tests) in
                    absurd (both_ways true (sym (ap (λ t. t || (a == b && nat_le m n)) one ∙ ap (λ t. t && nat_le m n) two ∙ three) ∙ test) refl)
              ],
            )
      ]
    ]

first-if : (label : ℕ → Option ℕ) (cells : List ℕ) (cell cost : ℕ) (best : Reached) (earlier : Bool) → is_earlier best.cost best.cell cost cell ≡ earlier → label cell ≡ Some cost →
    IsFirst label cells best → IsFirstOf label (cells ++ cell ∷ []) (if earlier then Some best else Some (reached_at cell cost))
first-if label cells cell cost best true test is first = record {
  among = among-more cells cell best.cell first.among;
  labelled = first.labelled;
  before = λ other c among labelled.
      elim (among-cases cells cell other among) [
        | inl before ↦ first.before other c before labelled
        | inr same ↦
            let e : cost ≡ c = same_Some cost c (sym is ∙ ap label same ∙ labelled) in
            let h = earlier-true best.cost best.cell cost cell test in
            elim h [
              | inl less ↦ inl (omega arith)
              | inr equal ↦ inr (omega (arith, equal.0), omega (arith, equal.1))
            ]
      ];
}
first-if label cells cell cost best false test is first =
    first-new label cells cell cost is (λ other c among labelled.
    let h = earlier-false best.cost best.cell cost cell test in
    elim (first.before other c among labelled) [
      | inl less ↦ elim h [
        | inl more ↦ inl (omega arith)
        | inr equal ↦ inl (omega (arith, equal.0))
      ]
      | inr same ↦ elim h [
        | inl more ↦ inl (omega (arith, same.0))
        | inr equal ↦ inr (omega (arith, equal.0, same.0), omega (arith, equal.1, same.1))
      ]
    ])

first-some : (label : ℕ → Option ℕ) (cells : List ℕ) (cell cost : ℕ) (first : Option Reached) → label cell ≡ Some cost → IsFirstOf label cells first →
    IsFirstOf label (cells ++ cell ∷ []) (earlier_of first (Some cost) cell)
first-some label cells cell cost None is none = first-new label cells cell cost is (λ other c among labelled. absurd (none-some c (sym (none other among) ∙ labelled)))
first-some label cells cell cost (Some best) is first = first-if label cells cell cost best (is_earlier best.cost best.cell cost cell) refl is first

first-found : (label : ℕ → Option ℕ) (cells : List ℕ) (cell : ℕ) (first : Option Reached) (found : Option ℕ) → found ≡ label cell → IsFirstOf label cells first →
    IsFirstOf label (cells ++ cell ∷ []) (earlier_of first found cell)
first-found label cells cell first None is so_far = first-none label cells cell first (sym is) so_far
first-found label cells cell first (Some cost) is so_far = first-some label cells cell cost first (sym is) so_far

-- the first of the cells so far and of one more
pub first-turn : (label : ℕ → Option ℕ) (ends : List ℕ) (at cell d : ℕ) (first next : Option Reached) (found : Option ℕ) → at < length ends → cell ≡ get_or ends at d →
    found ≡ label cell → next ≡ earlier_of first found cell → IsFirstOf label (take at ends) first → IsFirstOf label (take (at + 1) ends) next
first-turn label ends at cell d first next found below is found_is next_is so_far =
    let P : List ℕ → Type 0 = λ xs. IsFirstOf label xs next in
    let Q : Option Reached → Type 0 = λ r. IsFirstOf label (take at ends ++ cell ∷ []) r in
    let push : take (at + 1) ends ≡ take at ends ++ cell ∷ [] = take_more ends at d below ∙ ap (λ (c : ℕ). take at ends ++ c ∷ []) (sym is) in
    subst P (sym push) (subst Q (sym next_is) (first-found label (take at ends) cell first found found_is so_far))

or-false : (a : Bool) → (a || false) ≡ a
or-false true = refl
or-false false = refl

or-comm : (a b : Bool) → (a || b) ≡ (b || a)
or-comm true true = refl
or-comm true false = refl
or-comm false true = refl
or-comm false false = refl

-- what is marked once another cell is
mark-set : (marks : List Bool) (end n : ℕ) → end < length marks → is_marked (slice_set marks end true) n ≡ ((n == end) || is_marked marks n)
mark-set marks end n inside =
    elim (cases_eq n end) [
      | inl same ↦
          let here : (n == end) ≡ true = grind (arith, nat_tests) in
          ap (λ (k : ℕ). is_marked (slice_set marks end true) k) same ∙ get_or-set_same marks end true false inside ∙ sym (ap (λ (b : Bool). b || is_marked marks n) here)
      | inr other ↦
          let there : (n == end) ≡ false = grind (arith, nat_tests) in
          get_or-set_other marks end n true false other ∙ sym (ap (λ (b : Bool). b || is_marked marks n) there)
    ]

-- one more mark
pub mark-turn : (marks after : List Bool) (ends : List ℕ) (at end d n : ℕ) → at < length ends → end ≡ get_or ends at d → end < length marks → after ≡ slice_set marks end true →
    is_marked marks n ≡ is_among (take at ends) n → is_marked after n ≡ is_among (take (at + 1) ends) n
mark-turn marks after ends at end d n below is inside set so_far =
    let push : take (at + 1) ends ≡ take at ends ++ end ∷ [] = take_more ends at d below ∙ ap (λ (c : ℕ). take at ends ++ c ∷ []) (sym is) in
    let swapped : (n == end) ≡ (end == n) = elim (cases_eq n end) [
      | inl same ↦
          let one : (n == end) ≡ true = grind (arith, nat_tests) in
          let two : (end == n) ≡ true = grind (arith, nat_tests) in
          one ∙ sym two
      | inr other ↦
          let one : (n == end) ≡ false = grind (arith, nat_tests) in
          let two : (end == n) ≡ false = grind (arith, nat_tests) in
          one ∙ sym two
    ] in
    ap (λ (xs : List Bool). is_marked xs n) set
    ∙ mark-set marks end n inside
    ∙ ap (λ b. b || is_marked marks n) swapped
    ∙ or-comm (end == n) (is_marked marks n)
    ∙ ap (λ b. b || (end == n)) so_far
    ∙ ap (λ b. is_among (take at ends) n || b) (sym (or-false (end == n)))
    ∙ sym (list_any-append (λ other. other == n) (take at ends) (end ∷ []))
    ∙ ap (λ (xs : List ℕ). is_among xs n) (sym push)
