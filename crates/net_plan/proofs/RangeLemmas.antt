-- Tests on the numbers of a range.
use Rattle.std.proofs.Common.{◌≡◌, ℕ, zero, suc, ◌+◌, ◌-◌, ◌<◌, ◌≤◌, inl, inr, Bool, true, false, Option, Some, None, find, List, [], ◌∷◌, ◌++◌, All, count_by, if◌then◌else◌, refl, sym, ap, ◌∙◌, arith}
use Rattle.std.specs.List.{range_with_len, list_any}
use Rattle.std.proofs.lemmas.Bool.{cases_Bool, cases_eq, cases_lt}
use Rattle.std.proofs.lemmas.List.Elements.{All-nil, All-cons}
use Rattle.std.proofs.lemmas.List.Folds.{list_any-append}
use Rattle.std.proofs.lemmas.List.FromFn.{map-range_with_len_more}
use Rattle.std.proofs.lemmas.List.Sums.{sum_by-cons}
use Rattle.std.proofs.lemmas.List.{map-id}
use Rattle.std.proofs.lemmas.Option.{none-some, same_Some}

-- what holds of each number of a range
pub All-range : (P : ℕ → Type 0) (n a : ℕ) → ((k : ℕ) → k < a + n → P k) → All P (range_with_len a n)
All-range P zero a each = All-nil P
All-range P (suc n) a each =
    All-cons P a (range_with_len (a + 1) n) (each a (omega arith)) (All-range P n (a + 1) (λ k below. each k (omega arith)))

-- a number of a range passes the test
pub any-range : (p : ℕ → Bool) (n a k : ℕ) → a ≤ k → k < a + n → p k ≡ true → list_any p (range_with_len a n) ≡ true
any-range p zero a k low high passes = absurd (omega arith)
any-range p (suc n) a k low high passes =
    elim (cases_Bool (p a)) [
      | inl here ↦ rw here refl
      | inr elsewhere ↦
          elim (cases_eq a k) [
            | inl same ↦ let too = ap p same ∙ passes in cc
            | inr other ↦ rw elsewhere (any-range p n (a + 1) k (omega arith) (omega arith) passes)
          ]
    ]

-- the first number of a range that passes the test
find-yes : (p : ℕ → Bool) (n a : ℕ) → p a ≡ true → find p (range_with_len a (suc n)) ≡ Some a
find-yes p n a passes = rw passes refl

find-no : (p : ℕ → Bool) (n a : ℕ) → p a ≡ false → find p (range_with_len a (suc n)) ≡ find p (range_with_len (a + 1) n)
find-no p n a fails = rw fails refl

pub found-later : (p : ℕ → Bool) (end a : ℕ) → a < end → p a ≡ false → find p (range_with_len (a + 1) (end - (a + 1))) ≡ find p (range_with_len a (end - a))
found-later p end a below fails =
    let count : end - a ≡ suc (end - (a + 1)) = omega arith in
    sym (ap (λ (n : ℕ). find p (range_with_len a n)) count ∙ find-no p (end - (a + 1)) a fails)

pub found-none : (p : ℕ → Bool) (end a : ℕ) → end ≤ a → find p (range_with_len a (end - a)) ≡ None
found-none p end a past = let none : end - a ≡ 0 = omega arith in ap (λ (n : ℕ). find p (range_with_len a n)) none

-- where none of the numbers below passes, the search may begin past them
pub found-from : (p : ℕ → Bool) (end a : ℕ) → ((k : ℕ) → k < a → p k ≡ false) →
    find p (range_with_len a (end - a)) ≡ find p (range_with_len 0 end)
found-from p end zero fails = let whole : end - 0 ≡ end = omega arith in ap (λ (n : ℕ). find p (range_with_len 0 n)) whole
found-from p end (suc a) fails =
    let rest = found-from p end a (λ k below. fails k (omega arith)) in
    let next : suc a ≡ a + 1 = omega arith in
    elim (cases_lt a end) [
      | inl below ↦ ap (λ (n : ℕ). find p (range_with_len n (end - n))) next ∙ found-later p end a below (fails a (omega arith)) ∙ rest
      | inr past ↦ found-none p end (suc a) (omega arith) ∙ sym (found-none p end a past) ∙ rest
    ]

pub find-some : (p : ℕ → Bool) (n a v : ℕ) → find p (range_with_len a n) ≡ Some v → (v < a + n) × (p v ≡ true)
find-some p zero a v is = absurd (none-some v is)
find-some p (suc n) a v is =
    elim (cases_Bool (p a)) [
      | inl passes ↦
          let same : a ≡ v = same_Some a v (sym (find-yes p n a passes) ∙ is) in
          (omega arith, ap p (sym same) ∙ passes)
      | inr fails ↦
          let rest = find-some p n (a + 1) v (sym (find-no p n a fails) ∙ is) in
          let below = rest.0 in
          (omega arith, rest.1)
    ]

-- no number before the first one passes
pub find-before : (p : ℕ → Bool) (n a v k : ℕ) → find p (range_with_len a n) ≡ Some v → a ≤ k → k < v → p k ≡ false
find-before p zero a v k is low high = absurd (none-some v is)
find-before p (suc n) a v k is low high =
    elim (cases_Bool (p a)) [
      | inl passes ↦
          let same : a ≡ v = same_Some a v (sym (find-yes p n a passes) ∙ is) in
          absurd (omega arith)
      | inr fails ↦
          elim (cases_eq a k) [
            | inl same ↦ ap p (sym same) ∙ fails
            | inr other ↦ find-before p n (a + 1) v k (sym (find-no p n a fails) ∙ is) (omega arith) high
          ]
    ]

pub find-none : (p : ℕ → Bool) (n a k : ℕ) → find p (range_with_len a n) ≡ None → a ≤ k → k < a + n → p k ≡ false
find-none p zero a k is low high = absurd (omega arith)
find-none p (suc n) a k is low high =
    elim (cases_Bool (p a)) [
      | inl passes ↦ absurd (some-none a (sym (find-yes p n a passes) ∙ is))
      | inr fails ↦
          elim (cases_eq a k) [
            | inl same ↦ ap p (sym same) ∙ fails
            | inr other ↦ find-none p n (a + 1) k (sym (find-no p n a fails) ∙ is) (omega arith) (omega arith)
          ]
    ]
  where
    some-none : (v : ℕ) → ◌≡◌ {A = Option ℕ} (Some v) None → ⊥
    some-none v e = cc

pub find-same : (p q : ℕ → Bool) (n a : ℕ) → ((k : ℕ) → k < a + n → p k ≡ q k) → find p (range_with_len a n) ≡ find q (range_with_len a n)
find-same p q zero a same = refl
find-same p q (suc n) a same =
    let here = same a (omega arith) in
    let rest = find-same p q n (a + 1) (λ k below. same k (omega arith)) in
    elim (cases_Bool (q a)) [
      | inl passes ↦ find-yes p n a (here ∙ passes) ∙ sym (find-yes q n a passes)
      | inr fails ↦ find-no p n a (here ∙ fails) ∙ rest ∙ sym (find-no q n a fails)
    ]

-- how many numbers of a range pass a test
count-yes : (p : ℕ → Bool) (n a : ℕ) → p a ≡ true → count_by p (range_with_len a (suc n)) ≡ 1 + count_by p (range_with_len (a + 1) n)
count-yes p n a passes =
    let f : ℕ → ℕ = λ k. if p k then 1 else 0 in
    sum_by-cons f a (range_with_len (a + 1) n) ∙ (rw passes refl)

count-no : (p : ℕ → Bool) (n a : ℕ) → p a ≡ false → count_by p (range_with_len a (suc n)) ≡ count_by p (range_with_len (a + 1) n)
count-no p n a fails =
    let f : ℕ → ℕ = λ k. if p k then 1 else 0 in
    sum_by-cons f a (range_with_len (a + 1) n) ∙ (rw fails (omega arith))

count-same : (p q : ℕ → Bool) (n a : ℕ) → ((k : ℕ) → a ≤ k → q k ≡ p k) → count_by q (range_with_len a n) ≡ count_by p (range_with_len a n)
count-same p q zero a same = refl
count-same p q (suc n) a same =
    let here = same a (omega arith) in
    let rest = count-same p q n (a + 1) (λ k low. same k (omega arith)) in
    elim (cases_Bool (p a)) [
      | inl passes ↦ count-yes q n a (here ∙ passes) ∙ ap (λ (m : ℕ). 1 + m) rest ∙ sym (count-yes p n a passes)
      | inr fails ↦ count-no q n a (here ∙ fails) ∙ rest ∙ sym (count-no p n a fails)
    ]

-- one number passes no more
pub count-less : (p q : ℕ → Bool) (n a v : ℕ) → a ≤ v → v < a + n → p v ≡ true → q v ≡ false → ((k : ℕ) → (k ≡ v → ⊥) → q k ≡ p k) →
    count_by q (range_with_len a n) + 1 ≡ count_by p (range_with_len a n)
count-less p q zero a v low high passes fails same = absurd (omega arith)
count-less p q (suc n) a v low high passes fails same =
    elim (cases_eq a v) [
      | inl here ↦
          let before = count-yes p n a (ap p here ∙ passes) in
          let after = count-no q n a (ap q here ∙ fails) in
          let rest = count-same p q n (a + 1) (λ k past. same k (λ is. absurd (omega arith))) in
          omega arith
      | inr other ↦
          let rest = count-less p q n (a + 1) v (omega arith) (omega arith) passes fails same in
          elim (cases_Bool (p a)) [
            | inl too ↦
                let before = count-yes p n a too in
                let after = count-yes q n a (same a other ∙ too) in
                omega arith
            | inr no_more ↦
                let before = count-no p n a no_more in
                let after = count-no q n a (same a other ∙ no_more) in
                omega arith
          ]
    ]

pub count-none : (p : ℕ → Bool) (n a k : ℕ) → count_by p (range_with_len a n) ≡ 0 → a ≤ k → k < a + n → p k ≡ false
count-none p zero a k none low high = absurd (omega arith)
count-none p (suc n) a k none low high =
    elim (cases_Bool (p a)) [
      | inl passes ↦ let some = count-yes p n a passes in absurd (omega arith)
      | inr fails ↦
          let rest = count-no p n a fails in
          elim (cases_eq a k) [
            | inl same ↦ ap p (sym same) ∙ fails
            | inr other ↦ count-none p n (a + 1) k (sym rest ∙ none) (omega arith) (omega arith)
          ]
    ]

pub count-all : (p : ℕ → Bool) (n a : ℕ) → ((k : ℕ) → a ≤ k → p k ≡ true) → count_by p (range_with_len a n) ≡ n
count-all p zero a each = refl
count-all p (suc n) a each =
    let here = count-yes p n a (each a (omega arith)) in
    let rest = count-all p n (a + 1) (λ k low. each k (omega arith)) in
    omega arith

-- one number more
pub range-more : (n : ℕ) → range_with_len 0 (n + 1) ≡ range_with_len 0 n ++ n ∷ []
range-more n =
    sym (map-id (range_with_len 0 (n + 1))) ∙ map-range_with_len_more (λ (k : ℕ). k) 0 n n (omega arith) ∙
    ap (λ (xs : List ℕ). xs ++ n ∷ []) (map-id (range_with_len 0 n))

pub none-more : (p : ℕ → Bool) (n : ℕ) → list_any p (range_with_len 0 n) ≡ false → p n ≡ false → list_any p (range_with_len 0 (n + 1)) ≡ false
none-more p n none fails =
    ap (list_any p) (range-more n) ∙ list_any-append p (range_with_len 0 n) (n ∷ []) ∙ (rw (none, fails) refl)
