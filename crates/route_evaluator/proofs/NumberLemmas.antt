-- The list of a set's numbers, and its marks.
use Rattle.std.proofs.Common.{◌≡◌, ℕ, zero, suc, ◌+◌, ◌<◌, ◌≤◌, ◌==◌, ◌||◌, inl, inr, Bool, true, false, not, cond, List, [], ◌∷◌, ◌++◌, length, get_or, set, count_by, if◌then◌else◌, refl, sym, ap, subst, ◌∙◌, arith}
use Rattle.std.specs.List.{list_any}
use Rattle.std.proofs.Math.Bool.{or-true, or-false}
use Rattle.std.proofs.lemmas.Bool.{cases_Bool, cases_eq, false≢true}
use Rattle.std.proofs.lemmas.Bool.Decides.{nat_tests}
use Rattle.std.proofs.lemmas.List.{length-set, length-append, get_or-set_same, get_or-set_other}
use Rattle.std.proofs.lemmas.List.Elements.{All-push}
use Rattle.std.proofs.lemmas.List.Folds.{list_any-append}
use Rattle.std.proofs.lemmas.List.Sums.{sum_by_push, sum_by-cons}
use Rattle.route_evaluator.specs.NumberSets.{has_number}
use Rattle.route_evaluator.specs.NumberSetStore.{AreMarked}

-- a number of a longer list
pub has-push : (numbers : List ℕ) (n m : ℕ) → has_number (numbers ++ n ∷ []) m ≡ (has_number numbers m || (m == n))
has-push numbers n m =
    list_any-append (λ other. m == other) numbers (n ∷ []) ∙ ap (λ (b : Bool). has_number numbers m || b) (or-false (m == n))

-- where none passes a test, none is counted
pub count-none : {X : Type 0} (p : X → Bool) (xs : List X) → list_any p xs ≡ false → count_by p xs ≡ 0
count-none p [] none = refl
count-none p (x ∷ xs) none =
    elim (cases_Bool (p x)) [
      | inl same ↦
          let has : list_any p (x ∷ xs) ≡ true = rw same refl in
          absurd (false≢true (sym none ∙ has))
      | inr other ↦
          let rest : list_any p xs ≡ false = rw other at none in
          let one : cond {A = ℕ} (p x) 1 0 ≡ 0 = rw other refl in
          omega (arith, sum_by-cons (λ y. cond (p y) 1 0) x xs, one, count-none p xs rest)
    ]

-- one more mark leaves one place less without a mark
count-set : (marks : List Bool) (n : ℕ) → n < length marks → get_or marks n false ≡ false → count_by not (set marks n true) + 1 ≡ count_by not marks
count-set [] n below off = absurd (omega arith)
count-set (x ∷ xs) zero below off =
    let one : cond {A = ℕ} (not x) 1 0 ≡ 1 = rw off refl in
    omega (arith, sum_by-cons (λ (b : Bool). cond (not b) 1 0) x xs, sum_by-cons (λ (b : Bool). cond (not b) 1 0) true xs, one)
count-set (x ∷ xs) (suc n) below off =
    let rest = count-set xs n (omega arith) off in
    omega (arith, sum_by-cons (λ (b : Bool). cond (not b) 1 0) x xs, sum_by-cons (λ (b : Bool). cond (not b) 1 0) x (set xs n true), rest)

pub marked-push : (bound : ℕ) (numbers new : List ℕ) (marks : List Bool) (n : ℕ) → AreMarked bound numbers marks → n < bound → has_number numbers n ≡ false →
    new ≡ numbers ++ n ∷ [] → AreMarked bound new (set marks n true)
marked-push bound numbers new marks n keeps below fresh pushed =
    let P : List ℕ → Type 0 = λ xs. AreMarked bound xs (set marks n true) in
    subst P (sym pushed) (record {
      long = length-set marks n true ∙ keeps.long;
      below = All-push (λ m. m < bound) numbers n keeps.below below;
      marked = λ m. mark m;
      once = λ m. stands m;
      few =
          let free = count-set marks n (omega (arith, keeps.long)) (keeps.marked n ∙ fresh) in
          omega (arith, free, keeps.few, length-append numbers (n ∷ []));
    })
  where
    mark : (m : ℕ) → get_or (set marks n true) m false ≡ has_number (numbers ++ n ∷ []) m
    mark m =
        elim (cases_eq m n) [
          | inl same ↦
              let test : (m == n) ≡ true = grind (arith, nat_tests) in
              ap (λ (k : ℕ). get_or (set marks n true) k false) same
              ∙ get_or-set_same marks n true false (omega (arith, keeps.long))
              ∙ sym (has-push numbers n m ∙ ap (λ (b : Bool). has_number numbers m || b) test ∙ or-true (has_number numbers m))
          | inr other ↦
              let test : (m == n) ≡ false = grind (arith, nat_tests) in
              get_or-set_other marks n m true false other ∙ keeps.marked m
              ∙ sym (has-push numbers n m ∙ ap (λ (b : Bool). has_number numbers m || b) test ∙ or-false (has_number numbers m))
        ]

    stands : (m : ℕ) → count_by (λ other. m == other) (numbers ++ n ∷ []) ≤ 1
    stands m =
        let more = sum_by_push (λ (other : ℕ). cond (m == other) 1 0) numbers n in
        elim (cases_eq m n) [
          | inl same ↦
              let none = count-none (λ other. m == other) numbers (ap (has_number numbers) same ∙ fresh) in
              let test : (m == n) ≡ true = grind (arith, nat_tests) in
              let one : cond {A = ℕ} (m == n) 1 0 ≡ 1 = rw test refl in
              omega (arith, more, one, none)
          | inr other ↦
              let test : (m == n) ≡ false = grind (arith, nat_tests) in
              let one : cond {A = ℕ} (m == n) 1 0 ≡ 0 = rw test refl in
              omega (arith, more, one, keeps.once m)
        ]

-- where no mark is set, each place is without a mark
count-off : (marks : List Bool) → ((n : ℕ) → get_or marks n false ≡ false) → count_by not marks ≡ length marks
count-off [] off = refl
count-off (x ∷ xs) off =
    let rest = count-off xs (λ n. off (suc n)) in
    let x_off : x ≡ false = off 0 in
    let one : cond {A = ℕ} (not x) 1 0 ≡ 1 = rw x_off refl in
    omega (arith, sum_by-cons (λ (b : Bool). cond (not b) 1 0) x xs, one, rest)

pub marked-clear : (bound : ℕ) (numbers listed left : List ℕ) (marks new : List Bool) → AreMarked bound numbers marks → listed ≡ numbers → length new ≡ length marks →
    ((n : ℕ) → get_or new n false ≡ (if has_number listed n then false else get_or marks n false)) → left ≡ [] → AreMarked bound left new
marked-clear bound numbers listed left marks new keeps same long cleared none =
    let P : List ℕ → Type 0 = λ xs. AreMarked bound xs new in
    let size : length new ≡ bound = long ∙ keeps.long in
    subst P (sym none) (record {
      long = size;
      below = λ k d within. absurd (omega arith);
      marked = off;
      once = λ n. omega arith;
      few = let all = count-off new off in omega (arith, all, size);
    })
  where
    chosen : (b : Bool) (mark : Bool) → mark ≡ b → (if b then false else mark) ≡ false
    chosen true mark is = refl
    chosen false mark is = is

    off : (n : ℕ) → get_or new n false ≡ false
    off n = cleared n ∙ chosen (has_number listed n) (get_or marks n false) (keeps.marked n ∙ ap (λ (xs : List ℕ). has_number xs n) (sym same))
