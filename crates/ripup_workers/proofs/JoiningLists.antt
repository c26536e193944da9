-- Histories between others, the entries of one number in them, and counts by number.
use Rattle.std.proofs.Common.{◌≡◌, ℕ, suc, zero, ◌+◌, ◌≤◌, Bool, true, false, cond, ◌==◌, List, [], ◌∷◌, ◌++◌, length, All, Some, slice_get, get_or, filter, sum_by, IsTrue, refl, sym, ap, subst, ◌∙◌, arith, length-append}
use Rattle.std.specs.List.{count_by, range_with_len}
use Rattle.std.proofs.lemmas.Bool.Decides.{nat_tests}
use Rattle.std.proofs.lemmas.List.{append-nil}
use Rattle.std.proofs.lemmas.List.Elements.{filter-append, All-head, All-tail, All-get_or}
use Rattle.std.proofs.lemmas.Option.{same_Some, slice_get_within, slice_get-get_or}
use Rattle.std.proofs.lemmas.List.Sums.{sum_by-cons}
use mathlib.Core.List.{IsPrefix}
use Rattle.gr_base.proofs.General.{filter-yes, filter-no}
use Rattle.book_front.proofs.Prefixes.{prefix-length}
use Rattle.book_state.proofs.HistoryLists.{slice_get-right}
use Rattle.book_state.proofs.RangeSums.{sum-change}
use Rattle.book_state.specs.Entries.{calls_of}
use Rattle.net_order.proofs.RegionLemmas.{all-first}
use Rattle.book_state.specs.declared.entry.Entry.{Entry}

-- the entries of a number in a longer history begin with those in the shorter one
pub calls-append : (number : ℕ) (xs ys : List Entry) → calls_of number (xs ++ ys) ≡ calls_of number xs ++ calls_of number ys
calls-append number xs ys = filter-append (λ (e : Entry). e.number == number) xs ys

pub prefix-calls : (number : ℕ) (xs ys : List Entry) → IsPrefix xs ys → IsPrefix (calls_of number xs) (calls_of number ys)
prefix-calls number xs ys begins =
    (calls_of number begins.0, sym (calls-append number xs begins.0) ∙ ap (λ (l : List Entry). calls_of number l) begins.1)

-- a list that begins one that is no longer is that list
pub prefix-long : {A : Type 0} (xs ys : List A) → IsPrefix xs ys → length ys ≤ length xs → xs ≡ ys
prefix-long xs ys begins short = by begins.0 begins.1
  where
    by : (more : List _) → xs ++ more ≡ ys → xs ≡ ys
    by [] is = sym (append-nil xs) ∙ is
    by (x ∷ more) is =
        let count = ap length is in
        let parts = length-append xs (x ∷ more) in
        absurd (omega (arith, count, parts, short))

-- a history between two in which a number has the same entries has them too
pub squeeze : (number : ℕ) (xs ys zs : List Entry) → IsPrefix xs ys → IsPrefix ys zs → calls_of number zs ≡ calls_of number xs → calls_of number ys ≡ calls_of number xs
squeeze number xs ys zs low high same =
    let count = ap length same in
    let most = prefix-length (calls_of number ys) (calls_of number zs) (prefix-calls number ys zs high) in
    sym (prefix-long (calls_of number xs) (calls_of number ys) (prefix-calls number xs ys low) (omega (arith, count, most)))

pub calls-first : (number : ℕ) (e : Entry) (es : List Entry) → e.number ≡ number → calls_of number (e ∷ es) ≡ e ∷ calls_of number es
calls-first number e es is =
    let same : (e.number == number) ≡ true = grind (arith, nat_tests) in
    filter-yes (λ (x : Entry). x.number == number) e es same

pub calls-after : (number : ℕ) (e : Entry) (es : List Entry) → (e.number ≡ number → ⊥) → calls_of number (e ∷ es) ≡ calls_of number es
calls-after number e es apart =
    let other : (e.number == number) ≡ false = grind (arith, nat_tests) in
    filter-no (λ (x : Entry). x.number == number) e es other

-- what holds of each entry holds of the one at a place
pub all-at : {A : Type 0} (P : A → Type 0) (xs : List A) (place : ℕ) (x : A) → All P xs → slice_get xs place ≡ Some x → P x
all-at P xs place x all there =
    let within = slice_get_within xs place x there in
    let same : get_or xs place x ≡ x = same_Some (get_or xs place x) x (sym (slice_get-get_or xs place x within) ∙ there) in
    subst P same (All-get_or P xs place x within all)

-- a history that begins another of no more numbers, each of which has the same entries in both, is that one
pub same-history : (most : ℕ) (xs ys : List Entry) → IsPrefix xs ys → All (λ (e : Entry). e.number ≤ most) ys → ((number : ℕ) → number ≤ most → calls_of number ys ≡ calls_of number xs) → xs ≡ ys
same-history most xs ys begins numbers same = by begins.0 begins.1
  where
    by : (more : List Entry) → xs ++ more ≡ ys → xs ≡ ys
    by [] is = sym (append-nil xs) ∙ is
    by (e ∷ more) is =
        let there : slice_get ys (length xs) ≡ Some e =
        ap (λ (l : List Entry). slice_get l (length xs)) (sym is) ∙ slice_get-right xs (e ∷ more) (length xs) 0 (omega arith) in
        let few : e.number ≤ most = all-at (λ (x : Entry). x.number ≤ most) ys (length xs) e numbers there in
        let calls = ap length (sym (calls-append e.number xs (e ∷ more)) ∙ ap (λ (l : List Entry). calls_of e.number l) is ∙ same e.number few) in
        let split = length-append (calls_of e.number xs) (calls_of e.number (e ∷ more)) in
        let one = ap length (calls-first e.number e more refl) in
        absurd (omega (arith, calls, split, one))

-- a count of entries is the sum over numbers of the counts of their entries
count-none : (test : Entry → Bool) (from n : ℕ) → sum_by (λ number. count_by test (calls_of number [])) (range_with_len from n) ≡ 0
count-none test from zero = refl
count-none test from (suc n) =
    let rest = count-none test (from + 1) n in
    sum_by-cons (λ number. count_by test (calls_of number [])) from (range_with_len (from + 1) n) ∙ omega (arith, rest)

pub count-parts : (test : Entry → Bool) (most : ℕ) (es : List Entry) → All (λ (e : Entry). e.number ≤ most) es → count_by test es ≡ sum_by (λ number. count_by test (calls_of number es)) (range_with_len 0 (most + 1))
count-parts test most [] numbers = sym (count-none test 0 (most + 1))
count-parts test most (e ∷ es) numbers =
    let one : ℕ = cond (test e) 1 0 in
    let few : e.number ≤ most = All-head (λ (x : Entry). x.number ≤ most) e es numbers in
    let rest = count-parts test most es (All-tail (λ (x : Entry). x.number ≤ most) e es numbers) in
    let old : ℕ → ℕ = λ number. count_by test (calls_of number es) in
    let new : ℕ → ℕ = λ number. count_by test (calls_of number (e ∷ es)) in
    let others : (k : ℕ) → (k ≡ e.number → ⊥) → old k ≡ new k =
    λ k apart. ap (λ (l : List Entry). count_by test l) (sym (calls-after k e es (λ is. apart (sym is)))) in
    let own : new e.number ≡ one + old e.number =
    ap (λ (l : List Entry). count_by test l) (calls-first e.number e es refl) ∙ sum_by-cons (λ (x : Entry). cond {A = ℕ} (test x) 1 0) e (calls_of e.number es) in
    let change = sum-change old new 0 (most + 1) e.number (omega arith) (omega (arith, few)) others in
    let whole = sum_by-cons (λ (x : Entry). cond {A = ℕ} (test x) 1 0) e es in
    omega (arith, rest, own, change, whole)

-- a sum over places is one over the list
pub sum-places : {A : Type 0} (f : A → ℕ) (g : ℕ → ℕ) (xs : List A) (from : ℕ) → ((place : ℕ) (x : A) (number : ℕ) → slice_get xs place ≡ Some x → number ≡ from + place → g number ≡ f x) → sum_by g (range_with_len from (length xs)) ≡ sum_by f xs
sum-places f g [] from same = refl
sum-places f g (x ∷ xs) from same =
    let first = same 0 x from refl (omega arith) in
    let rest = sum-places f g xs (from + 1) (λ place y number there is. same (suc place) y number there (omega (arith, is))) in
    sum_by-cons g from (range_with_len (from + 1) (length xs)) ∙ omega (arith, first, rest) ∙ sym (sum_by-cons f x xs)

-- what holds of all of a list holds of its last part, and of its first
pub all-second : {A : Type 0} (P : A → Type 0) (xs ys : List A) → All P (xs ++ ys) → All P ys
all-second P [] ys all = all
all-second P (x ∷ xs) ys all = all-second P xs ys (All-tail P x (xs ++ ys) all)

pub all-prefix : {A : Type 0} (P : A → Type 0) (xs ys : List A) → IsPrefix xs ys → All P ys → All P xs
all-prefix P xs ys begins all = all-first P xs begins.0 (subst (All P) (sym begins.1) all)

-- a list of which all pass a test
pub filter-all : {A : Type 0} (test : A → Bool) (xs : List A) → All (λ x. IsTrue (test x)) xs → filter test xs ≡ xs
filter-all test [] all = refl
filter-all test (x ∷ xs) all =
    filter-yes test x xs (All-head (λ y. IsTrue (test y)) x xs all)
    ∙ ap (λ (l : List _). x ∷ l) (filter-all test xs (All-tail (λ y. IsTrue (test y)) x xs all))
