-- Thinned candidates rise, each is one of all, and each of all is served as well by a kept one.
use Rattle.std.proofs.Common.{◌≡◌, ◌<◌, ◌≤◌, inl, inr, Bool, true, false, ltb, not, ◌||◌, cond, List, [], ◌∷◌, All, Contains, arith}
use Rattle.std.proofs.lemmas.Bool.{cond_both, ltb-true, ltb-false, not-true, not-false, or_left, or_right, or_cases}
use Rattle.std.proofs.lemmas.List.Elements.{All-nil, All-cons, All-head, All-tail, All-weaker, All-filter, filter_passes, All-contains_itself}
use Rattle.std.proofs.lemmas.List.Kept.{AllPairs-cons, AllPairs-filter}
use Rattle.ginneken_lists.specs.Candidates.{Candidate, serves, unserved, with_one, thinned}
use Rattle.ginneken_lists.specs.Thinning.{Precedes, AreRising, is_served}
use Rattle.ginneken_lists.specs.Offering.{with_all}
use Rattle.ginneken_lists.proofs.Serving.{serves-itself, serves-through, unserved-precedes, apart-precedes, pairs-none, pairs-one, pairs-head, pairs-tail}

abbrev pub Before : Candidate → Candidate → Type 0
Before o other = Precedes o.seen other.seen

-- one more candidate among others, by the first of these
pub with_one-cases : (Q : List Candidate → Type 0) (o first : Candidate) (rest : List Candidate) →
    (serves first.seen o.seen ≡ true → Q (first ∷ rest)) →
    (serves first.seen o.seen ≡ false → first.seen.load < o.seen.load → Q (first ∷ with_one o rest)) →
    (serves first.seen o.seen ≡ false → o.seen.load ≤ first.seen.load → Q (o ∷ unserved o (first ∷ rest))) →
    Q (with_one o (first ∷ rest))
with_one-cases Q o first rest served behind here =
    cond_both (serves first.seen o.seen) (first ∷ rest)
    (cond (ltb first.seen.load o.seen.load) (first ∷ with_one o rest) (o ∷ unserved o (first ∷ rest))) Q served
    (λ free. cond_both (ltb first.seen.load o.seen.load) (first ∷ with_one o rest) (o ∷ unserved o (first ∷ rest)) Q
    (λ less. behind free (ltb-true first.seen.load o.seen.load less)) (λ more. here free (ltb-false first.seen.load o.seen.load more)))

-- what holds of each stays
pub with_one-all : (P : Candidate → Type 0) (o : Candidate) (kept : List Candidate) → P o → All P kept → All P (with_one o kept)
with_one-all P o [] p all = All-cons P o [] p (All-nil P)
with_one-all P o (first ∷ rest) p all = with_one-cases (All P) o first rest
    (λ served. all)
    (λ free less. All-cons P first (with_one o rest) (All-head P first rest all) (with_one-all P o rest p (All-tail P first rest all)))
    (λ free more. All-cons P o (unserved o (first ∷ rest)) p (All-filter (λ other. not (serves o.seen other.seen)) P (first ∷ rest) all))

pub with_all-all : (P : Candidate → Type 0) (all kept : List Candidate) → All P all → All P kept → All P (with_all kept all)
with_all-all P [] kept each each_kept = each_kept
with_all-all P (o ∷ all) kept each each_kept =
    with_all-all P all (with_one o kept) (All-tail P o all each) (with_one-all P o kept (All-head P o all each) each_kept)

-- those that stay behind one that takes its place here
behind-here : (o first : Candidate) (rest : List Candidate) → AreRising (first ∷ rest) → serves first.seen o.seen ≡ false → o.seen.load ≤ first.seen.load →
    All (Before o) (unserved o (first ∷ rest))
behind-here o first rest rising free low =
    let passes : Candidate → Bool = λ other. not (serves o.seen other.seen) in
    let P : Candidate → Type 0 = λ other. passes other ≡ true → Before o other in
    let here : P first = λ is. apart-precedes o.seen first.seen (not-true (serves o.seen first.seen) is) free low in
    let later : (x : Candidate) → Before first x → P x = λ x before is.
    let less = before.load in
    unserved-precedes o.seen x.seen (not-true (serves o.seen x.seen) is) (omega arith) in
    let each : All P (first ∷ rest) = All-cons P first rest here (All-weaker (Before first) P later rest (pairs-head Before first rest rising)) in
    let left : All P (unserved o (first ∷ rest)) = All-filter passes P (first ∷ rest) each in
    let pass = filter_passes passes (first ∷ rest) in
    λ k d inside. left k d inside (pass k d inside)

pub with_one-rising : (o : Candidate) (kept : List Candidate) → AreRising kept → AreRising (with_one o kept)
with_one-rising o [] rising = pairs-one Before o
with_one-rising o (first ∷ rest) rising = with_one-cases AreRising o first rest
    (λ served. rising)
    (λ free less. AllPairs-cons Before first (with_one o rest)
    (with_one-all (Before first) o rest (unserved-precedes first.seen o.seen free less) (pairs-head Before first rest rising))
    (with_one-rising o rest (pairs-tail Before first rest rising)))
    (λ free low. AllPairs-cons Before o (unserved o (first ∷ rest)) (behind-here o first rest rising free low)
    (AllPairs-filter Before (λ other. not (serves o.seen other.seen)) (first ∷ rest) rising))

pub with_all-rising : (all kept : List Candidate) → AreRising kept → AreRising (with_all kept all)
with_all-rising [] kept rising = rising
with_all-rising (o ∷ all) kept rising = with_all-rising all (with_one o kept) (with_one-rising o kept rising)

-- what is served stays served
unserved-serves : (o x : Candidate) (all : List Candidate) → is_served x all ≡ true → (serves o.seen x.seen || is_served x (unserved o all)) ≡ true
unserved-serves o x [] served = or_right (serves o.seen x.seen) false served
unserved-serves o x (y ∷ ys) served =
    let left = serves o.seen x.seen in
    let rest : is_served x ys ≡ true → (left || is_served x (unserved o ys)) ≡ true = unserved-serves o x ys in
    cond_both (not (serves o.seen y.seen)) (y ∷ unserved o ys) (unserved o ys) (λ xs. (left || is_served x xs) ≡ true)
    (λ stays. elim (or_cases (serves y.seen x.seen) (is_served x ys) served) [
      | inl here ↦ or_right left (is_served x (y ∷ unserved o ys)) (or_left (serves y.seen x.seen) (is_served x (unserved o ys)) here)
      | inr there ↦ elim (or_cases left (is_served x (unserved o ys)) (rest there)) [
        | inl by_o ↦ or_left left (is_served x (y ∷ unserved o ys)) by_o
        | inr still ↦ or_right left (is_served x (y ∷ unserved o ys)) (or_right (serves y.seen x.seen) (is_served x (unserved o ys)) still)
      ]
    ])
    (λ goes. elim (or_cases (serves y.seen x.seen) (is_served x ys) served) [
      | inl here ↦ or_left left (is_served x (unserved o ys))
          (serves-through o.seen y.seen x.seen (not-false (serves o.seen y.seen) goes) here)
      | inr there ↦ rest there
    ])

pub with_one-itself : (o : Candidate) (kept : List Candidate) → is_served o (with_one o kept) ≡ true
with_one-itself o [] = or_left (serves o.seen o.seen) false (serves-itself o.seen)
with_one-itself o (first ∷ rest) = with_one-cases (λ xs. is_served o xs ≡ true) o first rest
    (λ served. or_left (serves first.seen o.seen) (is_served o rest) served)
    (λ free less. or_right (serves first.seen o.seen) (is_served o (with_one o rest)) (with_one-itself o rest))
    (λ free more. or_left (serves o.seen o.seen) (is_served o (unserved o (first ∷ rest))) (serves-itself o.seen))

pub with_one-serves : (o x : Candidate) (kept : List Candidate) → is_served x kept ≡ true → is_served x (with_one o kept) ≡ true
with_one-serves o x [] served = or_right (serves o.seen x.seen) false served
with_one-serves o x (first ∷ rest) served = with_one-cases (λ xs. is_served x xs ≡ true) o first rest
    (λ is. served)
    (λ free less. elim (or_cases (serves first.seen x.seen) (is_served x rest) served) [
      | inl here ↦ or_left (serves first.seen x.seen) (is_served x (with_one o rest)) here
      | inr there ↦ or_right (serves first.seen x.seen) (is_served x (with_one o rest)) (with_one-serves o x rest there)
    ])
    (λ free more. unserved-serves o x (first ∷ rest) served)

pub with_all-serves : (all kept : List Candidate) (x : Candidate) → is_served x kept ≡ true → is_served x (with_all kept all) ≡ true
with_all-serves [] kept x served = served
with_all-serves (o ∷ all) kept x served = with_all-serves all (with_one o kept) x (with_one-serves o x kept served)

pub with_all-itself : (all kept : List Candidate) → All (λ x. is_served x (with_all kept all) ≡ true) all
with_all-itself [] kept = All-nil (λ x. is_served x (with_all kept []) ≡ true)
with_all-itself (o ∷ all) kept = All-cons (λ x. is_served x (with_all kept (o ∷ all)) ≡ true) o all
    (with_all-serves all (with_one o kept) o (with_one-itself o kept)) (with_all-itself all (with_one o kept))

-- what holds of all holds of those that are kept
pub thinned-all : (P : Candidate → Type 0) (all : List Candidate) → All P all → All P (thinned all)
thinned-all P all each = with_all-all P all [] each (All-nil P)

pub thinned-rising : (all : List Candidate) → AreRising (thinned all)
thinned-rising all = with_all-rising all [] (pairs-none Before)

-- each of all is served as well by one that is kept
pub thinned-complete : (all : List Candidate) → All (λ o. is_served o (thinned all) ≡ true) all
thinned-complete all = with_all-itself all []

-- each that is kept is one of all
pub thinned-real : (all : List Candidate) → All (Contains all) (thinned all)
thinned-real all = thinned-all (Contains all) all (All-contains_itself all)

-- those that are kept rise, each is one of all, and each of all is served as well by one that is kept; of equal ones any
-- may be kept
pub record Thins (kept all : List Candidate) : Type 0 where
  pub rising : AreRising kept
  pub real : All (Contains all) kept
  pub complete : All (λ o. is_served o kept ≡ true) all

pub thinned-thins : (all : List Candidate) → Thins (thinned all) all
thinned-thins all = record { rising = thinned-rising all; real = thinned-real all; complete = thinned-complete all }
