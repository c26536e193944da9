-- Of equal candidates thinning keeps the first.
use Rattle.std.proofs.Common.{◌≡◌, inl, inr, Bool, true, false, List, [], ◌∷◌, ◌++◌, find, All, Contains, Some, refl, sym, ap, subst, ◌∙◌, append_assoc, append-nil, arith}
use Rattle.std.proofs.lemmas.Bool.{cases_Bool, both_ways, and_from, and_parts}
use Rattle.std.proofs.lemmas.List.Elements.{All-nil, All-cons, All-head, All-tail, All-weaker, All-append, All-contains}
use Rattle.std.proofs.lemmas.List.Folds.{list_any-from_Any}
use Rattle.ginneken_lists.specs.Candidates.{Candidate, serves, with_one, thinned}
use Rattle.ginneken_lists.specs.Thinning.{AreRising, is_served, is_like, first_like, IsThinned}
use Rattle.ginneken_lists.specs.Offering.{with_all}
use Rattle.ginneken_lists.proofs.Serving.{serves-says, serves-itself, serves-through, pairs-none, pairs-head, pairs-tail}
use Rattle.ginneken_lists.proofs.Thinned.{Before, with_one-all, with_one-rising, with_one-itself, with_one-serves, thinned-rising, thinned-real, thinned-complete}
use Rattle.ginneken_lists.proofs.ThinnedAgain.{with_one-served, with_one-behind}
use Rattle.ginneken_lists.proofs.Unique.{server}

-- the first that passes a test, among more candidates
find-more : {A : Type 0} (p : A → Bool) (xs ys : List A) (y : A) → find p xs ≡ Some y → find p (xs ++ ys) ≡ Some y
find-more p [] ys y is = absurd (grind arith)
find-more p (x ∷ xs) ys y is = elim (cases_Bool (p x)) [
  | inl here ↦ let found : Some x ≡ Some y = rw here at is in (rw here refl) ∙ found
  | inr not ↦ let found : find p xs ≡ Some y = rw not at is in (rw not refl) ∙ find-more p xs ys y found
]

find-last : {A : Type 0} (p : A → Bool) (xs : List A) (y : A) → All (λ x. p x ≡ false) xs → p y ≡ true → find p (xs ++ y ∷ []) ≡ Some y
find-last p [] y none is = rw is refl
find-last p (x ∷ xs) y none is =
    let first = All-head (λ x. p x ≡ false) x xs none in
    (rw first refl) ∙ find-last p xs y (All-tail (λ x. p x ≡ false) x xs none) is

-- one that is served as well changes nothing
with_one-stays : (o : Candidate) (kept : List Candidate) → AreRising kept → is_served o kept ≡ true → with_one o kept ≡ kept
with_one-stays o [] rising served = absurd (both_ways false refl served)
with_one-stays o (first ∷ rest) rising served = elim (cases_Bool (serves first.seen o.seen)) [
  | inl here ↦ with_one-served o first rest here
  | inr not ↦
      let later : is_served o rest ≡ true = rw not at served in
      let by = server rest o later in
      let before = (All-contains (Before first) rest by.other (pairs-head Before first rest rising) by.one).load in
      let low = (serves-says by.other.seen o.seen by.serves_x).load in
      with_one-behind o first rest not (omega arith)
      ∙ ap (λ (os : List Candidate). first ∷ os) (with_one-stays o rest (pairs-tail Before first rest rising) later)
]

-- what is like one that isn't served, isn't served
unlike : (o y : Candidate) (kept : List Candidate) → is_served o kept ≡ false → is_served y kept ≡ true → is_like o y ≡ false
unlike o y kept free served = elim (cases_Bool (is_like o y)) [
  | inl like ↦
      let by = server kept y served in
      let parts = and_parts (serves o.seen y.seen) (serves y.seen o.seen) like in
      let through = serves-through by.other.seen y.seen o.seen by.serves_x parts.1 in
      absurd (both_ways (is_served o kept) free (served-by kept o by.other by.one through))
  | inr not ↦ not
]
  where
    served-by : (xs : List Candidate) (x by : Candidate) → Contains xs by → serves by.seen x.seen ≡ true → is_served x xs ≡ true
    served-by xs x by one well = list_any-from_Any (λ (other : Candidate). serves other.seen x.seen) xs (one.0, by, one.1, one.2, well)

like-itself : (o : Candidate) → is_like o o ≡ true
like-itself o = and_from (serves o.seen o.seen) (serves o.seen o.seen) (serves-itself o.seen) (serves-itself o.seen)

-- of the candidates so far those that are kept are the first of their like
record AreFirst (kept done : List Candidate) : Type 0 where
  rising : AreRising kept
  complete : All (λ y. is_served y kept ≡ true) done
  first : All (λ o. first_like o done ≡ Some o) kept

first-more : (o : Candidate) (kept done : List Candidate) → AreFirst kept done → AreFirst (with_one o kept) (done ++ o ∷ [])
first-more o kept done are = record {
  rising = with_one-rising o kept are.rising;
  complete = All-append (λ y. is_served y (with_one o kept) ≡ true) done (o ∷ [])
      (All-weaker (λ y. is_served y kept ≡ true) (λ y. is_served y (with_one o kept) ≡ true) (λ y served. with_one-serves o y kept served) done are.complete)
      (All-cons (λ y. is_served y (with_one o kept) ≡ true) o [] (with_one-itself o kept) (All-nil (λ y. is_served y (with_one o kept) ≡ true)));
  first = elim (cases_Bool (is_served o kept)) [
    | inl served ↦ subst (All (λ x. first_like x (done ++ o ∷ []) ≡ Some x)) (sym (with_one-stays o kept are.rising served)) before
    | inr free ↦
        with_one-all (λ x. first_like x (done ++ o ∷ []) ≡ Some x) o kept
        (find-last (is_like o) done o
        (All-weaker (λ y. is_served y kept ≡ true) (λ y. is_like o y ≡ false) (λ y served. unlike o y kept free served) done are.complete)
        (like-itself o))
        before
  ];
}
  where
    before : All (λ x. first_like x (done ++ o ∷ []) ≡ Some x) kept
    before = All-weaker (λ x. first_like x done ≡ Some x) (λ x. first_like x (done ++ o ∷ []) ≡ Some x)
        (λ x is. find-more (is_like x) done (o ∷ []) x is) kept are.first

first-all : (all kept done : List Candidate) → AreFirst kept done → All (λ o. first_like o (done ++ all) ≡ Some o) (with_all kept all)
first-all [] kept done are = subst (λ (os : List Candidate). All (λ o. first_like o os ≡ Some o) kept) (sym (append-nil done)) are.first
first-all (o ∷ all) kept done are =
    subst (λ (os : List Candidate). All (λ x. first_like x os ≡ Some x) (with_all (with_one o kept) all)) (append_assoc done (o ∷ []) all)
    (first-all all (with_one o kept) (done ++ o ∷ []) (first-more o kept done are))

thinned-first : (all : List Candidate) → All (λ o. first_like o all ≡ Some o) (thinned all)
thinned-first all = first-all all [] [] (record {
  rising = pairs-none Before;
  complete = All-nil (λ y. is_served y [] ≡ true);
  first = All-nil (λ o. first_like o [] ≡ Some o);
})

pub thinned-is : (all : List Candidate) → IsThinned (thinned all) all
thinned-is all = record {
  rising = thinned-rising all;
  real = thinned-real all;
  first = thinned-first all;
  complete = thinned-complete all;
}
