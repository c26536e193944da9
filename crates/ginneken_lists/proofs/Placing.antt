-- One more pair at its place, in place of those that it serves as well as.
use Rattle.std.proofs.Common.{◌≡◌, ℕ, suc, ◌+◌, ◌<◌, ◌≤◌, inl, inr, Bool, true, false, not, cond, ltb, List, [], ◌∷◌, ◌++◌, length, get_or, take, drop, filter, All, Some, None, refl, sym, ap, subst, ◌∙◌, arith}
use Rattle.std.proofs.lemmas.Bool.{cases_Bool, cases_eq, cond-true, cond-false, ltb-true, ltb-false}
use Rattle.std.proofs.lemmas.List.{drop_more, drop_all, take_at, drop_at, take-append-drop, get_or-drop, length-append, length-drop, length-map, length-take-le}
use Rattle.std.proofs.lemmas.List.Elements.{All-cons, All-head, All-tail, All-weaker, All-append, All-take, All-drop, All-filter}
use Rattle.gr_base.proofs.General.{filter-yes, filter-no}
use Rattle.ginneken_lists.specs.Candidates.{Chosen, Candidate, serves, unserved, with_one}
use Rattle.ginneken_lists.specs.Thinning.{Precedes, IsRising, AreRising}
use Rattle.ginneken_lists.specs.Pairs.{IsList}
use Rattle.ginneken_lists.specs.StoredPairs.{pair_of, pairs_of, stored_candidate}
use Rattle.ginneken_lists.specs.Offering.{place_of, without_served}
use Rattle.ginneken_lists.specs.declared.stored.Stored.{Stored}
use Rattle.ginneken_lists.proofs.Serving.{unserved-earlier, later-unserved, pairs-head, pairs-tail, pairs-back}
use Rattle.ginneken_lists.proofs.Thinned.{with_one-rising}
use Rattle.ginneken_lists.proofs.ThinnedAgain.{with_one-served, with_one-behind, with_one-here}
use Rattle.ginneken_lists.proofs.StoredLemmas.{all_of, sight, all_of-append, all_of-rising, rising-all_of}

-- the candidates of those that a pair doesn't serve
unserved-of : (stored : Stored) (trail : List Chosen) (items : List Stored) →
    all_of trail (without_served stored items) ≡ unserved (stored_candidate trail stored) (all_of trail items)
unserved-of stored trail [] = refl
unserved-of stored trail (x ∷ items) = elim (cases_Bool (not (serves (sight stored) (sight x)))) [
  | inl is ↦
      ap (all_of trail) (filter-yes (λ (other : Stored). not (serves (sight stored) (sight other))) x items is)
      ∙ ap (λ (os : List Candidate). stored_candidate trail x ∷ os) (unserved-of stored trail items)
      ∙ sym (filter-yes (λ (other : Candidate). not (serves (sight stored) other.seen)) (stored_candidate trail x) (all_of trail items) is)
  | inr is ↦
      ap (all_of trail) (filter-no (λ (other : Stored). not (serves (sight stored) (sight other))) x items is)
      ∙ unserved-of stored trail items
      ∙ sym (filter-no (λ (other : Candidate). not (serves (sight stored) other.seen)) (stored_candidate trail x) (all_of trail items) is)
]

-- without a place, one more candidate is dropped, whatever is chosen with it
pub place-none : (stored : Stored) (chosen : Chosen) (trail : List Chosen) (from : ℕ) (items : List Stored) → place_of (sight stored) from items ≡ None →
    with_one (record { seen = sight stored; chosen = chosen }) (all_of trail items) ≡ all_of trail items
place-none stored chosen trail from [] none = cc
place-none stored chosen trail from (x ∷ items) none = elim (cases_Bool (serves (sight x) (sight stored))) [
  | inl served ↦ with_one-served (record { seen = sight stored; chosen = chosen }) (stored_candidate trail x) (all_of trail items) served
  | inr no_serving ↦
      let next = cond-false (serves (sight x) (sight stored)) None (cond (ltb x.load stored.load) (place_of (sight stored) (from + 1) items) (Some from)) no_serving in
      elim (cases_Bool (ltb x.load stored.load)) [
        | inl less ↦
            let rest : place_of (sight stored) (from + 1) items ≡ None =
            sym (next ∙ cond-true (ltb x.load stored.load) (place_of (sight stored) (from + 1) items) (Some from) less) ∙ none in
            with_one-behind (record { seen = sight stored; chosen = chosen }) (stored_candidate trail x) (all_of trail items) no_serving (ltb-true x.load stored.load less)
            ∙ ap (λ (os : List Candidate). stored_candidate trail x ∷ os) (place-none stored chosen trail (from + 1) items rest)
        | inr more ↦
            let here : Some from ≡ None = sym (next ∙ cond-false (ltb x.load stored.load) (place_of (sight stored) (from + 1) items) (Some from) more) ∙ none in
            cc
      ]
]

-- a place: behind those of smaller load, with no serving one before it or at it
pub record IsPlace (stored : Stored) (items : List Stored) (at : ℕ) : Type 0 where
  pub within : at ≤ length items
  pub one : (trail : List Chosen) → with_one (stored_candidate trail stored) (all_of trail items)
      ≡ all_of trail (take at items) ++ stored_candidate trail stored ∷ unserved (stored_candidate trail stored) (all_of trail (drop at items))
  pub low : (d : Stored) → at < length items → stored.load ≤ (get_or items at d).load

place-from : (stored : Stored) (from : ℕ) (items : List Stored) (at : ℕ) → place_of (sight stored) from items ≡ Some at →
    (k : ℕ) × (at ≡ from + k) × IsPlace stored items k
place-from stored from [] at some =
    let here : from ≡ at = cc in
    (0, omega arith, record { within = omega arith; one = λ trail. refl; low = λ d within. absurd (omega arith) })
place-from stored from (x ∷ items) at some = elim (cases_Bool (serves (sight x) (sight stored))) [
  | inl served ↦
      let none : None ≡ Some at = sym (cond-true (serves (sight x) (sight stored)) None (cond (ltb x.load stored.load) (place_of (sight stored) (from + 1) items) (Some from)) served) ∙ some in
      cc
  | inr no_serving ↦
      let next = cond-false (serves (sight x) (sight stored)) None (cond (ltb x.load stored.load) (place_of (sight stored) (from + 1) items) (Some from)) no_serving in
      elim (cases_Bool (ltb x.load stored.load)) [
        | inl less ↦
            let rest : place_of (sight stored) (from + 1) items ≡ Some at =
            sym (next ∙ cond-true (ltb x.load stored.load) (place_of (sight stored) (from + 1) items) (Some from) less) ∙ some in
            let found = place-from stored (from + 1) items at rest in
            let place = found.1 in
            let is = found.2 in
            let within = is.within in (
              suc found.0,
              omega arith,
              record {
                within = omega arith;
                one = λ trail.
                    with_one-behind (stored_candidate trail stored) (stored_candidate trail x) (all_of trail items) no_serving (ltb-true x.load stored.load less)
                    ∙ ap (λ (os : List Candidate). stored_candidate trail x ∷ os) (is.one trail);
                low = λ d inside. is.low d (omega arith);
              },
            )
        | inr more ↦
            let here : Some from ≡ Some at = sym (next ∙ cond-false (ltb x.load stored.load) (place_of (sight stored) (from + 1) items) (Some from) more) ∙ some in
            let same : from ≡ at = cc in
            let low = ltb-false x.load stored.load more in (
              0,
              omega arith,
              record {
                within = omega arith;
                one = λ trail. with_one-here (stored_candidate trail stored) (stored_candidate trail x) (all_of trail items) no_serving low;
                low = λ d inside. low;
              },
            )
      ]
]

pub place-is : (stored : Stored) (items : List Stored) (at : ℕ) → place_of (sight stored) 0 items ≡ Some at → IsPlace stored items at
place-is stored items at some =
    let found = place-from stored 0 items at some in
    let same : found.0 ≡ at = let e = found.1 in omega arith in
    subst (λ (k : ℕ). IsPlace stored items k) same found.2

-- loads are no smaller from a place on
pub behind-place : (stored : Stored) (items : List Stored) (at : ℕ) → IsRising sight items → IsPlace stored items at → All (λ other. stored.load ≤ other.load) (drop at items)
behind-place stored items at rising is k d inside =
    let long = length-drop at items in
    let low = is.low d (omega arith) in
    subst (λ (x : Stored). stored.load ≤ x.load) (sym (get_or-drop at items k d)) (elim (cases_eq k 0) [
      | inl first ↦ subst (λ (n : ℕ). stored.load ≤ (get_or items n d).load) (let e : at ≡ at + k = omega arith in e) low
      | inr later ↦ let apart = (rising at (at + k) d (omega arith) (omega arith)).load in omega arith
    ])

-- the list with the pair at its place
pub placed : (stored : Stored) (old cleared new : List Stored) (at : ℕ) (trail : List Chosen) → IsPlace stored old at →
    cleared ≡ take at old ++ without_served stored (drop at old) → new ≡ take at cleared ++ stored ∷ drop at cleared →
    all_of trail new ≡ with_one (stored_candidate trail stored) (all_of trail old)
placed stored old cleared new at trail is cleared_is new_is =
    let rest = without_served stored (drop at old) in
    let size : length (take at old) ≡ at = length-take-le at old is.within in
    let front : take at cleared ≡ take at old = ap (take at) cleared_is ∙ take_at (take at old) rest at size in
    let back : drop at cleared ≡ rest = ap (drop at) cleared_is ∙ drop_at (take at old) rest at size in
    ap (all_of trail) (new_is ∙ ap (λ (xs : List Stored). xs ++ stored ∷ drop at cleared) front ∙ ap (λ (xs : List Stored). take at old ++ stored ∷ xs) back)
    ∙ all_of-append trail (take at old) (stored ∷ rest)
    ∙ ap (λ (os : List Candidate). all_of trail (take at old) ++ stored_candidate trail stored ∷ os) (unserved-of stored trail (drop at old))
    ∙ sym (is.one trail)

pub placed-list : (stored : Stored) (old new : List Stored) → IsList (pairs_of old) → 0 < length new →
    all_of [] new ≡ with_one (stored_candidate [] stored) (all_of [] old) → IsList (pairs_of new)
placed-list stored old new list some is = record {
  some = let long = length-map new pair_of in omega arith;
  rising = rising-all_of [] new (subst AreRising (sym is) (with_one-rising (stored_candidate [] stored) (all_of [] old) (all_of-rising [] old list.rising)));
}

pub placed-marks : (stored : Stored) (old cleared new : List Stored) (at most : ℕ) →
    cleared ≡ take at old ++ without_served stored (drop at old) → new ≡ take at cleared ++ stored ∷ drop at cleared →
    stored.mark ≤ most → All (λ (other : Stored). other.mark ≤ most) old → All (λ (other : Stored). other.mark ≤ most) new
placed-marks stored old cleared new at most cleared_is new_is own marks =
    let P : Stored → Type 0 = λ other. other.mark ≤ most in
    let rest : All P cleared = subst (All P) (sym cleared_is)
    (All-append P (take at old) (without_served stored (drop at old)) (All-take P at old marks)
    (All-filter (λ other. not (serves (sight stored) (sight other))) P (drop at old) (All-drop P at old marks))) in
    subst (All P) (sym new_is)
    (All-append P (take at cleared) (stored ∷ drop at cleared) (All-take P at cleared rest) (All-cons P stored (drop at cleared) own (All-drop P at cleared rest)))

pub placed-some : (stored : Stored) (cleared new : List Stored) (at : ℕ) → new ≡ take at cleared ++ stored ∷ drop at cleared → 0 < length new
placed-some stored cleared new at new_is =
    let long = length-append (take at cleared) (stored ∷ drop at cleared) in
    let same : length new ≡ length (take at cleared ++ stored ∷ drop at cleared) = ap length new_is in
    omega arith

-- from a place on, those that are served stand first
pub record AreCleared (stored : Stored) (old items : List Stored) (at : ℕ) : Type 0 where
  pub front : take at items ≡ take at old
  pub back : without_served stored (drop at items) ≡ without_served stored (drop at old)
  pub rising : IsRising sight (drop at items)
  pub behind : All (λ other. stored.load ≤ other.load) (drop at items)
  pub within : at ≤ length items

pub cleared-none : (stored : Stored) (old : List Stored) (at : ℕ) → at ≤ length old → IsRising sight old → All (λ other. stored.load ≤ other.load) (drop at old) →
    AreCleared stored old old at
cleared-none stored old at within rising behind =
    let parts : take at old ++ drop at old ≡ old = take-append-drop at old in
    record {
      front = refl;
      back = refl;
      rising = pairs-back (λ x y. Precedes (sight x) (sight y)) (take at old) (drop at old) (subst (IsRising sight) (sym parts) rising);
      behind = behind;
      within = within;
    }

-- one that is served is taken out
pub cleared-more : (stored : Stored) (old items new : List Stored) (at : ℕ) (x : Stored) → AreCleared stored old items at → at < length items → x ≡ get_or items at x →
    serves (sight stored) (sight x) ≡ true → new ≡ take at items ++ drop (suc at) items → AreCleared stored old new at
cleared-more stored old items new at x are inside is served new_is =
    let size : length (take at items) ≡ at = length-take-le at items are.within in
    let here : drop at items ≡ x ∷ drop (suc at) items =
    drop_more items at x inside ∙ ap (λ (y : Stored). y ∷ drop (at + 1) items) (sym is) ∙ ap (λ (k : ℕ). x ∷ drop k items) (let e : at + 1 ≡ suc at = omega arith in e) in
    let front : take at new ≡ take at items = ap (take at) new_is ∙ take_at (take at items) (drop (suc at) items) at size in
    let back : drop at new ≡ drop (suc at) items = ap (drop at) new_is ∙ drop_at (take at items) (drop (suc at) items) at size in
    let out : without_served stored (x ∷ drop (suc at) items) ≡ without_served stored (drop (suc at) items) =
    filter-no (λ (other : Stored). not (serves (sight stored) (sight other))) x (drop (suc at) items) (ap not served) in
    record {
      front = front ∙ are.front;
      back = ap (without_served stored) back ∙ sym out ∙ ap (without_served stored) (sym here) ∙ are.back;
      rising = subst (IsRising sight) (sym back)
          (pairs-tail (λ y z. Precedes (sight y) (sight z)) x (drop (suc at) items) (subst (IsRising sight) here are.rising));
      behind = subst (All (λ other. stored.load ≤ other.load)) (sym back)
          (All-tail (λ other. stored.load ≤ other.load) x (drop (suc at) items) (subst (All (λ other. stored.load ≤ other.load)) here are.behind));
      within = let long = length-append (take at items) (drop (suc at) items) in let same : length new ≡ length (take at items ++ drop (suc at) items) = ap length new_is in omega arith;
    }

-- all that pass a test stay
filter-all : {A : Type 0} (test : A → Bool) (xs : List A) → All (λ x. test x ≡ true) xs → filter test xs ≡ xs
filter-all {A = A} test [] each = refl
filter-all {A = A} test (x ∷ xs) each =
    filter-yes test x xs (each 0 x (omega arith)) ∙ ap (λ (ys : List A). x ∷ ys) (filter-all test xs (λ k d inside. each (suc k) d (omega arith)))

-- where the first isn't served, none is
pub cleared-ends : (stored : Stored) (old items : List Stored) (at : ℕ) (x : Stored) → AreCleared stored old items at → at < length items → x ≡ get_or items at x →
    serves (sight stored) (sight x) ≡ false → items ≡ take at old ++ without_served stored (drop at old)
cleared-ends stored old items at x are inside is not_served =
    let R : Stored → Stored → Type 0 = λ y z. Precedes (sight y) (sight z) in
    let P : Stored → Type 0 = λ other. not (serves (sight stored) (sight other)) ≡ true in
    let here : drop at items ≡ x ∷ drop (at + 1) items = drop_more items at x inside ∙ ap (λ (y : Stored). y ∷ drop (at + 1) items) (sym is) in
    let rising : IsRising sight (x ∷ drop (at + 1) items) = subst (IsRising sight) here are.rising in
    let low : stored.load ≤ x.load = All-head (λ other. stored.load ≤ other.load) x (drop (at + 1) items) (subst (All (λ other. stored.load ≤ other.load)) here are.behind) in
    let later = unserved-earlier (sight stored) (sight x) not_served low in
    let each : All P (x ∷ drop (at + 1) items) = All-cons P x (drop (at + 1) items) (ap not not_served)
    (All-weaker (R x) P (λ y before. ap not (later-unserved (sight stored) (sight x) (sight y) later before)) (drop (at + 1) items) (pairs-head R x (drop (at + 1) items) rising)) in
    let kept : without_served stored (drop at items) ≡ drop at items = ap (without_served stored) here ∙ filter-all (λ other. not (serves (sight stored) (sight other))) (x ∷ drop (at + 1) items) each ∙ sym here in
    sym (take-append-drop at items) ∙ ap (λ (xs : List Stored). xs ++ drop at items) are.front ∙ ap (λ (xs : List Stored). take at old ++ xs) (sym kept ∙ are.back)

-- and at the end of the list there is none
pub cleared-all : (stored : Stored) (old items : List Stored) (at : ℕ) → AreCleared stored old items at → length items ≤ at → items ≡ take at old ++ without_served stored (drop at old)
cleared-all stored old items at are end =
    let none : drop at items ≡ [] = drop_all at items end in
    sym (take-append-drop at items) ∙ ap (λ (xs : List Stored). xs ++ drop at items) are.front
    ∙ ap (λ (xs : List Stored). take at old ++ xs) (none ∙ ap (without_served stored) (sym none) ∙ are.back)
