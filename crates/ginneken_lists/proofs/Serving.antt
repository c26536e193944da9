-- What serves as well as something else, and lists that rise.
use Rattle.std.proofs.Common.{◌≡◌, ℕ, suc, ◌<◌, ◌≤◌, ℤ, inl, inr, true, false, leb, List, [], ◌∷◌, ◌++◌, length, get_or, map, All, Option, refl, ap, subst, ◌∙◌, arith}
use Rattle.std.proofs.lemmas.Bool.{both_ways, cases_lt, false_from_ne_true, and_parts, and_from, and_left, and_right, leb-true, le-leb, lt-leb}
use Rattle.std.proofs.lemmas.List.{get_or-map, get_or_append_left, get_or_at, length-append, length-map}
use Rattle.std.proofs.lemmas.List.Elements.{All-map, All-append, All-head, All-tail}
use Rattle.std.proofs.lemmas.List.Kept.{AllPairs-cons}
use Rattle.std.specs.List.{AllPairs}
use Rattle.elmore_delay.specs.declared.seen.Seen.{Seen}
use Rattle.ginneken_lists.specs.Candidates.{no_later, serves}
use Rattle.ginneken_lists.specs.Thinning.{Precedes, IsRising}
use Rattle.ginneken_lists.proofs.TimeOrder.{no_later-itself, no_later-through, no_later-other, no_later-same, later-through}

-- what it says that something serves as well as something else
pub record Serves (s other : Seen) : Type 0 where
  pub load : s.load ≤ other.load
  pub time : no_later other.time s.time ≡ true

pub serves-says : (s other : Seen) → serves s other ≡ true → Serves s other
serves-says s other is =
    let parts = and_parts (leb s.load other.load) (no_later other.time s.time) is in
    record { load = leb-true s.load other.load parts.0; time = parts.1 }

pub serves-from : (s other : Seen) → Serves s other → serves s other ≡ true
serves-from s other is =
    and_from (leb s.load other.load) (no_later other.time s.time) (le-leb s.load other.load is.load) is.time

pub serves-itself : (s : Seen) → serves s s ≡ true
serves-itself s = serves-from s s (record { load = omega arith; time = no_later-itself s.time })

pub serves-through : (s other third : Seen) → serves s other ≡ true → serves other third ≡ true → serves s third ≡ true
serves-through s other third first second =
    let f = serves-says s other first in
    let g = serves-says other third second in
    let low = f.load in
    let lower = g.load in
    serves-from s third (record { load = omega arith; time = no_later-through third.time other.time s.time g.time f.time })

-- what doesn't serve as well, though its load is no greater, has a lesser time
pub unserved-earlier : (s other : Seen) → serves s other ≡ false → s.load ≤ other.load → no_later other.time s.time ≡ false
unserved-earlier s other not_served low = false_from_ne_true (no_later other.time s.time)
    (λ is. both_ways (serves s other) not_served (serves-from s other (record { load = low; time = is })))

-- a lesser load and a lesser time
pub unserved-precedes : (s other : Seen) → serves s other ≡ false → s.load < other.load → Precedes s other
unserved-precedes s other not_served low =
    record { load = low; time = unserved-earlier s other not_served (omega arith) }

-- where neither serves as well, the one of no greater load precedes
pub apart-precedes : (s other : Seen) → serves s other ≡ false → serves other s ≡ false → s.load ≤ other.load → Precedes s other
apart-precedes s other not_served not_other low =
    let later = unserved-earlier s other not_served low in
    let time = no_later-other other.time s.time later in
    elim (cases_lt s.load other.load) [
      | inl less ↦ record { load = less; time = later }
      | inr high ↦ absurd (both_ways (serves other s) not_other (serves-from other s (record { load = high; time = time })))
    ]

pub precedes-unserved : (s other : Seen) → Precedes s other → serves s other ≡ false
precedes-unserved s other is = and_right (leb s.load other.load) (no_later other.time s.time) is.time

pub precedes-unserving : (s other : Seen) → Precedes s other → serves other s ≡ false
precedes-unserving s other is = and_left (leb other.load s.load) (no_later s.time other.time) (lt-leb other.load s.load is.load)

-- what doesn't serve as well for its time doesn't serve those of later times
pub later-unserved : (s other third : Seen) → no_later other.time s.time ≡ false → Precedes other third → serves s third ≡ false
later-unserved s other third later before = and_right (leb s.load third.load) (no_later third.time s.time)
    (later-through third.time other.time s.time (no_later-other third.time other.time before.time) later)

-- what serves as well as each other is the same
pub serves-same : (s other : Seen) → serves s other ≡ true → serves other s ≡ true → s ≡ other
serves-same s other first second =
    let f = serves-says s other first in
    let g = serves-says other s second in
    let low = f.load in
    let high = g.load in
    let load : s.load ≡ other.load = omega arith in
    ap (λ (n : ℕ). record { load = n; time = s.time }) load
    ∙ ap (λ (t : Option ℤ). record { load = other.load; time = t }) (no_later-same s.time other.time g.time f.time)

-- pairs of a list by its head and its tail
pub pairs-none : {A : Type 0} (R : A → A → Type 0) → AllPairs R []
pairs-none R i j d before inside = absurd (omega arith)

pub pairs-head : {A : Type 0} (R : A → A → Type 0) (x : A) (xs : List A) → AllPairs R (x ∷ xs) → All (R x) xs
pairs-head R x xs all k d inside = all 0 (suc k) d (omega arith) (omega arith)

pub pairs-tail : {A : Type 0} (R : A → A → Type 0) (x : A) (xs : List A) → AllPairs R (x ∷ xs) → AllPairs R xs
pairs-tail R x xs all i j d before inside = all (suc i) (suc j) d (omega arith) (omega arith)

pub pairs-one : {A : Type 0} (R : A → A → Type 0) (x : A) → AllPairs R (x ∷ [])
pairs-one R x i j d before inside = absurd (omega arith)

-- those before an element
pub pairs-before : {A : Type 0} (R : A → A → Type 0) (xs : List A) (y : A) (ys : List A) → AllPairs R (xs ++ y ∷ ys) → All (λ x. R x y) xs
pairs-before R xs y ys all k d inside =
    let long = length-append xs (y ∷ ys) in
    let pair = all k (length xs) d inside (omega arith) in
    subst (λ x. R x y) (get_or_append_left xs (y ∷ ys) d k inside)
    (subst (λ z. R (get_or (xs ++ y ∷ ys) k d) z) (get_or_at xs y ys d (length xs) refl) pair)

pub pairs-front : {A : Type 0} (R : A → A → Type 0) (xs ys : List A) → AllPairs R (xs ++ ys) → AllPairs R xs
pairs-front R [] ys all = pairs-none R
pairs-front R (x ∷ xs) ys all =
    AllPairs-cons R x xs (λ k d inside. subst (λ z. R x z) (get_or_append_left xs ys d k inside)
    (pairs-head R x (xs ++ ys) all k d (let long = length-append xs ys in omega arith)))
    (pairs-front R xs ys (pairs-tail R x (xs ++ ys) all))

pub pairs-back : {A : Type 0} (R : A → A → Type 0) (xs ys : List A) → AllPairs R (xs ++ ys) → AllPairs R ys
pairs-back R [] ys all = all
pairs-back R (x ∷ xs) ys all = pairs-back R xs ys (pairs-tail R x (xs ++ ys) all)

-- two lists, of which each element of the first is related to each of the second
pub pairs-append : {A : Type 0} (R : A → A → Type 0) (xs ys : List A) → AllPairs R xs → AllPairs R ys → All (λ x. All (R x) ys) xs → AllPairs R (xs ++ ys)
pairs-append R [] ys front back across = back
pairs-append R (x ∷ xs) ys front back across =
    AllPairs-cons R x (xs ++ ys) (All-append (R x) xs ys (pairs-head R x xs front) (All-head (λ z. All (R z) ys) x xs across))
    (pairs-append R xs ys (pairs-tail R x xs front) back (All-tail (λ z. All (R z) ys) x xs across))

-- between a list and what is made of its elements
pub rising-map : {A B : Type 0} (f : A → B) (seen : B → Seen) (xs : List A) → IsRising (λ x. seen (f x)) xs → IsRising seen (map f xs)
rising-map f seen [] rising = pairs-none (λ x y. Precedes (seen x) (seen y))
rising-map f seen (x ∷ xs) rising =
    AllPairs-cons (λ y z. Precedes (seen y) (seen z)) (f x) (map f xs)
    (All-map (λ z. Precedes (seen (f x)) (seen z)) f xs (pairs-head (λ y z. Precedes (seen (f y)) (seen (f z))) x xs rising))
    (rising-map f seen xs (pairs-tail (λ y z. Precedes (seen (f y)) (seen (f z))) x xs rising))

pub rising-unmap : {A B : Type 0} (f : A → B) (seen : B → Seen) (xs : List A) → IsRising seen (map f xs) → IsRising (λ x. seen (f x)) xs
rising-unmap f seen xs rising i j d before inside =
    let long = length-map xs f in
    let pair = rising i j (f d) before (omega arith) in
    subst (λ y. Precedes (seen y) (seen (f (get_or xs j d)))) (get_or-map f xs i d (f d) (omega arith))
    (subst (λ z. Precedes (seen (get_or (map f xs) i (f d))) (seen z)) (get_or-map f xs j d (f d) inside) pair)
