-- Going along two branches that rise thins all that are joined.
use Rattle.std.proofs.Common.{◌≡◌, ◌+◌, ◌<◌, inl, inr, true, List, [], ◌∷◌, ◌++◌, get_or, map, All, Contains, refl, sym, ap, ◌∙◌, arith}
use Rattle.std.proofs.lemmas.List.{get_or-map, length-map}
use Rattle.std.proofs.lemmas.List.Elements.{All-nil, All-cons, All-head, All-tail, All-weaker, All-append, All-map, All-contains, Contains-get_or, Contains-append_left, Contains-append_right}
use Rattle.std.specs.List.{flat_map}
use Rattle.elmore_delay.specs.declared.seen.Seen.{Seen}
use Rattle.ginneken_lists.specs.Candidates.{Candidate, no_later, serves, joined_with, all_joined}
use Rattle.ginneken_lists.specs.Thinning.{AreRising, is_served}
use Rattle.ginneken_lists.specs.Merging.{walk}
use Rattle.ginneken_lists.proofs.TimeOrder.{sooner-first, sooner-second, sooner-greatest}
use Rattle.ginneken_lists.proofs.Serving.{serves-says, serves-from}
use Rattle.ginneken_lists.proofs.Thinned.{Thins, thinned-thins}
use Rattle.ginneken_lists.proofs.Walk.{walk-all, walk-rising, walk-complete}
use Rattle.ginneken_lists.proofs.Unique.{rising-cases, rising-load, SeenApart, thinned-unique}

-- each of one branch joined with each of the other
abbrev combined : List Candidate → List Candidate → List Candidate
combined left right = flat_map (λ o. map (joined_with o) right) left

combined-all : (P : Candidate → Type 0) (left right : List Candidate) → All (λ x. All (λ y. P (joined_with x y)) right) left → All P (combined left right)
combined-all P [] right each = All-nil P
combined-all P (o ∷ left) right each =
    let E : Candidate → Type 0 = λ x. All (λ y. P (joined_with x y)) right in
    All-append P (map (joined_with o) right) (combined left right) (All-map P (joined_with o) right (All-head E o left each))
    (combined-all P left right (All-tail E o left each))

-- each two that are joined are there
combined-each : (left right : List Candidate) → All (λ x. All (λ y. Contains (combined left right) (joined_with x y)) right) left
combined-each [] right = All-nil (λ x. All (λ y. Contains [] (joined_with x y)) right)
combined-each (o ∷ left) right =
    let row = map (joined_with o) right in
    let E : List Candidate → Candidate → Type 0 = λ all x. All (λ y. Contains all (joined_with x y)) right in
    All-cons (E (row ++ combined left right)) o left
    (λ j d inside. Contains-append_left row (combined left right) (joined_with o (get_or right j d))
    (j, let long = length-map right (joined_with o) in omega arith, get_or-map (joined_with o) right j d (joined_with o (get_or right j d)) inside))
    (All-weaker (E (combined left right)) (E (row ++ combined left right))
    (λ x each j d inside. Contains-append_right row (combined left right) (joined_with x (get_or right j d)) (each j d inside)) left (combined-each left right))

combined-has : (left right : List Candidate) (x y : Candidate) → Contains left x → Contains right y → Contains (combined left right) (joined_with x y)
combined-has left right x y first second =
    All-contains (λ z. Contains (combined left right) (joined_with x z)) right y
    (All-contains (λ z. All (λ w. Contains (combined left right) (joined_with z w)) right) left x (combined-each left right) first) second

-- the two that are joined to one of them
record Parts (left right : List Candidate) (c : Candidate) : Type 0 where
  first : Candidate
  second : Candidate
  of_left : Contains left first
  of_right : Contains right second
  is : c ≡ joined_with first second

parts : (left right : List Candidate) (c : Candidate) → Contains (combined left right) c → Parts left right c
parts left right c one =
    All-contains (Parts left right) (combined left right) c
    (combined-all (Parts left right) left right
    (λ i d inside j e within. record {
      first = get_or left i d;
      second = get_or right j e;
      of_left = Contains-get_or left i d inside;
      of_right = Contains-get_or right j e within;
      is = refl;
    })) one

-- what is joined is no later than either
joined-first : (a b : Candidate) (s : Seen) → s ≡ (joined_with a b).seen → no_later s.time a.seen.time ≡ true
joined-first a b s is = ap (λ (t : Seen). no_later t.time a.seen.time) is ∙ sooner-first a.seen.time b.seen.time

joined-second : (a b : Candidate) (s : Seen) → s ≡ (joined_with a b).seen → no_later s.time b.seen.time ≡ true
joined-second a b s is = ap (λ (t : Seen). no_later t.time b.seen.time) is ∙ sooner-second a.seen.time b.seen.time

-- two of smaller load whose times are no earlier than that of one that is kept: there are none
lighter : (a b : Candidate) (s : Seen) → (joined_with a b).seen.load < s.load → no_later s.time a.seen.time ≡ true → no_later s.time b.seen.time ≡ true →
    (serves (joined_with a b).seen s ≡ true → serves s (joined_with a b).seen ≡ true) → ⊥
lighter a b s less first second survives =
    let z : Seen = (joined_with a b).seen in
    let served : serves z s ≡ true = serves-from z s (record { load = omega arith; time = sooner-greatest a.seen.time b.seen.time s.time first second }) in
    let back = (serves-says s z (survives served)).load in
    omega arith

combined-apart : (left right : List Candidate) → AreRising left → AreRising right → SeenApart (combined left right)
combined-apart left right rising rising_right c c' one other alike survives =
    let p = parts left right c one in
    let q = parts left right c' other in
    let seen : c.seen ≡ (joined_with p.first p.second).seen = ap (λ (o : Candidate). o.seen) p.is in
    let seen' : c.seen ≡ (joined_with q.first q.second).seen = alike ∙ ap (λ (o : Candidate). o.seen) q.is in
    let load : c.seen.load ≡ p.first.seen.load + p.second.seen.load = ap (λ (s : Seen). s.load) seen in
    let load' : c.seen.load ≡ q.first.seen.load + q.second.seen.load = ap (λ (s : Seen). s.load) seen' in
    elim (rising-cases left p.first q.first rising p.of_left q.of_left) [
      | inl same ↦
          let same_load : p.first.seen.load ≡ q.first.seen.load = ap (λ (o : Candidate). o.seen.load) same in
          let second : p.second ≡ q.second = rising-load right p.second q.second rising_right p.of_right q.of_right (omega arith) in
          p.is ∙ ap (λ (o : Candidate). joined_with o p.second) same ∙ ap (joined_with q.first) second ∙ sym q.is
      | inr apart ↦ elim apart [
        | inl before ↦
            let less = before.load in
            absurd (lighter p.first q.second c.seen (omega arith) (joined-first p.first p.second c.seen seen) (joined-second q.first q.second c.seen seen')
            (survives (joined_with p.first q.second) (combined-has left right p.first q.second p.of_left q.of_right)))
        | inr behind ↦
            let less = behind.load in
            absurd (lighter q.first p.second c.seen (omega arith) (joined-first q.first q.second c.seen seen') (joined-second p.first p.second c.seen seen)
            (survives (joined_with q.first p.second) (combined-has left right q.first p.second q.of_left p.of_right)))
      ]
    ]

walk-thins : (left right : List Candidate) → AreRising left → AreRising right → Thins (walk left right) (combined left right)
walk-thins left right rising rising_right = record {
  rising = walk-rising left right rising rising_right;
  real = walk-all (Contains (combined left right)) left right (combined-each left right);
  complete = combined-all (λ o. is_served o (walk left right) ≡ true) left right (walk-complete left right rising rising_right);
}

pub walk-joins : (left right : List Candidate) → AreRising left → AreRising right → walk left right ≡ all_joined left right
walk-joins left right rising rising_right =
    thinned-unique (walk left right) (all_joined left right) (combined left right) (walk-thins left right rising rising_right)
    (thinned-thins (combined left right)) (combined-apart left right rising rising_right)
