-- Going along two branches that rise gives the thinned ones of all that are joined.
use Rattle.std.proofs.Common.{◌≡◌, ◌≤◌, ℤ, inl, inr, true, false, cond, List, [], ◌∷◌, ◌++◌, get_or, map, All, Option, refl, sym, subst, ◌∙◌, arith}
use Rattle.std.proofs.lemmas.Bool.{cases_Bool, cond_both, or_left, or_right}
use Rattle.std.proofs.lemmas.List.Elements.{All-nil, All-cons, All-head, All-tail, All-weaker, All-append, All-map}
use Rattle.std.proofs.lemmas.List.Folds.{list_any-append}
use Rattle.std.proofs.lemmas.List.Kept.{AllPairs-cons}
use Rattle.elmore_delay.specs.RcTrees.{sooner}
use Rattle.ginneken_lists.specs.Candidates.{Candidate, no_later, serves, joined_with}
use Rattle.ginneken_lists.specs.Thinning.{AreRising, is_served}
use Rattle.ginneken_lists.specs.Merging.{partners, left_for_next, walk}
use Rattle.ginneken_lists.proofs.TimeOrder.{no_later-other, later-before, sooner-first, sooner-second, sooner-is_first, sooner-is_second, later-sooner}
use Rattle.ginneken_lists.proofs.Serving.{serves-itself, serves-from, pairs-none, pairs-one, pairs-head, pairs-tail, pairs-append}
use Rattle.ginneken_lists.proofs.Thinned.{Before}

-- the partners of a candidate by the first of a branch
partners-cases : (Q : List Candidate → Type 0) (o other : Candidate) (rest : List Candidate) →
    (no_later o.seen.time other.seen.time ≡ true → Q (other ∷ [])) →
    (no_later o.seen.time other.seen.time ≡ false → Q (other ∷ partners o rest)) → Q (partners o (other ∷ rest))
partners-cases Q o other rest = cond_both (no_later o.seen.time other.seen.time) (other ∷ []) (other ∷ partners o rest) Q

left-cases : (Q : List Candidate → Type 0) (o other : Candidate) (rest : List Candidate) →
    (no_later o.seen.time other.seen.time ≡ true → no_later other.seen.time o.seen.time ≡ true → Q rest) →
    (no_later o.seen.time other.seen.time ≡ true → no_later other.seen.time o.seen.time ≡ false → Q (other ∷ rest)) →
    (no_later o.seen.time other.seen.time ≡ false → Q (left_for_next o rest)) → Q (left_for_next o (other ∷ rest))
left-cases Q o other rest same later earlier =
    cond_both (no_later o.seen.time other.seen.time) (cond (no_later other.seen.time o.seen.time) rest (other ∷ rest)) (left_for_next o rest) Q
    (λ is. cond_both (no_later other.seen.time o.seen.time) rest (other ∷ rest) Q (same is) (later is))
    earlier

partners-all : (P : Candidate → Type 0) (o : Candidate) (right : List Candidate) → All P right → All P (partners o right)
partners-all P o [] each = All-nil P
partners-all P o (other ∷ rest) each = partners-cases (All P) o other rest
    (λ is. All-cons P other [] (All-head P other rest each) (All-nil P))
    (λ is. All-cons P other (partners o rest) (All-head P other rest each) (partners-all P o rest (All-tail P other rest each)))

left-all : (P : Candidate → Type 0) (o : Candidate) (right : List Candidate) → All P right → All P (left_for_next o right)
left-all P o [] each = All-nil P
left-all P o (other ∷ rest) each = left-cases (All P) o other rest
    (λ is same. All-tail P other rest each)
    (λ is later. each)
    (λ is. left-all P o rest (All-tail P other rest each))

left-rising : (o : Candidate) (right : List Candidate) → AreRising right → AreRising (left_for_next o right)
left-rising o [] rising = rising
left-rising o (other ∷ rest) rising = left-cases AreRising o other rest
    (λ is same. pairs-tail Before other rest rising)
    (λ is later. rising)
    (λ is. left-rising o rest (pairs-tail Before other rest rising))

-- those that are left have later times
left-later : (o : Candidate) (right : List Candidate) → AreRising right → All (λ x. no_later x.seen.time o.seen.time ≡ false) (left_for_next o right)
left-later o [] rising = All-nil (λ x. no_later x.seen.time o.seen.time ≡ false)
left-later o (other ∷ rest) rising =
    let P : Candidate → Type 0 = λ x. no_later x.seen.time o.seen.time ≡ false in
    left-cases (All P) o other rest
    (λ is same. All-weaker (Before other) P (λ x before. later-before x.seen.time other.seen.time o.seen.time before.time is) rest (pairs-head Before other rest rising))
    (λ is later. All-cons P other rest later
    (All-weaker (Before other) P (λ x before. later-before x.seen.time other.seen.time o.seen.time before.time is) rest (pairs-head Before other rest rising)))
    (λ is. left-later o rest (pairs-tail Before other rest rising))

-- what is left has no smaller loads than the partners
left-behind : (o : Candidate) (right : List Candidate) → AreRising right →
    All (λ y. All (λ z. y.seen.load ≤ z.seen.load) (left_for_next o right)) (partners o right)
left-behind o [] rising = All-nil (λ y. All (λ z. y.seen.load ≤ z.seen.load) [])
left-behind o (other ∷ rest) rising =
    let head = pairs-head Before other rest rising in
    let P : Candidate → Type 0 = λ z. other.seen.load ≤ z.seen.load in
    let low : All P (other ∷ rest) = All-cons P other rest (omega arith) (All-weaker (Before other) P (λ z before. let l = before.load in omega arith) rest head) in
    let here : All P (left_for_next o (other ∷ rest)) = left-all P o (other ∷ rest) low in
    elim (cases_Bool (no_later o.seen.time other.seen.time)) [
      | inl is ↦
          let one : partners o (other ∷ rest) ≡ other ∷ [] = rw is refl in
          subst (λ (ys : List Candidate). All (λ y. All (λ z. y.seen.load ≤ z.seen.load) (left_for_next o (other ∷ rest))) ys) (sym one)
          (All-cons (λ y. All (λ z. y.seen.load ≤ z.seen.load) (left_for_next o (other ∷ rest))) other [] here
          (All-nil (λ y. All (λ z. y.seen.load ≤ z.seen.load) (left_for_next o (other ∷ rest)))))
      | inr is ↦
          let more : partners o (other ∷ rest) ≡ other ∷ partners o rest = rw is refl in
          let next : left_for_next o (other ∷ rest) ≡ left_for_next o rest = rw is refl in
          subst (λ (ys : List Candidate). All (λ y. All (λ z. y.seen.load ≤ z.seen.load) (left_for_next o (other ∷ rest))) ys) (sym more)
          (All-cons (λ y. All (λ z. y.seen.load ≤ z.seen.load) (left_for_next o (other ∷ rest))) other (partners o rest) here
          (subst (λ (zs : List Candidate). All (λ y. All (λ z. y.seen.load ≤ z.seen.load) zs) (partners o rest)) (sym next)
          (left-behind o rest (pairs-tail Before other rest rising))))
    ]

-- what holds of each two that are joined holds of those that are met
pub walk-all : (P : Candidate → Type 0) (left right : List Candidate) → All (λ x. All (λ y. P (joined_with x y)) right) left → All P (walk left right)
walk-all P [] right each = All-nil P
walk-all P (o ∷ left) right each =
    let E : Candidate → Type 0 = λ x. All (λ y. P (joined_with x y)) right in
    All-append P (map (joined_with o) (partners o right)) (walk left (left_for_next o right))
    (All-map P (joined_with o) (partners o right) (partners-all (λ y. P (joined_with o y)) o right (All-head E o left each)))
    (walk-all P left (left_for_next o right)
    (All-weaker E (λ x. All (λ y. P (joined_with x y)) (left_for_next o right))
    (λ x all. left-all (λ y. P (joined_with x y)) o right all) left (All-tail E o left each)))

-- loads and times rise along the partners of a candidate
row-rising : (o : Candidate) (right : List Candidate) → AreRising right → AreRising (map (joined_with o) (partners o right))
row-rising o [] rising = pairs-none Before
row-rising o (other ∷ rest) rising =
    elim (cases_Bool (no_later o.seen.time other.seen.time)) [
      | inl is ↦
          let one : partners o (other ∷ rest) ≡ other ∷ [] = rw is refl in
          subst (λ (ys : List Candidate). AreRising (map (joined_with o) ys)) (sym one) (pairs-one Before (joined_with o other))
      | inr earlier ↦
          let more : partners o (other ∷ rest) ≡ other ∷ partners o rest = rw earlier refl in
          let second : sooner o.seen.time other.seen.time ≡ other.seen.time =
          sooner-is_second o.seen.time other.seen.time (no_later-other o.seen.time other.seen.time earlier) in
          let next : (y : Candidate) → Before other y → Before (joined_with o other) (joined_with o y) = λ y before.
          let less = before.load in
          record {
            load = omega arith;
            time = subst (λ (t : Option ℤ). no_later (sooner o.seen.time y.seen.time) t ≡ false) (sym second)
                (later-sooner o.seen.time y.seen.time other.seen.time earlier before.time);
          } in
          subst (λ (ys : List Candidate). AreRising (map (joined_with o) ys)) (sym more)
          (AllPairs-cons Before (joined_with o other) (map (joined_with o) (partners o rest))
          (All-map (Before (joined_with o other)) (joined_with o) (partners o rest)
          (partners-all (λ y. Before (joined_with o other) (joined_with o y)) o rest
          (All-weaker (Before other) (λ y. Before (joined_with o other) (joined_with o y)) next rest (pairs-head Before other rest rising))))
          (row-rising o rest (pairs-tail Before other rest rising)))
    ]

-- each that is met for a candidate precedes each that is met for the next ones
rows-rising : (o x y z : Candidate) → Before o x → y.seen.load ≤ z.seen.load → no_later z.seen.time o.seen.time ≡ false →
    Before (joined_with o y) (joined_with x z)
rows-rising o x y z before low later =
    let less = before.load in
    record {
      load = omega arith;
      time = later-before (sooner x.seen.time z.seen.time) o.seen.time (sooner o.seen.time y.seen.time)
          (later-sooner x.seen.time z.seen.time o.seen.time before.time later) (sooner-first o.seen.time y.seen.time);
    }

pub walk-rising : (left right : List Candidate) → AreRising left → AreRising right → AreRising (walk left right)
walk-rising [] right rising rising_right = pairs-none Before
walk-rising (o ∷ left) right rising rising_right =
    let next = left_for_next o right in
    let later = left-later o right rising_right in
    let behind = left-behind o right rising_right in
    let E : Candidate → Type 0 = λ y. All (Before (joined_with o y)) (walk left next) in
    let each : (y : Candidate) → All (λ z. y.seen.load ≤ z.seen.load) next → E y = λ y low.
    walk-all (Before (joined_with o y)) left next
    (All-weaker (Before o) (λ x. All (λ z. Before (joined_with o y) (joined_with x z)) next)
    (λ x before k d inside. rows-rising o x y (get_or next k d) before (low k d inside) (later k d inside)) left (pairs-head Before o left rising)) in
    pairs-append Before (map (joined_with o) (partners o right)) (walk left next) (row-rising o right rising_right)
    (walk-rising left next (pairs-tail Before o left rising) (left-rising o right rising_right))
    (All-map (λ x. All (Before x) (walk left next)) (joined_with o) (partners o right)
    (All-weaker (λ y. All (λ z. y.seen.load ≤ z.seen.load) next) E each (partners o right) behind))

-- joined with any of the branch, a candidate is served as well by one that is met for it
row-serves : (o : Candidate) (right more : List Candidate) → AreRising right →
    All (λ y. is_served (joined_with o y) (map (joined_with o) (partners o right) ++ more) ≡ true) right
row-serves o [] more rising = All-nil (λ y. is_served (joined_with o y) more ≡ true)
row-serves o (other ∷ rest) more rising =
    let head = pairs-head Before other rest rising in
    let S : List Candidate → Candidate → Type 0 = λ ys y. is_served (joined_with o y) (map (joined_with o) ys ++ more) ≡ true in
    elim (cases_Bool (no_later o.seen.time other.seen.time)) [
      | inl is ↦
          let one : partners o (other ∷ rest) ≡ other ∷ [] = rw is refl in
          let first : sooner o.seen.time other.seen.time ≡ o.seen.time = sooner-is_first o.seen.time other.seen.time is in
          let by_other : (y : Candidate) → other.seen.load ≤ y.seen.load → S (other ∷ []) y = λ y low.
          or_left (serves (joined_with o other).seen (joined_with o y).seen) (is_served (joined_with o y) more)
          (serves-from (joined_with o other).seen (joined_with o y).seen (record {
            load = omega arith;
            time = subst (λ (t : Option ℤ). no_later (sooner o.seen.time y.seen.time) t ≡ true) (sym first) (sooner-first o.seen.time y.seen.time);
          })) in
          subst (λ (ys : List Candidate). All (S ys) (other ∷ rest)) (sym one)
          (All-cons (S (other ∷ [])) other rest (by_other other (omega arith))
          (All-weaker (Before other) (S (other ∷ [])) (λ y before. by_other y (let less = before.load in omega arith)) rest head))
      | inr is ↦
          let longer : partners o (other ∷ rest) ≡ other ∷ partners o rest = rw is refl in
          subst (λ (ys : List Candidate). All (S ys) (other ∷ rest)) (sym longer)
          (All-cons (S (other ∷ partners o rest)) other rest
          (or_left (serves (joined_with o other).seen (joined_with o other).seen) (is_served (joined_with o other) (map (joined_with o) (partners o rest) ++ more))
          (serves-itself (joined_with o other).seen))
          (All-weaker (S (partners o rest)) (S (other ∷ partners o rest))
          (λ y served. or_right (serves (joined_with o other).seen (joined_with o y).seen) (is_served (joined_with o y) (map (joined_with o) (partners o rest) ++ more)) served)
          rest (row-serves o rest more (pairs-tail Before other rest rising))))
    ]

-- what holds of those that are left, and of the partners whose times aren't later, holds of the branch
left-or_partner : (P : Candidate → Type 0) (o : Candidate) (right : List Candidate) → All P (left_for_next o right) →
    All (λ y. no_later y.seen.time o.seen.time ≡ true → P y) (partners o right) → All P right
left-or_partner P o [] next own = All-nil P
left-or_partner P o (other ∷ rest) next own =
    let O : Candidate → Type 0 = λ y. no_later y.seen.time o.seen.time ≡ true → P y in
    elim (cases_Bool (no_later o.seen.time other.seen.time)) [
      | inl is ↦
          let one : partners o (other ∷ rest) ≡ other ∷ [] = rw is refl in
          let owned : All O (other ∷ []) = subst (All O) one own in
          elim (cases_Bool (no_later other.seen.time o.seen.time)) [
            | inl same ↦
                let left : left_for_next o (other ∷ rest) ≡ rest = rw (is, same) refl in
                All-cons P other rest (All-head O other [] owned same) (subst (All P) left next)
            | inr later ↦
                let left : left_for_next o (other ∷ rest) ≡ other ∷ rest = rw (is, later) refl in
                subst (All P) left next
          ]
      | inr earlier ↦
          let more : partners o (other ∷ rest) ≡ other ∷ partners o rest = rw earlier refl in
          let left : left_for_next o (other ∷ rest) ≡ left_for_next o rest = rw earlier refl in
          let owned : All O (other ∷ partners o rest) = subst (All O) more own in
          All-cons P other rest (All-head O other (partners o rest) owned (no_later-other o.seen.time other.seen.time earlier))
          (left-or_partner P o rest (subst (All P) left next) (All-tail O other (partners o rest) owned))
    ]

-- a later candidate, joined with such a partner, is served as well by the earlier one
partner-serves : (o x : Candidate) → Before o x → (ys more : List Candidate) →
    All (λ y. no_later y.seen.time o.seen.time ≡ true → is_served (joined_with x y) (map (joined_with o) ys ++ more) ≡ true) ys
partner-serves o x before [] more = All-nil (λ y. no_later y.seen.time o.seen.time ≡ true → is_served (joined_with x y) more ≡ true)
partner-serves o x before (y ∷ ys) more =
    let less = before.load in
    let S : List Candidate → Candidate → Type 0 = λ zs z. no_later z.seen.time o.seen.time ≡ true → is_served (joined_with x z) (map (joined_with o) zs ++ more) ≡ true in
    All-cons (S (y ∷ ys)) y ys
    (λ early. or_left (serves (joined_with o y).seen (joined_with x y).seen) (is_served (joined_with x y) (map (joined_with o) ys ++ more))
    (serves-from (joined_with o y).seen (joined_with x y).seen (record {
      load = omega arith;
      time = subst (λ (t : Option ℤ). no_later (sooner x.seen.time y.seen.time) t ≡ true) (sym (sooner-is_second o.seen.time y.seen.time early)) (sooner-second x.seen.time y.seen.time);
    })))
    (All-weaker (S ys) (S (y ∷ ys))
    (λ z served early. or_right (serves (joined_with o y).seen (joined_with x z).seen) (is_served (joined_with x z) (map (joined_with o) ys ++ more)) (served early))
    ys (partner-serves o x before ys more))

-- each two that are joined are served as well by one that is met
pub walk-complete : (left right : List Candidate) → AreRising left → AreRising right →
    All (λ x. All (λ y. is_served (joined_with x y) (walk left right) ≡ true) right) left
walk-complete [] right rising rising_right = All-nil (λ x. All (λ y. is_served (joined_with x y) [] ≡ true) right)
walk-complete (o ∷ left) right rising rising_right =
    let next = left_for_next o right in
    let row = map (joined_with o) (partners o right) in
    let E : Candidate → Type 0 = λ x. All (λ y. is_served (joined_with x y) (row ++ walk left next) ≡ true) right in
    let rest = walk-complete left next (pairs-tail Before o left rising) (left-rising o right rising_right) in
    let head = pairs-head Before o left rising in
    All-cons E o left (row-serves o right (walk left next) rising_right)
    (λ k d inside.
    let x = get_or left k d in
    let P : Candidate → Type 0 = λ y. is_served (joined_with x y) (row ++ walk left next) ≡ true in
    let later : All P next = All-weaker (λ y. is_served (joined_with x y) (walk left next) ≡ true) P
    (λ y served. list_any-append (λ other. serves other.seen (joined_with x y).seen) row (walk left next)
    ∙ or_right (is_served (joined_with x y) row) (is_served (joined_with x y) (walk left next)) served) next (rest k d inside) in
    left-or_partner P o right later (partner-serves o x (head k d inside) (partners o right) (walk left next)))
