-- Going along the pairs of two branches at once.
use Rattle.std.proofs.Common.{◌≡◌, ℕ, ◌+◌, ◌*◌, ◌<◌, ◌≤◌, true, false, List, [], ◌∷◌, ◌++◌, length, get_or, drop, map, All, refl, sym, ap, subst, ◌∙◌, append_assoc, arith}
use Rattle.std.proofs.lemmas.List.{drop_more, drop_all, append-nil, length-map, length_push}
use Rattle.std.proofs.lemmas.List.Elements.{All-push, All-weaker}
use Rattle.std.specs.List.{flat_map}
use Rattle.elmore_delay.specs.FromLeaves.{joined}
use Rattle.ginneken_lists.specs.Candidates.{Chosen, Candidate, no_later, both, joined_with, all_joined}
use Rattle.ginneken_lists.specs.Thinning.{AreRising}
use Rattle.ginneken_lists.specs.Trails.{chosen_of, Keeps}
use Rattle.ginneken_lists.specs.Pairs.{IsList}
use Rattle.ginneken_lists.specs.StoredPairs.{pair_of, pairs_of, stored_candidate}
use Rattle.ginneken_lists.specs.Merging.{walk}
use Rattle.ginneken_lists.specs.declared.stored.Stored.{Stored}
use Rattle.ginneken_lists.proofs.StoredLemmas.{all_of, sight, all_of-append, all_of-keeps, all_of-rising, rising-all_of, candidate-is}
use Rattle.ginneken_lists.proofs.Thinned.{thinned-rising}
use Rattle.ginneken_lists.proofs.WalkThins.{walk-joins}
use Rattle.ginneken_lists.proofs.TrailLemmas.{Keeps-itself, Keeps-through}

walk-nil : (left : List Candidate) → walk left [] ≡ []
walk-nil [] = refl
walk-nil (o ∷ left) = walk-nil left

-- the two first are joined, and it goes on behind the one of lesser time, or behind both
walk-first : (o other : Candidate) (left right : List Candidate) → no_later o.seen.time other.seen.time ≡ true → no_later other.seen.time o.seen.time ≡ false →
    walk (o ∷ left) (other ∷ right) ≡ joined_with o other ∷ walk left (other ∷ right)
walk-first o other left right is later = rw (is, later) refl

walk-second : (o other : Candidate) (left right : List Candidate) → no_later o.seen.time other.seen.time ≡ false →
    walk (o ∷ left) (other ∷ right) ≡ joined_with o other ∷ walk (o ∷ left) right
walk-second o other left right is = rw is refl

walk-both : (o other : Candidate) (left right : List Candidate) → no_later o.seen.time other.seen.time ≡ true → no_later other.seen.time o.seen.time ≡ true →
    walk (o ∷ left) (other ∷ right) ≡ joined_with o other ∷ walk left right
walk-both o other left right is same = rw (is, same) refl

-- the pairs so far, and what there is to join of those that are left of the two branches
pub record AreMerged (trail now : List Chosen) (left right merged : List Stored) (before beside : ℕ) : Type 0 where
  pub done : all_of now merged ++ walk (all_of trail (drop before left)) (all_of trail (drop beside right)) ≡ walk (all_of trail left) (all_of trail right)
  pub keeps : Keeps trail now
  pub marks : All (λ (pair : Stored). pair.mark ≤ length now) merged

pub merged-none : (trail : List Chosen) (left right : List Stored) → AreMerged trail trail left right [] 0 0
merged-none trail left right = record { done = refl; keeps = Keeps-itself trail; marks = λ k d inside. absurd (omega arith) }

-- one more pair, where what is left to join is known
merged-more : (trail now next : List Chosen) (left right merged : List Stored) (before beside ahead along : ℕ) (o other pair : Stored) →
    AreMerged trail now left right merged before beside → Keeps now next → pair.mark ≤ length next →
    stored_candidate next pair ≡ joined_with (stored_candidate trail o) (stored_candidate trail other) →
    walk (all_of trail (drop before left)) (all_of trail (drop beside right))
    ≡ joined_with (stored_candidate trail o) (stored_candidate trail other) ∷ walk (all_of trail (drop ahead left)) (all_of trail (drop along right)) →
    AreMerged trail next left right (merged ++ pair ∷ []) ahead along
merged-more trail now next left right merged before beside ahead along o other pair are keeps mark pair_is goes =
    let rest : List Candidate = walk (all_of trail (drop ahead left)) (all_of trail (drop along right)) in
    let same : all_of next merged ≡ all_of now merged = all_of-keeps now next merged keeps are.marks in
    let long = keeps.longer in
    record {
      done = ap (λ (os : List Candidate). os ++ rest) (all_of-append next merged (pair ∷ []))
          ∙ append_assoc (all_of next merged) (stored_candidate next pair ∷ []) rest
          ∙ ap (λ (x : Candidate). all_of next merged ++ x ∷ rest) pair_is
          ∙ ap (λ (os : List Candidate). os ++ joined_with (stored_candidate trail o) (stored_candidate trail other) ∷ rest) same
          ∙ ap (λ (os : List Candidate). all_of now merged ++ os) (sym goes)
          ∙ are.done;
      keeps = Keeps-through trail now next are.keeps keeps;
      marks = All-push (λ (x : Stored). x.mark ≤ length next) merged pair
          (All-weaker (λ (x : Stored). x.mark ≤ length now) (λ (x : Stored). x.mark ≤ length next) (λ x low. omega arith) merged are.marks) mark;
    }

-- the next of a branch
next-of : (trail : List Chosen) (items : List Stored) (at : ℕ) (x : Stored) → at < length items → x ≡ get_or items at x →
    all_of trail (drop at items) ≡ stored_candidate trail x ∷ all_of trail (drop (at + 1) items)
next-of trail items at x inside is =
    ap (all_of trail) (drop_more items at x inside ∙ ap (λ (y : Stored). y ∷ drop (at + 1) items) (sym is))

-- a pair of two that are joined
pub joined-is : (trail now next : List Chosen) (o other pair : Stored) (mark : ℕ) → Keeps trail now → o.mark ≤ length trail → other.mark ≤ length trail →
    chosen_of next mark ≡ both (chosen_of now o.mark) (chosen_of now other.mark) → sight pair ≡ joined (sight o) (sight other) → pair.mark ≡ mark →
    stored_candidate next pair ≡ joined_with (stored_candidate trail o) (stored_candidate trail other)
joined-is trail now next o other pair mark keeps first second named seen pair_mark =
    candidate-is next pair (joined (sight o) (sight other)) mark seen pair_mark
    ∙ ap (λ (c : Chosen). record { seen = joined (sight o) (sight other); chosen = c })
    (named ∙ ap (λ (c : Chosen). both c (chosen_of now other.mark)) (keeps.same o.mark first)
    ∙ ap (λ (c : Chosen). both (chosen_of trail o.mark) c) (keeps.same other.mark second))

pub merged-first : (trail now next : List Chosen) (left right merged : List Stored) (before beside : ℕ) (o other pair : Stored) →
    AreMerged trail now left right merged before beside → Keeps now next → pair.mark ≤ length next →
    stored_candidate next pair ≡ joined_with (stored_candidate trail o) (stored_candidate trail other) →
    before < length left → beside < length right → o ≡ get_or left before o → other ≡ get_or right beside other →
    no_later (sight o).time (sight other).time ≡ true → no_later (sight other).time (sight o).time ≡ false →
    AreMerged trail next left right (merged ++ pair ∷ []) (before + 1) beside
merged-first trail now next left right merged before beside o other pair are keeps mark pair_is inside within o_is other_is is later =
    let L = next-of trail left before o inside o_is in
    let R = next-of trail right beside other within other_is in
    merged-more trail now next left right merged before beside (before + 1) beside o other pair are keeps mark pair_is
    (ap (λ (os : List Candidate). walk os (all_of trail (drop beside right))) L
    ∙ ap (walk (stored_candidate trail o ∷ all_of trail (drop (before + 1) left))) R
    ∙ walk-first (stored_candidate trail o) (stored_candidate trail other) (all_of trail (drop (before + 1) left)) (all_of trail (drop (beside + 1) right)) is later
    ∙ ap (λ (os : List Candidate). joined_with (stored_candidate trail o) (stored_candidate trail other) ∷ walk (all_of trail (drop (before + 1) left)) os) (sym R))

pub merged-second : (trail now next : List Chosen) (left right merged : List Stored) (before beside : ℕ) (o other pair : Stored) →
    AreMerged trail now left right merged before beside → Keeps now next → pair.mark ≤ length next →
    stored_candidate next pair ≡ joined_with (stored_candidate trail o) (stored_candidate trail other) →
    before < length left → beside < length right → o ≡ get_or left before o → other ≡ get_or right beside other →
    no_later (sight o).time (sight other).time ≡ false →
    AreMerged trail next left right (merged ++ pair ∷ []) before (beside + 1)
merged-second trail now next left right merged before beside o other pair are keeps mark pair_is inside within o_is other_is later =
    let L = next-of trail left before o inside o_is in
    let R = next-of trail right beside other within other_is in
    merged-more trail now next left right merged before beside before (beside + 1) o other pair are keeps mark pair_is
    (ap (λ (os : List Candidate). walk os (all_of trail (drop beside right))) L
    ∙ ap (walk (stored_candidate trail o ∷ all_of trail (drop (before + 1) left))) R
    ∙ walk-second (stored_candidate trail o) (stored_candidate trail other) (all_of trail (drop (before + 1) left)) (all_of trail (drop (beside + 1) right)) later
    ∙ ap (λ (os : List Candidate). joined_with (stored_candidate trail o) (stored_candidate trail other) ∷ walk os (all_of trail (drop (beside + 1) right))) (sym L))

pub merged-both : (trail now next : List Chosen) (left right merged : List Stored) (before beside : ℕ) (o other pair : Stored) →
    AreMerged trail now left right merged before beside → Keeps now next → pair.mark ≤ length next →
    stored_candidate next pair ≡ joined_with (stored_candidate trail o) (stored_candidate trail other) →
    before < length left → beside < length right → o ≡ get_or left before o → other ≡ get_or right beside other →
    no_later (sight o).time (sight other).time ≡ true → no_later (sight other).time (sight o).time ≡ true →
    AreMerged trail next left right (merged ++ pair ∷ []) (before + 1) (beside + 1)
merged-both trail now next left right merged before beside o other pair are keeps mark pair_is inside within o_is other_is is same =
    let L = next-of trail left before o inside o_is in
    let R = next-of trail right beside other within other_is in
    merged-more trail now next left right merged before beside (before + 1) (beside + 1) o other pair are keeps mark pair_is
    (ap (λ (os : List Candidate). walk os (all_of trail (drop beside right))) L
    ∙ ap (walk (stored_candidate trail o ∷ all_of trail (drop (before + 1) left))) R
    ∙ walk-both (stored_candidate trail o) (stored_candidate trail other) (all_of trail (drop (before + 1) left)) (all_of trail (drop (beside + 1) right)) is same)

-- where one of the branches ends, nothing is left to join
pub merged-all_left : (trail now : List Chosen) (left right merged : List Stored) (before beside : ℕ) → AreMerged trail now left right merged before beside → length left ≤ before →
    all_of now merged ≡ walk (all_of trail left) (all_of trail right)
merged-all_left trail now left right merged before beside are end =
    sym (append-nil (all_of now merged))
    ∙ ap (λ (xs : List Stored). all_of now merged ++ walk (all_of trail xs) (all_of trail (drop beside right))) (sym (drop_all before left end))
    ∙ are.done

pub merged-all_right : (trail now : List Chosen) (left right merged : List Stored) (before beside : ℕ) → AreMerged trail now left right merged before beside → length right ≤ beside →
    all_of now merged ≡ walk (all_of trail left) (all_of trail right)
merged-all_right trail now left right merged before beside are end =
    sym (append-nil (all_of now merged))
    ∙ ap (λ (os : List Candidate). all_of now merged ++ os) (sym (walk-nil (all_of trail (drop before left))))
    ∙ ap (λ (xs : List Stored). all_of now merged ++ walk (all_of trail (drop before left)) (all_of trail xs)) (sym (drop_all beside right end))
    ∙ are.done

-- how far the two branches are done, in how many pairs and steps
pub record AreGoing (trail now : List Chosen) (left right merged : List Stored) (before beside start steps : ℕ) : Type 0 where
  pub are : AreMerged trail now left right merged before beside
  pub within : before ≤ length left
  pub inside : beside ≤ length right
  pub few : length merged ≤ before + beside
  pub fewer : length merged + 1 ≤ length left + length right
  pub many : before + beside ≤ 2 * length merged
  pub count : steps ≤ start + 2 * (before + beside)

pub going-none : (trail : List Chosen) (left right : List Stored) (start : ℕ) → IsList (pairs_of left) → IsList (pairs_of right) →
    AreGoing trail trail left right [] 0 0 start start
going-none trail left right start list other =
    let some = list.some in
    let more = other.some in
    let long = length-map left pair_of in
    let longer = length-map right pair_of in
    record {
      are = merged-none trail left right;
      within = omega arith;
      inside = omega arith;
      few = omega arith;
      fewer = omega arith;
      many = omega arith;
      count = omega arith;
    }

-- two pairs that were read, and the pair that is made of them
pub record AreRead (trail now next : List Chosen) (left right : List Stored) (before beside : ℕ) (o other pair : Stored) (mark steps after : ℕ) : Type 0 where
  pub ahead : before < length left
  pub apart : beside ≡ length right → ⊥
  pub first : o ≡ get_or left before o
  pub second : other ≡ get_or right beside other
  pub left_marks : All (λ (s : Stored). s.mark ≤ length trail) left
  pub right_marks : All (λ (s : Stored). s.mark ≤ length trail) right
  pub grows : Keeps now next
  pub named : chosen_of next mark ≡ both (chosen_of now o.mark) (chosen_of now other.mark)
  pub fits : mark ≤ length next
  pub seen : sight pair ≡ joined (sight o) (sight other)
  pub mark_is : pair.mark ≡ mark
  pub after_is : after ≡ steps + 2

pub are-read : {trail now next : List Chosen} {left right : List Stored} {before beside : ℕ} {o other pair : Stored} {mark steps between after : ℕ} →
    before < length left → (beside ≡ length right → ⊥) → o ≡ get_or left before o → other ≡ get_or right beside other →
    All (λ (s : Stored). s.mark ≤ length trail) left → All (λ (s : Stored). s.mark ≤ length trail) right → Keeps now next →
    chosen_of next mark ≡ both (chosen_of now o.mark) (chosen_of now other.mark) → mark ≤ length next →
    sight pair ≡ joined (sight o) (sight other) → pair.mark ≡ mark → between ≡ steps + 1 → after ≡ between + 1 →
    AreRead trail now next left right before beside o other pair mark steps after
are-read ahead apart first second left_marks right_marks grows named fits seen mark_is one two = record {
  ahead = ahead;
  apart = apart;
  first = first;
  second = second;
  after_is = omega arith;
  left_marks = left_marks;
  right_marks = right_marks;
  grows = grows;
  named = named;
  fits = fits;
  seen = seen;
  mark_is = mark_is;
}

pub read-mark : (most : ℕ) (xs : List Stored) (k : ℕ) (x : Stored) → All (λ (s : Stored). s.mark ≤ most) xs → k < length xs → x ≡ get_or xs k x → x.mark ≤ most
read-mark most xs k x marks inside is = subst (λ (s : Stored). s.mark ≤ most) (sym is) (marks k x inside)

-- a step forward, by one or two pairs
going-more : (trail now next : List Chosen) (left right merged new : List Stored) (before beside ahead along start steps after : ℕ) (pair : Stored) →
    AreGoing trail now left right merged before beside start steps → new ≡ merged ++ pair ∷ [] → AreMerged trail next left right new ahead along →
    before < length left → beside < length right → before ≤ ahead → beside ≤ along → ahead ≤ before + 1 → along ≤ beside + 1 → before + beside < ahead + along →
    after ≡ steps + 2 → AreGoing trail next left right new ahead along start after
going-more trail now next left right merged new before beside ahead along start steps after pair going new_is are within inside a b c d more after_is =
    let few = going.few in
    let fewer = going.fewer in
    let many = going.many in
    let count = going.count in
    let long = length_push merged pair in
    let size : length new ≡ length (merged ++ pair ∷ []) = ap (λ (xs : List Stored). length xs) new_is in
    record {
      are = are;
      within = omega arith;
      inside = omega arith;
      few = omega arith;
      fewer = omega arith;
      many = omega arith;
      count = omega arith;
    }

read-joined : (trail now next : List Chosen) (left right : List Stored) (before beside : ℕ) (o other pair : Stored) (mark steps after : ℕ) → Keeps trail now →
    AreRead trail now next left right before beside o other pair mark steps after → beside < length right →
    stored_candidate next pair ≡ joined_with (stored_candidate trail o) (stored_candidate trail other)
read-joined trail now next left right before beside o other pair mark steps after keeps read within =
    joined-is trail now next o other pair mark keeps (read-mark (length trail) left before o read.left_marks read.ahead read.first)
    (read-mark (length trail) right beside other read.right_marks within read.second) read.named read.seen read.mark_is

-- the three ways on, by the times of the two
pub goes-second : (trail now next : List Chosen) (left right merged new : List Stored) (before beside start : ℕ) (o other pair : Stored) (mark steps after : ℕ) →
    AreGoing trail now left right merged before beside start steps → AreRead trail now next left right before beside o other pair mark steps after →
    new ≡ merged ++ pair ∷ [] → no_later (sight o).time (sight other).time ≡ false → AreGoing trail next left right new before (beside + 1) start after
goes-second trail now next left right merged new before beside start o other pair mark steps after going read new_is later =
    let inside = going.inside in
    let ahead = read.ahead in
    let within : beside < length right = omega (arith, read.apart) in
    going-more trail now next left right merged new before beside before (beside + 1) start steps after pair going new_is
    (subst (λ (xs : List Stored). AreMerged trail next left right xs before (beside + 1)) (sym new_is)
    (merged-second trail now next left right merged before beside o other pair going.are read.grows (subst (λ (m : ℕ). m ≤ length next) (sym read.mark_is) read.fits)
    (read-joined trail now next left right before beside o other pair mark steps after going.are.keeps read within) read.ahead within read.first read.second later))
    ahead within (omega arith) (omega arith) (omega arith) (omega arith) (omega arith) read.after_is

pub goes-first : (trail now next : List Chosen) (left right merged new : List Stored) (before beside start : ℕ) (o other pair : Stored) (mark steps after : ℕ) →
    AreGoing trail now left right merged before beside start steps → AreRead trail now next left right before beside o other pair mark steps after →
    new ≡ merged ++ pair ∷ [] → no_later (sight o).time (sight other).time ≡ true → no_later (sight other).time (sight o).time ≡ false →
    AreGoing trail next left right new (before + 1) beside start after
goes-first trail now next left right merged new before beside start o other pair mark steps after going read new_is is later =
    let inside = going.inside in
    let ahead = read.ahead in
    let within : beside < length right = omega (arith, read.apart) in
    going-more trail now next left right merged new before beside (before + 1) beside start steps after pair going new_is
    (subst (λ (xs : List Stored). AreMerged trail next left right xs (before + 1) beside) (sym new_is)
    (merged-first trail now next left right merged before beside o other pair going.are read.grows (subst (λ (m : ℕ). m ≤ length next) (sym read.mark_is) read.fits)
    (read-joined trail now next left right before beside o other pair mark steps after going.are.keeps read within) read.ahead within read.first read.second is later))
    ahead within (omega arith) (omega arith) (omega arith) (omega arith) (omega arith) read.after_is

pub goes-both : (trail now next : List Chosen) (left right merged new : List Stored) (before beside start : ℕ) (o other pair : Stored) (mark steps after : ℕ) →
    AreGoing trail now left right merged before beside start steps → AreRead trail now next left right before beside o other pair mark steps after →
    new ≡ merged ++ pair ∷ [] → no_later (sight o).time (sight other).time ≡ true → no_later (sight other).time (sight o).time ≡ true →
    AreGoing trail next left right new (before + 1) (beside + 1) start after
goes-both trail now next left right merged new before beside start o other pair mark steps after going read new_is is same =
    let inside = going.inside in
    let ahead = read.ahead in
    let within : beside < length right = omega (arith, read.apart) in
    going-more trail now next left right merged new before beside (before + 1) (beside + 1) start steps after pair going new_is
    (subst (λ (xs : List Stored). AreMerged trail next left right xs (before + 1) (beside + 1)) (sym new_is)
    (merged-both trail now next left right merged before beside o other pair going.are read.grows (subst (λ (m : ℕ). m ≤ length next) (sym read.mark_is) read.fits)
    (read-joined trail now next left right before beside o other pair mark steps after going.are.keeps read within) read.ahead within read.first read.second is same))
    ahead within (omega arith) (omega arith) (omega arith) (omega arith) (omega arith) read.after_is

-- what was joined is all that is joined, where one of the branches has ended
pub merged-joins : (trail : List Chosen) (left right : List Stored) (all : List Candidate) → IsList (pairs_of left) → IsList (pairs_of right) →
    all ≡ walk (all_of trail left) (all_of trail right) → all ≡ all_joined (all_of trail left) (all_of trail right)
merged-joins trail left right all list other is =
    is ∙ walk-joins (all_of trail left) (all_of trail right) (all_of-rising trail left list.rising) (all_of-rising trail right other.rising)

-- and it is a list
pub merged-list : (trail now : List Chosen) (left right new : List Stored) → 0 < length new → all_of now new ≡ all_joined (all_of trail left) (all_of trail right) → IsList (pairs_of new)
merged-list trail now left right new some is = record {
  some = let long = length-map new pair_of in omega arith;
  rising = rising-all_of now new (subst AreRising (sym is) (thinned-rising (flat_map (λ o. map (joined_with o) (all_of trail right)) (all_of trail left))));
}
