-- The candidate that a resistance drives best, found from the greatest load downwards.
use Rattle.std.proofs.Common.{◌≡◌, ℕ, suc, ◌+◌, ◌*◌, ◌<◌, ◌≤◌, ℤ, inl, inr, Bool, true, false, not, cond, ltb, List, [], ◌∷◌, ◌++◌, length, get_or, take, drop, All, Contains, Option, Some, None, refl, sym, ap, subst, ◌∙◌, arith}
use Rattle.std.proofs.Math.Nat.{mul-le-mul}
use Rattle.std.proofs.lemmas.Bool.{both_ways, cases_lt, cases_eq, cond-true, cond_both, and_from, and_left, and_right, lt-ltb, le-ltb, not-true}
use Rattle.std.proofs.lemmas.Int.{ints}
use Rattle.std.proofs.lemmas.List.{take-append-drop, get_or-take, get_or-drop, get_or_default, length-take-le, length-drop, drop_more, drop_all}
use Rattle.std.proofs.lemmas.List.Elements.{All-nil, All-cons, All-append, Contains-append_right, All-contains_itself}
use Rattle.std.proofs.lemmas.List.Folds.{list_any_none, list_any_at}
use Rattle.std.specs.List.{find, list_any}
use Rattle.elmore_delay.specs.FromLeaves.{less}
use Rattle.elmore_delay.specs.declared.seen.Seen.{Seen}
use Rattle.ginneken_lists.specs.Candidates.{Chosen, Candidate, no_later, driven_time, drives_better, best_driven}
use Rattle.ginneken_lists.specs.Thinning.{IsRising, AreRising}
use Rattle.ginneken_lists.specs.Pairs.{seen_of}
use Rattle.ginneken_lists.specs.StoredPairs.{pairs_of, stored_candidate}
use Rattle.ginneken_lists.specs.declared.stored.Stored.{Stored}
use Rattle.ginneken_lists.proofs.TimeOrder.{no_later-itself, no_later-through, no_later-other, later-before}
use Rattle.ginneken_lists.proofs.Unique.{contains-cases, rising-cases}
use Rattle.ginneken_lists.proofs.StoredLemmas.{all_of, sight, all_of-at, all_of-all, all_of-rising, length-all_of}

-- the one element that passes a test is the first that does
find-only : {A : Type 0} (test : A → Bool) (xs : List A) (x : A) → Contains xs x → test x ≡ true → All (λ y. test y ≡ true → y ≡ x) xs → find test xs ≡ Some x
find-only {A = A} test [] x one passes only = let none = one.1 in absurd (omega arith)
find-only {A = A} test (y ∷ ys) x one passes only =
    cond_both (test y) (Some y) (find test ys) (λ (o : Option A). o ≡ Some x)
    (λ passing. ap (λ (z : A). Some z) (only 0 y (omega arith) passing))
    (λ failing. elim (contains-cases y ys x one) [
      | inl here ↦ absurd (both_ways (test y) failing (subst (λ (z : A). test z ≡ true) (sym here) passes))
      | inr there ↦ find-only test ys x there passes (λ k d inside. only (suc k) d (omega arith))
    ])

-- two times are compared as those that they are
pub no_later-as : {a b x y : Option ℤ} {judged : Bool} → x ≡ a → y ≡ b → no_later x y ≡ judged → no_later a b ≡ judged
no_later-as {a} {b} {x} {y} {judged} a_is b_is is = ap (λ (t : Option ℤ). no_later t b) (sym a_is) ∙ ap (no_later x) (sym b_is) ∙ is

-- a pair that leads: no other one has a later time at the input, nor as late a time at a smaller load
pub record Leads {A : Type 0} (seen : A → Seen) (r : ℕ) (all : List A) (best : A) : Type 0 where
  pub one : Contains all best
  pub most : All (λ x. no_later (driven_time r (seen x)) (driven_time r (seen best)) ≡ true) all
  pub first : All (λ x. (seen x).load < (seen best).load → no_later (driven_time r (seen best)) (driven_time r (seen x)) ≡ false) all

-- nothing drives it worse than another
not-better : (r : ℕ) (s best : Seen) → no_later (driven_time r s) (driven_time r best) ≡ true →
    (s.load < best.load → no_later (driven_time r best) (driven_time r s) ≡ false) → drives_better r s best ≡ false
not-better r s best most first = elim (cases_lt s.load best.load) [
  | inl less ↦ and_left (no_later (driven_time r best) (driven_time r s))
      (cond (no_later (driven_time r s) (driven_time r best)) (ltb s.load best.load) true) (first less)
  | inr more ↦ and_right (no_later (driven_time r best) (driven_time r s))
      (cond (no_later (driven_time r s) (driven_time r best)) (ltb s.load best.load) true)
      (cond-true (no_later (driven_time r s) (driven_time r best)) (ltb s.load best.load) true most ∙ le-ltb s.load best.load more)
]

better : (r : ℕ) (best s : Seen) → no_later (driven_time r s) (driven_time r best) ≡ true →
    (no_later (driven_time r best) (driven_time r s) ≡ true → best.load < s.load) → drives_better r best s ≡ true
better r best s most tie =
    and_from (no_later (driven_time r s) (driven_time r best)) (cond (no_later (driven_time r best) (driven_time r s)) (ltb best.load s.load) true) most
    (cond_both (no_later (driven_time r best) (driven_time r s)) (ltb best.load s.load) true (λ (b : Bool). b ≡ true)
    (λ same. lt-ltb best.load s.load (tie same)) (λ apart. refl))

leads-best : (r : ℕ) (all : List Candidate) (best : Candidate) → AreRising all → Leads (λ o. o.seen) r all best → best_driven r all ≡ Some best
leads-best r all best rising leads =
    let worse : Candidate → Bool = λ o. list_any (λ other. drives_better r other.seen o.seen) all in
    let none : worse best ≡ false = list_any_none (λ (other : Candidate). drives_better r other.seen best.seen) all
    (λ k d inside. not-better r (get_or all k d).seen best.seen (leads.most k d inside) (leads.first k d inside)) in
    find-only (λ o. not (worse o)) all best leads.one (ap not none)
    (λ k d inside passes.
    let y : Candidate = get_or all k d in
    let most = leads.most k d inside in
    let found : (no_later (driven_time r best.seen) (driven_time r y.seen) ≡ true → best.seen.load < y.seen.load) → worse y ≡ true = λ tie.
    list_any_at (λ (other : Candidate). drives_better r other.seen y.seen) all leads.one.0 best leads.one.1
    (subst (λ (o : Candidate). drives_better r o.seen y.seen ≡ true) (sym leads.one.2) (better r best.seen y.seen most tie)) in
    elim (rising-cases all y best rising (All-contains_itself all k d inside) leads.one) [
      | inl same ↦ same
      | inr apart ↦ elim apart [
        | inl before ↦ absurd (both_ways (worse y) (not-true (worse y) passes)
            (found (λ same. absurd (both_ways (no_later (driven_time r best.seen) (driven_time r y.seen)) (leads.first k d inside before.load) same))))
        | inr behind ↦ absurd (both_ways (worse y) (not-true (worse y) passes) (found (λ same. behind.load)))
      ]
    ])

-- a stored pair that leads gives the candidate that is driven best
pub leads-driven : (r : ℕ) (items : List Stored) (best : Stored) (trail : List Chosen) → IsRising seen_of (pairs_of items) →
    Leads sight r items best → best_driven r (all_of trail items) ≡ Some (stored_candidate trail best)
leads-driven r items best trail rising leads =
    let all = all_of trail items in
    let o : Candidate = stored_candidate trail best in
    leads-best r all o (all_of-rising trail items rising) (record {
      one = (
        leads.one.0,
        let long = length-all_of trail items in let within = leads.one.1 in omega arith,
        all_of-at trail items leads.one.0 best o leads.one.1 ∙ ap (stored_candidate trail) leads.one.2,
      );
      most = all_of-all (λ x. no_later (driven_time r x.seen) (driven_time r o.seen) ≡ true) trail items leads.most;
      first = all_of-all (λ x. x.seen.load < o.seen.load → no_later (driven_time r o.seen) (driven_time r x.seen) ≡ false) trail items leads.first;
    })

-- the last pair leads those from its place on
pub leads-last : (r : ℕ) (items : List Stored) (best : Stored) (at : ℕ) → at + 1 ≡ length items → best ≡ get_or items at best → Leads sight r (drop at items) best
leads-last r items best at last is =
    let only : drop at items ≡ best ∷ [] =
    drop_more items at best (omega arith) ∙ ap (λ (x : Stored). x ∷ drop (at + 1) items) (sym is) ∙ ap (λ (xs : List Stored). best ∷ xs) (drop_all (at + 1) items (omega arith)) in
    subst (λ (xs : List Stored). Leads sight r xs best) (sym only) (record {
      one = (0, omega arith, refl);
      most = All-cons (λ x. no_later (driven_time r (sight x)) (driven_time r (sight best)) ≡ true) best [] (no_later-itself (driven_time r (sight best)))
          (All-nil (λ x. no_later (driven_time r (sight x)) (driven_time r (sight best)) ≡ true));
      first = All-cons (λ x. x.load < best.load → no_later (driven_time r (sight best)) (driven_time r (sight x)) ≡ false) best []
          (λ less. absurd (omega arith)) (All-nil (λ x. x.load < best.load → no_later (driven_time r (sight best)) (driven_time r (sight x)) ≡ false));
    })

-- one more pair of smaller load: it is worse, or it leads
next-drop : (items : List Stored) (at from : ℕ) (p : Stored) → at + 1 ≡ from → at < length items → p ≡ get_or items at p → drop at items ≡ p ∷ drop from items
next-drop items at from p next inside is =
    drop_more items at p inside ∙ ap (λ (x : Stored). x ∷ drop (at + 1) items) (sym is) ∙ ap (λ (k : ℕ). p ∷ drop k items) next

pub leads-stays : (r : ℕ) (items : List Stored) (best p : Stored) (at from : ℕ) → Leads sight r (drop from items) best → at + 1 ≡ from → at < length items →
    p ≡ get_or items at p → no_later (driven_time r (sight best)) (driven_time r (sight p)) ≡ false → Leads sight r (drop at items) best
leads-stays r items best p at from leads next inside is later =
    subst (λ (xs : List Stored). Leads sight r xs best) (sym (next-drop items at from p next inside is)) (record {
      one = Contains-append_right (p ∷ []) (drop from items) best leads.one;
      most = All-cons (λ x. no_later (driven_time r (sight x)) (driven_time r (sight best)) ≡ true) p (drop from items)
          (no_later-other (driven_time r (sight best)) (driven_time r (sight p)) later) leads.most;
      first = All-cons (λ x. x.load < best.load → no_later (driven_time r (sight best)) (driven_time r (sight x)) ≡ false) p (drop from items)
          (λ less. later) leads.first;
    })

pub leads-new : (r : ℕ) (items : List Stored) (best p : Stored) (at from : ℕ) → IsRising sight items → Leads sight r (drop from items) best → at + 1 ≡ from →
    at < length items → p ≡ get_or items at p → no_later (driven_time r (sight best)) (driven_time r (sight p)) ≡ true → Leads sight r (drop at items) p
leads-new r items best p at from rising leads next inside is early =
    let least : All (λ (x : Stored). p.load < x.load) (drop from items) = λ k d within.
    let long = length-drop from items in
    let pair = (rising at (from + k) d (omega arith) (omega arith)).load in
    let one : (get_or items at d).load ≡ p.load = ap (λ (s : Stored). s.load) (get_or_default items at d p inside ∙ sym is) in
    let two : (get_or (drop from items) k d).load ≡ (get_or items (from + k) d).load = ap (λ (s : Stored). s.load) (get_or-drop from items k d) in
    omega arith in
    subst (λ (xs : List Stored). Leads sight r xs p) (sym (next-drop items at from p next inside is)) (record {
      one = (0, omega arith, refl);
      most = All-cons (λ x. no_later (driven_time r (sight x)) (driven_time r (sight p)) ≡ true) p (drop from items) (no_later-itself (driven_time r (sight p)))
          (λ k d within. no_later-through (driven_time r (sight (get_or (drop from items) k d))) (driven_time r (sight best)) (driven_time r (sight p)) (leads.most k d within) early);
      first = All-cons (λ x. x.load < p.load → no_later (driven_time r (sight p)) (driven_time r (sight x)) ≡ false) p (drop from items)
          (λ less. absurd (omega arith)) (λ k d within less. let more = least k d within in absurd (omega arith));
    })

-- a time less a greater delay isn't later
less-le : (d e : ℕ) (a b : Option ℤ) → no_later a b ≡ true → d ≤ e → no_later (less e a) (less d b) ≡ true
less-le d e a None first low = refl
less-le d e None (Some y) first low = absurd (both_ways false refl first)
less-le d e (Some x) (Some y) first low = grind (arith, ints)

-- where a time less a least delay is worse than the best, so are all of no greater time and no smaller load
worse-before : (r at : ℕ) (items : List Stored) (p low best : Stored) → IsRising sight items → at < length items → p ≡ get_or items at p → low ≡ get_or items 0 low →
    no_later (driven_time r (sight best)) (less (2 * r * low.load) (sight p).time) ≡ false →
    All (λ x. no_later (driven_time r (sight best)) (driven_time r (sight x)) ≡ false) (take (at + 1) items)
worse-before r at items p low best rising inside is low_is worse k d within =
    let long = length-take-le (at + 1) items (omega arith) in
    let x : Stored = get_or items k d in
    let here : get_or (take (at + 1) items) k d ≡ x = get_or-take (at + 1) items k d (omega arith) in
    let p_is : get_or items at d ≡ p = get_or_default items at d p inside ∙ sym is in
    let l_is : get_or items 0 d ≡ low = get_or_default items 0 d low (omega arith) ∙ sym low_is in
    let time : no_later (sight x).time (sight p).time ≡ true = elim (cases_eq k at) [
      | inl same ↦ subst (λ (s : Stored). no_later (sight x).time (sight s).time ≡ true) (ap (λ (n : ℕ). get_or items n d) same ∙ p_is) (no_later-itself (sight x).time)
      | inr before ↦ subst (λ (s : Stored). no_later (sight x).time (sight s).time ≡ true) p_is
          (no_later-other (sight (get_or items at d)).time (sight x).time (rising k at d (omega arith) inside).time)
    ] in
    let load : low.load ≤ x.load = elim (cases_eq k 0) [
      | inl same ↦ let e : x.load ≡ low.load = ap (λ (s : Stored). s.load) (ap (λ (n : ℕ). get_or items n d) same ∙ l_is) in omega arith
      | inr later ↦
          let apart = (rising 0 k d (omega arith) (omega arith)).load in
          let e : (get_or items 0 d).load ≡ low.load = ap (λ (s : Stored). s.load) l_is in
          omega arith
    ] in
    let delay : 2 * r * low.load ≤ 2 * r * x.load = mul-le-mul (omega arith) load in
    let later = later-before (driven_time r (sight best)) (less (2 * r * low.load) (sight p).time) (driven_time r (sight x)) worse
    (less-le (2 * r * low.load) (2 * r * x.load) (sight x).time (sight p).time time delay) in
    subst (λ (s : Stored). no_later (driven_time r (sight best)) (driven_time r (sight s)) ≡ false) (sym here) later

pub leads-ends : (r : ℕ) (items : List Stored) (p low best : Stored) (at from : ℕ) → IsRising sight items → Leads sight r (drop from items) best → at + 1 ≡ from →
    at < length items → p ≡ get_or items at p → low ≡ get_or items 0 low →
    no_later (driven_time r (sight best)) (less (2 * r * low.load) (sight p).time) ≡ false → Leads sight r items best
leads-ends r items p low best at from rising leads next inside is low_is worse =
    let front = take (at + 1) items in
    let back = drop from items in
    let parts : front ++ back ≡ items = ap (λ (k : ℕ). front ++ drop k items) (sym next) ∙ take-append-drop (at + 1) items in
    let bad = worse-before r at items p low best rising inside is low_is worse in
    subst (λ (xs : List Stored). Leads sight r xs best) parts (record {
      one = Contains-append_right front back best leads.one;
      most = All-append (λ x. no_later (driven_time r (sight x)) (driven_time r (sight best)) ≡ true) front back
          (λ k d within. no_later-other (driven_time r (sight best)) (driven_time r (sight (get_or front k d))) (bad k d within)) leads.most;
      first = All-append (λ x. x.load < best.load → no_later (driven_time r (sight best)) (driven_time r (sight x)) ≡ false) front back
          (λ k d within low. bad k d within) leads.first;
    })
