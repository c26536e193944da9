-- Candidates that rise are those that thinning keeps.
use Rattle.std.proofs.Common.{◌≡◌, ℕ, ◌+◌, ◌<◌, ◌≤◌, inl, inr, true, false, ltb, cond, List, [], ◌∷◌, ◌++◌, map, All, None, refl, sym, ap, subst, ◌∙◌, append_assoc, arith}
use Rattle.std.proofs.lemmas.Bool.{cases_Bool, cond-true, cond-false, lt-ltb, le-ltb}
use Rattle.std.proofs.lemmas.List.{append-nil}
use Rattle.std.proofs.lemmas.List.Elements.{All-head, All-tail}
use Rattle.ginneken_lists.specs.Candidates.{Candidate, Nothing, serves, unserved, with_one, thinned, leaf, joined_with, all_joined}
use Rattle.ginneken_lists.specs.Thinning.{Precedes, AreRising}
use Rattle.ginneken_lists.specs.Offering.{with_all}
use Rattle.ginneken_lists.proofs.Serving.{precedes-unserved, pairs-before}
use Rattle.ginneken_lists.proofs.Thinned.{Before}

-- the cases of one more candidate, by the first of the others
pub with_one-served : (o first : Candidate) (rest : List Candidate) → serves first.seen o.seen ≡ true → with_one o (first ∷ rest) ≡ first ∷ rest
with_one-served o first rest served =
    cond-true (serves first.seen o.seen) (first ∷ rest)
    (cond (ltb first.seen.load o.seen.load) (first ∷ with_one o rest) (o ∷ unserved o (first ∷ rest))) served

pub with_one-behind : (o first : Candidate) (rest : List Candidate) → serves first.seen o.seen ≡ false → first.seen.load < o.seen.load →
    with_one o (first ∷ rest) ≡ first ∷ with_one o rest
with_one-behind o first rest not_served less =
    cond-false (serves first.seen o.seen) (first ∷ rest)
    (cond (ltb first.seen.load o.seen.load) (first ∷ with_one o rest) (o ∷ unserved o (first ∷ rest))) not_served
    ∙ cond-true (ltb first.seen.load o.seen.load) (first ∷ with_one o rest) (o ∷ unserved o (first ∷ rest)) (lt-ltb first.seen.load o.seen.load less)

pub with_one-here : (o first : Candidate) (rest : List Candidate) → serves first.seen o.seen ≡ false → o.seen.load ≤ first.seen.load →
    with_one o (first ∷ rest) ≡ o ∷ unserved o (first ∷ rest)
with_one-here o first rest not_served low =
    cond-false (serves first.seen o.seen) (first ∷ rest)
    (cond (ltb first.seen.load o.seen.load) (first ∷ with_one o rest) (o ∷ unserved o (first ∷ rest))) not_served
    ∙ cond-false (ltb first.seen.load o.seen.load) (first ∷ with_one o rest) (o ∷ unserved o (first ∷ rest)) (le-ltb first.seen.load o.seen.load low)

-- one that all others precede comes last
pub with_one-last : (o : Candidate) (kept : List Candidate) → All (λ x. Before x o) kept → with_one o kept ≡ kept ++ o ∷ []
with_one-last o [] before = refl
with_one-last o (first ∷ rest) before =
    let here : Precedes first.seen o.seen = All-head (λ x. Before x o) first rest before in
    with_one-behind o first rest (precedes-unserved first.seen o.seen here) here.load
    ∙ ap (λ (os : List Candidate). first ∷ os) (with_one-last o rest (All-tail (λ x. Before x o) first rest before))

-- one that is served as well by one behind smaller loads is dropped
pub with_one-dropped : (o by : Candidate) (front back : List Candidate) → All (λ x. x.seen.load < o.seen.load) front → serves by.seen o.seen ≡ true →
    with_one o (front ++ by ∷ back) ≡ front ++ by ∷ back
with_one-dropped o by [] back less served = with_one-served o by back served
with_one-dropped o by (first ∷ front) back less served = elim (cases_Bool (serves first.seen o.seen)) [
  | inl is ↦ with_one-served o first (front ++ by ∷ back) is
  | inr not_served ↦
      with_one-behind o first (front ++ by ∷ back) not_served (All-head (λ x. x.seen.load < o.seen.load) first front less)
      ∙ ap (λ (os : List Candidate). first ∷ os)
      (with_one-dropped o by front back (All-tail (λ x. x.seen.load < o.seen.load) first front less) served)
]

-- it goes on behind those of smaller load that don't serve as well
pub with_one-passes : (o : Candidate) (front back : List Candidate) →
    All (λ x. (serves x.seen o.seen ≡ false) × (x.seen.load < o.seen.load)) front → with_one o (front ++ back) ≡ front ++ with_one o back
with_one-passes o [] back each = refl
with_one-passes o (first ∷ front) back each =
    let P : Candidate → Type 0 = λ x. (serves x.seen o.seen ≡ false) × (x.seen.load < o.seen.load) in
    let here = All-head P first front each in
    with_one-behind o first (front ++ back) here.0 here.1
    ∙ ap (λ (os : List Candidate). first ∷ os) (with_one-passes o front back (All-tail P first front each))

pub with_all-stays : (all kept : List Candidate) → AreRising (kept ++ all) → with_all kept all ≡ kept ++ all
with_all-stays [] kept rising = sym (append-nil kept)
with_all-stays (o ∷ all) kept rising =
    let last : with_one o kept ≡ kept ++ o ∷ [] = with_one-last o kept (pairs-before Before kept o all rising) in
    let whole : (kept ++ o ∷ []) ++ all ≡ kept ++ o ∷ all = append_assoc kept (o ∷ []) all in
    ap (λ (os : List Candidate). with_all os all) last
    ∙ with_all-stays all (kept ++ o ∷ []) (subst AreRising (sym whole) rising)
    ∙ whole

pub thinned-stays : (all : List Candidate) → AreRising all → thinned all ≡ all
thinned-stays all rising = with_all-stays all [] rising

-- a branch without load, sinks and buffers adds nothing
joined-nothing : (all : List Candidate) → map (joined_with (record { seen = record { load = 0; time = None }; chosen = Nothing })) all ≡ all
joined-nothing [] = refl
joined-nothing (o ∷ all) =
    let load : 0 + o.seen.load ≡ o.seen.load = omega arith in
    let same : joined_with (record { seen = record { load = 0; time = None }; chosen = Nothing }) o ≡ o =
    ap (λ (n : ℕ). record { seen = record { load = n; time = o.seen.time }; chosen = o.chosen }) load in
    ap (λ (first : Candidate). first ∷ map (joined_with (record { seen = record { load = 0; time = None }; chosen = Nothing })) all) same
    ∙ ap (λ (os : List Candidate). o ∷ os) (joined-nothing all)

pub joined-leaf : (all : List Candidate) → AreRising all → all_joined (leaf (record { load = 0; time = None })) all ≡ all
joined-leaf all rising =
    ap (λ (os : List Candidate). thinned os)
    (append-nil (map (joined_with (record { seen = record { load = 0; time = None }; chosen = Nothing })) all) ∙ joined-nothing all)
    ∙ thinned-stays all rising
