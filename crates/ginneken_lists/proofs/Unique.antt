-- What thins some candidates is one list, where those of them that are kept are seen apart.
use Rattle.std.proofs.Common.{◌≡◌, ℕ, suc, ◌<◌, inl, inr, ◌⊎◌, true, List, [], ◌∷◌, length, get_or, All, Contains, refl, sym, ap, subst, ◌∙◌, arith}
use Rattle.std.proofs.lemmas.Bool.{both_ways, cases_order}
use Rattle.std.proofs.lemmas.List.{get_or_default}
use Rattle.std.proofs.lemmas.List.Elements.{All-nil, All-cons, All-contains, All-contains_itself, Contains-append_cases}
use Rattle.std.proofs.lemmas.List.Folds.{Any-from_list_any}
use Rattle.ginneken_lists.specs.Candidates.{Candidate, serves}
use Rattle.ginneken_lists.specs.Thinning.{AreRising, is_served}
use Rattle.ginneken_lists.proofs.Serving.{serves-through, serves-same, precedes-unserved, precedes-unserving, pairs-head, pairs-tail}
use Rattle.ginneken_lists.proofs.Thinned.{Before, Thins}

-- an element of a list is its head or one of its tail
pub contains-cases : {A : Type 0} (y : A) (ys : List A) (x : A) → Contains (y ∷ ys) x → (y ≡ x) ⊎ Contains ys x
contains-cases {A = A} y ys x is = elim (Contains-append_cases (y ∷ []) ys x is) [
  | inl here ↦ inl (All-contains (λ (z : A). y ≡ z) (y ∷ []) x (All-cons (λ (z : A). y ≡ z) y [] refl (All-nil (λ (z : A). y ≡ z))) here)
  | inr there ↦ inr there
]

-- two of those that rise are one, or one precedes the other
at-places : (xs : List Candidate) (i j : ℕ) (x y : Candidate) → AreRising xs → i < j → j < length xs → get_or xs i x ≡ x → get_or xs j y ≡ y → Before x y
at-places xs i j x y rising before inside first second =
    subst (λ (z : Candidate). Before z y) first
    (subst (λ (z : Candidate). Before (get_or xs i x) z) (get_or_default xs j x y inside ∙ second) (rising i j x before inside))

pub rising-cases : (xs : List Candidate) (x y : Candidate) → AreRising xs → Contains xs x → Contains xs y → (x ≡ y) ⊎ (Before x y ⊎ Before y x)
rising-cases xs x y rising first second = elim (cases_order first.0 second.0) [
  | inl same ↦ inl (sym first.2 ∙ get_or_default xs first.0 x y first.1 ∙ ap (λ (k : ℕ). get_or xs k y) same ∙ second.2)
  | inr apart ↦ elim apart [
    | inl before ↦ inr (inl (at-places xs first.0 second.0 x y rising before second.1 first.2 second.2))
    | inr behind ↦ inr (inr (at-places xs second.0 first.0 y x rising behind first.1 second.2 first.2))
  ]
]

pub rising-serves : (xs : List Candidate) (x y : Candidate) → AreRising xs → Contains xs x → Contains xs y → serves x.seen y.seen ≡ true → x ≡ y
rising-serves xs x y rising first second served = elim (rising-cases xs x y rising first second) [
  | inl same ↦ same
  | inr apart ↦ elim apart [
    | inl before ↦ absurd (both_ways (serves x.seen y.seen) (precedes-unserved x.seen y.seen before) served)
    | inr behind ↦ absurd (both_ways (serves x.seen y.seen) (precedes-unserving y.seen x.seen behind) served)
  ]
]

pub rising-load : (xs : List Candidate) (x y : Candidate) → AreRising xs → Contains xs x → Contains xs y → x.seen.load ≡ y.seen.load → x ≡ y
rising-load xs x y rising first second same_load = elim (rising-cases xs x y rising first second) [
  | inl same ↦ same
  | inr apart ↦ elim apart [
    | inl before ↦ let less = before.load in absurd (omega arith)
    | inr behind ↦ let less = behind.load in absurd (omega arith)
  ]
]

-- lists that rise and have the same elements are one
rest-contains : (k : Candidate) (ks : List Candidate) (l : Candidate) (ls : List Candidate) → AreRising (k ∷ ks) → k ≡ l → All (Contains (l ∷ ls)) (k ∷ ks) →
    All (Contains ls) ks
rest-contains k ks l ls rising same each i d inside =
    let x : Candidate = get_or ks i d in
    let before = (pairs-head Before k ks rising i d inside).load in
    elim (contains-cases l ls x (each (suc i) d (omega arith))) [
      | inl is ↦ let equal : k.seen.load ≡ x.seen.load = ap (λ (o : Candidate). o.seen.load) (same ∙ is) in absurd (omega arith)
      | inr there ↦ there
    ]

pub same-elements : (ks ls : List Candidate) → AreRising ks → AreRising ls → All (Contains ls) ks → All (Contains ks) ls → ks ≡ ls
same-elements [] [] rising rising_other first second = refl
same-elements [] (l ∷ ls) rising rising_other first second = let none = (second 0 l (omega arith)).1 in absurd (omega arith)
same-elements (k ∷ ks) [] rising rising_other first second = let none = (first 0 k (omega arith)).1 in absurd (omega arith)
same-elements (k ∷ ks) (l ∷ ls) rising rising_other first second =
    let same : k ≡ l = elim (contains-cases l ls k (first 0 k (omega arith))) [
      | inl is ↦ sym is
      | inr in_ls ↦ elim (contains-cases k ks l (second 0 l (omega arith))) [
        | inl is ↦ is
        | inr in_ks ↦
            let less = (All-contains (Before l) ls k (pairs-head Before l ls rising_other) in_ls).load in
            let more = (All-contains (Before k) ks l (pairs-head Before k ks rising) in_ks).load in
            absurd (omega arith)
      ]
    ] in
    ap (λ (o : Candidate). o ∷ ks) same
    ∙ ap (λ (os : List Candidate). l ∷ os)
    (same-elements ks ls (pairs-tail Before k ks rising) (pairs-tail Before l ls rising_other)
    (rest-contains k ks l ls rising same first) (rest-contains l ls k ks rising_other (sym same) second))

-- one of a list that serves as well as a candidate
pub record Server (xs : List Candidate) (x : Candidate) : Type 0 where
  pub other : Candidate
  pub one : Contains xs other
  pub serves_x : serves other.seen x.seen ≡ true

pub server : (xs : List Candidate) (x : Candidate) → is_served x xs ≡ true → Server xs x
server xs x served =
    let found = Any-from_list_any (λ (other : Candidate). serves other.seen x.seen) xs served in
    record { other = found.1; one = (found.0, found.2, found.3); serves_x = found.4 }

-- what serves as well as one that is kept is seen as that one is
pub kept-survives : (kept all : List Candidate) (k z : Candidate) → Thins kept all → Contains kept k → Contains all z → serves z.seen k.seen ≡ true →
    serves k.seen z.seen ≡ true
kept-survives kept all k z thin one other served =
    let s = server kept z (All-contains (λ o. is_served o kept ≡ true) all z thin.complete other) in
    let same : s.other ≡ k = rising-serves kept s.other k thin.rising s.one one (serves-through s.other.seen z.seen k.seen s.serves_x served) in
    subst (λ (o : Candidate). serves o.seen z.seen ≡ true) same s.serves_x

-- of some candidates, one that nothing but its like serves as well as is seen like no other
abbrev pub SeenApart : List Candidate → Type 0
SeenApart all = (x y : Candidate) → Contains all x → Contains all y → x.seen ≡ y.seen →
    ((z : Candidate) → Contains all z → serves z.seen x.seen ≡ true → serves x.seen z.seen ≡ true) → x ≡ y

kept-in : (ks ls all : List Candidate) → Thins ks all → Thins ls all → SeenApart all → All (Contains ls) ks
kept-in ks ls all thin other apart i d inside =
    let k : Candidate = get_or ks i d in
    let one : Contains ks k = All-contains_itself ks i d inside in
    let of_all : Contains all k = thin.real i d inside in
    let s = server ls k (All-contains (λ o. is_served o ls ≡ true) all k other.complete of_all) in
    let l_of_all : Contains all s.other = All-contains (Contains all) ls s.other other.real s.one in
    let back = kept-survives ks all k s.other thin one l_of_all s.serves_x in
    let same : k ≡ s.other = apart k s.other of_all l_of_all (serves-same k.seen s.other.seen back s.serves_x)
    (λ z z_of_all served. kept-survives ks all k z thin one z_of_all served) in
    subst (λ (o : Candidate). Contains ls o) (sym same) s.one

pub thinned-unique : (ks ls all : List Candidate) → Thins ks all → Thins ls all → SeenApart all → ks ≡ ls
thinned-unique ks ls all thin other apart =
    same-elements ks ls thin.rising other.rising (kept-in ks ls all thin other apart) (kept-in ls ks all other thin apart)
