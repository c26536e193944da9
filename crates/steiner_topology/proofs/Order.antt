-- The order of pairs: it is transitive, and one of two comes first.
use Rattle.std.proofs.Common.{◌≡◌, ℕ, ◌<◌, ◌≤◌, ◌⊎◌, inl, inr, Bool, true, false, nat_lt, Option, Some, None, List, refl, sym, ap, subst, ◌∙◌, arith}
use Rattle.std.proofs.lemmas.Bool.{cases_order, cases_Bool}
use Rattle.std.proofs.lemmas.Bool.Decides.{nat_tests}
use Rattle.steiner_topology.specs.declared.point.Join.{Join}
use Rattle.steiner_topology.specs.Tile.{Tile}
use Rattle.steiner_topology.specs.Joins.{pair, span, by_number, is_before, sooner}

-- a comparison by number, and what it leaves to the rest
pub by_less : (a b : ℕ) (rest : Bool) → a < b → by_number a b rest ≡ true
by_less a b rest less = grind (arith, nat_tests)

by_more : (a b : ℕ) (rest : Bool) → b < a → by_number a b rest ≡ false
by_more a b rest more = grind (arith, nat_tests)

pub by_same : (a b : ℕ) (rest : Bool) → a ≡ b → by_number a b rest ≡ rest
by_same a b rest same = grind (arith, nat_tests)

-- the first number comes first, or the second
abbrev Leans : Bool → ℕ → ℕ → Type 0
Leans true a b = a < b
Leans false a b = b < a

leans-trans : (v : Bool) (a b c : ℕ) → Leans v a b → Leans v b c → Leans v a c
leans-trans true a b c ab bc = omega arith
leans-trans false a b c ab bc = omega arith

by_leaning : (v : Bool) (a b : ℕ) (rest : Bool) → Leans v a b → by_number a b rest ≡ v
by_leaning true a b rest less = by_less a b rest less
by_leaning false a b rest more = by_more a b rest more

-- what the test says in numbers
says_by : (v : Bool) (a x : ℕ) (rest : Bool) → by_number a x rest ≡ v → Leans v a x ⊎ ((a ≡ x) × (rest ≡ v))
says_by v a x rest is = elim (cases_order a x) [
  | inl same ↦ inr (same, sym (by_same a x rest same) ∙ is)
  | inr (inl less) ↦ inl (subst (λ (w : Bool). Leans w a x) (sym (by_less a x rest less) ∙ is) less)
  | inr (inr more) ↦ inl (subst (λ (w : Bool). Leans w a x) (sym (by_more a x rest more) ∙ is) more)
]

-- a test that is transitive by its last part is so by one number more
pub trans_by : (v : Bool) (a b c : ℕ) (p q r : Bool) → (p ≡ v → q ≡ v → r ≡ v) →
    by_number a b p ≡ v → by_number b c q ≡ v → by_number a c r ≡ v
trans_by v a b c p q r step h k = elim (says_by v a b p h) [
  | inl ab ↦ elim (says_by v b c q k) [
    | inl bc ↦ by_leaning v a c r (leans-trans v a b c ab bc)
    | inr bc ↦ by_leaning v a c r (subst (λ (n : ℕ). Leans v a n) bc.0 ab)
  ]
  | inr ab ↦ elim (says_by v b c q k) [
    | inl bc ↦ by_leaning v a c r (subst (λ (n : ℕ). Leans v n c) (sym ab.0) bc)
    | inr bc ↦ by_same a c r (ab.0 ∙ bc.0) ∙ step ab.1 bc.1
  ]
]

-- a test and its reverse
pub asym_by : (a b : ℕ) (p q : Bool) → (p ≡ true → q ≡ false) → by_number a b p ≡ true → by_number b a q ≡ false
asym_by a b p q step h = elim (says_by true a b p h) [
  | inl ab ↦ by_more b a q ab
  | inr ab ↦ by_same b a q (sym ab.0) ∙ step ab.1
]

pub same_by : (a b : ℕ) (p q : Bool) → by_number a b p ≡ false → by_number b a q ≡ false → (a ≡ b) × (p ≡ false) × (q ≡ false)
same_by a b p q h k = elim (says_by false a b p h) [
  | inl ab ↦ elim (says_by false b a q k) [ inl ba ↦ absurd (omega arith) | inr ba ↦ let e = ba.0 in absurd (omega arith) ]
  | inr ab ↦ let d = ab.0 in elim (says_by false b a q k) [ inl ba ↦ absurd (omega arith) | inr ba ↦ (ab.0, ab.1, ba.1) ]
]

last_trans : (v : Bool) (a b c : ℕ) → nat_lt a b ≡ v → nat_lt b c ≡ v → nat_lt a c ≡ v
last_trans true a b c ab bc = grind (arith, nat_tests)
last_trans false a b c ab bc = grind (arith, nat_tests)

pub before-trans : (v : Bool) (tiles : List Tile) (p q r : Join) → is_before tiles p q ≡ v → is_before tiles q r ≡ v → is_before tiles p r ≡ v
before-trans v tiles p q r =
    trans_by v (span tiles p) (span tiles q) (span tiles r) (by_number p.point q.point (nat_lt p.parent q.parent)) (by_number q.point r.point (nat_lt q.parent r.parent)) (by_number p.point r.point (nat_lt p.parent r.parent))
    (trans_by v p.point q.point r.point (nat_lt p.parent q.parent) (nat_lt q.parent r.parent) (nat_lt p.parent r.parent)
    (last_trans v p.parent q.parent r.parent))

pub before-asym : (tiles : List Tile) (p q : Join) → is_before tiles p q ≡ true → is_before tiles q p ≡ false
before-asym tiles p q =
    asym_by (span tiles p) (span tiles q) (by_number p.point q.point (nat_lt p.parent q.parent)) (by_number q.point p.point (nat_lt q.parent p.parent))
    (asym_by p.point q.point (nat_lt p.parent q.parent) (nat_lt q.parent p.parent) (λ h. grind (arith, nat_tests)))

-- pairs are equal where their numbers are
pub same_pair : (p q : Join) → p.point ≡ q.point → p.parent ≡ q.parent → p ≡ q
same_pair p q points parents =
    let by_point : ℕ → Join = λ n. pair n p.parent in
    let by_parent : ℕ → Join = λ n. pair q.point n in
    ap by_point points ∙ ap by_parent parents

pub before-same : (tiles : List Tile) (p q : Join) → is_before tiles p q ≡ false → is_before tiles q p ≡ false → p ≡ q
before-same tiles p q h k =
    let by_span = same_by (span tiles p) (span tiles q) (by_number p.point q.point (nat_lt p.parent q.parent)) (by_number q.point p.point (nat_lt q.parent p.parent)) h k in
    let by_point = same_by p.point q.point (nat_lt p.parent q.parent) (nat_lt q.parent p.parent) by_span.1 by_span.2 in
    let not_so = by_point.1 in
    let back = by_point.2 in
    same_pair p q by_point.0 (grind (arith, nat_tests))

-- of two pairs the one that comes first
pub sooner-first : (tiles : List Tile) (p q : Join) → is_before tiles q p ≡ true → sooner tiles (Some p) (Some q) ≡ Some q
sooner-first tiles p q ok = rw ok refl

pub sooner-kept : (tiles : List Tile) (p q : Join) → is_before tiles q p ≡ false → sooner tiles (Some p) (Some q) ≡ Some p
sooner-kept tiles p q not_so = rw not_so refl

pub sooner-none : (tiles : List Tile) (a : Option Join) → sooner tiles a None ≡ a
sooner-none tiles None = refl
sooner-none tiles (Some p) = refl

pub sooner-comm : (tiles : List Tile) (a b : Option Join) → sooner tiles a b ≡ sooner tiles b a
sooner-comm tiles None None = refl
sooner-comm tiles None (Some q) = refl
sooner-comm tiles (Some p) None = refl
sooner-comm tiles (Some p) (Some q) = elim (cases_Bool (is_before tiles q p)) [
  | inl ok ↦ sooner-first tiles p q ok ∙ sym (sooner-kept tiles q p (before-asym tiles q p ok))
  | inr not_so ↦ sooner-kept tiles p q not_so ∙ elim (cases_Bool (is_before tiles p q)) [
    | inl back ↦ sym (sooner-first tiles q p back)
    | inr same ↦ ap (λ (x : Join). Some x) (before-same tiles p q same not_so) ∙ sym (sooner-kept tiles q p same)
  ]
]

pub sooner-self : (tiles : List Tile) (a : Option Join) → sooner tiles a a ≡ a
sooner-self tiles None = refl
sooner-self tiles (Some p) = elim (cases_Bool (is_before tiles p p)) [
  | inl ok ↦ sooner-first tiles p p ok
  | inr not_so ↦ sooner-kept tiles p p not_so
]

pub sooner_assoc : (tiles : List Tile) (a b c : Option Join) →
    sooner tiles (sooner tiles a b) c ≡ sooner tiles a (sooner tiles b c)
sooner_assoc tiles None b c = refl
sooner_assoc tiles (Some p) None c = refl
sooner_assoc tiles (Some p) (Some q) None = sooner-none tiles (sooner tiles (Some p) (Some q))
sooner_assoc tiles (Some p) (Some q) (Some r) = elim (cases_Bool (is_before tiles q p)) [
  | inl qp ↦ elim (cases_Bool (is_before tiles r q)) [
    | inl rq ↦
        rw (sooner-first tiles p q qp, sooner-first tiles q r rq)
        (sym (sooner-first tiles p r (before-trans true tiles r q p rq qp)))
    | inr rq ↦ rw (sooner-first tiles p q qp, sooner-kept tiles q r rq) (sym (sooner-first tiles p q qp))
  ]
  | inr qp ↦ elim (cases_Bool (is_before tiles r q)) [
    | inl rq ↦ rw (sooner-kept tiles p q qp, sooner-first tiles q r rq) refl
    | inr rq ↦
        rw (sooner-kept tiles p q qp, sooner-kept tiles q r rq)
        (sooner-kept tiles p r (before-trans false tiles r q p rq qp) ∙ sym (sooner-kept tiles p q qp))
  ]
]

-- a pair that doesn't come before another isn't shorter
pub before-span : (tiles : List Tile) (p q : Join) → is_before tiles p q ≡ false → span tiles q ≤ span tiles p
before-span tiles p q later =
    elim (says_by false (span tiles p) (span tiles q) (by_number p.point q.point (nat_lt p.parent q.parent)) later) [
      | inl less ↦ omega arith
      | inr same ↦ let e = same.0 in omega arith
    ]
