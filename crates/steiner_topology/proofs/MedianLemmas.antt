-- Distances, and the tile in the middle of three.
use Rattle.std.proofs.Common.{◌≡◌, ℕ, ◌+◌, ◌-◌, ◌≤◌, ◌⊎◌, inl, inr, min, max, sym, subst, arith}
use Rattle.std.proofs.lemmas.Bool.{cases_lt}
use Rattle.gr_base.specs.Grid.{gap}
use Rattle.steiner_topology.specs.Tile.{Tile, distance, median, middle}

-- m lies between b and each of a and c
record Between (a b c m : ℕ) : Type 0 where
  left : gap a m + gap m b ≡ gap a b
  right : gap c m + gap m b ≡ gap c b
  spread : gap a m + gap m b + gap c m + min a (min b c) ≡ max a (max b c)

between-first : (a b c : ℕ) → ((b ≤ a) × (a ≤ c)) ⊎ ((c ≤ a) × (a ≤ b)) → Between a b c a
between-first a b c (inl h) = let p = h.0 in let q = h.1 in
    let e : min a (min b c) ≡ b = omega arith in let f : max a (max b c) ≡ c = omega arith in
    record { left = omega arith; right = omega arith; spread = omega arith }
between-first a b c (inr h) = let p = h.0 in let q = h.1 in
    let e : min a (min b c) ≡ c = omega arith in let f : max a (max b c) ≡ b = omega arith in
    record { left = omega arith; right = omega arith; spread = omega arith }

between-mid : (a b c : ℕ) → ((a ≤ b) × (b ≤ c)) ⊎ ((c ≤ b) × (b ≤ a)) → Between a b c b
between-mid a b c (inl h) = let p = h.0 in let q = h.1 in
    let e : min a (min b c) ≡ a = omega arith in let f : max a (max b c) ≡ c = omega arith in
    record { left = omega arith; right = omega arith; spread = omega arith }
between-mid a b c (inr h) = let p = h.0 in let q = h.1 in
    let e : min a (min b c) ≡ c = omega arith in let f : max a (max b c) ≡ a = omega arith in
    record { left = omega arith; right = omega arith; spread = omega arith }

between-last : (a b c : ℕ) → ((a ≤ c) × (c ≤ b)) ⊎ ((b ≤ c) × (c ≤ a)) → Between a b c c
between-last a b c (inl h) = let p = h.0 in let q = h.1 in
    let e : min a (min b c) ≡ a = omega arith in let f : max a (max b c) ≡ b = omega arith in
    record { left = omega arith; right = omega arith; spread = omega arith }
between-last a b c (inr h) = let p = h.0 in let q = h.1 in
    let e : min a (min b c) ≡ b = omega arith in let f : max a (max b c) ≡ a = omega arith in
    record { left = omega arith; right = omega arith; spread = omega arith }

between-at : (a b c m : ℕ) → median a b c ≡ m → Between a b c m → Between a b c (median a b c)
between-at a b c m is between =
    let P : ℕ → Type 0 = λ n. Between a b c n in
    subst P (sym is) between

between : (a b c : ℕ) → Between a b c (median a b c)
between a b c = elim (cases_lt a b) [
  | inl ab ↦ elim (cases_lt b c) [
    | inl bc ↦ between-at a b c b (omega arith) (between-mid a b c (inl (omega arith, omega arith)))
    | inr cb ↦ elim (cases_lt a c) [
      | inl ac ↦ between-at a b c c (omega arith) (between-last a b c (inl (omega arith, cb)))
      | inr ca ↦ between-at a b c a (omega arith) (between-first a b c (inr (ca, omega arith)))
    ]
  ]
  | inr ba ↦ elim (cases_lt a c) [
    | inl ac ↦ between-at a b c a (omega arith) (between-first a b c (inl (ba, omega arith)))
    | inr ca ↦ elim (cases_lt b c) [
      | inl bc ↦ between-at a b c c (omega arith) (between-last a b c (inr (omega arith, ca)))
      | inr cb ↦ between-at a b c b (omega arith) (between-mid a b c (inr (cb, ba)))
    ]
  ]
]

-- two sums, added
apart : (a b c x y z : ℕ) → a + b ≡ c → x + y ≡ z → a + x + (b + y) ≡ c + z
apart a b c x y z h k = omega arith

gap-sym : (a b : ℕ) → gap a b ≡ gap b a
gap-sym a b = omega arith

spread_from : (ab cb am mb cm bm low high : ℕ) → am + mb ≡ ab → cm + mb ≡ cb → am + mb + cm + low ≡ high → mb ≡ bm → ab + cb ≡ high - low + bm
spread_from ab cb am mb cm bm low high left right wide same = omega arith

four : (a b c d w x y z : ℕ) → a + c ≡ w + y → b + d ≡ x + z → a + b + (c + d) ≡ w + x + (y + z)
four a b c d w x y z h k = omega arith

-- how far three numbers spread
abbrev pub spread : ℕ → ℕ → ℕ → ℕ
spread a b c = max a (max b c) - min a (min b c)

-- half the length round the box of three tiles
abbrev pub half_round : Tile → Tile → Tile → ℕ
half_round a b c = spread a.0 b.0 c.0 + spread a.1 b.1 c.1

-- the ways from a and c to b, less what they can share
between-spread : (a b c : ℕ) → gap a b + gap c b ≡ spread a b c + gap b (median a b c)
between-spread a b c =
    let m = median a b c in
    let x = between a b c in
    let left = x.left in
    let right = x.right in
    let wide = x.spread in
    spread_from (gap a b) (gap c b) (gap a m) (gap m b) (gap c m) (gap b m) (min a (min b c)) (max a (max b c)) left right wide (gap-sym m b)

pub meets-round : (a b c : Tile) → distance a b + distance c b ≡ half_round a b c + distance b (middle a b c)
meets-round a b c =
    let x = between-spread a.0 b.0 c.0 in
    let y = between-spread a.1 b.1 c.1 in
    four (gap a.0 b.0) (gap a.1 b.1) (gap c.0 b.0) (gap c.1 b.1) (spread a.0 b.0 c.0) (spread a.1 b.1 c.1) (gap b.0 (median a.0 b.0 c.0)) (gap b.1 (median a.1 b.1 c.1)) x y

-- the tile in the middle lies between the second and each of the others
pub record Meets (a b c m : Tile) : Type 0 where
  pub left : distance a m + distance m b ≡ distance a b
  pub right : distance c m + distance m b ≡ distance c b

pub meets : (a b c : Tile) → Meets a b c (middle a b c)
meets a b c =
    let x = between a.0 b.0 c.0 in
    let y = between a.1 b.1 c.1 in
    record {
      left = apart (gap a.0 (median a.0 b.0 c.0)) (gap (median a.0 b.0 c.0) b.0) (gap a.0 b.0) (gap a.1 (median a.1 b.1 c.1)) (gap (median a.1 b.1 c.1) b.1) (gap a.1 b.1) x.left y.left;
      right = apart (gap c.0 (median a.0 b.0 c.0)) (gap (median a.0 b.0 c.0) b.0) (gap c.0 b.0) (gap c.1 (median a.1 b.1 c.1)) (gap (median a.1 b.1 c.1) b.1) (gap c.1 b.1) x.right y.right;
    }

pub distance-sym : (a b : Tile) → distance a b ≡ distance b a
distance-sym a b = omega arith
