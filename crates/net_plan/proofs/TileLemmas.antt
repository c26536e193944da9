-- The distinct tiles of cells.
use Rattle.std.proofs.Common.{◌≡◌, ℕ, ◌<◌, inl, inr, Bool, true, false, ◌||◌, ◌==◌, List, [], ◌∷◌, ◌++◌, length, map, fold, All, refl, sym, ap, subst, ◌∙◌, arith}
use Rattle.std.specs.List.{list_any}
use Rattle.std.proofs.lemmas.Bool.{cases_Bool}
use Rattle.std.proofs.lemmas.Bool.Decides.{nat_tests}
use Rattle.std.proofs.lemmas.List.Elements.{All-nil, All-cons, All-head, All-tail, All-weaker}
use Rattle.std.proofs.lemmas.List.Folds.{list_any-append}
use Rattle.gr_base.specs.declared.grid.Shape.{Shape}
use Rattle.steiner_topology.specs.Tile.{Tile}
use Rattle.net_plan.specs.FlatTrees.{tile_under, is_tile, with_tile, distinct_tiles}

pub with_tile-new : (tiles : List Tile) (t : Tile) → list_any (is_tile t) tiles ≡ false → with_tile tiles t ≡ tiles ++ t ∷ []
with_tile-new tiles t fresh = rw fresh refl

pub with_tile-old : (tiles : List Tile) (t : Tile) → list_any (is_tile t) tiles ≡ true → with_tile tiles t ≡ tiles
with_tile-old tiles t found = rw found refl

-- a tile that is among others is one of them
is_tile-refl : (t : Tile) → is_tile t t ≡ true
is_tile-refl t =
    let x : (t.0 == t.0) ≡ true = grind (arith, nat_tests) in
    let y : (t.1 == t.1) ≡ true = grind (arith, nat_tests) in
    rw (x, y) refl

same-pair : (a b c d : ℕ) → a ≡ c → b ≡ d → ◌≡◌ {A = Tile} (a, b) (c, d)
same-pair a b c d x y = cc

is_tile-same : (t u : Tile) → is_tile t u ≡ true → t ≡ u
is_tile-same t u same =
    let x : t.0 ≡ u.0 = grind (arith, nat_tests) in
    let y : t.1 ≡ u.1 = grind (arith, nat_tests) in
    same-pair t.0 t.1 u.0 u.1 x y

or-true : (a b : Bool) → b ≡ true → (a || b) ≡ true
or-true true b is = refl
or-true false b is = is

or-left : (a b : Bool) → a ≡ true → (a || b) ≡ true
or-left true b is = refl
or-left false b is = cc

pub among-all : (P : Tile → Type 0) (t : Tile) (tiles : List Tile) → list_any (is_tile t) tiles ≡ true → All P tiles → P t
among-all P t [] found all = absurd (false-true found)
  where
    false-true : false ≡ true → ⊥
    false-true e = cc
among-all P t (u ∷ tiles) found all =
    elim (cases_Bool (is_tile t u)) [
      | inl here ↦ subst P (sym (is_tile-same t u here)) (All-head P u tiles all)
      | inr other ↦
          let later : list_any (is_tile t) tiles ≡ true = sym (rw other refl) ∙ found in
          among-all P t tiles later (All-tail P u tiles all)
    ]

-- tiles once added stay, and each added one is there
with_tile-kept : (tiles : List Tile) (t u : Tile) → list_any (is_tile u) tiles ≡ true → list_any (is_tile u) (with_tile tiles t) ≡ true
with_tile-kept tiles t u found =
    elim (cases_Bool (list_any (is_tile t) tiles)) [
      | inl old ↦ ap (list_any (is_tile u)) (with_tile-old tiles t old) ∙ found
      | inr new ↦
          ap (list_any (is_tile u)) (with_tile-new tiles t new) ∙ list_any-append (is_tile u) tiles (t ∷ []) ∙
          or-left (list_any (is_tile u) tiles) (list_any (is_tile u) (t ∷ [])) found
    ]

with_tile-added : (tiles : List Tile) (t : Tile) → list_any (is_tile t) (with_tile tiles t) ≡ true
with_tile-added tiles t =
    elim (cases_Bool (list_any (is_tile t) tiles)) [
      | inl old ↦ ap (list_any (is_tile t)) (with_tile-old tiles t old) ∙ old
      | inr new ↦
          let one : list_any (is_tile t) (t ∷ []) ≡ true = or-left (is_tile t t) false (is_tile-refl t) in
          ap (list_any (is_tile t)) (with_tile-new tiles t new) ∙ list_any-append (is_tile t) tiles (t ∷ []) ∙
          or-true (list_any (is_tile t) tiles) (list_any (is_tile t) (t ∷ [])) one
    ]

fold-kept : (ts tiles : List Tile) (u : Tile) → list_any (is_tile u) tiles ≡ true → list_any (is_tile u) (fold with_tile tiles ts) ≡ true
fold-kept [] tiles u found = found
fold-kept (t ∷ ts) tiles u found = fold-kept ts (with_tile tiles t) u (with_tile-kept tiles t u found)

all-among : (g : Shape) (cells : List ℕ) (tiles : List Tile) →
    All (λ cell. list_any (is_tile (tile_under g cell)) (fold with_tile tiles (map (tile_under g) cells)) ≡ true) cells
all-among g [] tiles = All-nil (λ cell. list_any (is_tile (tile_under g cell)) (fold with_tile tiles (map (tile_under g) [])) ≡ true)
all-among g (cell ∷ cells) tiles =
    let t = tile_under g cell in
    let P : ℕ → Type 0 = λ other. list_any (is_tile (tile_under g other)) (fold with_tile (with_tile tiles t) (map (tile_under g) cells)) ≡ true in
    All-cons P cell cells (fold-kept (map (tile_under g) cells) (with_tile tiles t) t (with_tile-added tiles t)) (all-among g cells (with_tile tiles t))

-- what holds of the distinct tiles holds of the tile of each cell
pub distinct-all : (g : Shape) (cells : List ℕ) (P : Tile → Type 0) → All P (distinct_tiles g cells) → All (λ cell. P (tile_under g cell)) cells
distinct-all g cells P all =
    All-weaker (λ cell. list_any (is_tile (tile_under g cell)) (distinct_tiles g cells) ≡ true) (λ cell. P (tile_under g cell))
    (λ cell found. among-all P (tile_under g cell) (distinct_tiles g cells) found all) cells (all-among g cells [])

any-some : (p : Tile → Bool) (tiles : List Tile) → list_any p tiles ≡ true → 0 < length tiles
any-some p [] found = absurd (false-true found)
  where
    false-true : false ≡ true → ⊥
    false-true e = cc
any-some p (t ∷ tiles) found = omega arith

-- cells have tiles
pub distinct-some : (g : Shape) (cells : List ℕ) → 0 < length cells → 0 < length (distinct_tiles g cells)
distinct-some g [] some = absurd (omega arith)
distinct-some g (cell ∷ cells) some =
    let P : ℕ → Type 0 = λ other. list_any (is_tile (tile_under g other)) (distinct_tiles g (cell ∷ cells)) ≡ true in
    any-some (is_tile (tile_under g cell)) (distinct_tiles g (cell ∷ cells)) (All-head P cell cells (all-among g (cell ∷ cells) []))
