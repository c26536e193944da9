-- Reads and writes of points.
use Rattle.std.proofs.Common.{◌≡◌, ℕ, ◌+◌, ◌<◌, Bool, true, false, ◌==◌, Option, Some, List, [], ◌∷◌, ◌++◌, length, filter, get_or, set, refl, sym, ap, ◌∙◌, arith}
use Rattle.std.specs.List.{range_with_len}
use Rattle.std.proofs.lemmas.Bool.Decides.{nat_tests}
use Rattle.std.proofs.lemmas.List.{length-set, get_or_default, get_or_append_left, set-append_left, map-id, append-nil}
use Rattle.std.proofs.lemmas.List.FromFn.{map-range_with_len_more, length-map-range_with_len}
use Rattle.std.proofs.lemmas.List.Elements.{filter-append}
use Rattle.steiner_topology.specs.declared.point.Join.{Join}
use Rattle.steiner_topology.specs.declared.point.Point.{Point}
use Rattle.steiner_topology.specs.Tile.{Tile, tile_at}
use Rattle.steiner_topology.specs.Topology.{point, place_of, parent_of, hung, loose_points, saving, best_neighbour, with_branch, branched, branched_if, handled}

-- one number more
pub range-more : (n : ℕ) → range_with_len 0 (n + 1) ≡ range_with_len 0 n ++ n ∷ []
range-more n =
    sym (map-id (range_with_len 0 (n + 1))) ∙ map-range_with_len_more (λ (v : ℕ). v) 0 n n (omega arith) ∙
    ap (λ (xs : List ℕ). xs ++ n ∷ []) (map-id (range_with_len 0 n))

pub filter-more_yes : (p : ℕ → Bool) (n : ℕ) → p n ≡ true → filter p (range_with_len 0 (n + 1)) ≡ filter p (range_with_len 0 n) ++ n ∷ []
filter-more_yes p n passes =
    ap (filter p) (range-more n) ∙ filter-append p (range_with_len 0 n) (n ∷ []) ∙ (rw passes refl)

pub filter-more_no : (p : ℕ → Bool) (n : ℕ) → p n ≡ false → filter p (range_with_len 0 (n + 1)) ≡ filter p (range_with_len 0 n)
filter-more_no p n fails =
    ap (filter p) (range-more n) ∙ filter-append p (range_with_len 0 n) (n ∷ []) ∙ (rw fails (append-nil (filter p (range_with_len 0 n))))

-- a read of a point
read_tile : (points : List Point) (v : ℕ) (p : Point) → v < length points → p ≡ get_or points v p → p.tile ≡ place_of points v
read_tile points v p below is = ap (λ (x : Point). x.tile) (is ∙ get_or_default points v p (point (0, 0) 0) below)

pub read_parent : (points : List Point) (v : ℕ) (p : Point) → v < length points → p ≡ get_or points v p → p.parent ≡ parent_of points v
read_parent points v p below is = ap (λ (x : Point). x.parent) (is ∙ get_or_default points v p (point (0, 0) 0) below)

-- two points hung on one that was just added
pub hung-pushed : (points : List Point) (b : Point) (lower j n : ℕ) (p q : Point) → lower < length points → j < length points → n ≡ length points →
    p ≡ get_or (points ++ b ∷ []) lower p →
    q ≡ get_or (set (points ++ b ∷ []) lower (record { tile = p.tile; parent = n })) j q →
    set (set (points ++ b ∷ []) lower (record { tile = p.tile; parent = n })) j (record { tile = q.tile; parent = n }) ≡
    with_branch points b.tile b.parent lower j
hung-pushed points b lower j n p q lower_in j_in size p_is q_is =
    let first : set (points ++ b ∷ []) lower (record { tile = p.tile; parent = n }) ≡ hung points lower (length points) ++ b ∷ [] =
    set-append_left points (b ∷ []) lower (record { tile = p.tile; parent = n }) lower_in ∙
    ap (λ (t : Tile). set points lower (point t n) ++ b ∷ []) (read_tile points lower p lower_in (p_is ∙ get_or_append_left points (b ∷ []) p lower lower_in)) ∙
    ap (λ (m : ℕ). hung points lower m ++ b ∷ []) size in
    let once = hung points lower (length points) in
    let long : length once ≡ length points = length-set points lower (point (place_of points lower) (length points)) in
    let in_once : j < length once = omega arith in
    let tile : q.tile ≡ place_of once j =
    read_tile once j q in_once (q_is ∙ ap (λ (xs : List Point). get_or xs j q) first ∙ get_or_append_left once (b ∷ []) q j in_once) in
    ap (λ (xs : List Point). set xs j (record { tile = q.tile; parent = n })) first ∙
    set-append_left once (b ∷ []) j (record { tile = q.tile; parent = n }) in_once ∙
    ap (λ (t : Tile). set once j (point t n) ++ b ∷ []) tile ∙
    ap (λ (m : ℕ). hung once j m ++ b ∷ []) size

pub length-loose : (tiles : List Tile) → length (loose_points tiles) ≡ length tiles
length-loose tiles = length-map-range_with_len (λ v. point (tile_at tiles v) v) 0 (length tiles)

-- the points after j is handled, by what is found
pub handled-by : (points : List Point) (j : Join) (o : Option ℕ) → o ≡ best_neighbour points j.point → handled points j ≡ branched_if points j.point o
handled-by points j o is = ap (branched_if points j.point) (sym is)

pub branched_if-no : (points : List Point) (j q : ℕ) → saving points j q ≡ 0 → branched_if points j (Some q) ≡ points
branched_if-no points j q none = let test : (saving points j q == 0) ≡ true = grind (arith, nat_tests) in rw test refl

pub branched_if-yes : (points : List Point) (j q : ℕ) → (saving points j q ≡ 0 → ⊥) → branched_if points j (Some q) ≡ branched points j q
branched_if-yes points j q some = let test : (saving points j q == 0) ≡ false = grind (arith, nat_tests) in rw test refl
