-- What nets need of straight cuts, by the lines in which they begin and end.
use Rattle.std.proofs.Common.{◌≡◌, ℕ, suc, zero, ◌+◌, ◌-◌, ◌*◌, ◌/◌, ◌%◌, ◌<◌, ◌≤◌, ◌^◌, max, min, inl, inr, Bool, true, false, not, ◌&&◌, ◌||◌, nat_le, List, [], ◌∷◌, ◌++◌, All, map, take, drop, length, get_or, replicate, sum, sum_by, refl, sym, ap, subst, ◌∙◌, arith}
use Rattle.std.specs.List.{list_any}
use Rattle.std.proofs.lemmas.Bool.{cases_Bool, cases_lt, not-true}
use Rattle.std.proofs.lemmas.Bool.Decides.{nat_tests}
use Rattle.std.proofs.lemmas.List.{drop_all, get_or_append_left, get_or_default, get_or_push, length-map, length-replicate, length_push, map-append}
use Rattle.std.proofs.lemmas.List.Elements.{All-head, All-tail}
use Rattle.std.proofs.lemmas.List.Folds.{list_any-append, sum_by-replicate}
use Rattle.std.proofs.lemmas.List.Sums.{sum_by-cons, sum_by_more, sum_by-take-le}
use Rattle.std.proofs.lemmas.Nat.{div-add-mod', div-mul-add, div_below, mod-mul-add, mod_below}
use Rattle.wall_laws.specs.Walls.{is_parted}
use Rattle.gr_base.proofs.GridLemmas.{few_cells, some_columns, some_layers}
use Rattle.gr_base.specs.declared.grid.Shape.{Shape}
use Rattle.std.proofs.Math.Bool.{or-false}
use Rattle.std.proofs.Math.Nat.{le-mul_of_pos_right, mul_comm}
use Rattle.cut_bounds.specs.declared.axis.Axis.{Axis}
use Rattle.cut_bounds.specs.declared.axis.Axis.TheVariants.{Columns, Rows}
use Rattle.cut_bounds.specs.declared.axis.Tile.{Tile}
use Rattle.cut_bounds.specs.declared.net_tiles.NetNeed.{NetNeed}
use Rattle.cut_bounds.specs.Cuts.{along, lines_of, tile_at, wires_along, AreWithin, is_reached, is_passed, reached_sum, passed_sum, line_needs, sum_to, AreCounted, AreSums}
use Rattle.cut_bounds.specs.NetTiles.{Placed, placed_by, pins_counted}
use Rattle.cut_bounds.specs.TileWires.{where_so, gained, held_by, sum_below, tiles_of}
use Rattle.cut_bounds.specs.declared.tile_wires.TileWires.{TileWires}
use Rattle.cut_bounds.proofs.NetLemmas.{IsNext}
use Rattle.cut_bounds.proofs.SumLemmas.{where-yes, where-no, where-le, below-le, below-up}

-- ---- sums up to a place

pub sum-to-gained : (xs : List ℕ) (at more line : ℕ) → at < length xs → sum_to line (gained xs at more) ≡ sum_to line xs + where_so (nat_le at line) more
sum-to-gained [] at more line inside = absurd (omega (arith, inside))
sum-to-gained (x ∷ xs) zero more line inside =
    let one : line + 1 ≡ suc line = omega arith in
    let a = ap (λ (n : ℕ). sum (take n ((x + more) ∷ xs))) one ∙ sum_by-cons (λ (k : ℕ). k) (x + more) (take line xs) in
    let b = ap (λ (n : ℕ). sum (take n (x ∷ xs))) one ∙ sum_by-cons (λ (k : ℕ). k) x (take line xs) in
    let on : nat_le 0 line ≡ true = grind (arith, nat_tests) in
    omega (arith, a, b, where-yes (nat_le 0 line) more on)
sum-to-gained (x ∷ xs) (suc at) more zero inside =
    let off : nat_le (suc at) 0 ≡ false = grind (arith, nat_tests) in
    omega (arith, where-no (nat_le (suc at) 0) more off)
sum-to-gained (x ∷ xs) (suc at) more (suc line) inside =
    let one : suc line + 1 ≡ suc (line + 1) = omega arith in
    let a = ap (λ (n : ℕ). sum (take n (x ∷ gained xs at more))) one ∙ sum_by-cons (λ (k : ℕ). k) x (take (line + 1) (gained xs at more)) in
    let b = ap (λ (n : ℕ). sum (take n (x ∷ xs))) one ∙ sum_by-cons (λ (k : ℕ). k) x (take (line + 1) xs) in
    let same : nat_le (suc at) (suc line) ≡ nat_le at line = grind (arith, nat_tests) in
    let w = ap (λ (so : Bool). where_so so more) same in
    omega (arith, a, b, w, sum-to-gained xs at more line (omega (arith, inside)))

-- ---- nets one after another

-- nothing is counted at first
zeros-sum : (n line : ℕ) → sum_to line (replicate n 0) ≡ 0
zeros-sum n line =
    let low = sum_by-take-le (λ (k : ℕ). k) (replicate n 0) (line + 1) in
    let all = sum_by-replicate (λ (k : ℕ). k) n 0 in
    let none : n * 0 ≡ 0 = omega arith in
    omega (arith, low, all, none)

pub none-counted : (axis : Axis) (n m : ℕ) (begun ended : List ℕ) (nets : List Placed) → begun ≡ replicate n 0 → ended ≡ replicate m 0 →
    AreCounted axis begun ended nets nets
none-counted axis n m begun ended nets is is' = record {
  first = λ line. let e = ap (λ (xs : List ℕ). sum_to line xs) is ∙ zeros-sum n line in omega (arith, e);
  last = λ line. let e = ap (λ (xs : List ℕ). sum_to line xs) is' ∙ zeros-sum m line in omega (arith, e);
}

-- one net more is counted
pub more-counted : (axis : Axis) (begun ended begun' ended' : List ℕ) (net : Placed) (nets all : List Placed) (first last need : ℕ) →
    first < length begun → last < length ended → begun' ≡ gained begun first need → ended' ≡ gained ended last need → need ≡ net.need →
    ((line : ℕ) → is_reached axis line net.tiles ≡ nat_le first line) → ((line : ℕ) → is_passed axis line net.tiles ≡ nat_le last line) →
    AreCounted axis begun ended (net ∷ nets) all → AreCounted axis begun' ended' nets all
more-counted axis begun ended begun' ended' net nets all first last need low high is is' same reached passed was = record {
  first = λ line.
      let a = ap (λ (xs : List ℕ). sum_to line xs) is ∙ sum-to-gained begun first need line low in
      let b = sum_by-cons (λ (n : Placed). where_so (is_reached axis line n.tiles) n.need) net nets in
      let w = ap (λ (so : Bool). where_so so net.need) (reached line) ∙ ap (λ (n : ℕ). where_so (nat_le first line) n) (sym same) in
      omega (arith, a, b, w, was.first line);
  last = λ line.
      let a = ap (λ (xs : List ℕ). sum_to line xs) is' ∙ sum-to-gained ended last need line high in
      let b = sum_by-cons (λ (n : Placed). where_so (is_passed axis line n.tiles) n.need) net nets in
      let w = ap (λ (so : Bool). where_so so net.need) (passed line) ∙ ap (λ (n : ℕ). where_so (nat_le last line) n) (sym same) in
      omega (arith, a, b, w, was.last line);
}

-- what is counted stays below the sum of all needs
reached-le : (axis : Axis) (line : ℕ) (nets : List Placed) → reached_sum axis line nets ≤ sum_by (λ (net : Placed). net.need) nets
reached-le axis line [] = omega arith
reached-le axis line (net ∷ nets) =
    let a = sum_by-cons (λ (n : Placed). where_so (is_reached axis line n.tiles) n.need) net nets in
    let b = sum_by-cons (λ (n : Placed). n.need) net nets in
    omega (arith, a, b, where-le (is_reached axis line net.tiles) net.need, reached-le axis line nets)

passed-le : (axis : Axis) (line : ℕ) (nets : List Placed) → passed_sum axis line nets ≤ sum_by (λ (net : Placed). net.need) nets
passed-le axis line [] = omega arith
passed-le axis line (net ∷ nets) =
    let a = sum_by-cons (λ (n : Placed). where_so (is_passed axis line n.tiles) n.need) net nets in
    let b = sum_by-cons (λ (n : Placed). n.need) net nets in
    omega (arith, a, b, where-le (is_passed axis line net.tiles) net.need, passed-le axis line nets)

at-le-sum-to : (xs : List ℕ) (at : ℕ) → get_or xs at 0 ≤ sum_to at xs
at-le-sum-to [] at = omega arith
at-le-sum-to (x ∷ xs) zero = let a = sum_by-cons (λ (k : ℕ). k) x [] in omega (arith, a)
at-le-sum-to (x ∷ xs) (suc at) =
    let one : suc at + 1 ≡ suc (at + 1) = omega arith in
    let b = ap (λ (n : ℕ). sum (take n (x ∷ xs))) one ∙ sum_by-cons (λ (k : ℕ). k) x (take (at + 1) xs) in
    omega (arith, b, at-le-sum-to xs at)

pub small-begun : (axis : Axis) (begun ended : List ℕ) (nets all : List Placed) (at : ℕ) → AreCounted axis begun ended nets all →
    sum_by (λ (net : Placed). net.need) all < 2 ^ 63 → get_or begun at 0 < 2 ^ 63
small-begun axis begun ended nets all at was few = omega (arith, at-le-sum-to begun at, was.first at, reached-le axis at all, few)

pub small-ended : (axis : Axis) (begun ended : List ℕ) (nets all : List Placed) (at : ℕ) → AreCounted axis begun ended nets all →
    sum_by (λ (net : Placed). net.need) all < 2 ^ 63 → get_or ended at 0 < 2 ^ 63
small-ended axis begun ended nets all at was few = omega (arith, at-le-sum-to ended at, was.last at, passed-le axis at all, few)

-- ---- what a line's cut needs

split-need : (r p : Bool) (n : ℕ) → (p ≡ true → r ≡ true) → where_so r n ≡ where_so (r && not p) n + where_so p n
split-need true true n h = omega arith
split-need true false n h = omega arith
split-need false true n h = absurd (let e = h refl in apart e) where
  apart : false ≡ true → ⊥
  apart e = cc
split-need false false n h = omega arith

-- where all lie in the line or before, some do
some-all : (p : ℕ → Bool) (numbers : List ℕ) → 0 < length numbers → list_any (λ n. not (p n)) numbers ≡ false → list_any p numbers ≡ true
some-all p [] some none = absurd (omega (arith, some))
some-all p (n ∷ ns) some none = elim (cases_Bool (p n)) [
  | inl on ↦ rw on refl
  | inr off ↦ absurd (let e : true ≡ false = sym (rw off refl) ∙ none in apart e)
] where
  apart : true ≡ false → ⊥
  apart e = cc

not-not : (b : Bool) → not (not b) ≡ b
not-not true = refl
not-not false = refl

pub line-split : (axis : Axis) (line : ℕ) (nets : List Placed) → All (λ (net : Placed). 0 < length net.tiles) nets →
    reached_sum axis line nets ≡ line_needs axis line nets + passed_sum axis line nets
line-split axis line [] some = refl
line-split axis line (net ∷ nets) some =
    let a = sum_by-cons (λ (n : Placed). where_so (is_reached axis line n.tiles) n.need) net nets in
    let b = sum_by-cons (λ (n : Placed). where_so (is_passed axis line n.tiles) n.need) net nets in
    let d = sum_by-cons (λ (n : Placed). where_so (is_parted (λ at. nat_le at line) (map (along axis) n.tiles)) n.need) net nets in
    let first = All-head (λ (n : Placed). 0 < length n.tiles) net nets some in
    let rest = line-split axis line nets (All-tail (λ (n : Placed). 0 < length n.tiles) net nets some) in
    let long : 0 < length (map (along axis) net.tiles) = omega (arith, first, length-map net.tiles (along axis)) in
    let split = split-need (is_reached axis line net.tiles) (is_passed axis line net.tiles) net.need
    (λ p. some-all (λ at. nat_le at line) (map (along axis) net.tiles) long (not-true _ p)) in
    let same = ap (λ (so : Bool). where_so (is_reached axis line net.tiles && so) net.need) (not-not (list_any (λ at. not (nat_le at line)) (map (along axis) net.tiles))) in
    omega (arith, a, b, d, rest, split, same)

-- ---- the first and the last line of tiles

reached-push : (axis : Axis) (line : ℕ) (tiles : List Tile) (tile : Tile) →
    is_reached axis line (tiles ++ tile ∷ []) ≡ (is_reached axis line tiles || nat_le (along axis tile) line)
reached-push axis line tiles tile =
    ap (λ (ns : List ℕ). list_any (λ at. nat_le at line) ns) (map-append (along axis) tiles (tile ∷ []))
    ∙ list_any-append (λ at. nat_le at line) (map (along axis) tiles) (along axis tile ∷ [])
    ∙ ap (λ (b : Bool). is_reached axis line tiles || b) (or-false (nat_le (along axis tile) line))

passed-push : (axis : Axis) (line : ℕ) (tiles : List Tile) (tile : Tile) →
    is_passed axis line (tiles ++ tile ∷ []) ≡ (is_passed axis line tiles && nat_le (along axis tile) line)
passed-push axis line tiles tile =
    ap (λ (ns : List ℕ). not (list_any (λ at. not (nat_le at line)) ns)) (map-append (along axis) tiles (tile ∷ []))
    ∙ ap (λ (b : Bool). not b) (list_any-append (λ at. not (nat_le at line)) (map (along axis) tiles) (along axis tile ∷ []))
    ∙ nor (list_any (λ at. not (nat_le at line)) (map (along axis) tiles)) (nat_le (along axis tile) line)
  where
    nor : (a b : Bool) → not (a || (not b || false)) ≡ (not a && b)
    nor true b = refl
    nor false true = refl
    nor false false = refl

-- a first and a last line are those of the first tile and some more
pub record AreEnds (axis : Axis) (start : ℕ) (tiles : List Tile) (first last : ℕ) : Type 0 where
  pub reached : (line : ℕ) → nat_le first line ≡ (nat_le start line || is_reached axis line tiles)
  pub passed : (line : ℕ) → nat_le last line ≡ (nat_le start line && is_passed axis line tiles)

pub no-ends : (axis : Axis) (start : ℕ) → AreEnds axis start [] start start
no-ends axis start = record { reached = λ line. a (nat_le start line); passed = λ line. b (nat_le start line) } where
  a : (x : Bool) → x ≡ (x || false)
  a true = refl
  a false = refl

  b : (x : Bool) → x ≡ (x && true)
  b true = refl
  b false = refl

min-le : (a b line : ℕ) → nat_le (min a b) line ≡ (nat_le a line || nat_le b line)
min-le a b line = grind (arith, nat_tests)

max-le : (a b line : ℕ) → nat_le (max a b) line ≡ (nat_le a line && nat_le b line)
max-le a b line = grind (arith, nat_tests)

pub more-ends : (axis : Axis) (start : ℕ) (tiles new : List Tile) (tile : Tile) (first last at : ℕ) → AreEnds axis start tiles first last →
    new ≡ tiles ++ tile ∷ [] → at ≡ along axis tile → AreEnds axis start new (min first at) (max last at)
more-ends axis start tiles new tile first last at was is line-is = record {
  reached = λ line.
      min-le first at line ∙ ap (λ (b : Bool). b || nat_le at line) (was.reached line)
      ∙ or-assoc (nat_le start line) (is_reached axis line tiles) (nat_le at line)
      ∙ ap (λ (b : Bool). nat_le start line || b) (ap (λ (n : ℕ). is_reached axis line tiles || nat_le n line) line-is ∙ sym (reached-push axis line tiles tile))
      ∙ ap (λ (ts : List Tile). nat_le start line || is_reached axis line ts) (sym is);
  passed = λ line.
      max-le last at line ∙ ap (λ (b : Bool). b && nat_le at line) (was.passed line)
      ∙ and-assoc (nat_le start line) (is_passed axis line tiles) (nat_le at line)
      ∙ ap (λ (b : Bool). nat_le start line && b) (ap (λ (n : ℕ). is_passed axis line tiles && nat_le n line) line-is ∙ sym (passed-push axis line tiles tile))
      ∙ ap (λ (ts : List Tile). nat_le start line && is_passed axis line ts) (sym is);
} where
  or-assoc : (a b c : Bool) → ((a || b) || c) ≡ (a || (b || c))
  or-assoc true b c = refl
  or-assoc false b c = refl

  and-assoc : (a b c : Bool) → ((a && b) && c) ≡ (a && (b && c))
  and-assoc true b c = refl
  and-assoc false b c = refl

-- where the start is the first tile's line, it adds nothing
pub all-ends : (axis : Axis) (start : ℕ) (tiles : List Tile) (d : Tile) (first last : ℕ) → 0 < length tiles → start ≡ along axis (get_or tiles 0 d) →
    AreEnds axis start tiles first last →
    ((line : ℕ) → is_reached axis line tiles ≡ nat_le first line) × ((line : ℕ) → is_passed axis line tiles ≡ nat_le last line)
all-ends axis start [] d first last some is ends = absurd (omega (arith, some))
all-ends axis start (tile ∷ tiles) d first last some is ends = (
  (λ line. sym (ends.reached line ∙ ap (λ (n : ℕ). nat_le n line || is_reached axis line (tile ∷ tiles)) is ∙ twice (nat_le (along axis tile) line) (is_reached axis line tiles))),
  (λ line. sym (ends.passed line ∙ ap (λ (n : ℕ). nat_le n line && is_passed axis line (tile ∷ tiles)) is ∙ both (nat_le (along axis tile) line) (list_any (λ at. not (nat_le at line)) (map (along axis) tiles)))),
)
  where
    twice : (x r : Bool) → (x || (x || r)) ≡ (x || r)
    twice true r = refl
    twice false r = refl

    both : (x r : Bool) → (x && not (not x || r)) ≡ not (not x || r)
    both true r = refl
    both false r = refl

-- ---- a loop over the nets

-- what is so once the first nets are counted
pub record AreCountedTo (axis : Axis) (lines : ℕ) (net_needs : List NetNeed) (at : ℕ) (rest : List Tile) (begun ended : List ℕ) (all : List Placed) : Type 0 where
  pub whole : pins_counted (drop at net_needs) ≡ length rest
  pub some : All (λ (net : Placed). 0 < length net.tiles) (placed_by (drop at net_needs) rest)
  pub within : All (λ (net : Placed). AreWithin axis lines net.tiles) (placed_by (drop at net_needs) rest)
  pub begun_long : length begun ≡ lines
  pub ended_long : length ended ≡ lines
  pub counted : AreCounted axis begun ended (placed_by (drop at net_needs) rest) all

-- what is so of the next net
pub next-some : (axis : Axis) (lines : ℕ) (net_needs : List NetNeed) (at : ℕ) (net_need : NetNeed) (rest tiles others : List Tile) (begun ended : List ℕ) (all : List Placed) →
    AreCountedTo axis lines net_needs at rest begun ended all → IsNext net_needs at net_need rest tiles others → 0 < length tiles
next-some axis lines net_needs at net_need rest tiles others begun ended all was next =
    All-head (λ (net : Placed). 0 < length net.tiles) record { need = net_need.need; tiles = tiles } (placed_by (drop (at + 1) net_needs) others)
    (subst (λ (ns : List Placed). All (λ (net : Placed). 0 < length net.tiles) ns) next.is was.some)

pub next-within : (axis : Axis) (lines : ℕ) (net_needs : List NetNeed) (at : ℕ) (net_need : NetNeed) (rest tiles others : List Tile) (begun ended : List ℕ) (all : List Placed) →
    AreCountedTo axis lines net_needs at rest begun ended all → IsNext net_needs at net_need rest tiles others → AreWithin axis lines tiles
next-within axis lines net_needs at net_need rest tiles others begun ended all was next =
    All-head (λ (net : Placed). AreWithin axis lines net.tiles) record { need = net_need.need; tiles = tiles } (placed_by (drop (at + 1) net_needs) others)
    (subst (λ (ns : List Placed). All (λ (net : Placed). AreWithin axis lines net.tiles) ns) next.is was.within)

pub more-counted-to : (axis : Axis) (lines : ℕ) (net_needs : List NetNeed) (at : ℕ) (net_need : NetNeed) (rest tiles others : List Tile) (begun ended begun' ended' : List ℕ) (all : List Placed) →
    AreCountedTo axis lines net_needs at rest begun ended all → IsNext net_needs at net_need rest tiles others → length begun' ≡ length begun → length ended' ≡ length ended →
    ((nets all : List Placed) → AreCounted axis begun ended (record { need = net_need.need; tiles = tiles } ∷ nets) all → AreCounted axis begun' ended' nets all) →
    AreCountedTo axis lines net_needs (at + 1) others begun' ended' all
more-counted-to axis lines net_needs at net_need rest tiles others begun ended begun' ended' all was next long long' step = record {
  whole = next.whole;
  some = All-tail (λ (net : Placed). 0 < length net.tiles) record { need = net_need.need; tiles = tiles } (placed_by (drop (at + 1) net_needs) others)
      (subst (λ (ns : List Placed). All (λ (net : Placed). 0 < length net.tiles) ns) next.is was.some);
  within = All-tail (λ (net : Placed). AreWithin axis lines net.tiles) record { need = net_need.need; tiles = tiles } (placed_by (drop (at + 1) net_needs) others)
      (subst (λ (ns : List Placed). All (λ (net : Placed). AreWithin axis lines net.tiles) ns) next.is was.within);
  begun_long = long ∙ was.begun_long;
  ended_long = long' ∙ was.ended_long;
  counted = step (placed_by (drop (at + 1) net_needs) others) all (subst (λ (ns : List Placed). AreCounted axis begun ended ns all) next.is was.counted);
}

-- once all are counted
pub all-counted : (axis : Axis) (lines : ℕ) (net_needs : List NetNeed) (at : ℕ) (rest : List Tile) (begun ended : List ℕ) (all : List Placed) → length net_needs ≤ at →
    AreCountedTo axis lines net_needs at rest begun ended all → AreSums axis lines all begun ended
all-counted axis lines net_needs at rest begun ended all past was =
    let none : placed_by (drop at net_needs) rest ≡ [] = ap (λ (cs : List NetNeed). placed_by cs rest) (drop_all at net_needs past) in
    let counted = subst (λ (ns : List Placed). AreCounted axis begun ended ns all) none was.counted in
    record {
      begun_long = was.begun_long;
      ended_long = was.ended_long;
      reached = λ line. let e = counted.first line in omega (arith, e);
      passed = λ line. let e = counted.last line in omega (arith, e);
    }

pub no-counted-to : (axis : Axis) (lines : ℕ) (net_needs : List NetNeed) (tiles rest : List Tile) (begun ended : List ℕ) → rest ≡ tiles →
    pins_counted net_needs ≡ length tiles → All (λ (net : Placed). 0 < length net.tiles) (placed_by net_needs tiles) →
    All (λ (net : Placed). AreWithin axis lines net.tiles) (placed_by net_needs tiles) → begun ≡ replicate lines 0 → ended ≡ replicate lines 0 →
    AreCountedTo axis lines net_needs 0 rest begun ended (placed_by net_needs tiles)
no-counted-to axis lines net_needs tiles rest begun ended same whole some within is is' =
    subst (λ (ts : List Tile). AreCountedTo axis lines net_needs 0 ts begun ended (placed_by net_needs tiles)) (sym same) (record {
      whole = whole;
      some = some;
      within = within;
      begun_long = ap (λ (xs : List ℕ). length xs) is ∙ length-replicate lines 0;
      ended_long = ap (λ (xs : List ℕ). length xs) is' ∙ length-replicate lines 0;
      counted = none-counted axis lines lines begun ended (placed_by net_needs tiles) is is';
    })

-- ---- the running need

-- what the lines so far need
pub record AreNeeds (axis : Axis) (nets : List Placed) (line need : ℕ) (begun ended needs : List ℕ) : Type 0 where
  pub running : need + sum (take line ended) ≡ sum (take line begun)
  pub long : length needs ≡ line
  pub each : (k : ℕ) → k < line → get_or needs k 0 ≡ line_needs axis k nets

-- what a net that begins in the line and before needs and what the cut behind it needs
pub running-next : (begun ended : List ℕ) (line need b e reached needs passed : ℕ) → line < length begun → line < length ended →
    b ≡ get_or begun line 0 → e ≡ get_or ended line 0 → need + sum (take line ended) ≡ sum (take line begun) →
    sum_to line begun ≡ reached → sum_to line ended ≡ passed → reached ≡ needs + passed → need + b ≡ needs + e
running-next begun ended line need b e reached needs passed in' in'' is is' was r p split =
    let x = sum_by_more (λ (k : ℕ). k) begun line 0 in' in
    let y = sum_by_more (λ (k : ℕ). k) ended line 0 in'' in
    omega (arith, is, is', was, r, p, split, x, y)

pub running-low : (begun ended : List ℕ) (line need b e reached needs passed : ℕ) → need + b ≡ needs + e → e ≡ get_or ended line 0 →
    sum_to line ended ≡ passed → reached ≡ needs + passed → reached < 2 ^ 63 → need + b < 2 ^ 63
running-low begun ended line need b e reached needs passed is is' p split few = omega (arith, is, is', p, split, few, at-le-sum-to ended line)

pub reached-few : (axis : Axis) (line : ℕ) (nets : List Placed) → sum_by (λ (net : Placed). net.need) nets < 2 ^ 63 → reached_sum axis line nets < 2 ^ 63
reached-few axis line nets few = omega (arith, reached-le axis line nets, few)

-- the next tile
pub tile-next : (columns number : ℕ) → 0 < columns → number % columns + 1 < columns →
    ((number + 1) % columns ≡ number % columns + 1) × ((number + 1) / columns ≡ number / columns)
tile-next columns number some room =
    let split : number + 1 ≡ number / columns * columns + (number % columns + 1) = omega (arith, div-add-mod' number columns) in (
      ap (λ (n : ℕ). n % columns) split ∙ mod-mul-add (number / columns) columns (number % columns + 1) room,
      ap (λ (n : ℕ). n / columns) split ∙ div-mul-add (number / columns) columns (number % columns + 1) room,
    )

pub tile-turns : (columns number : ℕ) → 0 < columns → columns ≤ number % columns + 1 →
    ((number + 1) % columns ≡ 0) × ((number + 1) / columns ≡ number / columns + 1)
tile-turns columns number some full =
    let last : number % columns + 1 ≡ columns = omega (arith, full, mod_below number columns some) in
    let more : (number / columns + 1) * columns ≡ number / columns * columns + columns = omega arith in
    let split : number + 1 ≡ (number / columns + 1) * columns + 0 = omega (arith, div-add-mod' number columns, last, more) in (
      ap (λ (n : ℕ). n % columns) split ∙ mod-mul-add (number / columns + 1) columns 0 some,
      ap (λ (n : ℕ). n / columns) split ∙ div-mul-add (number / columns + 1) columns 0 some,
    )

-- a line more
pub need-next : (axis : Axis) (lines : ℕ) (nets : List Placed) (line need b e : ℕ) (begun ended needs : List ℕ) → line < lines →
    b ≡ get_or begun line b → e ≡ get_or ended line e → AreSums axis lines nets begun ended → All (λ (net : Placed). 0 < length net.tiles) nets →
    sum_by (λ (net : Placed). net.need) nets < 2 ^ 63 → AreNeeds axis nets line need begun ended needs →
    (need + b ≡ line_needs axis line nets + e) × (need + b < 2 ^ 63)
need-next axis lines nets line need b e begun ended needs inside is is' sums some few was =
    let is0 : b ≡ get_or begun line 0 = is ∙ get_or_default begun line b 0 (omega (arith, inside, sums.begun_long)) in
    let is1 : e ≡ get_or ended line 0 = is' ∙ get_or_default ended line e 0 (omega (arith, inside, sums.ended_long)) in
    let next = running-next begun ended line need b e (reached_sum axis line nets) (line_needs axis line nets) (passed_sum axis line nets)
    (omega (arith, inside, sums.begun_long)) (omega (arith, inside, sums.ended_long)) is0 is1 was.running (sums.reached line) (sums.passed line) (line-split axis line nets some) in (
      next,
      running-low begun ended line need b e (reached_sum axis line nets) (line_needs axis line nets) (passed_sum axis line nets) next is1 (sums.passed line)
          (line-split axis line nets some) (reached-few axis line nets few),
    )

pub need-more : (axis : Axis) (lines : ℕ) (nets : List Placed) (line need b e : ℕ) (begun ended needs new : List ℕ) → line < lines →
    b ≡ get_or begun line b → e ≡ get_or ended line e → new ≡ needs ++ ((need + b) - e) ∷ [] → AreSums axis lines nets begun ended →
    All (λ (net : Placed). 0 < length net.tiles) nets → sum_by (λ (net : Placed). net.need) nets < 2 ^ 63 → AreNeeds axis nets line need begun ended needs →
    AreNeeds axis nets (line + 1) ((need + b) - e) begun ended new
need-more axis lines nets line need b e begun ended needs new inside is is' pushed sums some few was =
    let next = (need-next axis lines nets line need b e begun ended needs inside is is' sums some few was).0 in
    let is0 : b ≡ get_or begun line 0 = is ∙ get_or_default begun line b 0 (omega (arith, inside, sums.begun_long)) in
    let is1 : e ≡ get_or ended line 0 = is' ∙ get_or_default ended line e 0 (omega (arith, inside, sums.ended_long)) in
    let value : (need + b) - e ≡ line_needs axis line nets = omega (arith, next) in
    let x = sum_by_more (λ (k : ℕ). k) begun line 0 (omega (arith, inside, sums.begun_long)) in
    let y = sum_by_more (λ (k : ℕ). k) ended line 0 (omega (arith, inside, sums.ended_long)) in
    record {
      running = omega (arith, next, is0, is1, x, y, was.running);
      long = ap (λ (xs : List ℕ). length xs) pushed ∙ length_push needs ((need + b) - e) ∙ ap (λ (n : ℕ). n + 1) was.long;
      each = λ k lower. ap (λ (xs : List ℕ). get_or xs k 0) pushed ∙ at k lower value;
    }
  where
    at : (k : ℕ) → k < line + 1 → (need + b) - e ≡ line_needs axis line nets → get_or (needs ++ ((need + b) - e) ∷ []) k 0 ≡ line_needs axis k nets
    at k lower value = elim (cases_lt k line) [
      | inl before ↦ get_or_append_left needs (((need + b) - e) ∷ []) 0 k (omega (arith, before, was.long)) ∙ was.each k before
      | inr past ↦
          let here : line ≡ k = omega (arith, lower, past) in
          get_or_push needs ((need + b) - e) 0 k (was.long ∙ here) ∙ value ∙ ap (λ (n : ℕ). line_needs axis n nets) here
    ]

pub tile-first : (columns : ℕ) → 0 < columns → tile_at columns 0 ≡ record { x = 0; y = 0 }
tile-first columns some =
    let none : 0 ≡ 0 * columns + 0 = omega arith in
    let x = ap (λ (n : ℕ). n % columns) none ∙ mod-mul-add 0 columns 0 some in
    let y = ap (λ (n : ℕ). n / columns) none ∙ div-mul-add 0 columns 0 some in
    ap (λ (n : ℕ). record { x = n; y = 0 / columns }) x ∙ ap (λ (n : ℕ). record { x = 0; y = n }) y

pub line-inside : (g : Shape) (axis : Axis) (n : ℕ) → n < tiles_of g → along axis (tile_at g.columns n) < lines_of g axis
line-inside g Columns n lower = mod_below n g.columns (some_columns g)
line-inside g Rows n lower = div_below n g.columns g.rows (some_columns g) (omega (arith, lower, mul_comm g.columns g.rows))

pub few-tiles : (g : Shape) → tiles_of g ≤ 8388608
few-tiles g = let cells = few_cells g in let more = le-mul_of_pos_right (tiles_of g) (some_layers g) in omega (arith, cells, more)

pub line-long : (g : Shape) (axis : Axis) (wires : TileWires) → length wires.east.items ≡ tiles_of g → length wires.north.items ≡ tiles_of g →
    length (wires_along axis wires) ≡ tiles_of g
line-long g Columns wires east north = east
line-long g Rows wires east north = north

pub few-rows : (g : Shape) → g.rows ≤ 8388608
few-rows g = let tiles = few-tiles g in let more = le-mul_of_pos_right g.rows (some_columns g) in omega (arith, tiles, more, mul_comm g.columns g.rows)

-- what one line's wires hold is part of what all hold
pub along-few : (axis : Axis) (wires : TileWires) (n m : ℕ) → n < m → sum_below (n + 1) (λ t. get_or (wires_along axis wires) t 0) ≤ sum_below m (held_by wires)
along-few axis wires n m lower = le-trans' (part axis) where
  le-trans' : sum_below (n + 1) (λ t. get_or (wires_along axis wires) t 0) ≤ sum_below (n + 1) (held_by wires) → sum_below (n + 1) (λ t. get_or (wires_along axis wires) t 0) ≤ sum_below m (held_by wires)
  le-trans' h = let up = below-up (n + 1) m (held_by wires) (omega (arith, lower)) in omega (arith, h, up)

  part : (axis : Axis) → sum_below (n + 1) (λ t. get_or (wires_along axis wires) t 0) ≤ sum_below (n + 1) (held_by wires)
  part Columns = below-le (n + 1) (λ t. get_or (wires_along Columns wires) t 0) (held_by wires) (λ k lower. omega arith)
  part Rows = below-le (n + 1) (λ t. get_or (wires_along Rows wires) t 0) (held_by wires) (λ k lower. omega arith)
