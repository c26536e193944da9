-- The numbers of boxes, and what nets need of boxes and what these hold.
use Rattle.std.proofs.Common.{◌≡◌, ℕ, ◌+◌, ◌-◌, ◌*◌, ◌/◌, ◌<◌, ◌≤◌, ◌^◌, inl, inr, Bool, true, false, not, ◌&&◌, ◌==◌, List, [], ◌∷◌, All, map, drop, length, get_or, replicate, sum_by, refl, sym, ap, subst, ◌∙◌, arith}
use Rattle.std.specs.List.{list_any, list_all}
use Rattle.std.proofs.lemmas.Bool.{and_parts, cases_Bool, cases_lt, not-true, true≢false}
use Rattle.std.proofs.lemmas.Bool.Decides.{nat_tests}
use Rattle.std.proofs.lemmas.List.{drop_all, get_or_past, length-replicate}
use Rattle.std.proofs.lemmas.List.Elements.{All-head, All-tail}
use Rattle.std.proofs.lemmas.List.Sums.{sum_by-cons}
use Rattle.std.proofs.lemmas.Nat.{div-add-mod', le-div, mul-add-lt, mul-le, pow_pos, shr_le}
use Rattle.gr_base.proofs.GridLemmas.{some_columns, some_rows}
use Rattle.gr_base.specs.declared.grid.Shape.{Shape}
use Rattle.wall_laws.specs.Walls.{is_parted}
use Rattle.cut_bounds.specs.Boxes.{across_of, up_of, boxes_on, box_needs, box_number, is_parted_on, lies_in_one, AreMarked, IsOnChip}
use Rattle.cut_bounds.specs.Crossings.{is_boxed, leads_out}
use Rattle.cut_bounds.specs.Cuts.{tile_at}
use Rattle.cut_bounds.specs.NetTiles.{Placed, placed_by, pins_counted}
use Rattle.cut_bounds.specs.TileWires.{held_by, passing_at, sum_below, tiles_of, where_so}
use Rattle.cut_bounds.specs.declared.axis.Axis.TheVariants.{Columns, Rows}
use Rattle.cut_bounds.specs.declared.tile_wires.TileWires.{TileWires}
use Rattle.gr_base.specs.declared.grid.Way.TheVariants.{East, North}
use Rattle.cut_bounds.specs.declared.axis.Tile.{Tile}
use Rattle.cut_bounds.specs.declared.net_tiles.NetNeed.{NetNeed}
use Rattle.cut_bounds.proofs.CutLemmas.{few-tiles, line-inside}
use Rattle.cut_bounds.proofs.NetLemmas.{IsNext}
use Rattle.cut_bounds.proofs.SumLemmas.{below-le, below-more, below-up, where-le}
use Rattle.cut_bounds.proofs.WireSums.{zeros}

div-up : (m n level : ℕ) → m ≤ n → m / 2 ^ level ≤ n / 2 ^ level
div-up m n level low = le-div (m / 2 ^ level) n (2 ^ level) (pow_pos level) (omega (arith, low, div-add-mod' m (2 ^ level)))

pub box-column-below : (g : Shape) (level : ℕ) (tile : Tile) → IsOnChip g tile → tile.x / 2 ^ level < across_of g level
box-column-below g level tile on =
    let x : tile.x / 2 ^ level ≤ (g.columns - 1) / 2 ^ level = div-up tile.x (g.columns - 1) level (omega (arith, on.column)) in omega (arith, x)

pub number-inside : (g : Shape) (level across : ℕ) (tile : Tile) → across ≡ across_of g level → IsOnChip g tile →
    tile.y / 2 ^ level * across + tile.x / 2 ^ level < boxes_on g level
number-inside g level across tile wide on =
    let x : tile.x / 2 ^ level ≤ (g.columns - 1) / 2 ^ level = div-up tile.x (g.columns - 1) level (omega (arith, on.column)) in
    let y : tile.y / 2 ^ level ≤ (g.rows - 1) / 2 ^ level = div-up tile.y (g.rows - 1) level (omega (arith, on.row)) in
    subst (λ (n : ℕ). tile.y / 2 ^ level * n + tile.x / 2 ^ level < boxes_on g level) (sym wide)
    (mul-add-lt (tile.y / 2 ^ level) (across_of g level) (tile.x / 2 ^ level) (up_of g level) (omega (arith, y)) (omega (arith, x)))

pub count-most : (g : Shape) (level : ℕ) → boxes_on g level ≤ 8388608
count-most g level =
    let x = shr_le (g.columns - 1) level in
    let y = shr_le (g.rows - 1) level in
    let c = some_columns g in
    let r = some_rows g in
    let whole = mul-le (across_of g level) (up_of g level) g.columns g.rows (omega (arith, x, c)) (omega (arith, y, r)) in
    omega (arith, whole, few-tiles g)

-- ---- boxes that part a net

-- a list of numbers that all are its first is parted by no box
all-same : (first n : ℕ) (numbers : List ℕ) → list_all (λ b. b == first) numbers ≡ true →
    (list_any (λ b. b == n) numbers && list_any (λ b. not (b == n)) numbers) ≡ false
all-same first n [] same = refl
all-same first n (b ∷ bs) same = elim (cases_Bool (first == n)) [
  | inl on ↦
      let none : list_any (λ k. not (k == n)) (b ∷ bs) ≡ false = each (b ∷ bs) same on in
      rw none (and-false (list_any (λ k. k == n) (b ∷ bs)))
  | inr off ↦ let none : list_any (λ k. k == n) (b ∷ bs) ≡ false = others (b ∷ bs) same off in rw none refl
] where
  and-false : (b : Bool) → (b && false) ≡ false
  and-false true = refl
  and-false false = refl

  each : (ks : List ℕ) → list_all (λ k. k == first) ks ≡ true → (first == n) ≡ true → list_any (λ k. not (k == n)) ks ≡ false
  each [] same on = refl
  each (k ∷ ks) same on =
      let parts = and_parts (k == first) (list_all (λ j. j == first) ks) same in
      let here : not (k == n) ≡ false = let a = parts.0 in let yes' : (k == n) ≡ true = grind (arith, nat_tests, a, on) in rw yes' refl in
      rw here (each ks parts.1 on)

  others : (ks : List ℕ) → list_all (λ k. k == first) ks ≡ true → (first == n) ≡ false → list_any (λ k. k == n) ks ≡ false
  others [] same off = refl
  others (k ∷ ks) same off =
      let parts = and_parts (k == first) (list_all (λ j. j == first) ks) same in
      let here : (k == n) ≡ false = let a = parts.0 in grind (arith, nat_tests, a, off) in
      rw here (others ks parts.1 off)

pub parted-none : (n : ℕ) (numbers : List ℕ) → lies_in_one numbers ≡ true → is_parted (λ b. b == n) numbers ≡ false
parted-none n numbers same = all-same (get_or numbers 0 0) n numbers same

-- where they are not all the first, a box that has one of them misses another
some-other : (first n : ℕ) (numbers : List ℕ) → list_all (λ b. b == first) numbers ≡ false → (first == n) ≡ true → list_any (λ b. not (b == n)) numbers ≡ true
some-other first n [] same on = absurd (true≢false same)
some-other first n (b ∷ bs) same on = elim (cases_Bool (b == n)) [
  | inl here ↦
      let is : (b == first) ≡ true = grind (arith, nat_tests, here, on) in
      let rest : list_all (λ k. k == first) bs ≡ false = sym (rw is refl) ∙ same in
      let off : not (b == n) ≡ false = rw here refl in
      rw off (some-other first n bs rest on)
  | inr there ↦ rw there refl
]

pub parted-some : (n : ℕ) (numbers : List ℕ) → lies_in_one numbers ≡ false → is_parted (λ b. b == n) numbers ≡ list_any (λ b. b == n) numbers
parted-some n [] same = refl
parted-some n (first ∷ numbers) same = elim (cases_Bool (first == n)) [
  | inl on ↦
      let other = some-other first n (first ∷ numbers) same on in
      rw other (and-true (list_any (λ b. b == n) (first ∷ numbers)))
  | inr off ↦
      let other : list_any (λ b. not (b == n)) (first ∷ numbers) ≡ true = rw off refl in
      rw other (and-true (list_any (λ b. b == n) (first ∷ numbers)))
] where
  and-true : (b : Bool) → (b && true) ≡ b
  and-true true = refl
  and-true false = refl

-- ---- boxes that are marked

pub none-marked : (old marks : List ℕ) (need mark : ℕ) → length marks ≡ length old → ((n : ℕ) → get_or marks n 0 < mark) → AreMarked [] old need mark old marks
none-marked old marks need mark same fresh = record {
  long = refl;
  same = same;
  marked = λ n. let f = fresh n in grind (arith, nat_tests, f);
  below = λ n. let f = fresh n in omega (arith, f);
  needed = λ n. omega arith;
}

-- what a net's numbers leave
pub marked-parted : (numbers old needs marks : List ℕ) (need mark n : ℕ) → lies_in_one numbers ≡ false → AreMarked numbers old need mark needs marks →
    get_or needs n 0 ≡ get_or old n 0 + where_so (is_parted (λ b. b == n) numbers) need
marked-parted numbers old needs marks need mark n many was =
    was.needed n ∙ ap (λ (so : Bool). get_or old n 0 + where_so so need) (sym (parted-some n numbers many))

-- ---- a loop over the nets

-- what is so once the first nets are counted
pub record AreBoxedTo (g : Shape) (level : ℕ) (net_needs : List NetNeed) (at : ℕ) (rest : List Tile) (needs marks : List ℕ) (mark : ℕ) (all : List Placed) : Type 0 where
  pub whole : pins_counted (drop at net_needs) ≡ length rest
  pub parts : All (λ (net : Placed). is_parted_on g level net ≡ true) (placed_by (drop at net_needs) rest)
  pub within : All (λ (net : Placed). All (IsOnChip g) net.tiles) (placed_by (drop at net_needs) rest)
  pub long : length needs ≡ boxes_on g level
  pub same : length marks ≡ boxes_on g level
  pub turn : mark ≡ at
  pub below : (n : ℕ) → get_or marks n 0 ≤ mark
  pub counted : (n : ℕ) → n < boxes_on g level → get_or needs n 0 + box_needs g level n (placed_by (drop at net_needs) rest) ≡ box_needs g level n all

pub no-boxed-to : (g : Shape) (level n m : ℕ) (net_needs : List NetNeed) (tiles rest : List Tile) (needs marks : List ℕ) → rest ≡ tiles →
    pins_counted net_needs ≡ length tiles → All (λ (net : Placed). is_parted_on g level net ≡ true) (placed_by net_needs tiles) →
    All (λ (net : Placed). All (IsOnChip g) net.tiles) (placed_by net_needs tiles) → n ≡ boxes_on g level → m ≡ boxes_on g level →
    needs ≡ replicate n 0 → marks ≡ replicate m 0 →
    AreBoxedTo g level net_needs 0 rest needs marks 0 (placed_by net_needs tiles)
no-boxed-to g level n m net_needs tiles rest needs marks same whole parts within count count' is is' =
    subst (λ (ts : List Tile). AreBoxedTo g level net_needs 0 ts needs marks 0 (placed_by net_needs tiles)) (sym same) (record {
      whole = whole;
      parts = parts;
      within = within;
      long = ap (λ (xs : List ℕ). length xs) is ∙ length-replicate n 0 ∙ count;
      same = ap (λ (xs : List ℕ). length xs) is' ∙ length-replicate m 0 ∙ count';
      turn = refl;
      below = λ k. let e = ap (λ (xs : List ℕ). get_or xs k 0) is' ∙ zeros m k in omega (arith, e);
      counted = λ k lower. let e = ap (λ (xs : List ℕ). get_or xs k 0) is ∙ zeros n k in omega (arith, e);
    })

pub boxed-parts : (g : Shape) (level : ℕ) (net_needs : List NetNeed) (at : ℕ) (net_need : NetNeed) (rest tiles others : List Tile)
    (needs marks : List ℕ) (mark : ℕ) (all : List Placed) → AreBoxedTo g level net_needs at rest needs marks mark all →
    IsNext net_needs at net_need rest tiles others → All (IsOnChip g) tiles × (lies_in_one (map (box_number g level) tiles) ≡ false)
boxed-parts g level net_needs at net_need rest tiles others needs marks mark all was next =
    let net : Placed = record { need = net_need.need; tiles = tiles } in
    let ns : List Placed = placed_by (drop (at + 1) net_needs) others in (
      All-head (λ (p : Placed). All (IsOnChip g) p.tiles) net ns
          (subst (λ (ps : List Placed). All (λ (p : Placed). All (IsOnChip g) p.tiles) ps) next.is was.within),
      not-true (lies_in_one (map (box_number g level) tiles)) (All-head (λ (p : Placed). is_parted_on g level p ≡ true) net ns
          (subst (λ (ps : List Placed). All (λ (p : Placed). is_parted_on g level p ≡ true) ps) next.is was.parts)),
    )

pub box-needs-le : (g : Shape) (level n : ℕ) (nets : List Placed) → box_needs g level n nets ≤ sum_by (λ (net : Placed). net.need) nets
box-needs-le g level n [] = omega arith
box-needs-le g level n (net ∷ nets) =
    let a = sum_by-cons (λ (p : Placed). where_so (is_parted (λ b. b == n) (map (box_number g level) p.tiles)) p.need) net nets in
    let b = sum_by-cons (λ (p : Placed). p.need) net nets in
    omega (arith, a, b, where-le (is_parted (λ b. b == n) (map (box_number g level) net.tiles)) net.need, box-needs-le g level n nets)

pub boxed-small : (g : Shape) (level : ℕ) (net_needs : List NetNeed) (at : ℕ) (rest : List Tile) (needs marks : List ℕ) (mark : ℕ) (all : List Placed) (n : ℕ) →
    AreBoxedTo g level net_needs at rest needs marks mark all → sum_by (λ (net : Placed). net.need) all < 2 ^ 63 → get_or needs n 0 < 2 ^ 63
boxed-small g level net_needs at rest needs marks mark all n was few = elim (cases_lt n (boxes_on g level)) [
  | inl inside ↦ let e = was.counted n inside in omega (arith, e, box-needs-le g level n all, few)
  | inr past ↦ let e = get_or_past needs n 0 (omega (arith, past, was.long)) in omega (arith, e)
]

pub more-boxed-to : (g : Shape) (level : ℕ) (net_needs : List NetNeed) (at : ℕ) (net_need : NetNeed) (rest tiles others : List Tile) (needs marks needs' marks' : List ℕ) (mark mark' need : ℕ) (all : List Placed) →
    AreBoxedTo g level net_needs at rest needs marks mark all → IsNext net_needs at net_need rest tiles others → mark' ≡ mark + 1 → need ≡ net_need.need →
    length needs' ≡ length needs → length marks' ≡ length marks → ((n : ℕ) → get_or marks' n 0 ≤ mark') →
    ((n : ℕ) → n < boxes_on g level → get_or needs' n 0 ≡ get_or needs n 0 + where_so (is_parted (λ b. b == n) (map (box_number g level) tiles)) need) →
    AreBoxedTo g level net_needs (at + 1) others needs' marks' mark' all
more-boxed-to g level net_needs at net_need rest tiles others needs marks needs' marks' mark mark' need all was next up is long long' below step = record {
  whole = next.whole;
  parts = All-tail (λ (net : Placed). is_parted_on g level net ≡ true) record { need = net_need.need; tiles = tiles } (placed_by (drop (at + 1) net_needs) others)
      (subst (λ (ns : List Placed). All (λ (net : Placed). is_parted_on g level net ≡ true) ns) next.is was.parts);
  within = All-tail (λ (net : Placed). All (IsOnChip g) net.tiles) record { need = net_need.need; tiles = tiles } (placed_by (drop (at + 1) net_needs) others)
      (subst (λ (ns : List Placed). All (λ (net : Placed). All (IsOnChip g) net.tiles) ns) next.is was.within);
  long = long ∙ was.long;
  same = long' ∙ was.same;
  turn = up ∙ ap (λ (n : ℕ). n + 1) was.turn;
  below = below;
  counted = λ n inside.
      let old = was.counted n inside in
      let split = ap (λ (ns : List Placed). box_needs g level n ns) next.is
      ∙ sum_by-cons (λ (p : Placed). where_so (is_parted (λ b. b == n) (map (box_number g level) p.tiles)) p.need) record { need = net_need.need; tiles = tiles } (placed_by (drop (at + 1) net_needs) others) in
      let e = step n inside in
      let w = ap (λ (m : ℕ). where_so (is_parted (λ b. b == n) (map (box_number g level) tiles)) m) is in
      omega (arith, old, split, e, w);
}

pub all-boxed : (g : Shape) (level : ℕ) (net_needs : List NetNeed) (at : ℕ) (rest : List Tile) (needs marks : List ℕ) (mark : ℕ) (all : List Placed) (n : ℕ) → length net_needs ≤ at →
    AreBoxedTo g level net_needs at rest needs marks mark all → n < boxes_on g level → get_or needs n 0 ≡ box_needs g level n all
all-boxed g level net_needs at rest needs marks mark all n past was inside =
    let none : placed_by (drop at net_needs) rest ≡ [] = ap (λ (cs : List NetNeed). placed_by cs rest) (drop_all at net_needs past) in
    let e = ap (λ (ns : List Placed). box_needs g level n ns) none in
    let old = was.counted n inside in
    omega (arith, e, old)

-- ---- what boxes hold, tile by tile

-- what the wires hold that lead from the first tiles out of a box or into it
abbrev pub held_to : Shape → ℕ → ℕ → TileWires → ℕ → ℕ
held_to g level n wires number =
    sum_below number (passing_at (λ way k. leads_out g (is_boxed g level n) way (tile_at g.columns k)) wires)

pub held-more : (g : Shape) (level n number columns old new : ℕ) (wires : TileWires) (tile : Tile) → columns ≡ g.columns → tile ≡ tile_at columns number →
    old ≡ held_to g level n wires number → new ≡ old + passing_at (λ way at. leads_out g (is_boxed g level n) way tile) wires number →
    new ≡ held_to g level n wires (number + 1)
held-more g level n number columns old new wires tile wide is was step =
    let f = passing_at (λ way k. leads_out g (is_boxed g level n) way (tile_at g.columns k)) wires in
    let more = below-more number f in
    let here = ap (λ (t : Tile). passing_at (λ way at. leads_out g (is_boxed g level n) way t) wires number) (is ∙ ap (λ (m : ℕ). tile_at m number) wide) in
    omega (arith, was, step, more, here)

-- there is room for what a tile's wires hold
pub held-room : (g : Shape) (level : ℕ) (holds : List ℕ) (wires : TileWires) (number n : ℕ) → length holds ≡ boxes_on g level → number < tiles_of g →
    sum_below (tiles_of g) (held_by wires) < 2 ^ 62 → ((k : ℕ) → k < boxes_on g level → get_or holds k 0 ≡ held_to g level k wires number) →
    get_or holds n 0 + held_by wires number < 2 ^ 63
held-room g level holds wires number n long inside few was =
    let up = below-up (number + 1) (tiles_of g) (held_by wires) (omega (arith, inside)) in
    let more = below-more number (held_by wires) in
    elim (cases_lt n (boxes_on g level)) [
      | inl lower ↦
          let e = was n lower in
          let low = below-le number (passing_at (λ way k. leads_out g (is_boxed g level n) way (tile_at g.columns k)) wires) (held_by wires)
          (λ k under.
          let a = where-le (leads_out g (is_boxed g level n) East (tile_at g.columns k)) (get_or wires.east.items k 0) in
          let b = where-le (leads_out g (is_boxed g level n) North (tile_at g.columns k)) (get_or wires.north.items k 0) in
          omega (arith, a, b)) in
          omega (arith, e, low, up, more, few)
      | inr past ↦ let e = get_or_past holds n 0 (omega (arith, past, long)) in omega (arith, e, up, more, few)
    ]

pub tile-on-chip : (g : Shape) (number columns : ℕ) (tile : Tile) → columns ≡ g.columns → tile ≡ tile_at columns number → number < tiles_of g → IsOnChip g tile
tile-on-chip g number columns tile wide is inside =
    subst (λ (t : Tile). IsOnChip g t) (sym (is ∙ ap (λ (m : ℕ). tile_at m number) wide))
    (record { column = line-inside g Columns number inside; row = line-inside g Rows number inside })
