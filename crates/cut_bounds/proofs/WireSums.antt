-- Sums over the wire edges of a grid, by the cells that they lead from, and what tiles hold of them.
use Rattle.std.proofs.Common.{◌≡◌, ℕ, suc, zero, ◌+◌, ◌*◌, ◌%◌, ◌<◌, ◌≤◌, ◌^◌, ◌⊎◌, inl, inr, Bool, true, false, ◌==◌, List, length, get_or, replicate, sum_by, refl, sym, ap, subst, ◌∙◌, arith}
use Rattle.std.specs.List.{range_with_len}
use Rattle.std.proofs.Math.Arith.{mod-mul}
use Rattle.std.proofs.Math.Nat.{mul_comm, mul-pos}
use Rattle.std.proofs.lemmas.Bool.{cases_Bool, cases_lt}
use Rattle.std.proofs.lemmas.Bool.Decides.{nat_tests}
use Rattle.std.proofs.lemmas.List.{get_or-replicate, get_or_past, length-replicate}
use Rattle.std.proofs.lemmas.Nat.{mod_below}
use Rattle.gr_base.proofs.GridLemmas.{some_columns, some_rows}
use Rattle.gr_base.specs.Capacities.{capacity}
use Rattle.gr_base.specs.Designs.{DesignView}
use Rattle.gr_base.specs.Grid.{cells_of, edge_at, has_edge, is_wire_way, place_at}
use Rattle.gr_base.specs.Limits.{most_capacity}
use Rattle.gr_base.specs.Sums.{wire_at, wire_edges, wires_from_cells}
use Rattle.gr_base.specs.declared.grid.Cell.{Cell}
use Rattle.gr_base.specs.declared.grid.Edge.{Edge}
use Rattle.gr_base.specs.declared.grid.Shape.{Shape}
use Rattle.gr_base.specs.declared.grid.Way.{Way}
use Rattle.gr_base.specs.declared.grid.Way.TheVariants.{East, North}
use Rattle.grid_demand.proofs.CapacityLemmas.{capacity-table}
use Rattle.grid_demand.proofs.WireLemmas.{wire_at-east, wire_at-north}
use Rattle.grid_demand.specs.Tables.{CapacityView, capacity_of}
use Rattle.wall_laws.proofs.SumLemmas.{sum-filter, sum-map}
use Rattle.wall_laws.specs.Spans.{tile_number}
use Rattle.cut_bounds.specs.TileWires.{sum_below, tiles_of, where_so, gained, edge_holds, AreTileWires}
use Rattle.cut_bounds.specs.declared.tile_wires.TileWires.{TileWires}
use Rattle.cut_bounds.proofs.SumLemmas.{below-more, below-change, below-zero, gained-at, length-gained, where-le, where-no}

-- the tile of a cell, by its row and its column
pub tile-number : (g : Shape) (cell : ℕ) → (place_at g cell).y * g.columns + (place_at g cell).x ≡ tile_number g cell
tile-number g cell =
    sym (mod-mul cell {m = g.rows} {c = g.columns} (some_rows g) (some_columns g)) ∙ ap (λ (n : ℕ). cell % n) (mul_comm g.rows g.columns)

-- what f gives for the wire edges that lead from a cell
abbrev pub from_cell : Shape → (Edge → ℕ) → ℕ → ℕ
from_cell g f cell =
    where_so (has_edge g (edge_at cell East)) (f (edge_at cell East)) + where_so (has_edge g (edge_at cell North)) (f (edge_at cell North))

wires-below : (g : Shape) (f : Edge → ℕ) (m : ℕ) →
    sum_below (2 * m) (λ n. where_so (has_edge g (wire_at n)) (f (wire_at n))) ≡ sum_below m (from_cell g f)
wires-below g f zero = refl
wires-below g f (suc m) =
    let h : ℕ → ℕ = λ n. where_so (has_edge g (wire_at n)) (f (wire_at n)) in
    let more : 2 * suc m ≡ (2 * m + 1) + 1 = omega arith in
    let one : suc m ≡ m + 1 = omega arith in
    let a = ap (λ (k : ℕ). sum_below k h) more in
    let b = ap (λ (k : ℕ). sum_below k (from_cell g f)) one in
    let east : h (2 * m) ≡ where_so (has_edge g (edge_at m East)) (f (edge_at m East)) =
    ap (λ (e : Edge). where_so (has_edge g e) (f e)) (wire_at-east m) in
    let north : h (2 * m + 1) ≡ where_so (has_edge g (edge_at m North)) (f (edge_at m North)) =
    ap (λ (e : Edge). where_so (has_edge g e) (f e)) (wire_at-north m) in
    omega (arith, a, b, below-more (2 * m + 1) h, below-more (2 * m) h, below-more m (from_cell g f), east, north, wires-below g f m)

pub wires-sum : (g : Shape) (f : Edge → ℕ) → sum_by f (wire_edges g) ≡ sum_below (cells_of g) (from_cell g f)
wires-sum g f =
    sum-filter f (has_edge g) (wires_from_cells g)
    ∙ sum-map (λ e. where_so (has_edge g e) (f e)) wire_at (range_with_len 0 (2 * cells_of g))
    ∙ wires-below g f (cells_of g)

-- ---- tiles gain what the edges of a cell hold

where-swap : (p q : Bool) (n : ℕ) → where_so p (where_so q n) ≡ where_so q (where_so p n)
where-swap true true n = refl
where-swap true false n = refl
where-swap false true n = refl
where-swap false false n = refl

where-gain : (p q : Bool) (a m : ℕ) → where_so p (a + where_so q m) ≡ where_so p a + where_so q (where_so p m)
where-gain true true a m = refl
where-gain true false a m = refl
where-gain false true a m = refl
where-gain false false a m = refl

gain-passes : (passes : ℕ → Bool) (held : List ℕ) (tile more k : ℕ) → tile < length held →
    where_so (passes k) (get_or (gained held tile more) k 0)
    ≡ where_so (passes k) (get_or held k 0) + where_so (k == tile) (where_so (passes tile) more)
gain-passes passes held tile more k lower =
    ap (λ (n : ℕ). where_so (passes k) n) (gained-at held tile more k lower)
    ∙ where-gain (passes k) (k == tile) (get_or held k 0) more
    ∙ ap (λ (n : ℕ). where_so (passes k) (get_or held k 0) + n) (there (cases_Bool (k == tile)))
  where
    there : ((k == tile) ≡ true) ⊎ ((k == tile) ≡ false) →
        where_so (k == tile) (where_so (passes k) more) ≡ where_so (k == tile) (where_so (passes tile) more)
    there (inl on) = let is : k ≡ tile = grind (arith, nat_tests, on) in ap (λ (j : ℕ). where_so (k == tile) (where_so (passes j) more)) is
    there (inr off) = where-no (k == tile) (where_so (passes k) more) off ∙ sym (where-no (k == tile) (where_so (passes tile) more) off)

-- what tiles hold of those that pass, by two lists
abbrev pub held_at : (Way → ℕ → Bool) → (east north : List ℕ) → ℕ → ℕ
held_at passes east north tile = where_so (passes East tile) (get_or east tile 0) + where_so (passes North tile) (get_or north tile 0)

pub cell-gained : (passes : Way → ℕ → Bool) (east north : List ℕ) (tiles tile e n : ℕ) →
    length east ≡ tiles → length north ≡ tiles → tile < tiles →
    sum_below tiles (held_at passes (gained east tile e) (gained north tile n))
    ≡ sum_below tiles (held_at passes east north) + (where_so (passes East tile) e + where_so (passes North tile) n)
cell-gained passes east north tiles tile e n long high lower =
    below-change tiles tile (where_so (passes East tile) e + where_so (passes North tile) n) (held_at passes east north)
    (held_at passes (gained east tile e) (gained north tile n)) lower
    (λ k under.
    let a = gain-passes (passes East) east tile e k (omega (arith, long, lower)) in
    let b = gain-passes (passes North) north tile n k (omega (arith, high, lower)) in
    let both = join (k == tile) (where_so (passes East tile) e) (where_so (passes North tile) n) in
    omega (arith, a, b, both))
  where
    join : (so : Bool) (m n : ℕ) → where_so so (m + n) ≡ where_so so m + where_so so n
    join true m n = refl
    join false m n = refl

nothing : (so : Bool) → where_so so 0 ≡ 0
nothing true = refl
nothing false = refl

-- what those of a cell hold that pass, as the sum over the wire edges has them
pub cell-passes : (d : DesignView) (passes : Way → ℕ → Bool) (cell : ℕ) →
    where_so (passes East (tile_number d.frame.shape cell)) (edge_holds (capacity_of d) (edge_at cell East))
    + where_so (passes North (tile_number d.frame.shape cell)) (edge_holds (capacity_of d) (edge_at cell North))
    ≡ from_cell d.frame.shape (λ e. where_so (passes e.way (tile_number d.frame.shape e.low)) (capacity d e)) cell
cell-passes d passes cell = let a = one East refl in let b = one North refl in omega (arith, a, b) where
  one : (way : Way) → is_wire_way way ≡ true →
      where_so (passes way (tile_number d.frame.shape cell)) (edge_holds (capacity_of d) (edge_at cell way))
      ≡ where_so (has_edge d.frame.shape (edge_at cell way)) (where_so (passes way (tile_number d.frame.shape cell)) (capacity d (edge_at cell way)))
  one way wire = elim (cases_Bool (has_edge d.frame.shape (edge_at cell way))) [
    | inl on ↦
        ap (λ (n : ℕ). where_so (passes way (tile_number d.frame.shape cell)) (where_so (has_edge d.frame.shape (edge_at cell way)) n))
        (capacity-table d (edge_at cell way) on wire)
        ∙ where-swap (passes way (tile_number d.frame.shape cell)) (has_edge d.frame.shape (edge_at cell way)) (capacity d (edge_at cell way))
    | inr off ↦
        ap (λ (n : ℕ). where_so (passes way (tile_number d.frame.shape cell)) n) (where-no (has_edge d.frame.shape (edge_at cell way)) _ off)
        ∙ nothing (passes way (tile_number d.frame.shape cell))
        ∙ sym (where-no (has_edge d.frame.shape (edge_at cell way)) (where_so (passes way (tile_number d.frame.shape cell)) (capacity d (edge_at cell way))) off)
  ]

-- the same, as the code reads it
pub tile-is : (g h : Shape) (cell columns : ℕ) (place : Cell) → h ≡ g → columns ≡ h.columns → place ≡ place_at h cell →
    place.y * columns + place.x ≡ tile_number g cell
tile-is g h cell columns place shape wide is =
    ap (λ (p : Cell). p.y * columns + p.x) is
    ∙ ap (λ (n : ℕ). (place_at h cell).y * n + (place_at h cell).x) wide
    ∙ tile-number h cell
    ∙ ap (λ (s : Shape). tile_number s cell) shape

-- ---- cell by cell

-- what tiles hold of the wires that lead from the first cells
pub record AreSoFar (d : DesignView) (cells : ℕ) (east north : List ℕ) : Type 0 where
  pub long : length east ≡ tiles_of d.frame.shape
  pub high : length north ≡ tiles_of d.frame.shape
  pub few_east : (tile : ℕ) → get_or east tile 0 ≤ cells * most_capacity
  pub few_north : (tile : ℕ) → get_or north tile 0 ≤ cells * most_capacity
  pub passing : (passes : Way → ℕ → Bool) → sum_below (tiles_of d.frame.shape) (held_at passes east north)
      ≡ sum_below cells (from_cell d.frame.shape (λ e. where_so (passes e.way (tile_number d.frame.shape e.low)) (capacity d e)))

pub zeros : (n k : ℕ) → get_or {A = ℕ} (replicate n 0) k 0 ≡ 0
zeros n k = elim (cases_lt k n) [
  | inl lower ↦ get_or-replicate n k 0 0 lower
  | inr past ↦ get_or_past (replicate n 0) k 0 (omega (arith, past, length-replicate {A = ℕ} n 0))
]

pub none-so-far : (d : DesignView) (g : Shape) (columns rows : ℕ) (east north : List ℕ) → g ≡ d.frame.shape →
    columns ≡ g.columns → rows ≡ g.rows → east ≡ replicate (columns * rows) 0 → north ≡ replicate (columns * rows) 0 → AreSoFar d 0 east north
none-so-far d g columns rows east north same wide high' is is' =
    let size : columns * rows ≡ tiles_of d.frame.shape =
    ap (λ (n : ℕ). n * rows) wide ∙ ap (λ (n : ℕ). g.columns * n) high' ∙ ap (λ (s : Shape). s.columns * s.rows) same in
    let at : (xs : List ℕ) → xs ≡ replicate (columns * rows) 0 → (k : ℕ) → get_or xs k 0 ≡ 0 =
    λ xs e k. ap (λ (ys : List ℕ). get_or ys k 0) e ∙ zeros (columns * rows) k in
    record {
      long = ap (λ (xs : List ℕ). length xs) is ∙ length-replicate (columns * rows) 0 ∙ size;
      high = ap (λ (xs : List ℕ). length xs) is' ∙ length-replicate (columns * rows) 0 ∙ size;
      few_east = λ tile. let e = at east is tile in omega (arith, e);
      few_north = λ tile. let e = at north is' tile in omega (arith, e);
      passing = λ passes. below-zero (tiles_of d.frame.shape) (held_at passes east north) (λ k lower.
          let a = ap (λ (n : ℕ). where_so (passes East k) n) (at east is k) ∙ nothing (passes East k) in
          let b = ap (λ (n : ℕ). where_so (passes North k) n) (at north is' k) ∙ nothing (passes North k) in
          omega (arith, a, b));
    }

gained-few : (xs new : List ℕ) (tile more cells k : ℕ) → tile < length xs → new ≡ gained xs tile more → more ≤ most_capacity →
    get_or xs k 0 ≤ cells * most_capacity → get_or new k 0 ≤ (cells + 1) * most_capacity
gained-few xs new tile more cells k lower is few old =
    let e = ap (λ (ys : List ℕ). get_or ys k 0) is ∙ gained-at xs tile more k lower in
    let w = where-le (k == tile) more in
    omega (arith, e, w, few, old)

pub more-so-far : (d : DesignView) (c : CapacityView) (cell : ℕ) (east north east' north' : List ℕ) → c ≡ capacity_of d → AreSoFar d cell east north →
    east' ≡ gained east (tile_number c.shape cell) (edge_holds c (edge_at cell East)) →
    north' ≡ gained north (tile_number c.shape cell) (edge_holds c (edge_at cell North)) →
    edge_holds c (edge_at cell East) ≤ most_capacity → edge_holds c (edge_at cell North) ≤ most_capacity →
    AreSoFar d (cell + 1) east' north'
more-so-far d c cell east north east' north' of was is is' few few' =
    let g = d.frame.shape in
    let tile : ℕ = tile_number c.shape cell in
    let same : tile ≡ tile_number g cell = ap (λ (v : CapacityView). tile_number v.shape cell) of in
    let lower : tile < tiles_of g = subst (λ (n : ℕ). n < tiles_of g) (sym same) (mod_below cell (tiles_of g) (mul-pos (some_columns g) (some_rows g))) in
    record {
      long = ap (λ (xs : List ℕ). length xs) is ∙ length-gained east tile (edge_holds c (edge_at cell East)) ∙ was.long;
      high = ap (λ (xs : List ℕ). length xs) is' ∙ length-gained north tile (edge_holds c (edge_at cell North)) ∙ was.high;
      few_east = λ k. gained-few east east' tile (edge_holds c (edge_at cell East)) cell k (omega (arith, lower, was.long)) is few (was.few_east k);
      few_north = λ k. gained-few north north' tile (edge_holds c (edge_at cell North)) cell k (omega (arith, lower, was.high)) is' few' (was.few_north k);
      passing = λ passes.
          let f : Edge → ℕ = λ e. where_so (passes e.way (tile_number g e.low)) (capacity d e) in
          ap (λ (xs : List ℕ). sum_below (tiles_of g) (held_at passes xs north')) is
          ∙ ap (λ (xs : List ℕ). sum_below (tiles_of g) (held_at passes (gained east tile (edge_holds c (edge_at cell East))) xs)) is'
          ∙ cell-gained passes east north (tiles_of g) tile (edge_holds c (edge_at cell East)) (edge_holds c (edge_at cell North)) was.long was.high lower
          ∙ ap (λ (n : ℕ). sum_below (tiles_of g) (held_at passes east north) + n)
          (ap (λ (v : CapacityView). where_so (passes East (tile_number v.shape cell)) (edge_holds v (edge_at cell East))
          + where_so (passes North (tile_number v.shape cell)) (edge_holds v (edge_at cell North))) of ∙ cell-passes d passes cell)
          ∙ ap (λ (n : ℕ). n + from_cell g f cell) (was.passing passes)
          ∙ sym (below-more cell (from_cell g f));
    }

-- the sum of both is far below 2^62, and after all cells they are what the design's wires hold
pub room-so-far : (d : DesignView) (cell : ℕ) (east north : List ℕ) (tile : ℕ) → cell ≤ 8388608 → AreSoFar d cell east north →
    get_or east tile 0 + get_or north tile 0 < 2 ^ 62
room-so-far d cell east north tile few was = let a = was.few_east tile in let b = was.few_north tile in omega (arith, a, b, few)

pub all-so-far : (d : DesignView) (cell : ℕ) (wires : TileWires) → cell ≡ cells_of d.frame.shape → AreSoFar d cell wires.east.items wires.north.items →
    AreTileWires d wires
all-so-far d cell wires all was = record {
  east = was.long;
  north = was.high;
  passing = λ passes.
      let f : Edge → ℕ = λ e. where_so (passes e.way (tile_number d.frame.shape e.low)) (capacity d e) in
      was.passing passes ∙ ap (λ (n : ℕ). sum_below n (from_cell d.frame.shape f)) all ∙ sym (wires-sum d.frame.shape f);
}
