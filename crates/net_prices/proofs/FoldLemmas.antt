-- Edges of a grid whose layers are taken as one.
use Rattle.std.proofs.Common.{◌≡◌, ℕ, ◌+◌, ◌*◌, ◌<◌, ◌≤◌, ◌&&◌, inl, inr, ◌||◌, ◌==◌, nat_lt, Bool, true, false, List, [], ◌∷◌, map, slice_index, All, IsTrue, if◌then◌else◌, refl, sym, ap, subst, ◌∙◌, arith}
use Rattle.std.proofs.lemmas.Bool.{cases_Bool, false≢true}
use Rattle.std.proofs.lemmas.Bool.Decides.{nat_tests}
use Rattle.std.proofs.lemmas.List.Elements.{All-map, All-weaker}
use Rattle.gr_base.specs.Grid.{cells_of, number_of, place_at, beyond, edge_at, has_edge, has_room, high_of, is_wire, stride, IsInside}
use Rattle.gr_base.specs.Trees.{is_among}
use Rattle.gr_base.specs.declared.grid.Cell.{Cell}
use Rattle.gr_base.specs.declared.grid.Edge.{Edge}
use Rattle.gr_base.specs.declared.grid.Shape.{Shape}
use Rattle.gr_base.specs.declared.grid.Way.{Way}
use Rattle.gr_base.specs.declared.grid.Way.TheVariants.{East, North, Up}
use Rattle.gr_base.proofs.GridLemmas.{edge-low, edge-room, number-below, place-high, place-inside, place-number}
use Rattle.net_prices.specs.Arcs.{arc_of, arcs_in, nothing, AreLower}
use Rattle.net_prices.specs.Folds.{folded, tile_of, IsFoldOf}

-- the cell of the first layer at a place
abbrev lowest : Cell → Cell
lowest cell = record { x = cell.x; y = cell.y; layer = 0 }

tile-beyond : (g : Shape) (e : Edge) → IsTrue (has_edge g e) → tile_of g (high_of g e) ≡ number_of g (lowest (beyond (place_at g e.low) e.way))
tile-beyond g e edge = ap (λ (cell : Cell). number_of g (lowest cell)) (place-high g e edge)

-- the ends of a via stand in one cell
pub via-tile : (g : Shape) (e : Edge) → IsTrue (has_edge g e) → is_wire e ≡ false → tile_of g (high_of g e) ≡ tile_of g e.low
via-tile g e edge via = tile-beyond g e edge ∙ by (place_at g e.low) e.way via
  where
    by : (cell : Cell) (way : Way) → is_wire (edge_at 0 way) ≡ false → number_of g (lowest (beyond cell way)) ≡ number_of g (lowest cell)
    by cell East wire = absurd (false≢true (sym wire))
    by cell North wire = absurd (false≢true (sym wire))
    by cell Up wire = refl

module _ (g small : Shape) (columns : small.columns ≡ g.columns) (rows : small.rows ≡ g.rows) (layers : small.layers ≡ 1) where
  lowest-inside : (n : ℕ) → n < cells_of g → IsInside small (lowest (place_at g n))
  lowest-inside n below =
      let inside = place-inside g n below in
      record {
        column = subst (λ (k : ℕ). (place_at g n).x < k) (sym columns) inside.column;
        row = subst (λ (k : ℕ). (place_at g n).y < k) (sym rows) inside.row;
        layer = omega (arith, layers);
      }

  lowest-number : (cell : Cell) → number_of small (lowest cell) ≡ number_of g (lowest cell)
  lowest-number cell =
      ap (λ (k : ℕ). (0 * k + cell.y) * small.columns + cell.x) rows ∙ ap (λ (k : ℕ). (0 * g.rows + cell.y) * k + cell.x) columns

  pub tile-below : (n : ℕ) → n < cells_of g → tile_of g n < cells_of small
  tile-below n below =
      subst (λ (k : ℕ). k < cells_of small) (lowest-number (place_at g n)) (number-below small (lowest (place_at g n)) (lowest-inside n below))

  tile-place : (n : ℕ) → n < cells_of g → place_at small (tile_of g n) ≡ lowest (place_at g n)
  tile-place n below =
      subst (λ (k : ℕ). place_at small k ≡ lowest (place_at g n)) (lowest-number (place_at g n))
      (place-number small (lowest (place_at g n)) (lowest-inside n below))

  room-same : (cell : Cell) (way : Way) → is_wire (edge_at 0 way) ≡ true → IsTrue (has_room g cell way) → IsTrue (has_room small (lowest cell) way)
  room-same cell East wire room = subst (λ (k : ℕ). IsTrue (nat_lt (cell.x + 1) k)) (sym columns) room
  room-same cell North wire room = subst (λ (k : ℕ). IsTrue (nat_lt (cell.y + 1) k)) (sym rows) room
  room-same cell Up wire room = absurd (false≢true wire)

  -- a wire edge stands in an edge
  pub wire-edge : (e : Edge) → IsTrue (has_edge g e) → is_wire e ≡ true → IsTrue (has_edge small (edge_at (tile_of g e.low) e.way))
  wire-edge e edge wire =
      let low = edge-low g e edge in
      let below : IsTrue (nat_lt (tile_of g e.low) (cells_of small)) = let v = tile-below e.low low in grind (arith, nat_tests) in
      let room : IsTrue (has_room small (place_at small (tile_of g e.low)) e.way) =
      subst (λ (cell : Cell). IsTrue (has_room small cell e.way)) (sym (tile-place e.low low)) (room-same (place_at g e.low) e.way wire (edge-room g e edge)) in
      both (nat_lt (tile_of g e.low) (cells_of small)) (has_room small (place_at small (tile_of g e.low)) e.way) below room
    where
      both : (a b : Bool) → a ≡ true → b ≡ true → (a && b) ≡ true
      both true true one two = refl
      both true false one two = two
      both false b one two = one

  -- which ends where the wire edge's end stands
  pub wire-high : (e : Edge) → IsTrue (has_edge g e) → is_wire e ≡ true → high_of small (edge_at (tile_of g e.low) e.way) ≡ tile_of g (high_of g e)
  wire-high e edge wire = by (place_at g e.low) e.way wire ∙ sym (tile-beyond g e edge)
    where
      by : (cell : Cell) (way : Way) → is_wire (edge_at 0 way) ≡ true → number_of g (lowest cell) + stride small way ≡ number_of g (lowest (beyond cell way))
      by cell East wire = omega arith
      by cell North wire = let e = columns in omega arith
      by cell Up wire = absurd (false≢true wire)

pub edge-stands : (flat : Bool) → flat ≡ true → (g small : Shape) → IsFoldOf flat g small → (e : Edge) → IsTrue (has_edge g e) → is_wire e ≡ true → (low : ℕ) →
    low ≡ folded flat g e.low → IsTrue (has_edge small (edge_at low e.way))
edge-stands false is g small fold e edge wire low stands = absurd (false≢true is)
edge-stands true is g small fold e edge wire low stands =
    subst (λ (n : ℕ). IsTrue (has_edge small (edge_at n e.way))) (sym stands) (wire-edge g small fold.columns fold.rows (fold.one refl) e edge wire)

-- a pin stands where one of some cells stands
pub among-folds : (f : ℕ → ℕ) (cells : List ℕ) (n : ℕ) → IsTrue (is_among (map f cells) n) → (cell : ℕ) × (IsTrue (is_among cells cell) × (f cell ≡ n))
among-folds f [] n among = absurd (false≢true among)
among-folds f (cell ∷ cells) n among =
    elim (cases_Bool (f cell == n)) [
      | inl is ↦ (cell, (here cell cells, grind (arith, nat_tests)))
      | inr isnt ↦
          let later = among-folds f cells n (past (f cell == n) (is_among (map f cells) n) isnt among) in
          (later.0, (behind cell cells later.0 later.1.0, later.1.1))
    ]
  where
    here : (cell : ℕ) (cells : List ℕ) → IsTrue (is_among (cell ∷ cells) cell)
    here cell cells = grind (arith, nat_tests)

    past : (a b : Bool) → a ≡ false → (a || b) ≡ true → b ≡ true
    past true b isnt is = absurd (false≢true (sym isnt))
    past false b isnt is = is

    either : (a b : Bool) → b ≡ true → (a || b) ≡ true
    either true b is = refl
    either false b is = is

    behind : (cell : ℕ) (cells : List ℕ) (n : ℕ) → IsTrue (is_among cells n) → IsTrue (is_among (cell ∷ cells) n)
    behind cell cells n among = either (cell == n) (is_among cells n) among

-- each cell stands in one
pub folded-below : (flat : Bool) (g small : Shape) → IsFoldOf flat g small → (n : ℕ) → n < cells_of g → folded flat g n < cells_of small
folded-below true g small fold n below = tile-below g small fold.columns fold.rows (fold.one refl) n below
folded-below false g small fold n below = subst (λ (s : Shape). n < cells_of s) (sym (fold.same refl)) below

pub folds-below : (flat : Bool) (g small : Shape) → IsFoldOf flat g small → (cells folds : List ℕ) → All (λ cell. cell < cells_of g) cells →
    folds ≡ map (folded flat g) cells → All (λ cell. cell < cells_of small) folds
folds-below flat g small fold cells folds below are =
    subst (λ (xs : List ℕ). All (λ cell. cell < cells_of small) xs) (sym are)
    (All-map (λ cell. cell < cells_of small) (folded flat g) cells
    (All-weaker (λ cell. cell < cells_of g) (λ cell. folded flat g cell < cells_of small) (folded-below flat g small fold) cells below))

-- where no number of a table is above the one of another, no arc has more
pub arcs-lower : (flat : Bool) (g small : Shape) (old new : List ℕ) → AreLower old new → (e : Edge) (up : Bool) →
    arcs_in flat g small new e up ≤ arcs_in flat g small old e up
arcs-lower true g small old new lower e up =
    if-lower (is_wire e) (slice_index new (arc_of small (edge_at (tile_of g e.low) e.way) up)) (slice_index old (arc_of small (edge_at (tile_of g e.low) e.way) up))
    (lower.each (arc_of small (edge_at (tile_of g e.low) e.way) up))
  where
    if-lower : (wire : Bool) (new old : ℕ) → new ≤ old → (if wire then new else 0) ≤ (if wire then old else 0)
    if-lower true new old low = low
    if-lower false new old low = omega arith
arcs-lower false g small old new lower e up = lower.each (arc_of small e up)

-- what is put in for the arcs of an edge, by where it stands
module _ (g small : Shape) (table : List ℕ) (e : Edge) (price most : ℕ) (low : price ≤ most) (some : price < nothing) where
  pub priced-as-is : (flat : Bool) → flat ≡ false → ((up : Bool) → slice_index table (arc_of small e up) ≤ price) → (up : Bool) →
      (arcs_in flat g small table e up ≤ most) × (arcs_in flat g small table e up < nothing)
  priced-as-is true is put up = absurd (false≢true (sym is))
  priced-as-is false is put up = let v = put up in (omega (arith, v, low), omega (arith, v, some))

  pub priced-wire : (flat : Bool) → flat ≡ true → (under : Edge) → under ≡ edge_at (tile_of g e.low) e.way → is_wire e ≡ true →
      ((up : Bool) → slice_index table (arc_of small under up) ≤ price) → (up : Bool) →
      (arcs_in flat g small table e up ≤ most) × (arcs_in flat g small table e up < nothing)
  priced-wire false is under stands wire put up = absurd (false≢true is)
  priced-wire true is under stands wire put up =
      let f : Edge = edge_at (tile_of g e.low) e.way in
      let v : slice_index table (arc_of small f up) ≤ price = subst (λ (n : Edge). slice_index table (arc_of small n up) ≤ price) stands (put up) in
      by (is_wire e) (slice_index table (arc_of small f up)) wire v
    where
      by : (wire : Bool) (asked : ℕ) → wire ≡ true → asked ≤ price → ((if wire then asked else 0) ≤ most) × ((if wire then asked else 0) < nothing)
      by true asked is few = (omega (arith, few, low), omega (arith, few, some))
      by false asked is few = absurd (false≢true is)

  pub priced-via : (flat : Bool) → flat ≡ true → is_wire e ≡ false → (up : Bool) →
      (arcs_in flat g small table e up ≤ most) × (arcs_in flat g small table e up < nothing)
  priced-via false is via up = absurd (false≢true is)
  priced-via true is via up = by (is_wire e) (slice_index table (arc_of small (edge_at (tile_of g e.low) e.way) up)) via
    where
      by : (wire : Bool) (asked : ℕ) → wire ≡ false → ((if wire then asked else 0) ≤ most) × ((if wire then asked else 0) < nothing)
      by true asked is = absurd (false≢true (sym is))
      by false asked is = (omega arith, omega arith)
