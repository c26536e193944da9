-- The centre of a cell lies in the cell's tile, and its numbers are small.
use Rattle.std.specs.Prelude.{nat_abs, ◌≤ℤ◌, ◌-ℤ◌}
use Rattle.std.proofs.Common.{◌≡◌, ℕ, ◌+◌, ◌-◌, ◌*◌, ◌/◌, ◌^◌, ◌<◌, ◌≤◌, Bool, true, ◌&&◌, nat_lt, nat_le, min, ℤ, pos, negsuc, Some, Ok, refl, ap, ◌∙◌, arith}
use Rattle.std.specs.Option.{option_and_then}
use Rattle.std.proofs.Math.Nat.{mul-le-mul_right, mul-le-mul_left}
use Rattle.std.proofs.lemmas.Bool.{and_from, le-leb}
use Rattle.std.proofs.lemmas.Bool.Decides.{nat_tests}
use Rattle.std.proofs.lemmas.Int.{ints}
use Rattle.std.proofs.lemmas.Nat.{div-mul-add}
use Rattle.gr_base.specs.declared.frame.Frame.{Frame}
use Rattle.gr_base.specs.Limits.{most_coordinate, most_id, most_lower, most_tile}
use Rattle.gr_base.specs.Grid.{cells_of, number_of, place_at}
use Rattle.gr_base.specs.Designs.{IsFrame, above, tile_within, tile_of, middle, centre_of}
use Rattle.gr_base.proofs.GridLemmas.{number-place, place-inside, few_cells, some_columns}
use Rattle.solution_text.specs.Grammar.{Spot, Checked, is_in_range, layer_of, cell_of}

above-middle : (lower : ℤ) (size tile : ℕ) → above (middle lower size tile -ℤ lower) ≡ Some (tile * size + size / 2)
above-middle lower size tile =
    let e : middle lower size tile -ℤ lower ≡ pos (tile * size + size / 2) = omega (arith, ints) in
    ap above e

-- the tile of a tile's middle
pub tile-back : (lower : ℤ) (size count tile : ℕ) → 0 < size → tile < count → tile_of lower size count (middle lower size tile) ≡ Some tile
tile-back lower size count tile some within =
    let half : size / 2 < size = omega arith in
    let rows : (tile + 1) * size ≤ count * size = mul-le-mul_right size (omega arith) in
    let inside : nat_le (tile * size + size / 2) (count * size) ≡ true = grind (arith, nat_tests) in
    let at : (tile * size + size / 2) / size ≡ tile = div-mul-add tile size (size / 2) half in
    let least : min tile (count - 1) ≡ tile = omega arith in
    ap (option_and_then (tile_within size count)) (above-middle lower size tile)
    ∙ rw inside (rw at (ap (λ (n : ℕ). Some n) least))

abs-below : (z : ℤ) (n m : ℕ) → negsuc n ≤ℤ z → z ≤ℤ pos m → n < 2 ^ 44 → m ≤ 2 ^ 44 → nat_abs z ≤ 2 ^ 44
abs-below (pos k) n m low high n_small m_small = let h : k ≤ m = omega (arith, ints) in omega arith
abs-below (negsuc k) n m low high n_small m_small = let h : k ≤ n = omega (arith, ints) in omega arith

-- a middle is a coordinate that a segment may write
pub middle-small : (lower : ℤ) (size tile : ℕ) → negsuc (most_lower - 1) ≤ℤ lower → lower ≤ℤ pos most_lower → size ≤ most_tile → tile < 8388608 →
    nat_abs (middle lower size tile) ≤ most_coordinate
middle-small lower size tile low high wide few =
    let half : size / 2 ≤ size = omega arith in
    let far : tile * size ≤ tile * most_tile = mul-le-mul_left tile wide in
    abs-below (middle lower size tile) (most_lower - 1) (most_lower + tile * size + size / 2) (omega (arith, ints)) (omega (arith, ints)) (omega arith) (omega arith)

and-four : {a b c d : Bool} → a ≡ true → b ≡ true → c ≡ true → d ≡ true → (a && b && c && d) ≡ true
and-four {a} {b} {c} {d} p q r s = and_from (a && b && c) d (and_from (a && b) c (and_from a b p q) r) s

layer-back : (layers layer : ℕ) → layer < layers → layer_of layers (pos (layer + 1)) ≡ Some layer
layer-back layers layer within =
    let some : nat_lt 0 (layer + 1) ≡ true = grind (arith, nat_tests) in
    let most : nat_le (layer + 1) layers ≡ true = grind (arith, nat_tests) in
    let same : layer + 1 - 1 ≡ layer = omega arith in
    rw (some, most) (ap (λ (n : ℕ). Some n) same)

cell-parts : (frame : Frame) (spot : Spot) (x y layer : ℕ) →
    tile_of frame.lower_x frame.tile_width frame.shape.columns spot.x ≡ Some x →
    tile_of frame.lower_y frame.tile_height frame.shape.rows spot.y ≡ Some y → layer_of frame.shape.layers spot.layer ≡ Some layer →
    cell_of frame spot ≡ Ok (number_of frame.shape (record { x = x; y = y; layer = layer }))
cell-parts frame spot x y layer by_x by_y by_layer = rw (by_x, by_y, by_layer) refl

module _ (frame : Frame) (ok : IsFrame frame) (cell : ℕ) (inside : cell < cells_of frame.shape) where
  -- a cell's centre as a segment writes it
  abbrev pub centre_spot : Spot
  centre_spot = record { x = (centre_of frame cell).x; y = (centre_of frame cell).y; layer = pos (centre_of frame cell).layer }

  pub few-columns : (place_at frame.shape cell).x < 8388608
  few-columns =
      let e = number-place frame.shape cell in
      let few = few_cells frame.shape in
      omega arith

  pub few-rows : (place_at frame.shape cell).y < 8388608
  few-rows =
      let e = number-place frame.shape cell in
      let few = few_cells frame.shape in
      let c = some_columns frame.shape in
      let p = place_at frame.shape cell in
      let more : (p.layer * frame.shape.rows + p.y) * 1 ≤ (p.layer * frame.shape.rows + p.y) * frame.shape.columns = mul-le-mul_left (p.layer * frame.shape.rows + p.y) (omega arith) in
      let least : p.y ≤ p.layer * frame.shape.rows + p.y = omega arith in
      omega arith

  pub few-layers : (place_at frame.shape cell).layer < 16
  few-layers =
      let v = frame.shape.valid in
      let i = place-inside frame.shape cell inside in
      let l = i.layer in
      grind (arith, nat_tests)

  pub x-small : nat_abs (centre_of frame cell).x ≤ most_coordinate
  x-small = middle-small frame.lower_x frame.tile_width (place_at frame.shape cell).x ok.left.0 ok.left.1 ok.wide.1 few-columns

  pub y-small : nat_abs (centre_of frame cell).y ≤ most_coordinate
  y-small = middle-small frame.lower_y frame.tile_height (place_at frame.shape cell).y ok.bottom.0 ok.bottom.1 ok.high.1 few-rows

  pub centre-readable : is_in_range centre_spot ≡ true
  centre-readable =
      let x = le-leb (nat_abs (centre_of frame cell).x) most_coordinate x-small in
      let y = le-leb (nat_abs (centre_of frame cell).y) most_coordinate y-small in
      let some = le-leb 0 (centre_of frame cell).layer (omega arith) in
      let few = le-leb (centre_of frame cell).layer most_id (let l = few-layers in omega arith) in
      and-four x y some few

  -- the cell of its centre
  pub centre-cell : cell_of frame centre_spot ≡ Ok cell
  centre-cell =
      let i = place-inside frame.shape cell inside in
      let p = place_at frame.shape cell in
      cell-parts frame centre_spot p.x p.y p.layer
      (tile-back frame.lower_x frame.tile_width frame.shape.columns p.x ok.wide.0 i.column)
      (tile-back frame.lower_y frame.tile_height frame.shape.rows p.y ok.high.0 i.row)
      (layer-back frame.shape.layers p.layer i.layer)
      ∙ ap (λ (n : ℕ). let r : Checked ℕ = Ok n in r) (number-place frame.shape cell)
