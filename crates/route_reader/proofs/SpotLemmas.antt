-- The checks of a segment's numbers, as the grammar makes them and as they are made here.
use Rattle.std.proofs.Common.{◌≡◌, ℕ, ◌-◌, ◌*◌, ◌/◌, ◌-ℤ◌, subst, ◌<◌, inl, inr, Bool, true, false, ◌&&◌, nat_lt, nat_le, int_le, ℤ, pos, negsuc, nat_abs, min, Option, Some, None, option_map, option_and_then, is_some, Ok, Err, refl, sym, ap, ◌∙◌, if◌then◌else◌, arith}
use Rattle.std.proofs.lemmas.Bool.{cases_Bool, and_parts, false≢true}
use Rattle.std.proofs.lemmas.Bool.Decides.{nat_tests}
use Rattle.std.proofs.lemmas.Int.{ints}
use Rattle.gr_base.specs.declared.frame.Frame.{Frame}
use Rattle.gr_base.specs.declared.grid.Cell.{Cell}
use Rattle.gr_base.specs.declared.grid.Shape.{Shape}
use Rattle.gr_base.specs.Limits.{most_id, most_coordinate}
use Rattle.gr_base.specs.Grid.{number_of, place_at, IsInside}
use Rattle.gr_base.specs.Designs.{above, tile_within, tile_of}
use Rattle.gr_base.proofs.GridLemmas.{some_columns, some_rows, place-number}
use Rattle.gr_text.specs.Numbers.{whole_value, number_in}
use Rattle.solution_text.specs.declared.run.Run.{Run}
use Rattle.solution_text.specs.declared.fault.SolutionFault.TheVariants.{Form, Number, Outside, Slanted}
use Rattle.solution_text.specs.Grammar.{Checked, ◌>>=◌, ◌>>◌, check, given, is_in_range, spot_of, layer_of, cell_of, is_straight, run_between}
use Rattle.solution_text.specs.Grammar as grammar
use Rattle.route_reader.specs.declared.segment.Written.{Written}
use Rattle.route_reader.specs.declared.segment.Points.{Points}
use Rattle.route_reader.specs.declared.spot.Spot.{Spot}
use Rattle.route_reader.specs.Segments.{run_of_ends}
use Rattle.route_reader.specs.Spots.{are_whole, spot_in, layer_in, place_of, run_of_places, run_of_spots}

-- ---- where the ends lie

-- a spot with its layer as a number from 0 on
abbrev narrow : grammar.Spot → Spot
narrow spot = record { x = spot.x; y = spot.y; layer = nat_abs spot.layer }

tile-within : (size count : ℕ) (offset : Option ℕ) (tile : ℕ) → 0 < count → option_and_then (tile_within size count) offset ≡ Some tile → tile < count
tile-within size count None tile some is = absurd cc
tile-within size count (Some offset) tile some is =
    elim (cases_Bool (nat_le offset (count * size))) [
      | inl inside ↦
          let found : tile_within size count offset ≡ Some (min (offset / size) (count - 1)) = rw inside refl in
          let same : min (offset / size) (count - 1) ≡ tile = let e = sym found ∙ is in cc in
          omega arith
      | inr out ↦ let none : tile_within size count offset ≡ None = rw out refl in let e = sym none ∙ is in absurd cc
    ]

layer-within : (layers n layer : ℕ) → layer_in layers n ≡ Some layer → layer < layers
layer-within layers n layer is =
    elim (cases_Bool (nat_lt 0 n && nat_le n layers)) [
      | inl inside ↦
          let e : Some (n - 1) ≡ Some layer = sym (rw inside refl) ∙ is in
          let same : n - 1 ≡ layer = cc in
          let parts = and_parts (nat_lt 0 n) (nat_le n layers) inside in
          let some = parts.0 in
          let few = parts.1 in
          grind (arith, nat_tests)
      | inr out ↦ let e : None ≡ Some layer = sym (rw out refl) ∙ is in absurd cc
    ]

three : (g : Shape) (x y layer : Option ℕ) →
    (given x Outside >>= (λ x. given y Outside >>= (λ y. given layer Outside >>= (λ layer. Ok (number_of g (record { x = x; y = y; layer = layer }))))))
    ≡ (given (option_and_then (λ x. option_and_then (λ y. option_map (λ layer. let c : Cell = record { x = x; y = y; layer = layer } in c) layer) y) x) Outside
    >>= (λ cell. Ok (number_of g cell)))
three g None y layer = refl
three g (Some x) None layer = refl
three g (Some x) (Some y) None = refl
three g (Some x) (Some y) (Some layer) = refl

layers-same : (layers : ℕ) (layer : ℤ) → int_le (pos 0) layer ≡ true → layer_of layers layer ≡ layer_in layers (nat_abs layer)
layers-same layers (pos n) low = refl
layers-same layers (negsuc n) low = absurd (false≢true low)

cell-of : (frame : Frame) (spot : grammar.Spot) → is_in_range spot ≡ true →
    cell_of frame spot ≡ (given (place_of frame (narrow spot)) Outside >>= (λ cell. Ok (number_of frame.shape cell)))
cell-of frame spot small =
    let outer = and_parts (nat_le (nat_abs spot.x) most_coordinate && nat_le (nat_abs spot.y) most_coordinate && int_le (pos 0) spot.layer) (int_le spot.layer (pos most_id)) small in
    let low = and_parts (nat_le (nat_abs spot.x) most_coordinate && nat_le (nat_abs spot.y) most_coordinate) (int_le (pos 0) spot.layer) outer.0 in
    let x = tile_of frame.lower_x frame.tile_width frame.shape.columns spot.x in
    let y = tile_of frame.lower_y frame.tile_height frame.shape.rows spot.y in
    rw (layers-same frame.shape.layers spot.layer low.1) (three frame.shape x y (layer_in frame.shape.layers (nat_abs spot.layer)))

place-made : (g : Shape) (x y layer : Option ℕ) (cell : Cell) →
    ((n : ℕ) → x ≡ Some n → n < g.columns) → ((n : ℕ) → y ≡ Some n → n < g.rows) → ((n : ℕ) → layer ≡ Some n → n < g.layers) →
    option_and_then (λ x. option_and_then (λ y. option_map (λ layer. let c : Cell = record { x = x; y = y; layer = layer } in c) layer) y) x ≡ Some cell →
    IsInside g cell
place-made g None y layer cell column row level is = absurd cc
place-made g (Some x) None layer cell column row level is = absurd cc
place-made g (Some x) (Some y) None cell column row level is = absurd cc
place-made g (Some x) (Some y) (Some layer) cell column row level is =
    let same : (record { x = x; y = y; layer = layer }) ≡ cell = cc in
    subst (IsInside g) same (record { column = column x refl; row = row y refl; layer = level layer refl })

place-inside : (frame : Frame) (spot : Spot) (cell : Cell) → place_of frame spot ≡ Some cell → IsInside frame.shape cell
place-inside frame spot cell is =
    place-made frame.shape (tile_of frame.lower_x frame.tile_width frame.shape.columns spot.x) (tile_of frame.lower_y frame.tile_height frame.shape.rows spot.y)
    (layer_in frame.shape.layers spot.layer) cell
    (λ n. tile-within frame.tile_width frame.shape.columns (above (spot.x -ℤ frame.lower_x)) n (some_columns frame.shape))
    (λ n. tile-within frame.tile_height frame.shape.rows (above (spot.y -ℤ frame.lower_y)) n (some_rows frame.shape))
    (λ n. layer-within frame.shape.layers spot.layer n) is

-- ---- the run between them

-- the run between two numbers of places, if the places are on one line
abbrev lined : Shape → ℕ → ℕ → Cell → Cell → Checked Run
lined g from to a b = check (is_straight a b) Slanted >> Ok (record { from = from; to = to })

lined-places : (g : Shape) (a b : Cell) → IsInside g a → IsInside g b →
    lined g (number_of g a) (number_of g b) (place_at g (number_of g a)) (place_at g (number_of g b)) ≡ run_of_places g a b
lined-places g a b inside_a inside_b =
    let n = number_of g a in
    let m = number_of g b in
    ap (λ (c : Cell). lined g n m c (place_at g m)) (place-number g a inside_a)
    ∙ ap (λ (c : Cell). lined g n m a c) (place-number g b inside_b)
    ∙ elim (cases_Bool (is_straight a b)) [
      | inl straight ↦ rw straight refl
      | inr slanted ↦ rw slanted refl
    ]

both-places : (g : Shape) (a b : Option Cell) → ((c : Cell) → a ≡ Some c → IsInside g c) → ((c : Cell) → b ≡ Some c → IsInside g c) →
    ((given a Outside >>= (λ cell. Ok (number_of g cell))) >>= (λ from. (given b Outside >>= (λ cell. Ok (number_of g cell))) >>= (λ to.
    lined g from to (place_at g from) (place_at g to))))
    ≡ (given a Outside >>= (λ from. given b Outside >>= (λ to. run_of_places g from to)))
both-places g None b inside_a inside_b = refl
both-places g (Some a) None inside_a inside_b = refl
both-places g (Some a) (Some b) inside_a inside_b = lined-places g a b (inside_a a refl) (inside_b b refl)

spots-run : (frame : Frame) (a b : grammar.Spot) → is_in_range a ≡ true → is_in_range b ≡ true →
    run_between frame a b ≡ run_of_spots frame (narrow a) (narrow b)
spots-run frame a b small_a small_b =
    rw (small_a, small_b) (rw (cell-of frame a small_a, cell-of frame b small_b)
    (both-places frame.shape (place_of frame (narrow a)) (place_of frame (narrow b)) (place-inside frame (narrow a)) (place-inside frame (narrow b))))

-- ---- the numbers that are written

-- a coordinate is in range where its absolute value is small
coordinate-in : (z : ℤ) → (int_le (negsuc (most_coordinate - 1)) z && int_le z (pos most_coordinate)) ≡ nat_le (nat_abs z) most_coordinate
coordinate-in (pos n) = grind (arith, ints, nat_tests)
coordinate-in (negsuc n) = grind (arith, ints, nat_tests)

-- three tests, the third of two parts, and a value for each
all-three : (a b c d : Bool) (x y layer : ℤ) →
    option_and_then (λ (x : ℤ). option_and_then (λ (y : ℤ). option_map (λ (layer : ℤ). let s : Spot = record { x = x; y = y; layer = nat_abs layer } in s)
    (if c && d then Some layer else None)) (if b then Some y else None)) (if a then Some x else None)
    ≡ (if a && b && c && d then Some (record { x = x; y = y; layer = nat_abs layer }) else None)
all-three false b c d x y layer = refl
all-three true false c d x y layer = refl
all-three true true false d x y layer = refl
all-three true true true false x y layer = refl
all-three true true true true x y layer = refl

-- what the grammar reads of a point whose numbers are whole, and what is read of it here
record Numbers (point : Written) : Type 0 where
  spot : grammar.Spot
  is : spot_of point.x.now point.y.now point.layer.now ≡ Ok spot
  small : spot_in point ≡ (if is_in_range spot then Some (narrow spot) else None)

values : (point : Written) (x y layer : Option ℤ) → whole_value point.x.now ≡ x → whole_value point.y.now ≡ y → whole_value point.layer.now ≡ layer →
    (is_some x && is_some y && is_some layer) ≡ true → Numbers point
unfolding number_in
values point None y layer is_x is_y is_layer whole = absurd (false≢true whole)
values point (Some x) None layer is_x is_y is_layer whole = absurd (false≢true whole)
values point (Some x) (Some y) None is_x is_y is_layer whole = absurd (false≢true whole)
values point (Some x) (Some y) (Some layer) is_x is_y is_layer whole = record {
  spot = record { x = x; y = y; layer = layer };
  is = rw (is_x, is_y, is_layer) refl;
  small = rw (is_x, is_y, is_layer) (rw (coordinate-in x, coordinate-in y)
      (all-three (nat_le (nat_abs x) most_coordinate) (nat_le (nat_abs y) most_coordinate) (int_le (pos 0) layer) (int_le layer (pos most_id)) x y layer));
}

whole-numbers : (point : Written) → are_whole point ≡ true → Numbers point
whole-numbers point whole =
    values point (whole_value point.x.now) (whole_value point.y.now) (whole_value point.layer.now) refl refl refl whole

other-form : (x y layer : Option ℤ) → (is_some x && is_some y && is_some layer) ≡ false →
    (given x Form >>= (λ x. given y Form >>= (λ y. given layer Form >>= (λ layer. let s : Checked grammar.Spot = Ok (record { x = x; y = y; layer = layer }) in s)))) ≡ Err Form
other-form None y layer other = refl
other-form (Some x) None layer other = refl
other-form (Some x) (Some y) None other = refl
other-form (Some x) (Some y) (Some layer) other = absurd (false≢true (sym other))

no-form : (point : Written) → are_whole point ≡ false → spot_of point.x.now point.y.now point.layer.now ≡ Err Form
no-form point other = other-form (whole_value point.x.now) (whole_value point.y.now) (whole_value point.layer.now) other

-- ---- the checks in their order

module _ (frame : Frame) (ends : Points) where
  pub first-form : are_whole ends.from ≡ false → Err Form ≡ run_of_ends frame (Some ends)
  first-form other = rw (no-form ends.from other) refl

  pub second-form : are_whole ends.from ≡ true → are_whole ends.to ≡ false → Err Form ≡ run_of_ends frame (Some ends)
  second-form whole other = rw ((whole-numbers ends.from whole).is) (rw (no-form ends.to other) refl)

  module _ (whole_from : are_whole ends.from ≡ true) (whole_to : are_whole ends.to ≡ true) where
    abbrev from_numbers : Numbers ends.from
    from_numbers = whole-numbers ends.from whole_from

    abbrev to_numbers : Numbers ends.to
    to_numbers = whole-numbers ends.to whole_to

    between : run_of_ends frame (Some ends) ≡ run_between frame from_numbers.spot to_numbers.spot
    between = rw (from_numbers.is) (rw (to_numbers.is) refl)

    ranged : (a b : grammar.Spot) → (is_in_range a && is_in_range b) ≡ false → Err Number ≡ run_between frame a b
    ranged a b out = rw out refl

    pub first-number : spot_in ends.from ≡ None → Err Number ≡ run_of_ends frame (Some ends)
    first-number none =
        elim (cases_Bool (is_in_range from_numbers.spot)) [
          | inl small ↦ let e : None ≡ Some (narrow from_numbers.spot) = sym none ∙ from_numbers.small ∙ rw small refl in absurd cc
          | inr out ↦ ranged from_numbers.spot to_numbers.spot (rw out refl) ∙ sym between
        ]

    in-range : {point : Written} (numbers : Numbers point) (spot : Spot) → spot_in point ≡ Some spot → (is_in_range numbers.spot ≡ true) × (spot ≡ narrow numbers.spot)
    in-range numbers spot is =
        elim (cases_Bool (is_in_range numbers.spot)) [
          | inl small ↦ (small, let e : Some spot ≡ Some (narrow numbers.spot) = sym is ∙ numbers.small ∙ rw small refl in cc)
          | inr out ↦ let e : Some spot ≡ None = sym is ∙ numbers.small ∙ rw out refl in absurd cc
        ]

    pub second-number : (from : Spot) → spot_in ends.from ≡ Some from → spot_in ends.to ≡ None → Err Number ≡ run_of_ends frame (Some ends)
    second-number from is none =
        let a = in-range from_numbers from is in
        elim (cases_Bool (is_in_range to_numbers.spot)) [
          | inl small ↦ let e : None ≡ Some (narrow to_numbers.spot) = sym none ∙ to_numbers.small ∙ rw small refl in absurd cc
          | inr out ↦ ranged from_numbers.spot to_numbers.spot (rw (a.0) out) ∙ sym between
        ]

    pub in-order : (from to : Spot) → spot_in ends.from ≡ Some from → spot_in ends.to ≡ Some to → run_of_spots frame from to ≡ run_of_ends frame (Some ends)
    in-order from to is_from is_to =
        let a = in-range from_numbers from is_from in
        let b = in-range to_numbers to is_to in
        ap (λ (s : Spot). run_of_spots frame s to) a.1 ∙ ap (λ (s : Spot). run_of_spots frame (narrow from_numbers.spot) s) b.1
        ∙ sym (spots-run frame from_numbers.spot to_numbers.spot a.0 b.0) ∙ sym between
