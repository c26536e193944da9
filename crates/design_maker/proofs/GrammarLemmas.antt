-- The grammar of designs on the words of a made design.
use Rattle.std.proofs.Common.{◌≡◌, ℕ, zero, suc, ◌+◌, ◌*◌, ◌%◌, ◌==◌, ◌^◌, ◌<◌, ◌≤◌, Bool, true, false, not, ◌&&◌, ◌||◌, nat_lt, nat_le, is_none, pos, neg_ℤ, List, [], ◌∷◌, ◌++◌, length, map, Some, None, codes, if◌then◌else◌, refl, sym, ap, subst, ◌∙◌, append-nil, arith}
use Rattle.std.specs.List.{AllByRecursion, flat_map, range_with_len, list_any}
use Rattle.std.specs.Fmt.{decimal}
use Rattle.std.specs.Str.{bytes_eq}
use Rattle.std.proofs.lemmas.Bool.Decides.{nat_tests}
use Rattle.std.proofs.lemmas.List.{length-map}
use Rattle.std.proofs.lemmas.List.Concat.{flat_map_single}
use Rattle.std.proofs.lemmas.List.Sums.{sum_by_push}
use Rattle.std.proofs.lemmas.List.FromFn.{length-range_with_len}
use Rattle.std.proofs.lemmas.Int.{ints}
use Rattle.gr_base.specs.Limits.{most_cells, most_layers, most_capacity, most_width, most_tile, most_coordinate, most_id, most_pins, most_nets}
use Rattle.gr_base.specs.Designs.{net_from, pins_of, tile_of, middle}
use Rattle.gr_base.specs.declared.frame.Net.{Net}
use Rattle.gr_base.specs.declared.grid.Shape.{Shape}
use Rattle.gr_text.specs.Numbers.{number_in, decimal_value}
use Rattle.gr_text.specs.Reading.{natural, several}
use Rattle.solution_text.proofs.CentreLemmas.{tile-back}
use Rattle.solution_text.proofs.NumberLemmas.{natural-back}
use Rattle.ispd_reader.specs.Faults.{ends}
use Rattle.ispd_reader.specs.Steps.{words, layer_in}
use Rattle.ispd_reader.specs.Header.{shape_of, grid, padded, by_layer, capacities, measures, layers, corner, above_zero, frame}
use Rattle.ispd_reader.specs.Nets.{coordinate, pin, net_id, pin_count, net, net_count}
use Rattle.ispd_reader.specs.declared.fault.DesignFault.{DesignFault}
use Rattle.ispd_reader.specs.declared.fault.DesignFault.TheVariants.{Word, Number, PinLayer}
use Rattle.ispd_reader.specs.declared.fault.DesignFault.TheVariants as wrong
use Rattle.design_maker.specs.Nets.{MadeNet}
use Rattle.design_maker.specs.Designs as designs
use Rattle.design_maker.specs.Designs.{frame_on, cell_on, net_on}
use Rattle.design_maker.specs.Texts.{alternating, layer_words, grid_line, layer_lines, middle_of, pin_line, net_lines}
use Rattle.design_maker.specs.declared.made.Made.{Made}
use Rattle.design_maker.specs.declared.nets.Tile.{Tile}
use Rattle.design_maker.proofs.NetLemmas.{IsOn}
use Rattle.design_maker.proofs.WordLemmas.{words_of}
use Rattle.design_maker.proofs.ReadLemmas.{Says, says-then, says-pure, says-words, then-checks, says-given, says-token, says-word, says-number, says-natural, says-literal, says-several}

-- ---- the head

says-two : (first second : List ℕ) → bytes_eq first first ≡ true → bytes_eq second second ≡ true → Says (words first second) (first ∷ second ∷ []) tt
unfolding words
says-two first second one two = says-then _ _ {words = first ∷ []} (says-word Word first one) (says-word Word second two)

says-above_zero : (most : ℕ) (fault : DesignFault) (n : ℕ) → n < 2 ^ 64 → 0 < n → n ≤ most → Says (above_zero most fault) (decimal n ∷ []) n
unfolding above_zero
says-above_zero most fault n small some few =
    let more : nat_lt 0 n ≡ true = grind (arith, nat_tests) in
    says-then _ _ {words = decimal n ∷ []} (says-natural most n small few) (then-checks _ _ _ more (says-pure n))

pub says-grid : (made : Made) (shape : Shape) → made.columns ≤ most_cells → made.rows ≤ most_cells → made.layers ≤ most_layers →
    0 < made.columns → 0 < made.rows → 0 < made.layers →
    shape_of made.columns made.rows made.layers ≡ Some shape → Says grid (grid_line made) shape
unfolding grid
says-grid made shape columns rows layers some_columns some_rows some_layers is =
    says-then _ _ {words = codes "grid" ∷ []} (says-word Word (codes "grid") refl)
    (says-then _ _ {words = decimal made.columns ∷ []} (says-above_zero most_cells Number made.columns (omega arith) (omega arith) columns)
    (says-then _ _ {words = decimal made.rows ∷ []} (says-above_zero most_cells Number made.rows (omega arith) (omega arith) rows)
    (says-then _ _ {words = decimal made.layers ∷ []} (says-above_zero most_layers Number made.layers (omega arith) (omega arith) layers)
    (says-given _ shape is))))

module _ (number : ℕ → ℕ) (most : ℕ) (small : most < 2 ^ 64) (fits : (layer : ℕ) → number layer ≤ most) where
  says-numbers : (xs : List ℕ) → AllByRecursion (λ layer. Says (natural ends Number most) (decimal (number layer) ∷ []) (number layer)) xs
  says-numbers [] = tt
  says-numbers (layer ∷ xs) =
      let few = fits layer in
      (says-natural most (number layer) (omega arith) few, says-numbers xs)

  says-by_layer : (count : ℕ) → Says (by_layer count most) (layer_words number count) (designs.by_layer number count)
  unfolding by_layer
  says-by_layer count =
      let xs = range_with_len 1 count in
      let word : ℕ → List (List ℕ) = λ layer. decimal (number layer) ∷ [] in
      let all : Says (several (λ _. natural ends Number most) (length xs) []) (flat_map word xs) (map number xs) =
      says-several (natural ends Number most) word number xs [] (says-numbers xs) in
      let counted : Says (several (λ _. natural ends Number most) count []) (flat_map word xs) (map number xs) =
      subst (λ (n : ℕ). Says (several (λ _. natural ends Number most) n []) (flat_map word xs) (map number xs)) (length-range_with_len 1 count) all in
      says-words (append-nil (flat_map word xs) ∙ flat_map_single (λ (layer : ℕ). decimal (number layer)) xs)
      (says-then _ _ {others = []} counted (says-pure (padded (map number xs))))

says-capacities : (number : ℕ → ℕ) (way : List ℕ) (tiles count : ℕ) → ((layer : ℕ) → number layer ≤ most_capacity) → bytes_eq way way ≡ true →
    list_any (nat_lt 0) (designs.by_layer number count) ≡ true → Says (capacities way tiles count) (way ∷ codes "capacity" ∷ layer_words number count) (designs.by_layer number count)
unfolding capacities
says-capacities number way tiles count fits same some =
    let numbers = designs.by_layer number count in
    says-then _ _ {words = way ∷ codes "capacity" ∷ []} (says-two way (codes "capacity") same refl)
    (says-words (append-nil (layer_words number count))
    (says-then _ _ {others = []} (says-by_layer number most_capacity (omega arith) fits count)
    (then-checks _ _ _ (or-true (not (nat_lt 1 tiles)) some) (says-pure numbers))))
  where
    or-true : (b : Bool) {c : Bool} → c ≡ true → (b || c) ≡ true
    or-true true is = refl
    or-true false is = is

says-ones : (first second : List ℕ) (count : ℕ) → bytes_eq first first ≡ true → bytes_eq second second ≡ true →
    Says (measures first second count) (first ∷ second ∷ layer_words (λ _. 1) count) (designs.by_layer (λ _. 1) count)
unfolding measures
says-ones first second count one two =
    says-then _ _ {words = first ∷ second ∷ []} (says-two first second one two) (says-by_layer (λ _. 1) most_width (omega arith) (λ layer. omega arith) count)

-- one of the first two layers has room along the columns, and one along the rows
vertical-some : (count : ℕ) → 2 ≤ count → list_any (nat_lt 0) (designs.by_layer (alternating 0 20) count) ≡ true
vertical-some zero two = absurd (omega arith)
vertical-some (suc zero) two = absurd (omega arith)
vertical-some (suc (suc count)) two = refl

horizontal-some : (count : ℕ) → 2 ≤ count → list_any (nat_lt 0) (designs.by_layer (alternating 20 0) count) ≡ true
horizontal-some zero two = absurd (omega arith)
horizontal-some (suc count) two = refl

alternating-most : (odd even most layer : ℕ) → odd ≤ most → even ≤ most → alternating odd even layer ≤ most
alternating-most odd even most layer one two = by (layer % 2 == 1)
  where
    by : (b : Bool) → (if b then odd else even) ≤ most
    by true = one
    by false = two

says-layers : (shape : Shape) → 2 ≤ shape.layers → Says (layers shape) (words_of (layer_lines shape.layers)) (frame_on shape).layers
unfolding layers layer_lines
says-layers shape two =
    let count = shape.layers in
    let vertical = says-capacities (alternating 0 20) (codes "vertical") shape.rows count (λ layer. alternating-most 0 20 most_capacity layer (omega arith) (omega arith)) refl (vertical-some count two) in
    let horizontal = says-capacities (alternating 20 0) (codes "horizontal") shape.columns count (λ layer. alternating-most 20 0 most_capacity layer (omega arith) (omega arith)) refl (horizontal-some count two) in
    says-then _ _ vertical
    (says-then _ _ horizontal
    (says-then _ _ (says-ones (codes "minimum") (codes "width") count refl refl)
    (says-then _ _ (says-ones (codes "minimum") (codes "spacing") count refl refl)
    (says-then _ _ (says-ones (codes "via") (codes "spacing") count refl refl)
    (says-pure (frame_on shape).layers)))))

says-corner : Says corner (codes "0" ∷ []) (pos 0)
unfolding corner number_in decimal_value
says-corner = says-number _ _ _ (codes "0") (pos 0) refl

says-tile_size : Says (above_zero most_tile wrong.Tile) (codes "10" ∷ []) 10
unfolding above_zero number_in decimal_value
says-tile_size = says-then _ _ {words = codes "10" ∷ []} (says-literal most_tile 10 (codes "10") refl) (then-checks _ _ _ refl (says-pure 10))

-- the frame, and the words before the number of nets
pub says-frame : (made : Made) (shape : Shape) → Says grid (grid_line made) shape → 2 ≤ shape.layers →
    Says frame (grid_line made ++ (words_of (layer_lines shape.layers) ++ (codes "0" ∷ codes "0" ∷ codes "10" ∷ codes "10" ∷ []))) (frame_on shape)
unfolding frame
says-frame made shape on two =
    says-then _ _ on
    (says-then _ _ (says-layers shape two)
    (says-then _ _ {words = codes "0" ∷ []} says-corner
    (says-then _ _ {words = codes "0" ∷ []} says-corner
    (says-then _ _ {words = codes "10" ∷ []} says-tile_size
    (says-then _ _ {words = codes "10" ∷ []} says-tile_size
    (says-pure (frame_on shape)))))))

-- ---- the nets

-- the middle of a tile is a coordinate of the chip, and lies in this tile
middle-number : (tile : ℕ) → tile < 2048 → number_in (neg_ℤ (pos most_coordinate)) (pos most_coordinate) (decimal (middle_of tile)) ≡ Some (pos (middle_of tile))
unfolding number_in
middle-number tile small =
    let few : nat_le (10 * tile + 5) most_coordinate ≡ true = grind (arith, nat_tests) in
    rw (natural-back (middle_of tile) (omega arith)) (rw few refl)

middle-tile : (tile count : ℕ) → tile < count → tile_of (pos 0) 10 count (pos (middle_of tile)) ≡ Some tile
middle-tile tile count inside =
    let same : pos (middle_of tile) ≡ middle (pos 0) 10 tile = omega (arith, ints) in
    ap (tile_of (pos 0) 10 count) same ∙ tile-back (pos 0) 10 count tile (omega arith) inside

says-coordinate : (tile : ℕ) → tile < 2048 → Says coordinate (decimal (middle_of tile) ∷ []) (pos (middle_of tile))
unfolding coordinate
says-coordinate tile small = says-number _ _ _ (decimal (middle_of tile)) (pos (middle_of tile)) (middle-number tile small)

says-first_layer : (shape : Shape) → 1 ≤ shape.layers → Says (layer_in shape PinLayer) (codes "1" ∷ []) 0
unfolding layer_in number_in decimal_value
says-first_layer shape some =
    let most : nat_le 1 shape.layers ≡ true = grind (arith, nat_tests) in
    says-then _ _ {words = codes "1" ∷ []} (says-literal most_id 1 (codes "1") refl) (then-checks _ _ _ (rw most refl) (says-pure 0))

-- the nets so far: their ids are below the next number, and they have few pins
pub record AreBefore (number : ℕ) (found : List Net) : Type 0 where
  pub ids : AllByRecursion (λ net. net.id < number) found
  pub pins : pins_of found ≤ 12 * number

module _ (made : Made) (shape : Shape) (columns : shape.columns ≡ made.columns) (rows : shape.rows ≡ made.rows) (few_columns : made.columns ≤ 2048) (few_rows : made.rows ≤ 2048) (some_layers : 1 ≤ shape.layers) where
  says-pin : (tile : Tile) → IsOn made tile → Says (pin (frame_on shape)) (pin_line tile) (cell_on shape tile)
  unfolding pin
  says-pin tile on =
      let column = on.column in
      let row = on.row in
      says-then _ _ {words = decimal (middle_of tile.column) ∷ []} (says-coordinate tile.column (omega arith))
      (says-then _ _ {words = []} (says-given _ tile.column (middle-tile tile.column shape.columns (omega arith)))
      (says-then _ _ {words = decimal (middle_of tile.row) ∷ []} (says-coordinate tile.row (omega arith))
      (says-then _ _ {words = []} (says-given _ tile.row (middle-tile tile.row shape.rows (omega arith)))
      (says-then _ _ {words = codes "1" ∷ []} (says-first_layer shape some_layers) (says-pure (cell_on shape tile))))))

  says-pins : (tiles : List Tile) → AllByRecursion (IsOn made) tiles → AllByRecursion (λ tile. Says (pin (frame_on shape)) (pin_line tile) (cell_on shape tile)) tiles
  says-pins [] on = tt
  says-pins (tile ∷ tiles) on = (says-pin tile on.0, says-pins tiles on.1)

  fresh : (at id number : ℕ) (found : List Net) → number ≤ id → AllByRecursion (λ net. net.id < number) found → net_from at id found ≡ None
  fresh at id number [] past before = refl
  fresh at id number (net ∷ found) past before =
      let below = before.0 in
      let other : (id == net.id) ≡ false = grind (arith, nat_tests) in
      rw other (fresh (at + 1) id number found past before.1)

  says-net_id : (number : ℕ) (found : List Net) → number ≤ most_id → AreBefore number found → Says (net_id found) (decimal number ∷ []) number
  unfolding net_id
  says-net_id number found small before =
      let none : is_none (net_from 0 number found) ≡ true = ap is_none (fresh 0 number number found (omega arith) before.ids) in
      says-then _ _ {words = decimal number ∷ []} (says-natural most_id number (omega arith) small) (then-checks _ _ _ none (says-pure number))

  says-pin_count : (number count : ℕ) (found : List Net) → number < 1000000 → 0 < count → count ≤ 12 → AreBefore number found →
      Says (pin_count (pins_of found)) (decimal count ∷ []) count
  unfolding pin_count
  says-pin_count number count found small some few before =
      let pins = before.pins in
      let more : nat_lt 0 count ≡ true = grind (arith, nat_tests) in
      let most : nat_le (pins_of found + count) most_pins ≡ true = let fits : pins_of found + count ≤ most_pins = omega arith in grind (arith, nat_tests) in
      says-then _ _ {words = decimal count ∷ []} (says-natural most_pins count (omega arith) (omega arith)) (then-checks _ _ _ (and-from (nat_lt 0 count) more most) (says-pure count))
    where
      and-from : (b : Bool) {c : Bool} → b ≡ true → c ≡ true → (b && c) ≡ true
      and-from b one two = rw one two

  says-width : Says (natural ends Number most_width) (codes "1" ∷ []) 1
  unfolding number_in decimal_value
  says-width = says-literal most_width 1 (codes "1") refl

  words-of_pins : (tiles : List Tile) → words_of (map pin_line tiles) ≡ flat_map pin_line tiles
  words-of_pins [] = refl
  words-of_pins (tile ∷ tiles) = ap (λ (ws : List (List ℕ)). pin_line tile ++ ws) (words-of_pins tiles)

  pub says-net : (number : ℕ) (found : List Net) (drawn : MadeNet) → number < 1000000 → AreBefore number found → drawn.number ≡ number →
      0 < length drawn.pins → length drawn.pins ≤ 12 → AllByRecursion (IsOn made) drawn.pins →
      Says (net (frame_on shape) found) (words_of (net_lines drawn)) (net_on shape drawn)
  unfolding net
  says-net number found drawn small before is some few on =
      let name = codes "n" ++ decimal drawn.number in
      let count = length drawn.pins in
      let id : Says (net_id found) (decimal drawn.number ∷ []) drawn.number =
      subst (λ (n : ℕ). Says (net_id found) (decimal n ∷ []) n) (sym is) (says-net_id number found (omega arith) before) in
      let pins : Says (several (λ _. pin (frame_on shape)) count []) (words_of (map pin_line drawn.pins)) (map (cell_on shape) drawn.pins) =
      says-words (sym (words-of_pins drawn.pins)) (says-several (pin (frame_on shape)) pin_line (cell_on shape) drawn.pins [] (says-pins drawn.pins on)) in
      says-then _ _ {words = name ∷ []} (says-token name)
      (says-then _ _ {words = decimal drawn.number ∷ []} id
      (says-then _ _ {words = decimal count ∷ []} (says-pin_count number count found small some few before)
      (says-then _ _ {words = codes "1" ∷ []} says-width
      (says-words (append-nil (words_of (map pin_line drawn.pins)))
      (says-then _ _ {others = []} pins (says-pure (net_on shape drawn)))))))

  pub before-more : (number : ℕ) (found : List Net) (drawn : MadeNet) → AreBefore number found → drawn.number ≡ number → length drawn.pins ≤ 12 → AreBefore (number + 1) (found ++ net_on shape drawn ∷ [])
  before-more number found drawn before is few = record {
    ids = all-more found before.ids;
    pins =
        let e : pins_of (found ++ net_on shape drawn ∷ []) ≡ pins_of found + length drawn.pins = sum-more found in
        let pins = before.pins in
        omega arith;
  }
    where
      all-more : (others : List Net) → AllByRecursion (λ net. net.id < number) others → AllByRecursion (λ net. net.id < number + 1) (others ++ net_on shape drawn ∷ [])
      all-more [] all = (let e : (net_on shape drawn).id ≡ number = is in omega arith, tt)
      all-more (one ∷ others) all = (let below = all.0 in omega arith, all-more others all.1)

      sum-more : (others : List Net) → pins_of (others ++ net_on shape drawn ∷ []) ≡ pins_of others + length drawn.pins
      sum-more others =
          sum_by_push (λ (n : Net). length n.pins) others (net_on shape drawn)
          ∙ ap (λ (n : ℕ). pins_of others + n) (length-map drawn.pins (cell_on shape))

pub says-net_count : (count : ℕ) → count ≤ most_nets → Says net_count (codes "num" ∷ codes "net" ∷ decimal count ∷ []) count
unfolding net_count
says-net_count count few =
    says-then _ _ {words = codes "num" ∷ codes "net" ∷ []} (says-two (codes "num") (codes "net") refl refl) (says-natural most_nets count (omega arith) few)
