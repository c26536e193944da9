-- The nets that are drawn have few pins, and these lie inside the grid.
use Rattle.std.proofs.Common.{◌≡◌, ℕ, zero, suc, ◌+◌, ◌-◌, ◌%◌, ◌<◌, ◌≤◌, Bool, true, false, ◌==◌, min, List, ◌++◌, length, map, if◌then◌else◌, refl, sym, ap, ◌∙◌, append_assoc, arith}
use Rattle.std.specs.List.{AllByRecursion}
use Rattle.std.specs.Ordering.{ord_min, nat_cmp}
use Rattle.std.proofs.lemmas.Grind.{common_steps}
use Rattle.design_maker.specs.Draws.{draw, each}
use Rattle.design_maker.specs.Nets.{MadeNet, moved, pin, pins_for, net}
use Rattle.design_maker.specs.Texts.{line, lines_text, pin_line, heading_line, net_lines}
use Rattle.design_maker.specs.declared.made.Made.{Made}
use Rattle.design_maker.specs.declared.nets.Tile.{Tile}
use Rattle.design_maker.proofs.DrawLemmas.{draw-below, each-length}

abbrev pub tile_at : (column row : ℕ) → Tile
tile_at column row = record { column = column; row = row }

-- a pin, and a net, by the draws one after another
pub pin-by : (made : Made) (start : Tile) (right up s first second : ℕ) → (right, first) ≡ draw 8 s → (up, second) ≡ draw 8 first →
    (moved made start right up, second) ≡ pin made start s
unfolding pin
pin-by made start right up s first second one two =
    ap (λ (p : ℕ × ℕ). (moved made start right p.0, p.1)) two
    ∙ ap (λ (p : ℕ × ℕ). (moved made start p.0 (draw 8 p.1).0, (draw 8 p.1).1)) one

least : (a b : ℕ) → ord_min nat_cmp a b ≡ min a b
least a b = grind (arith, common_steps)

pub pin-of : (made : Made) (start : Tile) (right up column row s first second : ℕ) → (right, first) ≡ draw 8 s → (up, second) ≡ draw 8 first →
    column ≡ ord_min nat_cmp (made.columns - 1) (start.column + right) → row ≡ ord_min nat_cmp (made.rows - 1) (start.row + up) →
    (tile_at column row, second) ≡ pin made start s
pin-of made start right up column row s first second one two is_column is_row =
    ap (λ (c : ℕ). (tile_at c row, second)) (is_column ∙ least (made.columns - 1) (start.column + right))
    ∙ ap (λ (r : ℕ). (tile_at (moved made start right up).column r, second)) (is_row ∙ least (made.rows - 1) (start.row + up))
    ∙ pin-by made start right up s first second one two

abbrev pub net_by : Made → (number more column row s : ℕ) → MadeNet × ℕ
net_by made number more column row s =
    let pins = each (λ _. pin made (record { column = column; row = row })) 0 (pins_for number more) s in
    (record { number = number; pins = pins.0 }, pins.1)

pub net-by : (made : Made) (number more column row s first second third : ℕ) → (more, first) ≡ draw 2 s → (column, second) ≡ draw made.columns first →
    (row, third) ≡ draw made.rows second → net_by made number more column row third ≡ net made number s
unfolding net
net-by made number more column row s first second third one two three =
    ap (λ (p : ℕ × ℕ). net_by made number more column p.0 p.1) three
    ∙ ap (λ (p : ℕ × ℕ). net_by made number more p.0 (draw made.rows p.1).0 (draw made.rows p.1).1) two
    ∙ ap (λ (p : ℕ × ℕ). let c = draw made.columns p.1 in net_by made number p.0 c.0 (draw made.rows c.1).0 (draw made.rows c.1).1) one

-- the lines of a net, put one behind another
module _ (made : Made) (number more column row pins s first second third : ℕ) (one : (more, first) ≡ draw 2 s) (two : (column, second) ≡ draw made.columns first)
    (three : (row, third) ≡ draw made.rows second) (is : pins ≡ pins_for number more) where
  abbrev pub pins_of : ℕ → List Tile × ℕ
  pins_of count = each (λ _. pin made (record { column = column; row = row })) 0 count third

  abbrev by : net_by made number more column row third ≡ net made number s
  by = net-by made number more column row s first second third one two three

  counted : pins ≡ length (pins_of (pins_for number more)).0
  counted = is ∙ sym (each-length (λ _. pin made (record { column = column; row = row })) 0 (pins_for number more) third)

  pub net-put : (start heading end : List ℕ) → heading ≡ start ++ line (heading_line number pins) → end ≡ heading ++ lines_text (map pin_line (pins_of pins).0) →
      end ≡ start ++ lines_text (net_lines (net made number s).0)
  net-put start heading end p q =
      let lines : ℕ → List ℕ = λ count. lines_text (map pin_line (pins_of count).0) in
      q ∙ ap (λ (t : List ℕ). t ++ lines pins) p
      ∙ append_assoc start (line (heading_line number pins)) (lines pins)
      ∙ ap (λ (count : ℕ). start ++ (line (heading_line number pins) ++ lines count)) is
      ∙ ap (λ (count : ℕ). start ++ (line (heading_line number count) ++ lines (pins_for number more))) counted
      ∙ ap (λ (n : MadeNet × ℕ). start ++ lines_text (net_lines n.0)) by

  pub net-state : (end : ℕ) → end ≡ (pins_of pins).1 → end ≡ (net made number s).1
  net-state end q = q ∙ ap (λ (count : ℕ). (pins_of count).1) is ∙ ap (λ (n : MadeNet × ℕ). n.1) by

  pub net-pins : pins ≡ length (net made number s).0.pins
  net-pins = counted ∙ ap (λ (n : MadeNet × ℕ). length n.0.pins) by

-- two pins or more, and no more than twelve
few-of : (b : Bool) (more : ℕ) → more < 2 → (if b then 12 else 2 + more) ≤ 12
few-of true more below = omega arith
few-of false more below = omega arith

some-of : (b : Bool) (more : ℕ) → 0 < (if b then 12 else 2 + more)
some-of true more = omega arith
some-of false more = omega arith

pub few-pins : (number more : ℕ) → more < 2 → pins_for number more ≤ 12
few-pins number more below = few-of (number % 10 == 9) more below

some-pins : (number more : ℕ) → 0 < pins_for number more
some-pins number more = some-of (number % 10 == 9) more

-- the tile lies inside the grid
pub record IsOn (made : Made) (tile : Tile) : Type 0 where
  pub column : tile.column < made.columns
  pub row : tile.row < made.rows

module _ (made : Made) (columns : 0 < made.columns) (rows : 0 < made.rows) where
  pub moved-on : (tile : Tile) (right up : ℕ) → IsOn made (moved made tile right up)
  moved-on tile right up = record { column = omega arith; row = omega arith }

  pin-on : (start : Tile) (state : ℕ) → IsOn made (pin made start state).0
  unfolding pin
  pin-on start state = moved-on start (draw 8 state).0 (draw 8 (draw 8 state).1).0

  pins-on : (start : Tile) (first count state : ℕ) → AllByRecursion (IsOn made) (each (λ _. pin made start) first count state).0
  unfolding each
  pins-on start first zero state = tt
  pins-on start first (suc count) state = (pin-on start state, pins-on start (first + 1) count (pin made start state).1)

  -- what is known of a net that is drawn
  pub record IsDrawn (number : ℕ) (drawn : MadeNet) : Type 0 where
    pub is : drawn.number ≡ number
    pub some : 0 < length drawn.pins
    pub few : length drawn.pins ≤ 12
    pub on : AllByRecursion (IsOn made) drawn.pins

  pub net-drawn : (number state : ℕ) → IsDrawn number (net made number state).0
  unfolding net
  net-drawn number state =
      let more = draw 2 state in
      let column = draw made.columns more.1 in
      let row = draw made.rows column.1 in
      let start : Tile = record { column = column.0; row = row.0 } in
      let count = pins_for number more.0 in
      let long : length (each (λ _. pin made start) 0 count row.1).0 ≡ count = each-length (λ _. pin made start) 0 count row.1 in
      let some = some-pins number more.0 in
      let few = few-pins number more.0 (draw-below 2 state (omega arith)) in
      record {
        is = refl;
        some = omega arith;
        few = omega arith;
        on = pins-on start 0 count row.1;
      }
