-- The least costs of crossing a window's borders, and their sums.
use Rattle.std.proofs.Common.{◌≡◌, ℕ, suc, zero, ◌+◌, ◌*◌, ◌<◌, ◌≤◌, inl, inr, Bool, true, false, ◌&&◌, nat_lt, List, [], ◌∷◌, ◌++◌, length, take, drop, replicate, Option, IsSome, IsTrue, refl, sym, ap, subst, ◌∙◌, arith}
use Rattle.std.proofs.lemmas.Bool.{cases_lt, both_ways}
use Rattle.std.proofs.lemmas.Bool.Decides.{nat_tests}
use Rattle.std.proofs.Math.Nat.{add-mul}
use Rattle.std.proofs.Math.ListN.{drop_of_length-le}
use Rattle.std.proofs.Math.Seq.{take-length}
use Rattle.std.proofs.lemmas.List.{append-nil, length-replicate}
use Rattle.cost_rules.specs.Prices.{layer_of, ArePrices}
use Rattle.gr_base.specs.declared.grid.Cell.{Cell}
use Rattle.gr_base.specs.declared.grid.Edge.{Edge}
use Rattle.gr_base.specs.declared.grid.Shape.{Shape}
use Rattle.gr_base.specs.declared.grid.Way.{Way}
use Rattle.gr_base.specs.declared.grid.Way.TheVariants.{East, North, Up}
use Rattle.gr_base.specs.Grid.{cells_of, number_of, place_at, IsInside, stride, has_room, has_edge, edge_at}
use Rattle.gr_base.proofs.GridLemmas.{some_columns, some_rows, some_layers, number-place, place-inside, same_cell, place-number, number-below}
use Rattle.maze_route.specs.Positions.{most_position, at, AreUpTo, sums_from, AreLowered, borders_of, lines_of, start_of, border_of, line_of, IsBefore, IsUnderLine, AreUnder, ArePositions}
use Rattle.maze_route.specs.Fields.{inner, IsTable, IsUnderPrices}
use Rattle.maze_route.specs.Panes.{out_of}
use Rattle.maze_route.specs.Steps.{size_of, cell_in}
use Rattle.maze_route.specs.Windows.{IsWindow, is_within, in_window}
use Rattle.maze_route.specs.declared.pane.Pane.{Pane}
use Rattle.maze_route.specs.declared.window.Window.{Window}
use Rattle.maze_route.proofs.SpotLemmas.{few-each}

pub lowered-same : (numbers : List ℕ) → AreLowered numbers numbers
lowered-same numbers = record { size = refl; lower = λ place. omega arith }

pub lowered-again : (before between after : List ℕ) → AreLowered before between → AreLowered between after → AreLowered before after
lowered-again before between after first second = record {
  size = second.size ∙ first.size;
  lower = λ place. let a = first.lower place in let b = second.lower place in omega arith;
}

both : (a b : Bool) → IsTrue a → IsTrue b → IsTrue (a && b)
both a b first second = grind (arith, nat_tests)

window-below : (g : Shape) (w : Window) (cell : ℕ) → IsTrue (in_window g w cell) → cell < cells_of g
window-below g w cell within = grind (arith, nat_tests)

window-within : (g : Shape) (w : Window) (cell : ℕ) → IsTrue (in_window g w cell) → IsTrue (is_within w (place_at g cell))
window-within g w cell within = grind (arith, nat_tests)

-- where a cell of the window lies
pub record IsHeld (w : Window) (q : Cell) : Type 0 where
  pub x0 : w.x0 ≤ q.x
  pub x1 : q.x ≤ w.x1
  pub y0 : w.y0 ≤ q.y
  pub y1 : q.y ≤ w.y1

within-held : (w : Window) (q : Cell) → IsTrue (is_within w q) → IsHeld w q
within-held w q within = record {
  x0 = grind (arith, nat_tests);
  x1 = grind (arith, nat_tests);
  y0 = grind (arith, nat_tests);
  y1 = grind (arith, nat_tests);
}

pub window-held : (g : Shape) (w : Window) (cell : ℕ) → IsTrue (in_window g w cell) → IsHeld w (place_at g cell)
window-held g w cell within = within-held w (place_at g cell) (window-within g w cell within)

room-at : (g : Shape) (w : Window) (q : Cell) (way : Way) → IsWindow g w → IsBefore w way q → IsTrue (has_room g q way)
room-at g w q East window before = let h : q.x + 1 < g.columns = omega (arith, window.last_column) in grind (arith, nat_tests)
room-at g w q North window before = let h : q.y + 1 < g.rows = omega (arith, window.last_row) in grind (arith, nat_tests)
room-at g w q Up window before = absurd before

edge-here : (g : Shape) (w : Window) (low : ℕ) (way : Way) → IsWindow g w → low < cells_of g → IsBefore w way (place_at g low) → IsTrue (has_edge g (edge_at low way))
edge-here g w low way window below before =
    both (nat_lt low (cells_of g)) (has_room g (place_at g low) way) (grind (arith, nat_tests)) (room-at g w (place_at g low) way window before)

border-below : (w : Window) (way : Way) (q : Cell) → IsHeld w q → IsBefore w way q → border_of w way q < borders_of w way
border-below w East q held before = omega (arith, held.x0)
border-below w North q held before = omega (arith, held.y0)
border-below w Up q held before = absurd before

-- the cells of a line
abbrev along_line : Window → Way → ℕ → ℕ → ℕ → Cell
along_line w East layer line place = record { x = w.x0 + place; y = w.y0 + line; layer = layer }
along_line w North layer line place = record { x = w.x0 + line; y = w.y0 + place; layer = layer }
along_line w Up layer line place = start_of w Up layer line

line-number : (g : Shape) (w : Window) (way : Way) (layer line place : ℕ) → place < borders_of w way →
    number_of g (start_of w way layer line) + place * stride g way ≡ number_of g (along_line w way layer line place)
line-number g w East layer line place below = omega arith
line-number g w North layer line place below =
    let more = add-mul (layer * g.rows + w.y0) place g.columns in
    let level : layer * g.rows + w.y0 + place ≡ layer * g.rows + (w.y0 + place) = omega arith in
    let whole = ap (λ (n : ℕ). n * g.columns) level in
    omega (arith, more, whole)
line-number g w Up layer line place below = absurd (omega arith)

line-inside : (g : Shape) (w : Window) (way : Way) (layer line place : ℕ) → IsWindow g w → layer < g.layers → line < lines_of w way → place < borders_of w way →
    (IsInside g (along_line w way layer line place)) × (IsBefore w way (along_line w way layer line place))
line-inside g w East layer line place window level within below = (
  record { column = omega (arith, window.last_column); row = omega (arith, window.rows, window.last_row); layer = level },
  omega arith,
)
line-inside g w North layer line place window level within below = (
  record { column = omega (arith, window.columns, window.last_column); row = omega (arith, window.last_row); layer = level },
  omega arith,
)
line-inside g w Up layer line place window level within below = absurd (omega arith)

-- a line of a window's own grid
inner-window : (s : Shape) → IsWindow s (inner s)
inner-window s =
    let columns = some_columns s in
    let rows = some_rows s in
    record { columns = omega arith; rows = omega arith; last_column = omega (arith, columns); last_row = omega (arith, rows) }

inner-borders : (p : Pane) (way : Way) → borders_of (inner p.shape) way ≡ borders_of p.window way
inner-borders p East = let fits = p.fits in omega (arith, fits.columns)
inner-borders p North = let fits = p.fits in omega (arith, fits.rows)
inner-borders p Up = refl

inner-lines : (p : Pane) (way : Way) → lines_of (inner p.shape) way ≡ lines_of p.window way
inner-lines p East = let fits = p.fits in let some = some_rows p.shape in omega (arith, fits.rows, some)
inner-lines p North = let fits = p.fits in let some = some_columns p.shape in omega (arith, fits.columns, some)
inner-lines p Up = refl

out-line : (w : Window) (s : Shape) (way : Way) (layer line place : ℕ) → out_of w (along_line (inner s) way layer line place) ≡ along_line w way layer line place
out-line w s East layer line place = same_cell (out_of w (along_line (inner s) East layer line place)) (along_line w East layer line place) (omega arith) (omega arith) refl
out-line w s North layer line place = same_cell (out_of w (along_line (inner s) North layer line place)) (along_line w North layer line place) (omega arith) (omega arith) refl
out-line w s Up layer line place = same_cell (out_of w (along_line (inner s) Up layer line place)) (along_line w Up layer line place) (omega arith) (omega arith) refl

-- a cell of a line, by its number in the window
pub record IsHeldInLine (p : Pane) (way : Way) (layer line place n : ℕ) : Type 0 where
  pub inside : n < size_of p
  pub room : IsTrue (has_room p.shape (place_at p.shape n) way)
  pub cell : cell_in p n ≡ number_of p.grid (along_line p.window way layer line place)

pub line-held : (p : Pane) (way : Way) (layer line place first n : ℕ) → layer < p.shape.layers → line < lines_of p.window way → place < borders_of p.window way →
    first ≡ number_of p.shape (start_of (inner p.shape) way layer line) → n ≡ first + place * stride p.shape way → IsHeldInLine p way layer line place n
line-held p way layer line place first n level within below first_is is =
    let s = p.shape in
    let w = inner s in
    let window = inner-window s in
    let borders = inner-borders p way in
    let lines = inner-lines p way in
    let few : place < borders_of w way = omega (arith, borders, below) in
    let q = along_line w way layer line place in
    let inside = line-inside s w way layer line place window level (omega (arith, lines, within)) few in
    let number : number_of s q ≡ n = let h = line-number s w way layer line place few in omega (arith, h, is, first_is) in
    let at = place-number s q inside.0 in
    let out : Cell → ℕ = λ c. number_of p.grid (out_of p.window c) in
    let room : Cell → Type 0 = λ c. IsTrue (has_room s c way) in
    let P : ℕ → Type 0 = λ m. IsHeldInLine p way layer line place m in
    subst P number (record {
      inside = number-below s q inside.0;
      room = subst room (sym at) (room-at s w q way window inside.1);
      cell = ap out at ∙ ap (λ (c : Cell). number_of p.grid c) (out-line p.window s way layer line place);
    })

-- what is below the prices that are held for a line is below those of its edges
pub prices-under : (p : Pane) (price : Edge → Option ℕ) (way : Way) (layer line first count : ℕ) (prices numbers : List ℕ) → IsTable p price way prices →
    layer < p.shape.layers → line < lines_of p.window way → first ≡ number_of p.shape (start_of (inner p.shape) way layer line) → count ≡ borders_of p.window way →
    IsUnderPrices prices p.shape way first count numbers → IsUnderLine p.grid price way (number_of p.grid (start_of p.window way layer line)) count numbers
prices-under p price way layer line first count prices numbers table level within first_is count_is under place cost below is =
    let few : place < borders_of p.window way = omega (arith, count_is, below) in
    let n = first + place * stride p.shape way in
    let held = line-held p way layer line place first n level within few first_is refl in
    let cell : cell_in p n ≡ number_of p.grid (start_of p.window way layer line) + place * stride p.grid way = held.cell ∙ sym (line-number p.grid p.window way layer line place few) in
    under place cost below (table.each n held.inside held.room ∙ ap (λ (c : ℕ). price (edge_at c way)) cell ∙ is)

-- a cell of the window by its line and border
on-line : (w : Window) (way : Way) (q : Cell) (layer line : ℕ) → IsHeld w q → IsBefore w way q → q.layer ≡ layer → line_of w way q ≡ line →
    along_line w way layer line (border_of w way q) ≡ q
on-line w East q layer line held before level same = same_cell (along_line w East layer line (border_of w East q)) q (omega (arith, held.x0)) (omega (arith, held.y0, same)) (sym level)
on-line w North q layer line held before level same = same_cell (along_line w North layer line (border_of w North q)) q (omega (arith, held.x0, same)) (omega (arith, held.y0)) (sym level)
on-line w Up q layer line held before level same = absurd before

-- one more line
abbrev pub IsOnLines : Window → Way → ℕ → ℕ → Cell → Type 0
IsOnLines w way layer lines q = (q.layer ≡ layer) × (line_of w way q < lines)

pub lines-turn : (g : Shape) (w : Window) (price : Edge → Option ℕ) (way : Way) (layer line first : ℕ) (numbers after : List ℕ) →
    first ≡ number_of g (start_of w way layer line) → length numbers ≡ borders_of w way → AreUnder g w price way (IsOnLines w way layer line) numbers →
    AreLowered numbers after → IsUnderLine g price way first (length numbers) after → AreUnder g w price way (IsOnLines w way layer (line + 1)) after
lines-turn g w price way layer line first numbers after first_is size under lowered along low cost within before on is =
    let q = place_at g low in
    let border = border_of w way q in
    let held = window-held g w low within in
    elim (cases_lt (line_of w way q) line) [
      | inl less ↦
          let old = under low cost within before (on.0, less) is in
          let h = lowered.lower border in
          omega (arith, old, h)
      | inr more ↦
          let own : line_of w way q ≡ line = let h = on.1 in omega arith in
          let few = border-below w way q held before in
          let number : first + border * stride g way ≡ low =
          (let h = line-number g w way layer line border few in let e : first + border * stride g way ≡ number_of g (along_line w way layer line border) = omega (arith, first_is, h) in e)
          ∙ ap (λ (c : Cell). number_of g c) (on-line w way q layer line held before (on.0) own) ∙ number-place g low in
          let price_of : ℕ → Option ℕ = λ n. price (edge_at n way) in
          along border cost (omega (arith, size, few)) (ap price_of number ∙ is)
    ]

line-below : (w : Window) (way : Way) (q : Cell) → IsHeld w q → IsBefore w way q → line_of w way q < lines_of w way
line-below w East q held before = omega (arith, held.y0, held.y1)
line-below w North q held before = omega (arith, held.x0, held.x1)
line-below w Up q held before = absurd before

pub lines-done : (g : Shape) (w : Window) (price : Edge → Option ℕ) (way : Way) (layer lines : ℕ) (numbers : List ℕ) → lines_of w way ≤ lines →
    AreUnder g w price way (IsOnLines w way layer lines) numbers → AreUnder g w price way (λ q. q.layer ≡ layer) numbers
lines-done g w price way layer lines numbers all under low cost within before level is =
    let below = line-below w way (place_at g low) (window-held g w low within) before in
    under low cost within before (level, omega (arith, below)) is

-- one more layer
pub layer-turn : (g : Shape) (w : Window) (price : Edge → Option ℕ) (way : Way) (layer : ℕ) (numbers after : List ℕ) → AreUnder g w price way (λ q. q.layer < layer) numbers →
    AreLowered numbers after → AreUnder g w price way (λ q. q.layer ≡ layer) after → AreUnder g w price way (λ q. q.layer < layer + 1) after
layer-turn g w price way layer numbers after under lowered own low cost within before level is =
    let q = place_at g low in
    elim (cases_lt q.layer layer) [
      | inl less ↦
          let old = under low cost within before less is in
          let h = lowered.lower (border_of w way q) in
          omega (arith, old, h)
      | inr more ↦ own low cost within before (omega arith) is
    ]

-- a layer that doesn't go the way has no such edges
pub layer-none : (g : Shape) (w : Window) (ways : ℕ → Way → Bool) (price : Edge → Option ℕ) (way : Way) (layer : ℕ) (numbers : List ℕ) → IsWindow g w → ArePrices g ways price →
    ways layer way ≡ false → AreUnder g w price way (λ q. q.layer ≡ layer) numbers
layer-none g w ways price way layer numbers window prices none low cost within before level is =
    let e = edge_at low way in
    let has = edge-here g w low way window (window-below g w low within) before in
    let some : IsSome (price e) = subst (λ (o : Option ℕ). IsSome o) (sym is) refl in
    let goes : IsTrue (ways (layer_of g e) way) = (prices.some e has).0 some in
    absurd (both_ways true (sym goes ∙ ap (λ (l : ℕ). ways l way) level ∙ none) refl)

-- sums
sums-first : (total : ℕ) (numbers : List ℕ) → at (sums_from total numbers) 0 ≡ total
sums-first total [] = refl
sums-first total (n ∷ numbers) = refl

sums-next : (total : ℕ) (numbers : List ℕ) (i : ℕ) → i < length numbers → at (sums_from total numbers) (i + 1) ≡ at (sums_from total numbers) i + at numbers i
sums-next total [] i below = absurd (omega arith)
sums-next total (n ∷ numbers) zero below =
    let same : zero + 1 ≡ suc zero = omega arith in
    ap (λ (j : ℕ). at (total ∷ sums_from (total + n) numbers) j) same ∙ sums-first (total + n) numbers
sums-next total (n ∷ numbers) (suc i) below =
    let rest = sums-next (total + n) numbers i (omega arith) in
    let same : suc i + 1 ≡ suc (i + 1) = omega arith in
    ap (λ (j : ℕ). at (total ∷ sums_from (total + n) numbers) j) same ∙ rest

pub sums-length : (total : ℕ) (numbers : List ℕ) → length (sums_from total numbers) ≡ length numbers + 1
sums-length total [] = refl
sums-length total (n ∷ numbers) = let rest = sums-length (total + n) numbers in omega arith

pub sums-near : (total : ℕ) (numbers : List ℕ) → AreUpTo 1048576 numbers → AreUpTo (total + length numbers * 1048576) (sums_from total numbers)
sums-near total [] small zero = omega arith
sums-near total [] small (suc i) = omega arith
sums-near total (n ∷ numbers) small zero = omega arith
sums-near total (n ∷ numbers) small (suc i) =
    let own : n ≤ 1048576 = small 0 in
    let rest = sums-near (total + n) numbers (λ j. small (suc j)) i in
    omega (arith, own, rest)

pub positions-of : (g : Shape) (w : Window) (price : Edge → Option ℕ) (way : Way) (steps positions : List ℕ) → positions ≡ sums_from 0 steps → length steps ≡ borders_of w way →
    AreUnder g w price way (λ q. q.layer < g.layers) steps → ArePositions g w price way positions
positions-of g w price way steps positions are size under low cost within before is =
    let q = place_at g low in
    let border = border_of w way q in
    let inside = place-inside g low (window-below g w low within) in
    let few = border-below w way q (window-held g w low within) before in
    let next = sums-next 0 steps border (omega (arith, size, few)) in
    let most = under low cost within before inside.layer is in
    let one = ap (λ (xs : List ℕ). at xs border) are in
    let two = ap (λ (xs : List ℕ). at xs (border + 1)) are in
    record { rises = omega (arith, next, one, two); most = omega (arith, next, most, one, two) }

-- how many there are, and that they are small
pub positions-size : (w : Window) (way : Way) (steps positions : List ℕ) → positions ≡ sums_from 0 steps → length steps ≡ borders_of w way → length positions ≡ borders_of w way + 1
positions-size w way steps positions are size =
    let whole = ap (λ (xs : List ℕ). length xs) are in
    let count = sums-length 0 steps in
    omega (arith, whole, count, size)

-- the last place of a window on the lowest layer
abbrev corner : Window → Cell
corner w = record { x = w.x1; y = w.y1; layer = 0 }

corner-inside : (g : Shape) (w : Window) → IsWindow g w → IsInside g (corner w)
corner-inside g w window = let some = some_layers g in record { column = window.last_column; row = window.last_row; layer = some }

-- a window has few borders
pub few-borders : (g : Shape) (w : Window) (way : Way) → IsWindow g w → borders_of w way < 8388608
few-borders g w East window = let few = few-each g (corner w) (corner-inside g w window) in omega (arith, few.0)
few-borders g w North window = let few = few-each g (corner w) (corner-inside g w window) in omega (arith, few.1.0)
few-borders g w Up window = omega arith

pub positions-near : (w : Window) (way : Way) (steps positions : List ℕ) → positions ≡ sums_from 0 steps → length steps ≡ borders_of w way → borders_of w way < 8388608 →
    AreUpTo 1048576 steps → AreUpTo most_position positions
positions-near w way steps positions are size few small place =
    let near = sums-near 0 steps small place in
    let same = ap (λ (xs : List ℕ). at xs place) are in
    omega (arith, near, same, size, few)

replicate-most : (count most place : ℕ) → at (replicate count most) place ≤ most
replicate-most zero most place = omega arith
replicate-most (suc count) most zero = omega arith
replicate-most (suc count) most (suc place) = replicate-most count most place

-- numbers that begin at the greatest cost and are lowered
pub steps-small : (count : ℕ) (first steps : List ℕ) → first ≡ replicate count 1048576 → AreLowered first steps → AreUpTo 1048576 steps
steps-small count first steps are lowered place =
    let low = lowered.lower place in
    let same = ap (λ (xs : List ℕ). at xs place) are in
    let most = replicate-most count 1048576 place in
    omega (arith, low, same, most)

-- what a slice of a whole list has become is the list
pub written-back : (count : ℕ) (before after : List ℕ) → count ≡ length before → length after ≡ length before → take count (after ++ drop (length after) before) ≡ after
written-back count before after are same =
    let whole : count ≡ length after = omega arith in
    ap (λ (rest : List ℕ). take count (after ++ rest)) (drop_of_length-le before (omega arith))
    ∙ ap (λ (xs : List ℕ). take count xs) (append-nil after) ∙ ap (λ (n : ℕ). take n after) whole ∙ take-length after

-- the steps as they are once they are lowered
pub record AreSteps (borders : ℕ) (after now : List ℕ) : Type 0 where
  pub same : now ≡ after
  pub size : length now ≡ borders
  pub small : AreUpTo 1048576 now

pub steps-lowered : (count borders len : ℕ) (first lent after now : List ℕ) → first ≡ replicate count 1048576 → count ≡ borders → lent ≡ first → AreLowered lent after → len ≡ length first →
    now ≡ take len (after ++ drop (length after) first) → AreSteps borders after now
steps-lowered count borders len first lent after now are is lends lowered long written =
    let L : List ℕ → Type 0 = λ xs. AreLowered xs after in
    let low = subst L lends lowered in
    let same = written ∙ written-back len first after long low.size in
    let N : List ℕ → Type 0 = λ xs. AreUpTo 1048576 xs in
    record {
      same = same;
      size = ap (λ (xs : List ℕ). length xs) same ∙ low.size ∙ ap (λ (xs : List ℕ). length xs) are ∙ length-replicate {A = ℕ} count 1048576 ∙ is;
      small = subst N (sym same) (steps-small count first after are low);
    }
