-- The window of a net's pins.
use Rattle.std.proofs.Common.{◌≡◌, ℕ, ◌+◌, ◌<◌, ◌≤◌, Bool, true, ◌&&◌, nat_lt, nat_le, min, max, List, [], ◌∷◌, length, map, fold, take, get_or, slice_index, All, Any, Some, IsTrue, refl, sym, ap, subst, ◌∙◌, arith}
use Rattle.std.proofs.lemmas.Bool.Decides.{nat_tests}
use Rattle.std.proofs.lemmas.List.{map-append, take_more, take_all}
use Rattle.std.proofs.lemmas.List.Elements.{All-nil, All-cons, All-head, All-tail}
use Rattle.std.proofs.lemmas.List.Sums.{fold_push}
use Rattle.gr_base.proofs.GridLemmas.{place-inside}
use Rattle.gr_base.specs.Capacities.{stated_along}
use Rattle.gr_base.specs.Designs.{DesignView, IsFrame, IsNet, layers_of}
use Rattle.gr_base.specs.Grid.{cells_of, place_at}
use Rattle.gr_base.specs.declared.frame.Net.{Net}
use Rattle.gr_base.specs.declared.grid.Cell.{Cell}
use Rattle.gr_base.specs.declared.grid.Shape.{Shape}
use Rattle.gr_base.specs.declared.grid.Way.{Way}
use Rattle.gr_base.specs.declared.grid.Way.TheVariants.{East, North}
use Rattle.grid_demand.specs.Tables.{CapacityView, capacity_of}
use Rattle.maze_route.specs.Windows.{IsWindow, is_within, in_window, LieIn, SomeLayerGoes, IsPassable}
use Rattle.maze_route.specs.declared.window.Window.{Window}
use Rattle.net_plan.specs.Prices.{ways_of}
use Rattle.net_plan.proofs.WayLemmas.{goes-layer}
use Rattle.net_plan.specs.Mazes.{least_of, greatest_of, columns_of, rows_of, box_of, window_of}

-- the least of some numbers and one to begin with is at most each, and the greatest at least each
min-low : (a : ℕ) (ns : List ℕ) → fold min a ns ≤ a
min-low a [] = omega arith
min-low a (n ∷ ns) = let h = min-low (min a n) ns in omega arith

min-each : (a : ℕ) (ns : List ℕ) → All (λ n. fold min a ns ≤ n) ns
min-each a [] = All-nil (λ n. a ≤ n)
min-each a (n ∷ ns) =
    let least = fold min (min a n) ns in
    let h = min-low (min a n) ns in
    All-cons (λ m. least ≤ m) n ns (omega arith) (min-each (min a n) ns)

max-high : (a : ℕ) (ns : List ℕ) → a ≤ fold max a ns
max-high a [] = omega arith
max-high a (n ∷ ns) = let h = max-high (max a n) ns in omega arith

max-each : (a : ℕ) (ns : List ℕ) → All (λ n. n ≤ fold max a ns) ns
max-each a [] = All-nil (λ n. n ≤ a)
max-each a (n ∷ ns) =
    let greatest = fold max (max a n) ns in
    let h = max-high (max a n) ns in
    All-cons (λ m. m ≤ greatest) n ns (omega arith) (max-each (max a n) ns)

-- a cell between the least and the greatest column and row of cells
record IsBetween (g : Shape) (cells : List ℕ) (cell : ℕ) : Type 0 where
  left : least_of (columns_of g cells) ≤ (place_at g cell).x
  right : (place_at g cell).x ≤ greatest_of (columns_of g cells)
  bottom : least_of (rows_of g cells) ≤ (place_at g cell).y
  top : (place_at g cell).y ≤ greatest_of (rows_of g cells)

read-map : (f : ℕ → ℕ) (P : ℕ → Type 0) (cells : List ℕ) → All P (map f cells) → All (λ cell. P (f cell)) cells
read-map f P [] all = All-nil (λ cell. P (f cell))
read-map f P (cell ∷ cells) all =
    All-cons (λ c. P (f c)) cell cells (All-head P (f cell) (map f cells) all) (read-map f P cells (All-tail P (f cell) (map f cells) all))

each-between : (g : Shape) (cells : List ℕ) → All (IsBetween g cells) cells
each-between g cells k d below =
    let xs = columns_of g cells in
    let ys = rows_of g cells in
    record {
      left = read-map (λ cell. (place_at g cell).x) (λ n. least_of xs ≤ n) cells (min-each (slice_index xs 0) xs) k d below;
      right = read-map (λ cell. (place_at g cell).x) (λ n. n ≤ greatest_of xs) cells (max-each (slice_index xs 0) xs) k d below;
      bottom = read-map (λ cell. (place_at g cell).y) (λ n. least_of ys ≤ n) cells (min-each (slice_index ys 0) ys) k d below;
      top = read-map (λ cell. (place_at g cell).y) (λ n. n ≤ greatest_of ys) cells (max-each (slice_index ys 0) ys) k d below;
    }

four : (a b c d : Bool) → a ≡ true → b ≡ true → c ≡ true → d ≡ true → (a && b && c && d) ≡ true
four a b c d w x y z = rw (w, x, y, z) refl

two : (a b : Bool) → a ≡ true → b ≡ true → (a && b) ≡ true
two a b x y = rw (x, y) refl

le-test : (a b : ℕ) → a ≤ b → nat_le a b ≡ true
le-test a b low = grind (arith, nat_tests)

lt-test : (a b : ℕ) → a < b → nat_lt a b ≡ true
lt-test a b less = grind (arith, nat_tests)

-- a cell between them lies in the window
between-in : (g : Shape) (cells : List ℕ) (margin cell : ℕ) → cell < cells_of g → IsBetween g cells cell → IsTrue (in_window g (window_of g cells margin) cell)
between-in g cells margin cell below is =
    let w = window_of g cells margin in
    let p = place_at g cell in
    let inside = place-inside g cell below in
    let l = is.left in
    let r = is.right in
    let b = is.bottom in
    let t = is.top in
    let column = inside.column in
    let row = inside.row in
    let right : p.x ≤ w.x1 = omega arith in
    let top : p.y ≤ w.y1 = omega arith in
    two (nat_lt cell (cells_of g)) (is_within w p) (lt-test cell (cells_of g) below)
    (four (nat_le w.x0 p.x) (nat_le p.x w.x1) (nat_le w.y0 p.y) (nat_le p.y w.y1) (le-test w.x0 p.x (omega arith)) (le-test p.x w.x1 right)
    (le-test w.y0 p.y (omega arith)) (le-test p.y w.y1 top))

-- the pins lie in their window
pub pins-in : (g : Shape) (pins : List ℕ) (margin : ℕ) → All (λ pin. pin < cells_of g) pins → LieIn g (window_of g pins margin) pins
pins-in g pins margin inside k d below =
    between-in g pins margin (get_or pins k d) (inside k d below) (each-between g pins k d below)

-- the window is one of the grid
pub window-fits : (g : Shape) (pins : List ℕ) (margin : ℕ) → 0 < length pins → All (λ pin. pin < cells_of g) pins → IsWindow g (window_of g pins margin)
window-fits g pins margin some inside =
    let first = get_or pins 0 0 in
    let is = each-between g pins 0 0 some in
    let place = place-inside g first (inside 0 0 some) in
    let l = is.left in
    let r = is.right in
    let b = is.bottom in
    let t = is.top in
    let column = place.column in
    let row = place.row in
    record { columns = omega arith; rows = omega arith; last_column = omega arith; last_row = omega arith }

-- the boxes of the first cells and one more
pub record IsBoxOf (g : Shape) (cells : List ℕ) (count : ℕ) (w : Window) : Type 0 where
  pub left : w.x0 ≡ fold min (slice_index (columns_of g cells) 0) (columns_of g (take count cells))
  pub bottom : w.y0 ≡ fold min (slice_index (rows_of g cells) 0) (rows_of g (take count cells))
  pub right : w.x1 ≡ fold max (slice_index (columns_of g cells) 0) (columns_of g (take count cells))
  pub top : w.y1 ≡ fold max (slice_index (rows_of g cells) 0) (rows_of g (take count cells))

first-of : (f : ℕ → ℕ) (cells : List ℕ) → 0 < length cells → slice_index (map f cells) 0 ≡ f (get_or cells 0 0)
first-of f [] some = absurd (omega arith)
first-of f (cell ∷ cells) some = refl

pub box-first : (g : Shape) (cells : List ℕ) (place : Cell) (w : Window) → 0 < length cells → place ≡ place_at g (get_or cells 0 0) →
    w ≡ record { x0 = place.x; y0 = place.y; x1 = place.x; y1 = place.y } → IsBoxOf g cells 0 w
box-first g cells place w some is box =
    let x : place.x ≡ slice_index (columns_of g cells) 0 = ap (λ (p : Cell). p.x) is ∙ sym (first-of (λ cell. (place_at g cell).x) cells some) in
    let y : place.y ≡ slice_index (rows_of g cells) 0 = ap (λ (p : Cell). p.y) is ∙ sym (first-of (λ cell. (place_at g cell).y) cells some) in
    record {
      left = ap (λ (v : Window). v.x0) box ∙ x;
      bottom = ap (λ (v : Window). v.y0) box ∙ y;
      right = ap (λ (v : Window). v.x1) box ∙ x;
      top = ap (λ (v : Window). v.y1) box ∙ y;
    }

-- a fold over what is read of the first cells and one more
fold-more : (h : ℕ → ℕ → ℕ) (f : ℕ → ℕ) (a : ℕ) (cells : List ℕ) (at d n new : ℕ) → at < length cells →
    n ≡ fold h a (map f (take at cells)) → new ≡ h n (f (get_or cells at d)) → new ≡ fold h a (map f (take (at + 1) cells))
fold-more h f a cells at d n new below so_far is =
    is ∙ ap (λ (m : ℕ). h m (f (get_or cells at d))) so_far ∙
    sym (fold_push h a (map f (take at cells)) (f (get_or cells at d))) ∙
    ap (fold h a) (sym (map-append f (take at cells) (get_or cells at d ∷ []))) ∙
    ap (λ (xs : List ℕ). fold h a (map f xs)) (sym (take_more cells at d below))

pub box-more : (g : Shape) (cells : List ℕ) (count d : ℕ) (place : Cell) (w new : Window) → count < length cells → place ≡ place_at g (get_or cells count d) →
    new ≡ record { x0 = min w.x0 place.x; y0 = min w.y0 place.y; x1 = max w.x1 place.x; y1 = max w.y1 place.y } →
    IsBoxOf g cells count w → IsBoxOf g cells (count + 1) new
box-more g cells count d place w new below is grown box =
    let column : ℕ → ℕ = λ cell. (place_at g cell).x in
    let row : ℕ → ℕ = λ cell. (place_at g cell).y in
    let x = ap (λ (p : Cell). p.x) is in
    let y = ap (λ (p : Cell). p.y) is in
    record {
      left = fold-more min column (slice_index (columns_of g cells) 0) cells count d w.x0 new.x0 below box.left (ap (λ (v : Window). v.x0) grown ∙ ap (min w.x0) x);
      bottom = fold-more min row (slice_index (rows_of g cells) 0) cells count d w.y0 new.y0 below box.bottom (ap (λ (v : Window). v.y0) grown ∙ ap (min w.y0) y);
      right = fold-more max column (slice_index (columns_of g cells) 0) cells count d w.x1 new.x1 below box.right (ap (λ (v : Window). v.x1) grown ∙ ap (max w.x1) x);
      top = fold-more max row (slice_index (rows_of g cells) 0) cells count d w.y1 new.y1 below box.top (ap (λ (v : Window). v.y1) grown ∙ ap (max w.y1) y);
    }

same-window : (v w : Window) → v.x0 ≡ w.x0 → v.y0 ≡ w.y0 → v.x1 ≡ w.x1 → v.y1 ≡ w.y1 → v ≡ w
same-window v w a b c d =
    let by_x0 : ℕ → Window = λ n. record { x0 = n; y0 = v.y0; x1 = v.x1; y1 = v.y1 } in
    let by_y0 : ℕ → Window = λ n. record { x0 = w.x0; y0 = n; x1 = v.x1; y1 = v.y1 } in
    let by_x1 : ℕ → Window = λ n. record { x0 = w.x0; y0 = w.y0; x1 = n; y1 = v.y1 } in
    let by_y1 : ℕ → Window = λ n. record { x0 = w.x0; y0 = w.y0; x1 = w.x1; y1 = n } in
    ap by_x0 a ∙ ap by_y0 b ∙ ap by_x1 c ∙ ap by_y1 d

pub box-whole : (g : Shape) (cells : List ℕ) (count : ℕ) (w : Window) → length cells ≤ count → IsBoxOf g cells count w → w ≡ box_of g cells
box-whole g cells count w all box =
    let whole = take_all count cells all in
    same-window w (box_of g cells)
    (box.left ∙ ap (λ (xs : List ℕ). fold min (slice_index (columns_of g cells) 0) (columns_of g xs)) whole)
    (box.bottom ∙ ap (λ (xs : List ℕ). fold min (slice_index (rows_of g cells) 0) (rows_of g xs)) whole)
    (box.right ∙ ap (λ (xs : List ℕ). fold max (slice_index (columns_of g cells) 0) (columns_of g xs)) whole)
    (box.top ∙ ap (λ (xs : List ℕ). fold max (slice_index (rows_of g cells) 0) (rows_of g xs)) whole)

-- a window of more than one column has a layer that goes East, one of more than one row a layer that goes North
some-layer : (d : DesignView) (c : CapacityView) (way : Way) → c ≡ capacity_of d → Any (λ layer. 0 < stated_along way (Some layer)) (layers_of d.frame) →
    SomeLayerGoes d.frame.shape (ways_of c) way
some-layer d c way is any =
    let layer = goes-layer d way any in
    record { layer = layer.0; inside = layer.1.0; goes = ap (λ (x : CapacityView). ways_of x layer.0 way) is ∙ layer.1.1 }

pub passable : (d : DesignView) (c : CapacityView) (w : Window) → c ≡ capacity_of d → IsFrame d.frame → IsWindow d.frame.shape w →
    IsPassable d.frame.shape (ways_of c) w
passable d c w is frame fits = record {
  east = λ wide.
      let last = fits.last_column in
      let columns : 1 < d.frame.shape.columns = omega arith in
      some-layer d c East is (frame.horizontal columns);
  north = λ high.
      let last = fits.last_row in
      let rows : 1 < d.frame.shape.rows = omega arith in
      some-layer d c North is (frame.vertical rows);
}

-- the window of a net's pins
pub record HasWindow (g : Shape) (pins : List ℕ) (w : Window) : Type 0 where
  pub some : 0 < length pins
  pub cells : All (λ pin. pin < cells_of g) pins
  pub fits : IsWindow g w
  pub lie : LieIn g w pins

pub has-window : (s g : Shape) (pins : List ℕ) (net : Net) (margin : ℕ) (w : Window) → s ≡ g → pins ≡ net.pins → IsNet g net →
    w ≡ window_of s pins margin → HasWindow s pins w
has-window s g pins net margin w ss ps net_is is =
    let of_net : IsNet s net = subst (λ (x : Shape). IsNet x net) (sym ss) net_is in
    let some : 0 < length pins = subst (λ (xs : List ℕ). 0 < length xs) (sym ps) of_net.driver in
    let inside : All (λ pin. pin < cells_of s) pins = subst (All (λ pin. pin < cells_of s)) (sym ps) of_net.pins in
    record {
      some = some;
      cells = inside;
      fits = subst (IsWindow s) (sym is) (window-fits s pins margin some inside);
      lie = subst (λ (v : Window). LieIn s v pins) (sym is) (pins-in s pins margin inside);
    }
