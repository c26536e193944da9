-- Steps to the neighbours of a cell, as code computes them.
use Rattle.std.proofs.Common.{◌≡◌, ℕ, ◌+◌, ◌-◌, ◌*◌, ◌<◌, ◌≤◌, Bool, false, length, Option, Some, None, IfSome, Result, OnOk, if◌then◌else◌, IsTrue, sym, ap, subst, ◌∙◌, arith}
use Rattle.std.specs.Option.{option_map}
use Rattle.gr_base.specs.Limits.{most_cells}
use Rattle.gr_base.specs.declared.grid.Cell.{Cell}
use Rattle.gr_base.specs.declared.grid.Edge.{Edge}
use Rattle.gr_base.specs.declared.grid.Shape.{Shape}
use Rattle.gr_base.specs.declared.grid.Way.{Way}
use Rattle.gr_base.specs.Grid.{place_at, IsInside, beyond, stride, has_room, edge_at}
use Rattle.gr_base.proofs.GridLemmas.{place-inside, some_columns, some_rows, few_cells}
use Rattle.std.proofs.Math.Nat.{le-mul_of_pos_right}
use Rattle.maze_route.specs.Steps.{Step, size_of, cell_in, pane_step, step_to, made_step, ahead_of, behind_of, has_room_behind, before, least_to, rest_of, FitsIn, IsGuide, Covers, step_of, IsSpot}
use Rattle.maze_route.specs.Handing.{IsReach}
use Rattle.maze_route.specs.declared.front.Frontier.{Frontier}
use Rattle.maze_route.specs.declared.pane.Neighbour.{Neighbour}
use Rattle.maze_route.specs.declared.pane.Pane.{Pane}
use Rattle.maze_route.specs.declared.pane.Spot.{Spot}
use Rattle.maze_route.specs.declared.pane.Aim.{Aim}
use Rattle.maze_route.proofs.StepLemmas.{IsNext, IsBehind, next-ahead, next-behind, step-ahead, step-behind, ahead-is, behind-is, before-is, step-fits}

pub spot-inside : (p : Pane) (spot : Spot) → IsSpot p spot → IsInside p.shape spot.place
spot-inside p spot is =
    let P : Cell → Type 0 = λ q. IsInside p.shape q in subst P (sym is.place) (place-inside p.shape spot.local is.inside)

-- a grid is small each way
pub few-each : (s : Shape) (q : Cell) → IsInside s q → (q.x < most_cells) × ((q.y < most_cells) × (q.layer < most_cells))
few-each s q inside =
    let few = few_cells s in
    let columns = some_columns s in
    let rows = some_rows s in
    let layers : 0 < s.layers = omega (arith, inside.layer) in
    let tiles = le-mul_of_pos_right (s.columns * s.rows) layers in
    let by_rows = le-mul_of_pos_right s.columns rows in
    let by_columns : s.rows ≤ s.rows * s.columns = le-mul_of_pos_right s.rows columns in
    let some_tiles : 0 < s.columns * s.rows = omega (arith, by_rows) in
    let by_tiles : s.layers ≤ s.layers * (s.columns * s.rows) = le-mul_of_pos_right s.layers some_tiles in
    (omega (arith, inside.column, tiles, by_rows), (omega (arith, inside.row, tiles, by_columns), omega (arith, inside.layer, by_tiles)))

pub spot-ahead : (p : Pane) (spot : Spot) (way : Way) → IsSpot p spot → IsTrue (has_room p.shape spot.place way) → IsNext p spot.local (spot.local + stride p.shape way) way
spot-ahead p spot way is room =
    let P : Cell → Type 0 = λ q. IsTrue (has_room p.shape q way) in
    next-ahead p spot.local way is.inside (subst P is.place room)

pub spot-behind : (p : Pane) (spot : Spot) (way : Way) → IsSpot p spot → IsTrue (has_room_behind spot.place way) → IsBehind p spot.local (spot.local - stride p.shape way) way
spot-behind p spot way is room =
    let P : Cell → Type 0 = λ q. IsTrue (has_room_behind q way) in
    next-behind p spot.local way is.inside (subst P is.place room)

pub few-local : (p : Pane) (n : ℕ) → n < size_of p → n < 8388608
few-local p n below = let few = few_cells p.shape in omega arith

-- where there is no neighbour
pub no-ahead : (p : Pane) (price : Edge → Option ℕ) (aim : Aim) (spot : Spot) (way : Way) → IsSpot p spot → has_room p.shape spot.place way ≡ false →
    None ≡ step_to p price aim spot.local (ahead_of p.shape spot.local way)
no-ahead p price aim spot way is room =
    let test : Cell → Bool = λ q. has_room p.shape q way in
    let none : has_room p.shape (place_at p.shape spot.local) way ≡ false = ap test (sym is.place) ∙ room in
    sym (ap (λ b. step_to p price aim spot.local (if b then Some (spot.local + stride p.shape way) else None)) none)

pub no-behind : (p : Pane) (price : Edge → Option ℕ) (aim : Aim) (spot : Spot) (way : Way) → IsSpot p spot → has_room_behind spot.place way ≡ false →
    None ≡ step_to p price aim spot.local (behind_of p.shape spot.local way)
no-behind p price aim spot way is room =
    let test : Cell → Bool = λ q. has_room_behind q way in
    let none : has_room_behind (place_at p.shape spot.local) way ≡ false = ap test (sym is.place) ∙ room in
    sym (ap (λ b. step_to p price aim spot.local (if b then Some (spot.local - stride p.shape way) else None)) none)

-- the step to a neighbour, from what it costs
by-price : (p : Pane) (price : Edge → Option ℕ) (aim : Aim) (from to : ℕ) (o cost : Option ℕ) → o ≡ Some to → pane_step p price from to ≡ cost →
    option_map (made_step p aim to) cost ≡ step_to p price aim from o
by-price p price aim from to o cost leads costs =
    let P : Option ℕ → Type 0 = λ q. option_map (made_step p aim to) cost ≡ step_to p price aim from q in
    subst P (sym leads) (ap (λ (k : Option ℕ). option_map (made_step p aim to) k) (sym costs))

pub step-on : (p : Pane) (price : Edge → Option ℕ) (aim : Aim) (spot : Spot) (way : Way) (to : ℕ) (cost : Option ℕ) →
    IsSpot p spot → IsNext p spot.local to way → cost ≡ price (edge_at spot.cell way) →
    option_map (made_step p aim to) cost ≡ step_to p price aim spot.local (ahead_of p.shape spot.local way)
step-on p price aim spot way to cost is next costs =
    let price_of : ℕ → Option ℕ = λ c. price (edge_at c way) in
    by-price p price aim spot.local to (ahead_of p.shape spot.local way) cost (ahead-is p spot.local to way next)
    (step-ahead p price spot.local to way next ∙ sym (costs ∙ ap price_of is.cell))

pub step-back : (p : Pane) (price : Edge → Option ℕ) (aim : Aim) (spot : Spot) (way : Way) (to low : ℕ) (cost : Option ℕ) →
    IsSpot p spot → IsNext p to spot.local way → low ≡ cell_in p to → cost ≡ price (edge_at low way) →
    option_map (made_step p aim to) cost ≡ step_to p price aim spot.local (behind_of p.shape spot.local way)
step-back p price aim spot way to low cost is next low_is costs =
    let price_of : ℕ → Option ℕ = λ c. price (edge_at c way) in
    by-price p price aim spot.local to (behind_of p.shape spot.local way) cost (behind-is p spot.local to way next)
    (step-behind p price to spot.local way next ∙ sym (costs ∙ ap price_of low_is))

-- the place of a neighbour
pub place-on : (p : Pane) (spot : Spot) (way : Way) (to : ℕ) (place : Cell) → IsSpot p spot → IsNext p spot.local to way → place ≡ beyond spot.place way →
    place ≡ place_at p.shape to
place-on p spot way to place is next leads =
    let onward : Cell → Cell = λ q. beyond q way in
    leads ∙ ap onward is.place ∙ sym next.place

pub place-back : (p : Pane) (spot : Spot) (way : Way) (to : ℕ) (place : Cell) → IsSpot p spot → IsNext p to spot.local way → place ≡ before spot.place way →
    place ≡ place_at p.shape to
place-back p spot way to place is next leads =
    let back : Cell → Cell = λ q. before q way in
    leads ∙ ap back (is.place ∙ next.place) ∙ before-is (place_at p.shape to) way

-- the rest from a cell, from its place
pub rest-at : (p : Pane) (aim : Aim) (to rest : ℕ) (place : Cell) → place ≡ place_at p.shape to → rest ≡ least_to aim place → rest ≡ rest_of p aim to
rest-at p aim to rest place same least =
    let h : Cell → ℕ = λ q. least_to aim q in
    least ∙ ap h same

-- a bound has a part for the column and the row of each cell
pub fits-at : (p : Pane) (aim : Aim) (n : ℕ) (place : Cell) → FitsIn p aim → n < size_of p → place ≡ place_at p.shape n →
    (place.x < length aim.columns.items) × (place.y < length aim.rows.items)
fits-at p aim n place fits below same =
    let P : Cell → Type 0 = λ q. IsInside p.shape q in
    let inside : IsInside p.shape place = subst P (sym same) (place-inside p.shape n below) in
    (omega (arith, inside.column, fits.columns), omega (arith, inside.row, fits.rows))

pub made : (p : Pane) (aim : Aim) (to cell cost rest : ℕ) (o : Option ℕ) → o ≡ Some cost → cell ≡ to → rest ≡ rest_of p aim to →
    (whole : Option Step) → option_map (made_step p aim to) o ≡ whole → Some (record { cell = cell; cost = cost; rest = rest }) ≡ whole
made p aim to cell cost rest o some same tiles whole is =
    let by_cell : ℕ → Option Step = λ n. Some (record { cell = n; cost = cost; rest = rest }) in
    let by_rest : ℕ → Option Step = λ n. Some (record { cell = to; cost = cost; rest = n }) in
    ap by_cell same ∙ ap by_rest tiles ∙ ap (λ (k : Option ℕ). option_map (made_step p aim to) k) (sym some) ∙ is

pub unmade : (p : Pane) (aim : Aim) (to : ℕ) (o : Option ℕ) → o ≡ None → (whole : Option Step) → option_map (made_step p aim to) o ≡ whole → None ≡ whole
unmade p aim to o none whole is = ap (λ (k : Option ℕ). option_map (made_step p aim to) k) (sym none) ∙ is

-- the bound covers the place of each cell
pub covers-at : (p : Pane) (aim : Aim) (n : ℕ) (place : Cell) → FitsIn p aim → n < size_of p → place ≡ place_at p.shape n → Covers aim place
covers-at p aim n place fits below same = let bounds = fits-at p aim n place fits below same in record { column = bounds.0; row = bounds.1 }

pub inside-at : (p : Pane) (n : ℕ) (place : Cell) → n < size_of p → place ≡ place_at p.shape n → IsInside p.shape place
inside-at p n place below same = let P : Cell → Type 0 = λ q. IsInside p.shape q in subst P (sym same) (place-inside p.shape n below)

covers-inside : (p : Pane) (aim : Aim) (place : Cell) → FitsIn p aim → IsInside p.shape place → Covers aim place
covers-inside p aim place fits inside = record { column = omega (arith, inside.column, fits.columns); row = omega (arith, inside.row, fits.rows) }

pub neighbour-covered : (p : Pane) (aim : Aim) (o : Option Neighbour) → FitsIn p aim → IfSome o (λ n. IsInside p.shape n.place) → IfSome o (λ n. Covers aim n.place)
neighbour-covered p aim None fits inside = tt
neighbour-covered p aim (Some n) fits inside = covers-inside p aim n.place fits inside

-- what a neighbour must be to be reached
pub neighbour-fits : (p : Pane) (price : Edge → Option ℕ) (aim : Aim) → IsGuide p price aim → (n from last size : ℕ) (o : Option ℕ) (found : Option Neighbour) →
    option_map (step_of aim) found ≡ step_to p price aim n o → size ≡ size_of p → last ≤ from + rest_of p aim n →
    (IfSome found (λ m. m.cell < size)) × (IfSome found (λ m. last ≤ from + m.cost + least_to aim m.place))
neighbour-fits p price aim guide n from last size o None is all low = (tt, tt)
neighbour-fits p price aim guide n from last size o (Some m) is all low = step-fits p price aim guide n from last size o (Some (step_of aim m)) is all low

-- what reaches by one step reaches by an equal one
pub on-step : {E : Type 0} (done : Result Unit E) (from : ℕ) (one other : Option Step) (before after : Frontier) → one ≡ other → OnOk done (IsReach from one before after) →
    OnOk done (IsReach from other before after)
on-step done from one other before after same reach = let P : Option Step → Type 0 = λ s. OnOk done (IsReach from s before after) in subst P same reach
