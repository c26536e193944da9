-- The grammar of a solution: net records, each a name, an id, perhaps a number, segments and the token "!". It is read token
-- by token; for each place in a record stands one rule, which makes its checks in order and gives the fault of the first that fails.
use Rattle.std.specs.Prelude.{ℕ, ◌-◌, Bool, false, ◌&&◌, ◌||◌, ◌==◌, not, nat_lt, nat_le, int_le, ℤ, pos, negsuc, nat_abs, List, [], ◌∷◌, ◌++◌, Option, Some, None, is_some, slice_get, Result, Ok, Err, if◌then◌else◌, codes}
use Rattle.std.specs.List.{list_any, filter, slice_split}
use Rattle.std.specs.Str.{bytes_eq}
use Rattle.gr_base.specs.declared.frame.Frame.{Frame}
use Rattle.gr_base.specs.declared.frame.Net.{Net}
use Rattle.gr_base.specs.declared.grid.Cell.{Cell}
use Rattle.gr_base.specs.Limits.{most_id, most_coordinate}
use Rattle.gr_base.specs.Grid.{number_of, place_at}
use Rattle.gr_base.specs.Designs.{DesignView, net_with_id, tile_of}
use Rattle.gr_text.specs.Numbers.{whole_value, number_in}
use Rattle.solution_text.specs.declared.fault.SolutionFault.{SolutionFault}
use Rattle.solution_text.specs.declared.fault.SolutionFault.TheVariants.{Form, Number, UnknownId, Name, RepeatedNet, Outside, Slanted}
use Rattle.solution_text.specs.declared.run.Run.{Run}

-- what the checks of a token give, or the fault of the first that fails
abbrev pub Checked : Type 0 → Type 0
Checked A = Result A SolutionFault

infixl 10 ◌>>=◌
abbrev pub ◌>>=◌ : {A B : Type 0} → Checked A → (A → Checked B) → Checked B
Ok a >>= next = next a
Err fault >>= next = Err fault

infixl 10 ◌>>◌
abbrev pub ◌>>◌ : {A B : Type 0} → Checked A → Checked B → Checked B
first >> next = first >>= (λ _. next)

abbrev pub check : Bool → SolutionFault → Checked (Unit {0})
check holds fault = if holds then Ok tt else Err fault

abbrev pub given : {A : Type 0} → Option A → SolutionFault → Checked A
given (Some a) fault = Ok a
given None fault = Err fault

-- one end of a segment, as it is written
pub record Spot : Type 0 where
  pub x : ℤ
  pub y : ℤ
  pub layer : ℤ

-- the numbers of a spot are in range
abbrev pub is_in_range : Spot → Bool
is_in_range spot =
    nat_le (nat_abs spot.x) most_coordinate && nat_le (nat_abs spot.y) most_coordinate &&
    int_le (pos 0) spot.layer && int_le spot.layer (pos most_id)

-- three whole numbers
abbrev pub spot_of : (x y layer : List ℕ) → Checked Spot
spot_of x y layer = do
  x ← given (whole_value x) Form
  y ← given (whole_value y) Form
  layer ← given (whole_value layer) Form
  Ok (record { x = x; y = y; layer = layer })

-- the layer of a number; layers are written from 1 on
abbrev pub layer_of : (layers : ℕ) → ℤ → Option ℕ
layer_of layers (pos n) = if nat_lt 0 n && nat_le n layers then Some (n - 1) else None
layer_of layers (negsuc n) = None

-- the cell of a spot, which lies on the chip as a pin does
abbrev pub cell_of : Frame → Spot → Checked ℕ
cell_of frame spot = do
  x ← given (tile_of frame.lower_x frame.tile_width frame.shape.columns spot.x) Outside
  y ← given (tile_of frame.lower_y frame.tile_height frame.shape.rows spot.y) Outside
  layer ← given (layer_of frame.shape.layers spot.layer) Outside
  Ok (number_of frame.shape (record { x = x; y = y; layer = layer }))

-- two cells differ in at most one of column, row and layer
abbrev pub is_straight : Cell → Cell → Bool
is_straight a b = (a.x == b.x && a.y == b.y) || (a.x == b.x && a.layer == b.layer) || (a.y == b.y && a.layer == b.layer)

-- the run between two spots
abbrev pub run_between : Frame → Spot → Spot → Checked Run
run_between frame a b = do
  check (is_in_range a && is_in_range b) Number
  from ← cell_of frame a
  to ← cell_of frame b
  check (is_straight (place_at frame.shape from) (place_at frame.shape to)) Slanted
  Ok (record { from = from; to = to })

-- brackets and commas part the numbers of a segment
abbrev pub is_mark : ℕ → Bool
is_mark byte = byte == 40 || byte == 41 || byte == 44

-- what stands between the marks of "(x,y,layer)-(x,y,layer)"
abbrev pub run_of_parts : Frame → List (List ℕ) → Checked Run
run_of_parts frame ([] ∷ x ∷ y ∷ layer ∷ hyphen ∷ u ∷ v ∷ level ∷ [] ∷ []) = do
  check (bytes_eq hyphen (codes "-")) Form
  a ← spot_of x y layer
  b ← spot_of u v level
  run_between frame a b
run_of_parts frame parts = Err Form

-- the run that a segment writes
unfoldable pub segment : Frame → List ℕ → Checked Run
segment frame token = do
  check (bytes_eq (filter is_mark token) (codes "(,,)(,,)")) Form
  run_of_parts frame (slice_split is_mark token)

-- the place in a record: between two records, behind the name, right behind the id, and farther on
pub data Mode : Type 0 where
  Between : Mode
  Named : (name : List ℕ) → Mode
  First : (net : ℕ) → Mode
  Within : (net : ℕ) → Mode

-- what was read so far: the place in a record, the nets that have a record, and the runs with their nets' numbers
pub record Progress : Type 0 where
  pub mode : Mode
  pub met : List ℕ
  pub found : List (ℕ × Run)

abbrev pub start : Progress
start = record { mode = Between; met = []; found = [] }

abbrev pub is_name : List ℕ → Option Net → Bool
is_name name None = false
is_name name (Some net) = bytes_eq net.name name

-- the net whose record begins with this name and this id
abbrev pub net_of : DesignView → (met : List ℕ) → (name id : List ℕ) → Checked ℕ
net_of d met name id = do
  id ← given (number_in (pos 0) (pos most_id) id) Number
  net ← given (net_with_id d (nat_abs id)) UnknownId
  check (is_name name (slice_get d.nets net)) Name
  check (not (list_any (λ other. other == net) met)) RepeatedNet
  Ok net

abbrev pub is_end : List ℕ → Bool
is_end token = bytes_eq token (codes "!")

-- a number may stand right behind the id; it says nothing
abbrev pub is_number : List ℕ → Bool
is_number token = is_some (number_in (pos 0) (pos most_id) token)

abbrev pub with_run : DesignView → Progress → ℕ → List ℕ → Checked Progress
with_run d s net token = do
  run ← segment d.frame token
  Ok (record { mode = Within net; met = s.met; found = s.found ++ (net, run) ∷ [] })

-- the checks of one token, and what they add
abbrev pub step_in : DesignView → Progress → List ℕ → Mode → Checked Progress
step_in d s token Between = Ok (record s { mode = Named token })
step_in d s token (Named name) = do
  net ← net_of d s.met name token
  Ok (record { mode = First net; met = net ∷ s.met; found = s.found })
step_in d s token (First net) =
    if is_end token then Ok (record s { mode = Between })
    else (if is_number token then Ok (record s { mode = Within net }) else with_run d s net token)
step_in d s token (Within net) =
    if is_end token then Ok (record s { mode = Between }) else with_run d s net token

abbrev pub step : DesignView → Progress → List ℕ → Checked Progress
step d s token = step_in d s token s.mode
