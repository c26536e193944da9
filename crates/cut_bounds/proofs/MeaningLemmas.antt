-- What is counted by tile is what walls need and hold by their definitions.
use Rattle.std.proofs.Common.{◌≡◌, ℕ, ◌+◌, ◌-◌, ◌*◌, ◌/◌, ◌%◌, ◌<◌, ◌≤◌, ◌^◌, ◌⊎◌, min, inl, inr, Bool, true, false, not, ◌&&◌, ◌||◌, ◌==◌, nat_le, nat_lt, List, [], ◌∷◌, All, map, filter, length, get_or, slice_get, Option, Some, None, IfSome, sum_by, refl, sym, ap, subst, ◌∙◌, arith}
use Rattle.std.specs.List.{list_any, range_with_len}
use Rattle.std.proofs.lemmas.Bool.{and_parts, cases_Bool, cases_lt}
use Rattle.std.proofs.lemmas.Bool.Decides.{nat_tests}
use Rattle.std.proofs.lemmas.List.Elements.{All-head, All-tail}
use Rattle.std.proofs.lemmas.List.Sums.{sum_by-cons}
use Rattle.std.proofs.lemmas.Nat.{div-add-mod', div-mul-add, mod_below, mod-mul-add, pow_pos, same_from_place}
use Rattle.gr_base.proofs.General.{same-truth}
use Rattle.gr_base.proofs.GridLemmas.{edge-low, edge-room, high-below, place-high, place-inside, some_columns}
use Rattle.gr_base.specs.Capacities.{capacity}
use Rattle.gr_base.specs.Designs.{DesignView, IsDesign, IsNet, is_routed, pins_at, pins_in}
use Rattle.gr_base.specs.Grid.{beyond, cells_of, has_edge, has_room, high_of, is_wire, is_wire_way, place_at}
use Rattle.gr_base.specs.Sums.{wire_edges}
use Rattle.gr_base.specs.declared.frame.Net.{Net}
use Rattle.gr_base.specs.declared.grid.Cell.{Cell}
use Rattle.gr_base.specs.declared.grid.Edge.{Edge}
use Rattle.gr_base.specs.declared.grid.Shape.{Shape}
use Rattle.gr_base.specs.declared.grid.Way.{Way}
use Rattle.gr_base.specs.declared.grid.Way.TheVariants.{East, North, Up}
use Rattle.grid_demand.proofs.CapacityLemmas.{get-all}
use Rattle.wall_laws.proofs.CutLemmas.{differ-alike, differ-next}
use Rattle.wall_laws.proofs.GridLists.{wires-are-wires, wires-in-grid}
use Rattle.wall_laws.proofs.SumLemmas.{sum-map}
use Rattle.wall_laws.specs.Spans.{tile_number}
use Rattle.wall_laws.specs.Walls.{Tiles, column_cut, crosses, differ, encloses, holds, is_parted, least_need, need_across, needs, row_cut}
use Rattle.cut_bounds.specs.Boxes.{across_of, boxes_on, box_number, box_needs, IsOnChip}
use Rattle.cut_bounds.specs.Candidates.{box_at}
use Rattle.cut_bounds.specs.Crossings.{above_of, has_tile, is_boxed, leads_out, out_holds, right_of}
use Rattle.cut_bounds.specs.Cuts.{along, line_holds, line_needs, tile_at, wires_along}
use Rattle.cut_bounds.specs.Measured.{tiles_in}
use Rattle.cut_bounds.specs.NetTiles.{Placed, placed_net, placed_nets, tile_in}
use Rattle.cut_bounds.specs.TileWires.{AreTileWires, passing_at, tiles_of, where_so}
use Rattle.cut_bounds.specs.declared.axis.Axis.TheVariants.{Columns, Rows}
use Rattle.cut_bounds.specs.declared.axis.Tile.{Tile}
use Rattle.cut_bounds.specs.declared.tile_wires.TileWires.{TileWires}
use Rattle.cut_bounds.specs.declared.wall.Wall.TheVariants.{Box}
use Rattle.cut_bounds.proofs.BoxLemmas.{box-column-below}
use Rattle.cut_bounds.proofs.SumLemmas.{below-same, sum-same}
use Rattle.cut_bounds.proofs.WireSums.{tile-number}

-- ---- what nets need

any-map : {X Y : Type 0} (p : Y → Bool) (f : X → Y) (xs : List X) → list_any p (map f xs) ≡ list_any (λ x. p (f x)) xs
any-map p f [] = refl
any-map p f (x ∷ xs) = ap (λ (b : Bool). p (f x) || b) (any-map p f xs)

any-same : {X : Type 0} (p q : X → Bool) (xs : List X) → All (λ x. p x ≡ q x) xs → list_any p xs ≡ list_any q xs
any-same p q [] same = refl
any-same {X = X} p q (x ∷ xs) same =
    ap (λ (b : Bool). b || list_any p xs) (All-head (λ (y : X). p y ≡ q y) x xs same)
    ∙ ap (λ (b : Bool). q x || b) (any-same p q xs (All-tail (λ (y : X). p y ≡ q y) x xs same))

parted-same : (p q : ℕ → Bool) (f : Tile → ℕ) (h : ℕ → Tile) (cells : List ℕ) → All (λ cell. p cell ≡ q (f (h cell))) cells →
    is_parted q (map f (map h cells)) ≡ is_parted p cells
parted-same p q f h cells same =
    let some = any-map q f (map h cells) ∙ any-map (λ t. q (f t)) h cells
    ∙ sym (any-same p (λ cell. q (f (h cell))) cells same) in
    let other = any-map (λ n. not (q n)) f (map h cells) ∙ any-map (λ t. not (q (f t))) h cells
    ∙ sym (any-same (λ cell. not (p cell)) (λ cell. not (q (f (h cell)))) cells (λ k e inside. ap (λ (b : Bool). not b) (same k e inside))) in
    ap (λ (b : Bool). b && list_any (λ n. not (q n)) (map f (map h cells))) some ∙ ap (λ (b : Bool). list_any p cells && b) other

needs-by : (d : DesignView) (tiles : Tiles) (q : ℕ → Bool) (f : Tile → ℕ) →
    ((net : ℕ) → All (λ pin. encloses d.frame.shape tiles pin ≡ q (f (tile_in d.frame.shape pin))) (pins_at d net)) →
    needs d tiles ≡ sum_by (λ (net : Placed). where_so (is_parted q (map f net.tiles)) net.need) (placed_nets d)
needs-by d tiles q f same =
    let g = d.frame.shape in
    sym (sum-map (λ (net : Placed). where_so (is_parted q (map f net.tiles)) net.need) (placed_net d) (filter (is_routed d) (range_with_len 0 (length d.nets)))
    ∙ sum-same (λ n. where_so (is_parted q (map f (map (tile_in g) (pins_at d n)))) (least_need d n)) (need_across d tiles) (filter (is_routed d) (range_with_len 0 (length d.nets)))
    (λ n. ap (λ (so : Bool). where_so so (least_need d n)) (parted-same (encloses g tiles) q f (tile_in g) (pins_at d n) (same n))))

pub column-needs : (d : DesignView) (x : ℕ) → needs d (column_cut x) ≡ line_needs Columns x (placed_nets d)
column-needs d x = needs-by d (column_cut x) (λ at. nat_le at x) (along Columns) (λ net k e inside. refl)

pub row-needs : (d : DesignView) (y : ℕ) → needs d (row_cut y) ≡ line_needs Rows y (placed_nets d)
row-needs d y = needs-by d (row_cut y) (λ at. nat_le at y) (along Rows) (λ net k e inside. refl)

-- ---- the tiles of a box

-- a quotient, by the numbers that have it
quotient-is : (s q x : ℕ) → 0 < s → (nat_le (q * s) x && nat_lt x (q * s + s)) ≡ (x / s == q)
quotient-is s q x some = same-truth (nat_le (q * s) x && nat_lt x (q * s + s)) (x / s == q)
    (λ both.
    let parts = and_parts (nat_le (q * s) x) (nat_lt x (q * s + s)) both in
    let low : q * s ≤ x = let a = parts.0 in grind (arith, nat_tests, a) in
    let high : x < q * s + s = let a = parts.1 in grind (arith, nat_tests, a) in
    let split : x ≡ q * s + (x - q * s) = omega (arith, low) in
    let is : x / s ≡ q = ap (λ (n : ℕ). n / s) split ∙ div-mul-add q s (x - q * s) (omega (arith, low, high)) in
    grind (arith, nat_tests, is))
    (λ same.
    let is : x / s ≡ q = grind (arith, nat_tests, same) in
    let split = div-add-mod' x s in
    let product = ap (λ (n : ℕ). n * s) is in
    let below = mod_below x s some in
    grind (arith, nat_tests, split, product, below))

-- along one axis: from the first to the last tile, which is cut at the chip's side
range-is : (s q x count : ℕ) → 0 < s → x < count → (nat_le (q * s) x && nat_le x (min (q * s + s) count - 1)) ≡ (x / s == q)
range-is s q x count some inside =
    ap (λ (b : Bool). nat_le (q * s) x && b) (last (q * s + s) (omega (arith, some))) ∙ quotient-is s q x some
  where
    last : (end : ℕ) → 0 < end → nat_le x (min end count - 1) ≡ nat_lt x end
    last end more = elim (cases_lt end count) [
      | inl cut ↦ let e : min end count ≡ end = omega (arith, cut) in ap (λ (n : ℕ). nat_le x (n - 1)) e ∙ grind (arith, nat_tests, more)
      | inr whole ↦ let e : min end count ≡ count = omega (arith, whole) in ap (λ (n : ℕ). nat_le x (n - 1)) e ∙ grind (arith, nat_tests, whole, inside)
    ]

pub box-same : (g : Shape) (level n : ℕ) (tile : Tile) → IsOnChip g tile → n < boxes_on g level →
    has_tile (tiles_in (Box (box_at g level n))) tile ≡ is_boxed g level n tile
box-same g level n tile on inside =
    let s : ℕ = 2 ^ level in
    let some : 0 < s = pow_pos level in
    let a : ℕ = across_of g level in
    let wide : 0 < a = omega arith in
    let qx : ℕ = n % a in
    let qy : ℕ = n / a in
    let x = range-is s qx tile.x g.columns some on.column in
    let y = range-is s qy tile.y g.rows some on.row in
    let low : tile.x / s < a = below g level tile on in
    regroup (nat_le (qx * s) tile.x) (nat_le tile.x (min (qx * s + s) g.columns - 1)) (nat_le (qy * s) tile.y) (nat_le tile.y (min (qy * s + s) g.rows - 1))
    ∙ ap (λ (b : Bool). b && (nat_le (qy * s) tile.y && nat_le tile.y (min (qy * s + s) g.rows - 1))) x
    ∙ ap (λ (b : Bool). (tile.x / s == qx) && b) y
    ∙ same-truth ((tile.x / s == qx) && (tile.y / s == qy)) (tile.y / s * a + tile.x / s == n)
    (λ both.
    let parts = and_parts (tile.x / s == qx) (tile.y / s == qy) both in
    let xis : tile.x / s ≡ qx = let p = parts.0 in grind (arith, nat_tests, p) in
    let yis : tile.y / s ≡ qy = let p = parts.1 in grind (arith, nat_tests, p) in
    let is : tile.y / s * a + tile.x / s ≡ n = ap (λ (k : ℕ). k * a + tile.x / s) yis ∙ ap (λ (k : ℕ). qy * a + k) xis ∙ div-add-mod' n a in
    grind (arith, nat_tests, is))
    (λ same.
    let is : tile.y / s * a + tile.x / s ≡ qy * a + qx = let e : tile.y / s * a + tile.x / s ≡ n = grind (arith, nat_tests, same) in e ∙ sym (div-add-mod' n a) in
    let parts = same_from_place (tile.y / s) (tile.x / s) qy qx a low (mod_below n a wide) is in
    let xis = parts.1 in
    let yis = parts.0 in
    grind (arith, nat_tests, xis, yis))
  where
    regroup : (a b c d : Bool) → (((a && b) && c) && d) ≡ ((a && b) && (c && d))
    regroup true true c d = refl
    regroup true false c d = refl
    regroup false b c d = refl

    below : (g : Shape) (level : ℕ) (tile : Tile) → IsOnChip g tile → tile.x / 2 ^ level < across_of g level
    below g level tile on = box-column-below g level tile on

-- ---- boxes and nets

pub pins-inside : (d : DesignView) → IsDesign d → (net : ℕ) → All (λ pin. pin < cells_of d.frame.shape) (pins_at d net)
pins-inside d is net = of (slice_get d.nets net) (get-all (IsNet d.frame.shape) d.nets net is.nets) where
  of : (o : Option Net) → IfSome o (IsNet d.frame.shape) → All (λ pin. pin < cells_of d.frame.shape) (pins_in o)
  of None h = λ k e inside. absurd (omega (arith, inside))
  of (Some n) h = h.pins

pub tile-on : (g : Shape) (cell : ℕ) → cell < cells_of g → IsOnChip g (tile_in g cell)
tile-on g cell inside = let p = place-inside g cell inside in record { column = p.column; row = p.row }

pub box-needs-are : (d : DesignView) (level n : ℕ) → IsDesign d → n < boxes_on d.frame.shape level →
    needs d (tiles_in (Box (box_at d.frame.shape level n))) ≡ box_needs d.frame.shape level n (placed_nets d)
box-needs-are d level n is inside =
    needs-by d (tiles_in (Box (box_at d.frame.shape level n))) (λ b. b == n) (box_number d.frame.shape level)
    (λ net k e lower. box-same d.frame.shape level n (tile_in d.frame.shape (get_or (pins_at d net) k e)) (tile-on d.frame.shape (get_or (pins_at d net) k e) (pins-inside d is net k e lower)) inside)

-- ---- what walls hold

-- the tile of a cell by its number
tile-of : (g : Shape) (cell : ℕ) → tile_at g.columns (tile_number g cell) ≡ tile_in g cell
tile-of g cell =
    let p = place_at g cell in
    let low : p.x < g.columns = mod_below cell g.columns (some_columns g) in
    let number = tile-number g cell in
    ap (λ (k : ℕ). tile_at g.columns k) (sym number)
    ∙ ap (λ (k : ℕ). record { x = k; y = (p.y * g.columns + p.x) / g.columns }) (mod-mul-add p.y g.columns p.x low)
    ∙ ap (λ (k : ℕ). record { x = p.x; y = k }) (div-mul-add p.y g.columns p.x low)

-- an edge of the grid leads through a wall where it leads out of its tiles
pub edge-out : (g : Shape) (tiles : Tiles) (inside : Tile → Bool) (e : Edge) → has_edge g e ≡ true → is_wire e ≡ true →
    ((tile : Tile) → IsOnChip g tile → has_tile tiles tile ≡ inside tile) →
    crosses g tiles e ≡ leads_out g inside e.way (tile_at g.columns (tile_number g e.low))
edge-out g tiles inside e edge wire same = way-out e.way refl wire where
  low-on : IsOnChip g (tile_in g e.low)
  low-on = tile-on g e.low (edge-low g e edge)

  high-on : IsOnChip g (tile_in g (high_of g e))
  high-on = tile-on g (high_of g e) (high-below g e edge)

  ends : crosses g tiles e ≡ differ (inside (tile_in g e.low)) (inside (tile_in g (high_of g e)))
  ends = ap (λ (b : Bool). differ b (encloses g tiles (high_of g e))) (same (tile_in g e.low) low-on)
      ∙ ap (λ (b : Bool). differ (inside (tile_in g e.low)) b) (same (tile_in g (high_of g e)) high-on)

  room : has_room g (place_at g e.low) e.way ≡ true
  room = edge-room g e edge

  way-out : (way : Way) → e.way ≡ way → is_wire_way way ≡ true →
      crosses g tiles e ≡ leads_out g inside e.way (tile_at g.columns (tile_number g e.low))
  way-out East is wire =
      let next = ap (λ (p : Cell). record { x = p.x; y = p.y }) (place-high g e edge ∙ ap (λ (w : Way). beyond (place_at g e.low) w) is) in
      let open' : nat_lt ((place_at g e.low).x + 1) g.columns ≡ true = subst (λ (w : Way). has_room g (place_at g e.low) w ≡ true) is room in
      ends ∙ ap (λ (t : Tile). differ (inside (tile_in g e.low)) (inside t)) next
      ∙ ap (λ (b : Bool). b && differ (inside (tile_in g e.low)) (inside (right_of (tile_in g e.low)))) (sym open')
      ∙ ap (λ (w : Way). leads_out g inside w (tile_in g e.low)) (sym is)
      ∙ ap (λ (t : Tile). leads_out g inside e.way t) (sym (tile-of g e.low))
  way-out North is wire =
      let next = ap (λ (p : Cell). record { x = p.x; y = p.y }) (place-high g e edge ∙ ap (λ (w : Way). beyond (place_at g e.low) w) is) in
      let open' : nat_lt ((place_at g e.low).y + 1) g.rows ≡ true = subst (λ (w : Way). has_room g (place_at g e.low) w ≡ true) is room in
      ends ∙ ap (λ (t : Tile). differ (inside (tile_in g e.low)) (inside t)) next
      ∙ ap (λ (b : Bool). b && differ (inside (tile_in g e.low)) (inside (above_of (tile_in g e.low)))) (sym open')
      ∙ ap (λ (w : Way). leads_out g inside w (tile_in g e.low)) (sym is)
      ∙ ap (λ (t : Tile). leads_out g inside e.way t) (sym (tile-of g e.low))
  way-out Up is wire = absurd (never wire) where
    never : false ≡ true → ⊥
    never h = cc

pub holds-out : (d : DesignView) (tiles : Tiles) (inside : Tile → Bool) (wires : TileWires) → AreTileWires d wires →
    ((tile : Tile) → IsOnChip d.frame.shape tile → has_tile tiles tile ≡ inside tile) → holds d tiles ≡ out_holds d.frame.shape inside wires
holds-out d tiles inside wires are same =
    let g = d.frame.shape in
    sum-all (λ e. where_so (crosses g tiles e) (capacity d e)) (λ e. where_so (leads_out g inside e.way (tile_at g.columns (tile_number g e.low))) (capacity d e)) (wire_edges g)
    (λ k e lower. ap (λ (b : Bool). where_so b (capacity d (get_or (wire_edges g) k e)))
    (edge-out g tiles inside (get_or (wire_edges g) k e) (wires-in-grid g k e lower) (wires-are-wires g k e lower) same))
    ∙ sym (are.passing (λ way number. leads_out g inside way (tile_at g.columns number)))
  where
    sum-all : {X : Type 0} (f h : X → ℕ) (xs : List X) → All (λ x. f x ≡ h x) xs → sum_by f xs ≡ sum_by h xs
    sum-all f h [] all = refl
    sum-all {X = X} f h (x ∷ xs) all =
        omega (arith, sum_by-cons f x xs, sum_by-cons h x xs, All-head (λ (y : X). f y ≡ h y) x xs all, sum-all f h xs (All-tail (λ (y : X). f y ≡ h y) x xs all))

pub box-holds-are : (d : DesignView) (level n : ℕ) (wires : TileWires) → AreTileWires d wires → n < boxes_on d.frame.shape level →
    holds d (tiles_in (Box (box_at d.frame.shape level n))) ≡ out_holds d.frame.shape (is_boxed d.frame.shape level n) wires
box-holds-are d level n wires are inside =
    holds-out d (tiles_in (Box (box_at d.frame.shape level n))) (is_boxed d.frame.shape level n) wires are (λ tile on. box-same d.frame.shape level n tile on inside)

-- ---- straight cuts

and-off : (b : Bool) → (b && false) ≡ false
and-off true = refl
and-off false = refl

pub column-out : (g : Shape) (x : ℕ) (tile : Tile) → x + 1 < g.columns →
    leads_out g (λ t. nat_le t.x x) East tile ≡ (tile.x == x)
column-out g x tile inside =
    ap (λ (b : Bool). nat_lt (tile.x + 1) g.columns && b) (differ-next tile.x x) ∙ both (cases_Bool (tile.x == x))
  where
    both : ((tile.x == x) ≡ true) ⊎ ((tile.x == x) ≡ false) → (nat_lt (tile.x + 1) g.columns && (tile.x == x)) ≡ (tile.x == x)
    both (inl on) = let open' : nat_lt (tile.x + 1) g.columns ≡ true = grind (arith, nat_tests, on, inside) in rw open' refl
    both (inr off) = rw off (and-off (nat_lt (tile.x + 1) g.columns))

pub row-out : (g : Shape) (y : ℕ) (tile : Tile) → y + 1 < g.rows →
    leads_out g (λ t. nat_le t.y y) North tile ≡ (tile.y == y)
row-out g y tile inside =
    ap (λ (b : Bool). nat_lt (tile.y + 1) g.rows && b) (differ-next tile.y y) ∙ both (cases_Bool (tile.y == y))
  where
    both : ((tile.y == y) ≡ true) ⊎ ((tile.y == y) ≡ false) → (nat_lt (tile.y + 1) g.rows && (tile.y == y)) ≡ (tile.y == y)
    both (inl on) = let open' : nat_lt (tile.y + 1) g.rows ≡ true = grind (arith, nat_tests, on, inside) in rw open' refl
    both (inr off) = rw off (and-off (nat_lt (tile.y + 1) g.rows))

pub none-out : (a : Bool) (b : Bool) → (a && differ b b) ≡ false
none-out true b = differ-alike b
none-out false b = refl

pub column-holds : (d : DesignView) (x : ℕ) (wires : TileWires) → AreTileWires d wires → x + 1 < d.frame.shape.columns →
    holds d (column_cut x) ≡ line_holds d.frame.shape Columns x wires
column-holds d x wires are inside =
    let g = d.frame.shape in
    holds-out d (column_cut x) (λ t. nat_le t.x x) wires are (λ tile on. refl)
    ∙ below-same (tiles_of g) (passing_at (λ way number. leads_out g (λ t. nat_le t.x x) way (tile_at g.columns number)) wires)
    (λ number. where_so (along Columns (tile_at g.columns number) == x) (get_or (wires_along Columns wires) number 0))
    (λ number lower.
    let a = ap (λ (b : Bool). where_so b (get_or wires.east.items number 0)) (column-out g x (tile_at g.columns number) inside) in
    let b = ap (λ (b : Bool). where_so b (get_or wires.north.items number 0)) (none-out (nat_lt ((tile_at g.columns number).y + 1) g.rows) (nat_le (tile_at g.columns number).x x)) in
    omega (arith, a, b))

pub row-holds : (d : DesignView) (y : ℕ) (wires : TileWires) → AreTileWires d wires → y + 1 < d.frame.shape.rows →
    holds d (row_cut y) ≡ line_holds d.frame.shape Rows y wires
row-holds d y wires are inside =
    let g = d.frame.shape in
    holds-out d (row_cut y) (λ t. nat_le t.y y) wires are (λ tile on. refl)
    ∙ below-same (tiles_of g) (passing_at (λ way number. leads_out g (λ t. nat_le t.y y) way (tile_at g.columns number)) wires)
    (λ number. where_so (along Rows (tile_at g.columns number) == y) (get_or (wires_along Rows wires) number 0))
    (λ number lower.
    let a = ap (λ (b : Bool). where_so b (get_or wires.north.items number 0)) (row-out g y (tile_at g.columns number) inside) in
    let b = ap (λ (b : Bool). where_so b (get_or wires.east.items number 0)) (none-out (nat_lt ((tile_at g.columns number).x + 1) g.columns) (nat_le (tile_at g.columns number).y y)) in
    omega (arith, a, b))
