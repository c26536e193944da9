-- What the nets and the wires of a design keep to.
use Rattle.std.proofs.Common.{◌≡◌, ℕ, suc, zero, ◌+◌, ◌*◌, ◌%◌, ◌<◌, ◌≤◌, ◌^◌, max, Bool, true, false, nat_le, nat_lt, List, [], ◌∷◌, ◌++◌, All, take, drop, unwrap_or, map, filter, length, get_or, slice_get, Option, Some, None, IfSome, sum_by, refl, sym, ap, subst, ◌∙◌, arith}
use Rattle.std.specs.List.{flat_map, range_with_len}
use Rattle.std.proofs.lemmas.Bool.{and_parts}
use Rattle.std.proofs.lemmas.Bool.Decides.{nat_tests}
use Rattle.std.proofs.lemmas.List.{append-nil, append_assoc, length-map}
use Rattle.std.proofs.lemmas.List.Elements.{All-head, All-map, All-weaker, filter_passes}
use Rattle.std.proofs.lemmas.List.FromFn.{length-range_with_len}
use Rattle.std.proofs.lemmas.List.Sums.{count_by-le-length, length-filter, sum_by-le}
use Rattle.std.proofs.lemmas.Nat.{one_shl}
use Rattle.gr_base.proofs.General.{fold-min-low}
use Rattle.gr_base.specs.Capacities.{capacity, width_in, widths_of}
use Rattle.gr_base.specs.Designs.{DesignView, IsDesign, IsLayer, is_routed, is_routed_net, pins_at, pins_in}
use Rattle.gr_base.specs.Grid.{cells_of, edge_at, has_edge}
use Rattle.gr_base.specs.Limits.{most_routed_pins, most_width}
use Rattle.gr_base.specs.declared.frame.Layer.{Layer}
use Rattle.gr_base.specs.declared.frame.Net.{Net}
use Rattle.gr_base.specs.declared.grid.Edge.{Edge}
use Rattle.gr_base.specs.declared.grid.Shape.{Shape}
use Rattle.gr_base.specs.declared.grid.Way.TheVariants.{East, North}
use Rattle.gr_base.proofs.GridLemmas.{few_cells}
use Rattle.grid_demand.proofs.CapacityLemmas.{capacity-most, get-all, tables-of}
use Rattle.grid_demand.proofs.RangeFilters.{filter-fails, filter-passes}
use Rattle.wall_laws.specs.Walls.{least_need, least_on, taken_on}
use Rattle.cut_bounds.specs.Boxes.{box_needs, boxes_on, IsOnChip}
use Rattle.cut_bounds.specs.Candidates.{candidates_on, AreMeasured}
use Rattle.cut_bounds.specs.Crossings.{is_boxed, out_holds}
use Rattle.cut_bounds.specs.Cuts.{AreWithin, along, lines_of}
use Rattle.cut_bounds.specs.NetTiles.{Placed, placed_by, placed_net, placed_nets, tile_in}
use Rattle.cut_bounds.specs.declared.net_tiles.NetNeed.{NetNeed}
use Rattle.cut_bounds.specs.declared.wall.MeasuredWall.{MeasuredWall}
use Rattle.cut_bounds.specs.TileWires.{AreTileWires, held_by, sum_below, tiles_of}
use Rattle.cut_bounds.specs.declared.axis.Axis.{Axis}
use Rattle.cut_bounds.specs.declared.axis.Axis.TheVariants.{Columns, Rows}
use Rattle.cut_bounds.specs.declared.axis.Tile.{Tile}
use Rattle.cut_bounds.specs.declared.tile_wires.TileWires.{TileWires}
use Rattle.cut_bounds.proofs.MeaningLemmas.{box-holds-are, box-needs-are, pins-inside, tile-on}
use Rattle.cut_bounds.proofs.SumLemmas.{below-most, where-le}
use Rattle.cut_bounds.proofs.WireSums.{from_cell, wires-sum}

-- ---- nets

routed-some : (d : DesignView) (n : ℕ) → is_routed d n ≡ true → 0 < length (pins_at d n)
routed-some d n routed = by (slice_get d.nets n) routed where
  by : (o : Option Net) → is_routed_net o ≡ true → 0 < length (pins_in o)
  by None h = absurd (never h) where
    never : false ≡ true → ⊥
    never e = cc
  by (Some net) h = let parts = and_parts (nat_lt 0 (length net.pins)) (nat_le (length net.pins) most_routed_pins) h in let p = parts.0 in grind (arith, nat_tests, p)

-- each routed net has a tile, and all its tiles lie on the chip
pub nets-some : (d : DesignView) → All (λ (net : Placed). 0 < length net.tiles) (placed_nets d)
nets-some d =
    All-map (λ (net : Placed). 0 < length net.tiles) (placed_net d) (filter (is_routed d) (range_with_len 0 (length d.nets)))
    (All-weaker (λ n. is_routed d n ≡ true) (λ n. 0 < length (map (tile_in d.frame.shape) (pins_at d n)))
    (λ n routed. let s = routed-some d n routed in omega (arith, s, length-map (pins_at d n) (tile_in d.frame.shape)))
    (filter (is_routed d) (range_with_len 0 (length d.nets))) (filter_passes (is_routed d) (range_with_len 0 (length d.nets))))

pub nets-on-chip : (d : DesignView) → IsDesign d → All (λ (net : Placed). All (IsOnChip d.frame.shape) net.tiles) (placed_nets d)
nets-on-chip d is =
    All-map (λ (net : Placed). All (IsOnChip d.frame.shape) net.tiles) (placed_net d) (filter (is_routed d) (range_with_len 0 (length d.nets)))
    (All-weaker (λ n. is_routed d n ≡ true) (λ n. All (IsOnChip d.frame.shape) (map (tile_in d.frame.shape) (pins_at d n)))
    (λ n routed. All-map (IsOnChip d.frame.shape) (tile_in d.frame.shape) (pins_at d n)
    (All-weaker (λ pin. pin < cells_of d.frame.shape) (λ pin. IsOnChip d.frame.shape (tile_in d.frame.shape pin)) (λ pin inside. tile-on d.frame.shape pin inside) (pins_at d n) (pins-inside d is n)))
    (filter (is_routed d) (range_with_len 0 (length d.nets))) (filter_passes (is_routed d) (range_with_len 0 (length d.nets))))

pub nets-within : (d : DesignView) (axis : Axis) → IsDesign d → All (λ (net : Placed). AreWithin axis (lines_of d.frame.shape axis) net.tiles) (placed_nets d)
nets-within d axis is =
    All-weaker (λ (net : Placed). All (IsOnChip d.frame.shape) net.tiles) (λ (net : Placed). AreWithin axis (lines_of d.frame.shape axis) net.tiles)
    (λ net all. All-weaker (IsOnChip d.frame.shape) (λ tile. along axis tile < lines_of d.frame.shape axis) (λ tile on. by axis tile on) net.tiles all)
    (placed_nets d) (nets-on-chip d is)
  where
    by : (a : Axis) (tile : Tile) → IsOnChip d.frame.shape tile → along a tile < lines_of d.frame.shape a
    by Columns tile on = on.column
    by Rows tile on = on.row

-- ---- what the nets need together is small

least-small : (width n : ℕ) (layers : List Layer) → width ≤ most_width → All IsLayer layers → least_on width (take n layers) ≤ 2000
least-small width zero layers small all = omega arith
least-small width (suc n) [] small all = omega arith
least-small width (suc n) (layer ∷ layers) small all =
    let low = fold-min-low (taken_on width layer) (map (taken_on width) (take n layers)) in
    let is = All-head IsLayer layer layers all in
    omega (arith, low, small, is.width, is.spacing)

width-small : (d : DesignView) → IsDesign d → (n : ℕ) → width_in (widths_of d) n ≤ most_width
width-small d is n = by (slice_get (widths_of d) n) (get-all (λ width. width ≤ most_width) (widths_of d) n (tables-of d is).widths) where
  by : (o : Option ℕ) → IfSome o (λ width. width ≤ most_width) → unwrap_or o 0 ≤ most_width
  by None h = omega arith
  by (Some w) h = h

need-small : (d : DesignView) → IsDesign d → (n : ℕ) → least_need d n ≤ 2000
need-small d is n = least-small (width_in (widths_of d) n) d.frame.shape.layers d.frame.layers (width-small d is n) is.frame.layers

pub nets-few : (d : DesignView) → IsDesign d → length (placed_nets d) ≤ 4194304
nets-few d is =
    omega (
      arith,
      length-map (filter (is_routed d) (range_with_len 0 (length d.nets))) (placed_net d),
      length-filter (is_routed d) (range_with_len 0 (length d.nets)),
      count_by-le-length (is_routed d) (range_with_len 0 (length d.nets)),
      length-range_with_len 0 (length d.nets),
      is.few_nets,
    )

pub needs-few : (d : DesignView) → IsDesign d → sum_by (λ (net : Placed). net.need) (placed_nets d) < 2 ^ 63
needs-few d is =
    let ns : List ℕ = filter (is_routed d) (range_with_len 0 (length d.nets)) in
    let most = sum_by-le (λ (net : Placed). net.need) 2000 (placed_nets d)
    (All-map (λ (net : Placed). net.need ≤ 2000) (placed_net d) ns (λ k e inside. need-small d is (get_or ns k e))) in
    omega (arith, most, nets-few d is)

-- ---- what the wires hold together is small

pub wires-few : (d : DesignView) (wires : TileWires) → IsDesign d → AreTileWires d wires → sum_below (tiles_of d.frame.shape) (held_by wires) < 2 ^ 62
wires-few d wires is are =
    let f : Edge → ℕ = λ e. capacity d e in
    let all = are.passing (λ way tile. true) in
    let cells = wires-sum d.frame.shape f in
    let most = below-most (cells_of d.frame.shape) 2000000 (from_cell d.frame.shape f) (λ k lower.
    let a = where-le (has_edge d.frame.shape (edge_at k East)) (f (edge_at k East)) in
    let b = where-le (has_edge d.frame.shape (edge_at k North)) (f (edge_at k North)) in
    let p = capacity-most d is (edge_at k East) in
    let q = capacity-most d is (edge_at k North) in
    omega (arith, a, b, p, q)) in
    omega (arith, all, cells, most, few_cells d.frame.shape)

pub length-placed : (net_needs : List NetNeed) (tiles : List Tile) → length (placed_by net_needs tiles) ≡ length net_needs
length-placed [] tiles = refl
length-placed (net_need ∷ net_needs) tiles = let rest = length-placed net_needs (drop net_need.pins tiles) in omega (arith, rest)

-- ---- the boxes of a side

pub boxes-measured : (d : DesignView) (g : Shape) (level : ℕ) (nets : List Placed) (wires : TileWires) (needs holds : List ℕ) → g ≡ d.frame.shape →
    ((n : ℕ) → box_needs d.frame.shape level n nets ≡ box_needs d.frame.shape level n (placed_nets d)) → IsDesign d → AreTileWires d wires →
    ((n : ℕ) → n < boxes_on g level → get_or needs n 0 ≡ box_needs g level n nets) →
    ((n : ℕ) → n < boxes_on g level → get_or holds n 0 ≡ out_holds g (is_boxed g level n) wires) → AreMeasured d level needs holds
boxes-measured d g level nets wires needs holds same left is are need hold = record {
  each = λ n inside.
      let low : n < boxes_on g level = subst (λ (s : Shape). n < boxes_on s level) (sym same) inside in (
        need n low ∙ ap (λ (s : Shape). box_needs s level n nets) same ∙ left n ∙ sym (box-needs-are d level n is inside),
        hold n low ∙ ap (λ (s : Shape). out_holds s (is_boxed s level n) wires) same ∙ sym (box-holds-are d level n wires are inside),
      );
}

-- ---- sides one after another

-- the overfull boxes of the first sides
abbrev pub candidates_below : DesignView → ℕ → List MeasuredWall
candidates_below d n = flat_map (candidates_on d) (filter (λ level. nat_lt (2 ^ level) (max d.frame.shape.columns d.frame.shape.rows)) (range_with_len 0 n))

flat-more : (d : DesignView) (ns : List ℕ) (n : ℕ) → flat_map (candidates_on d) (ns ++ n ∷ []) ≡ flat_map (candidates_on d) ns ++ candidates_on d n
flat-more d [] n = append-nil (candidates_on d n)
flat-more d (k ∷ ns) n =
    ap (λ (ms : List MeasuredWall). candidates_on d k ++ ms) (flat-more d ns n) ∙ sym (append_assoc (candidates_on d k) (flat_map (candidates_on d) ns) (candidates_on d n))

pub side-more : (d : DesignView) (n : ℕ) (found new : List MeasuredWall) → nat_lt (2 ^ n) (max d.frame.shape.columns d.frame.shape.rows) ≡ true →
    found ≡ candidates_below d n → new ≡ found ++ candidates_on d n → new ≡ candidates_below d (n + 1)
side-more d n found new on was is =
    let p : ℕ → Bool = λ level. nat_lt (2 ^ level) (max d.frame.shape.columns d.frame.shape.rows) in
    let ns : List ℕ = filter p (range_with_len 0 n) in
    is ∙ ap (λ (ms : List MeasuredWall). ms ++ candidates_on d n) was ∙ sym (flat-more d ns n)
    ∙ ap (λ (ks : List ℕ). flat_map (candidates_on d) ks) (filter-passes p n ns (ns ++ n ∷ []) refl on refl)

pub side-passed : (d : DesignView) (n : ℕ) (found : List MeasuredWall) → nat_lt (2 ^ n) (max d.frame.shape.columns d.frame.shape.rows) ≡ false →
    found ≡ candidates_below d n → found ≡ candidates_below d (n + 1)
side-passed d n found off was =
    let p : ℕ → Bool = λ level. nat_lt (2 ^ level) (max d.frame.shape.columns d.frame.shape.rows) in
    let ns : List ℕ = filter p (range_with_len 0 n) in
    was ∙ ap (λ (ks : List ℕ). flat_map (candidates_on d) ks) (filter-fails p n ns refl off)

-- the code's test of a side
pub side-test : (d : DesignView) (g : Shape) (n columns rows longer : ℕ) (so : Bool) → n < 24 → g ≡ d.frame.shape → columns ≡ g.columns → rows ≡ g.rows → longer ≡ max columns rows →
    so ≡ nat_lt (1 * 2 ^ n % 2 ^ 32) longer → nat_lt (2 ^ n) (max d.frame.shape.columns d.frame.shape.rows) ≡ so
side-test d g n columns rows longer so few same wide high' is test =
    let e = one_shl n 32 (omega (arith, few)) in
    sym (test ∙ ap (λ (k : ℕ). nat_lt k longer) e ∙ ap (λ (k : ℕ). nat_lt (2 ^ n) k) is
    ∙ ap (λ (k : ℕ). nat_lt (2 ^ n) (max k rows)) wide ∙ ap (λ (k : ℕ). nat_lt (2 ^ n) (max g.columns k)) high'
    ∙ ap (λ (s : Shape). nat_lt (2 ^ n) (max s.columns s.rows)) same)

-- ---- what the loop over the nets asks, as the code holds the nets

pub code-within : (d : DesignView) (g : Shape) (nets : List Placed) → IsDesign d → g ≡ d.frame.shape → nets ≡ placed_nets d → All (λ (net : Placed). All (IsOnChip g) net.tiles) nets
code-within d g nets is same placed =
    subst (λ (s : Shape). All (λ (net : Placed). All (IsOnChip s) net.tiles) nets) (sym same)
    (subst (λ (ns : List Placed). All (λ (net : Placed). All (IsOnChip d.frame.shape) net.tiles) ns) (sym placed) (nets-on-chip d is))

pub code-some : (d : DesignView) (nets : List Placed) → nets ≡ placed_nets d → All (λ (net : Placed). 0 < length net.tiles) nets
code-some d nets placed = subst (λ (ns : List Placed). All (λ (net : Placed). 0 < length net.tiles) ns) (sym placed) (nets-some d)

pub code-few : (d : DesignView) (nets : List Placed) → IsDesign d → nets ≡ placed_nets d → sum_by (λ (net : Placed). net.need) nets < 2 ^ 63
code-few d nets is placed = subst (λ (ns : List Placed). sum_by (λ (net : Placed). net.need) ns < 2 ^ 63) (sym placed) (needs-few d is)

pub code-net_needs : (d : DesignView) (net_needs : List NetNeed) (tiles : List Tile) → IsDesign d → placed_by net_needs tiles ≡ placed_nets d → length net_needs < 2 ^ 31
code-net_needs d net_needs tiles is placed =
    let a = length-placed net_needs tiles in
    let b = ap (λ (ns : List Placed). length ns) placed in
    omega (arith, a, b, nets-few d is)

pub code-wires : (d : DesignView) (g : Shape) (wires : TileWires) → IsDesign d → g ≡ d.frame.shape → AreTileWires d wires → sum_below (tiles_of g) (held_by wires) < 2 ^ 62
code-wires d g wires is same are = subst (λ (s : Shape). sum_below (tiles_of s) (held_by wires) < 2 ^ 62) (sym same) (wires-few d wires is are)

pub code-lines : (d : DesignView) (axis : Axis) (nets : List Placed) → IsDesign d → nets ≡ placed_nets d → All (λ (net : Placed). AreWithin axis (lines_of d.frame.shape axis) net.tiles) nets
code-lines d axis nets is placed =
    subst (λ (ns : List Placed). All (λ (net : Placed). AreWithin axis (lines_of d.frame.shape axis) net.tiles) ns) (sym placed) (nets-within d axis is)
