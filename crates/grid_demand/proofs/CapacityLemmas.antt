-- The tables of a capacity.
use Rattle.std.proofs.Common.{◌≡◌, ℕ, suc, zero, ◌+◌, ◌-◌, ◌*◌, ◌<◌, ◌≤◌, inl, inr, Bool, true, false, List, [], ◌∷◌, ◌++◌, map, reverse, length, take, get_or, replicate, All, slice_index, slice_set, slice_get, find, Option, Some, None, IfSome, option_map, unwrap_or, if◌then◌else◌, IsTrue, refl, sym, ap, subst, ◌∙◌, arith}
use Rattle.std.proofs.lemmas.Bool.{both_ways}
use Rattle.std.proofs.lemmas.Bool.Decides.{nat_tests}
use Rattle.std.proofs.Math.Nat.{div-div-eq-div-mul}
use Rattle.std.proofs.lemmas.Nat.{div-mul-add}
use Rattle.std.proofs.lemmas.List.{length-append, get_or_append_left, get_or-append-add, append-nil, append_assoc, reverse-append, replicate_more, take_all, take_more, map-append}
use Rattle.std.proofs.lemmas.List.Elements.{All-head, All-tail, All-map, All-weaker}
use Rattle.std.proofs.lemmas.List.FromFn.{length-map-range_with_len, get_or-map-range_with_len, map-range_with_len_more}
use Rattle.std.proofs.lemmas.List.Sorted.{All-permutation, IsPermutation-reverse}
use Rattle.std.proofs.lemmas.Option.{get_or_from_slice_get, slice_get_within, slice_get-get_or}
use Rattle.std.specs.List.{range_with_len}
use Rattle.gr_base.proofs.GridLemmas.{place-inside}
use Rattle.gr_base.specs.Capacities.{stated_along, stated, capacity_by, capacity, need_along, widths_of}
use Rattle.gr_base.specs.Designs.{DesignView, IsDesign, IsLayer, IsNet, IsAdjustment}
use Rattle.gr_base.specs.EdgeSets.{is_edge}
use Rattle.gr_base.specs.Grid.{cells_of, place_at, edge_at, has_edge, is_wire, is_wire_way}
use Rattle.gr_base.specs.Limits.{most_capacity, most_width}
use Rattle.gr_base.specs.Sums.{wire_at, wire_number, wires_from_cells}
use Rattle.gr_base.specs.declared.frame.Adjustment.{Adjustment}
use Rattle.gr_base.specs.declared.frame.Frame.{Frame}
use Rattle.gr_base.specs.declared.frame.Layer.{Layer}
use Rattle.gr_base.specs.declared.frame.Net.{Net}
use Rattle.gr_base.specs.declared.grid.Edge.{Edge}
use Rattle.gr_base.specs.declared.grid.Shape.{Shape}
use Rattle.gr_base.specs.declared.grid.Way.{Way}
use Rattle.gr_base.specs.declared.grid.Way.TheVariants.{East, North, Up}
use Rattle.grid_demand.proofs.PlaneLemmas.{StandsAt, stands, placed, length-by_number, by_number-at}
use Rattle.grid_demand.proofs.WireLemmas.{table-edge, table-set, table-same, table-is, length-table, number-below, wire_at-east, wire_at-north}
use Rattle.grid_demand.specs.LayerNeeds.{IsLayerNeed}
use Rattle.grid_demand.specs.Planes.{place_of, by_number}
use Rattle.grid_demand.specs.Tables.{CapacityView, capacity_of, capacity_at, IsCapacity, cell_layers, stated_table, stated_along_way}

-- the table of a design has the capacity of each wire edge
pub capacity-table : (d : DesignView) (e : Edge) → IsTrue (has_edge d.frame.shape e) → IsTrue (is_wire e) →
    capacity_at (capacity_of d) e ≡ capacity d e
capacity-table d e edge wire = table-edge d.frame.shape (capacity d) e edge wire

-- where a wire edge's capacity stands
pub capacity-place : (c now : CapacityView) (capacities : List ℕ) (wires : ℕ) (e : Edge) (place : ℕ) → IsCapacity c → c ≡ now →
    by_number 0 capacities ≡ c.capacities → IsTrue (has_edge now.shape e) → wires ≡ length capacities → place ≡ place_of wires (wire_number e) →
    StandsAt 0 capacities (wire_number e) place
capacity-place c now capacities wires e place tables same is edge all at =
    let inside : wire_number e < 2 * cells_of c.shape = subst (λ (v : CapacityView). wire_number e < 2 * cells_of v.shape) (sym same) (number-below now.shape e edge) in
    let long : length capacities ≡ 2 * cells_of c.shape = sym (length-by_number 0 capacities) ∙ ap length is ∙ tables.wires in
    stands 0 capacities wires (wire_number e) place (omega (arith, inside, long)) all at

-- the first elements and the next one
pub take-next : {X : Type 0} (xs : List X) (k : ℕ) (x : X) → slice_get xs k ≡ Some x → take (k + 1) xs ≡ take k xs ++ x ∷ []
take-next xs k x is =
    take_more xs k x (slice_get_within xs k x is) ∙ ap (λ (y : _). take k xs ++ y ∷ []) (get_or_from_slice_get xs k x x is)

chosen : (b : Bool) (o : Option Adjustment) (a : Adjustment) (n : ℕ) →
    unwrap_or (option_map (λ (adjustment : Adjustment). adjustment.capacity) (if b then Some a else o)) n ≡
    (if b then a.capacity else unwrap_or (option_map (λ (adjustment : Adjustment). adjustment.capacity) o) n)
chosen true o a n = refl
chosen false o a n = refl

-- the last adjustment counts
pub capacity_by-push : (frame : Frame) (adjustments : List Adjustment) (a : Adjustment) (e : Edge) →
    capacity_by frame (adjustments ++ a ∷ []) e ≡ (if is_edge e a.edge then a.capacity else capacity_by frame adjustments e)
capacity_by-push frame adjustments a e =
    let turned : reverse (adjustments ++ a ∷ []) ≡ a ∷ reverse adjustments = reverse-append adjustments (a ∷ []) in
    let F : List Adjustment → ℕ = λ xs. unwrap_or (option_map (λ (adjustment : Adjustment). adjustment.capacity) (find (λ (adjustment : Adjustment). is_edge e adjustment.edge) xs)) (stated frame e) in
    ap F turned ∙ chosen (is_edge e a.edge) (find (λ (adjustment : Adjustment). is_edge e adjustment.edge) (reverse adjustments)) a (stated frame e)

-- the table after one more adjustment
pub adjusted-table : (frame : Frame) (adjustments : List Adjustment) (k : ℕ) (a : Adjustment) (old : List ℕ) →
    slice_get adjustments k ≡ Some a → IsTrue (has_edge frame.shape a.edge) → IsTrue (is_wire a.edge) →
    old ≡ map (capacity_by frame (take k adjustments)) (wires_from_cells frame.shape) →
    slice_set old (wire_number a.edge) a.capacity ≡ map (capacity_by frame (take (k + 1) adjustments)) (wires_from_cells frame.shape)
adjusted-table frame adjustments k a old is edge wire before =
    let F : List ℕ → List ℕ = λ xs. slice_set xs (wire_number a.edge) a.capacity in
    let G : List Adjustment → List ℕ = λ xs. map (capacity_by frame xs) (wires_from_cells frame.shape) in
    ap F before ∙ table-set frame.shape (capacity_by frame (take k adjustments)) a.edge a.capacity edge wire
    ∙ table-same frame.shape (λ e. if is_edge e a.edge then a.capacity else capacity_by frame (take k adjustments) e) (capacity_by frame (take k adjustments ++ a ∷ []))
    (λ e _. sym (capacity_by-push frame (take k adjustments) a e))
    ∙ sym (ap G (take-next adjustments k a is))

-- where the next adjustment goes in a table in planes, and the table then
pub adjusted-place : (g : Shape) (f : Edge → ℕ) (capacities : List ℕ) (wires : ℕ) (e : Edge) (place : ℕ) → by_number 0 capacities ≡ map f (wires_from_cells g) →
    IsTrue (has_edge g e) → wires ≡ length capacities → place ≡ place_of wires (wire_number e) →
    (length capacities ≡ 2 * cells_of g) × StandsAt 0 capacities (wire_number e) place
adjusted-place g f capacities wires e place is edge all at =
    let long : length capacities ≡ 2 * cells_of g = sym (length-by_number 0 capacities) ∙ ap length is ∙ length-table g f in
    let inside = number-below g e edge in
    (long, stands 0 capacities wires (wire_number e) place (omega (arith, inside, long)) all at)

-- the widths of the first nets and the next one
pub widths-more : (nets : List Net) (k : ℕ) (net : Net) (old : List ℕ) → slice_get nets k ≡ Some net →
    old ≡ map (λ (n : Net). n.width) (take k nets) → old ++ net.width ∷ [] ≡ map (λ (n : Net). n.width) (take (k + 1) nets)
widths-more nets k net old is before =
    ap (λ (xs : List ℕ). xs ++ net.width ∷ []) before
    ∙ sym (map-append (λ (n : Net). n.width) (take k nets) (net ∷ []))
    ∙ sym (ap (map (λ (n : Net). n.width)) (take-next nets k net is))

-- a layer's cells follow one another
pub layer-of : (g : Shape) (layer tile : ℕ) → tile < g.columns * g.rows → (place_at g (layer * (g.columns * g.rows) + tile)).layer ≡ layer
layer-of g layer tile below =
    div-div-eq-div-mul (layer * (g.columns * g.rows) + tile) g.columns g.rows ∙ div-mul-add layer (g.columns * g.rows) tile below

-- what the cells below one and so many from it have, where those have one value
run : (f : ℕ → ℕ) (first n value : ℕ) → ((k : ℕ) → k < n → f (first + k) ≡ value) →
    map f (range_with_len 0 (first + n)) ≡ map f (range_with_len 0 first) ++ replicate n value
run f first zero value each =
    let none : first + 0 ≡ first = omega arith in
    ap (λ (k : ℕ). map f (range_with_len 0 k)) none ∙ sym (append-nil (map f (range_with_len 0 first)))
run f first (suc n) value each =
    let before : List ℕ = map f (range_with_len 0 first) in
    let more : first + suc n ≡ (first + n) + 1 = omega arith in
    let count : n + 1 ≡ suc n = omega arith in
    ap (λ (k : ℕ). map f (range_with_len 0 k)) more ∙ map-range_with_len_more f 0 (first + n) (first + n) (omega arith)
    ∙ ap (λ (k : ℕ). map f (range_with_len 0 (first + n)) ++ k ∷ []) (each n (omega arith))
    ∙ ap (λ (xs : List ℕ). xs ++ value ∷ []) (run f first n value (λ k below. each k (omega (arith, below))))
    ∙ append_assoc before (replicate n value) (value ∷ [])
    ∙ ap (λ (xs : List ℕ). before ++ xs) (replicate_more n value ∙ ap (λ (k : ℕ). replicate k value) count)

-- a list that is filled up with copies
filled : (old new : List ℕ) (end long cells value : ℕ) → long ≡ length old → end ≡ length old + cells →
    new ≡ take end old ++ replicate (end - long) value → new ≡ old ++ replicate cells value
filled old new end long cells value whole ends is =
    let some : end - long ≡ cells = omega arith in
    is ∙ ap (λ (n : ℕ). take end old ++ replicate n value) some
    ∙ ap (λ (xs : List ℕ). xs ++ replicate cells value) (take_all end old (omega (arith, ends)))

-- what the cells below the next layer have, where each layer's cells have one value
pub layers-more : (f : ℕ → ℕ) (layer tiles value end long cells : ℕ) (start old new : List ℕ) → long ≡ length old → end ≡ length old + cells → cells ≡ tiles →
    new ≡ take end old ++ replicate (end - long) value → ((k : ℕ) → k < tiles → f (layer * tiles + k) ≡ value) →
    old ≡ start ++ map f (range_with_len 0 (layer * tiles)) → new ≡ start ++ map f (range_with_len 0 ((layer + 1) * tiles))
layers-more f layer tiles value end long cells start old new whole ends many is each before =
    let next : layer * tiles + tiles ≡ (layer + 1) * tiles = omega arith in
    filled old new end long cells value whole ends is ∙ ap (λ (n : ℕ). old ++ replicate n value) many
    ∙ ap (λ (xs : List ℕ). xs ++ replicate tiles value) before
    ∙ append_assoc start (map f (range_with_len 0 (layer * tiles))) (replicate tiles value)
    ∙ ap (λ (xs : List ℕ). start ++ xs) (sym (run f (layer * tiles) tiles value each) ∙ ap (λ (k : ℕ). map f (range_with_len 0 k)) next)

-- all layers have all cells
pub all-cells : (g : Shape) (layer : ℕ) → layer ≡ g.layers → layer * (g.columns * g.rows) ≡ cells_of g
all-cells g layer is = ap (λ (n : ℕ). n * (g.columns * g.rows)) is ∙ omega arith

-- what a layer states for its cells
pub stated-layer : (frame : Frame) (way : Way) (layer tile value : ℕ) (blank : Layer) → length frame.layers ≡ 16 → layer < 16 →
    tile < frame.shape.columns * frame.shape.rows → value ≡ stated_along way (Some (get_or frame.layers layer blank)) →
    stated frame (edge_at (layer * (frame.shape.columns * frame.shape.rows) + tile) way) ≡ value
stated-layer frame way layer tile value blank long below inside is =
    ap (λ (k : ℕ). stated_along way (slice_get frame.layers k)) (layer-of frame.shape layer tile inside)
    ∙ ap (stated_along way) (slice_get-get_or frame.layers layer blank (omega (arith, below, long))) ∙ sym is

-- what the layers state, in planes
pub stated-planes : (frame : Frame) (xs : List ℕ) →
    xs ≡ stated_along_way frame East (cells_of frame.shape) ++ stated_along_way frame North (cells_of frame.shape) → by_number 0 xs ≡ stated_table frame
stated-planes frame xs is =
    let cells = cells_of frame.shape in
    let plane : Way → ℕ → ℕ = λ way cell. stated frame (edge_at cell way) in
    let east : List ℕ = stated_along_way frame East cells in
    let north : List ℕ = stated_along_way frame North cells in
    let east_long : length east ≡ cells = length-map-range_with_len (plane East) 0 cells in
    let north_long : length north ≡ cells = length-map-range_with_len (plane North) 0 cells in
    let long : length xs ≡ 2 * cells = ap length is ∙ length-append east north ∙ omega (arith, east_long, north_long) in
    table-is frame.shape (stated frame) (by_number 0 xs) (length-by_number 0 xs ∙ long)
    (λ n below.
    let place = placed cells n in
    by_number-at 0 xs n (omega (arith, below, long)) ∙ ap (λ (w : ℕ). slice_index xs (place_of w n)) long
    ∙ ap (λ (ys : List ℕ). slice_index ys (place_of (2 * cells) n)) is
    ∙ elim place.either [
      | inl first ↦
          let inside : place.low < cells = let number = first.0 in omega (arith, below, number) in
          ap (λ (k : ℕ). slice_index (east ++ north) k) first.1 ∙ get_or_append_left east north 0 place.low (omega (arith, inside, east_long))
          ∙ get_or-map-range_with_len (plane East) 0 cells place.low place.low 0 inside (omega arith)
          ∙ ap (stated frame) (sym (ap wire_at first.0 ∙ wire_at-east place.low))
      | inr second ↦
          let inside : place.low < cells = let number = second.0 in omega (arith, below, number) in
          ap (λ (k : ℕ). slice_index (east ++ north) k) (second.1 ∙ ap (λ (k : ℕ). k + place.low) (sym east_long))
          ∙ get_or-append-add east north place.low 0
          ∙ get_or-map-range_with_len (plane North) 0 cells place.low place.low 0 inside (omega arith)
          ∙ ap (stated frame) (sym (ap wire_at second.0 ∙ wire_at-north place.low))
    ])

-- the layer that stands beside a cell
pub length-layers : (g : Shape) (xs : List ℕ) → xs ≡ cell_layers g → length xs ≡ cells_of g
length-layers g xs is = ap length is ∙ length-map-range_with_len (λ (c : ℕ). (place_at g c).layer) 0 (cells_of g)

pub layer-read : (g : Shape) (xs : List ℕ) (cell n : ℕ) → xs ≡ cell_layers g → cell < cells_of g → n ≡ get_or xs cell n → n ≡ (place_at g cell).layer
layer-read g xs cell n is below read =
    read ∙ ap (λ (ys : List ℕ). get_or ys cell n) is
    ∙ get_or-map-range_with_len (λ (c : ℕ). (place_at g c).layer) 0 (cells_of g) cell cell n below (omega arith)

pub few_layers : (g : Shape) (cell : ℕ) → cell < cells_of g → (place_at g cell).layer < 16
few_layers g cell below =
    let inside = (place-inside g cell below).layer in
    let few : g.layers ≤ 16 = let v = g.valid in grind (arith, nat_tests) in
    omega arith

-- a net takes as much of an East edge as of a North edge
ways : (a b : Way) (width : ℕ) (layer : Option Layer) → IsTrue (is_wire_way a) → IsTrue (is_wire_way b) → need_along a width layer ≡ need_along b width layer
ways Up b width layer is _ = absurd (both_ways false refl is)
ways East Up width layer _ is = absurd (both_ways false refl is)
ways North Up width layer _ is = absurd (both_ways false refl is)
ways East East width layer _ _ = refl
ways North North width layer _ _ = refl
ways East North width None _ _ = refl
ways North East width None _ _ = refl
ways East North width (Some layer) _ _ = refl
ways North East width (Some layer) _ _ = refl

-- what a net takes of the wire edges on the layer of one
pub layer-need : (c : CapacityView) (width : ℕ) (e : Edge) (layer cells need : ℕ) → IsTrue (is_wire e) → layer ≡ (place_at c.shape e.low).layer →
    cells ≡ c.shape.columns * c.shape.rows → need ≡ need_along e.way width (slice_get c.layers (place_at c.shape e.low).layer) → need ≤ 2 * most_width →
    IsLayerNeed c width (record { from = layer * cells; to = layer * cells + cells; need = need })
layer-need c width e layer cells need wire at many is few =
    record {
      each = λ a also low high.
          let first : layer * cells ≡ layer * (c.shape.columns * c.shape.rows) = ap (λ (n : ℕ). layer * n) many in
          let there : layer * (c.shape.columns * c.shape.rows) + (a.low - layer * cells) ≡ a.low = omega (arith, first, low) in
          let same : (place_at c.shape a.low).layer ≡ layer =
          ap (λ (n : ℕ). (place_at c.shape n).layer) (sym there) ∙ layer-of c.shape layer (a.low - layer * cells) (omega (arith, high, low, many)) in
          is ∙ ways e.way a.way width (slice_get c.layers (place_at c.shape e.low).layer) wire also
          ∙ ap (λ (n : ℕ). need_along a.way width (slice_get c.layers n)) (sym at ∙ sym same);
      most = few;
    }

-- an adjustment of a design names a wire edge
pub adjustment-in : (g : Shape) (xs : List Adjustment) (k : ℕ) (a : Adjustment) → All (IsAdjustment g) xs → slice_get xs k ≡ Some a → IsAdjustment g a
adjustment-in g xs k a all is =
    subst (IsAdjustment g) (get_or_from_slice_get xs k a a is) (all k a (slice_get_within xs k a is))

if_either : {X : Type 0} (P : X → Type 0) (b : Bool) (x : X) (o : Option X) → P x → IfSome o P → IfSome (if b then Some x else o) P
if_either P true x o here later = here
if_either P false x o here later = later

find-all : {X : Type 0} (P : X → Type 0) (p : X → Bool) (xs : List X) → All P xs → IfSome (find p xs) P
find-all P p [] all = tt
find-all P p (x ∷ xs) all = if_either P (p x) x (find p xs) (All-head P x xs all) (find-all P p xs (All-tail P x xs all))

pub get-all : {X : Type 0} (P : X → Type 0) (xs : List X) (k : ℕ) → All P xs → IfSome (slice_get xs k) P
get-all P [] k all = tt
get-all P (x ∷ xs) zero all = All-head P x xs all
get-all P (x ∷ xs) (suc k) all = get-all P xs k (All-tail P x xs all)

stated-most : (way : Way) (o : Option Layer) → IfSome o IsLayer → stated_along way o ≤ most_capacity
stated-most way None layer = omega arith
stated-most East (Some x) layer = layer.horizontal
stated-most North (Some x) layer = layer.vertical
stated-most Up (Some x) layer = omega arith

either-most : (o : Option Adjustment) (n : ℕ) → IfSome o (λ a. a.capacity ≤ most_capacity) → n ≤ most_capacity →
    unwrap_or (option_map (λ (adjustment : Adjustment). adjustment.capacity) o) n ≤ most_capacity
either-most None n found rest = rest
either-most (Some a) n found rest = found

-- a design's capacities are in range
pub capacity-most : (d : DesignView) → IsDesign d → (e : Edge) → capacity d e ≤ most_capacity
capacity-most d design e =
    let P : Adjustment → Type 0 = λ a. a.capacity ≤ most_capacity in
    let all : All P d.adjustments = All-weaker (IsAdjustment d.frame.shape) P (λ a is. is.capacity) d.adjustments design.adjustments in
    let turned : All P (reverse d.adjustments) = All-permutation P d.adjustments (reverse d.adjustments) (IsPermutation-reverse d.adjustments) all in
    either-most (find (λ (adjustment : Adjustment). is_edge e adjustment.edge) (reverse d.adjustments)) (stated d.frame e)
    (find-all P (λ (adjustment : Adjustment). is_edge e adjustment.edge) (reverse d.adjustments) turned)
    (stated-most e.way (slice_get d.frame.layers (place_at d.frame.shape e.low).layer) (get-all IsLayer d.frame.layers (place_at d.frame.shape e.low).layer design.frame.layers))

-- the tables of a design are whole
pub tables-of : (d : DesignView) → IsDesign d → IsCapacity (capacity_of d)
tables-of d design = record {
  layers = design.frame.count;
  in_range = design.frame.layers;
  widths =
      All-map (λ (width : ℕ). width ≤ most_width) (λ (net : Net). net.width) d.nets
      (All-weaker (IsNet d.frame.shape) (λ (net : Net). net.width ≤ most_width) (λ net is. is.width) d.nets design.nets);
  wires = length-table d.frame.shape (capacity d);
  capacities =
      All-map (λ (n : ℕ). n ≤ most_capacity) (capacity d) (wires_from_cells d.frame.shape)
      (λ k e below. capacity-most d design (get_or (wires_from_cells d.frame.shape) k e));
}

-- tables that equal those of a design
pub tables-like : (d : DesignView) (frame : Frame) (widths capacities : List ℕ) → IsDesign d → frame ≡ d.frame → widths ≡ widths_of d →
    capacities ≡ map (capacity d) (wires_from_cells d.frame.shape) →
    IsCapacity (record { shape = frame.shape; layers = frame.layers; widths = widths; capacities = capacities })
tables-like d frame widths capacities design same_frame same_widths same_capacities =
    let cs : List ℕ = map (capacity d) (wires_from_cells d.frame.shape) in
    let P : List ℕ → Type 0 = λ xs. IsCapacity (record { shape = d.frame.shape; layers = d.frame.layers; widths = widths_of d; capacities = xs }) in
    let Q : List ℕ → Type 0 = λ xs. IsCapacity (record { shape = d.frame.shape; layers = d.frame.layers; widths = xs; capacities = capacities }) in
    let R : Frame → Type 0 = λ f. IsCapacity (record { shape = f.shape; layers = f.layers; widths = widths; capacities = capacities }) in
    subst R (sym same_frame) (subst Q (sym same_widths) (subst P (sym same_capacities) (tables-of d design)))
