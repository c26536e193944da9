-- One more net is counted.
use Rattle.std.proofs.Common.{◌≡◌, ℕ, zero, suc, ◌+◌, ◌*◌, ◌^◌, ◌<◌, ◌≤◌, ◌||◌, ◌&&◌, inl, inr, Bool, true, false, List, [], ◌∷◌, length, map, All, Option, Some, IfSome, slice_get, count_by, if◌then◌else◌, IsTrue, refl, sym, ap, subst, ◌∙◌, arith}
use Rattle.std.proofs.Math.Path.{fun_ext}
use Rattle.std.specs.List.{range_with_len}
use Rattle.std.proofs.lemmas.Bool.{or_cases, and_parts, false≢true}
use Rattle.std.proofs.lemmas.List.FromFn.{length-map-range_with_len}
use Rattle.std.proofs.lemmas.List.Sums.{count_by-le-length, length-filter}
use Rattle.gr_base.proofs.DesignLemmas.{routed-below}
use Rattle.gr_base.specs.Capacities.{need}
use Rattle.gr_base.specs.Designs.{DesignView, IsDesign, IsNet, is_routed, is_routed_net, pins_in, pins_at}
use Rattle.gr_base.specs.EdgeSets.{Edges}
use Rattle.gr_base.specs.Grid.{cells_of, edge_at, high_of, has_edge}
use Rattle.gr_base.specs.Limits.{most_width}
use Rattle.gr_base.specs.Sums.{wire_at, wire_edges, via_edges, wires_from_cells}
use Rattle.gr_base.specs.Trees.{TreeView, edges_of}
use Rattle.gr_base.specs.declared.frame.Frame.{Frame}
use Rattle.gr_base.specs.declared.frame.Net.{Net}
use Rattle.gr_base.specs.declared.grid.Edge.{Edge}
use Rattle.gr_base.specs.declared.grid.Shape.{Shape}
use Rattle.gr_base.specs.declared.grid.Way.TheVariants.{Up}
use Rattle.gr_base.proofs.GridLemmas.{few_cells}
use Rattle.grid_demand.specs.LoadSums.{LoadsView, demand_at, added}
use Rattle.grid_demand.specs.Tables.{CapacityView, capacity_of, need_at}
use Rattle.grid_demand.proofs.CapacityLemmas.{get-all, tables-of}
use Rattle.grid_demand.proofs.OperationLemmas.{demand-added, need-most}
use Rattle.solution_text.specs.declared.run.Run.{Run}
use Rattle.solution_text.specs.Covers.{is_on, covers}
use Rattle.solution_text.specs.Runs.{LieIn}
use Rattle.route_reader.specs.Solutions.{SolutionView, IsOf, edges_by, runs_at}
use Rattle.route_evaluator.specs.Counts.{sum_before, noted, with_count, AreCharged, AreCounted, AreTallied, HasRoom, HasRoomFor, IsCharged}
use Rattle.route_evaluator.specs.EdgeNumbers.{edges_numbered}
use Rattle.route_evaluator.specs.Gathers.{covered_by, Adds}
use Rattle.route_evaluator.specs.NetCounts.{IsCountOf}
use Rattle.route_evaluator.specs.declared.net_count.NetCount.{NetCount}
use Rattle.route_evaluator.specs.declared.tally.Tally.{Tally}
use Rattle.route_evaluator.proofs.StepLemmas.{sum-next, sum-most, routed-next, routed-most, listed-next}

-- the edges that are gathered of a net are those of its set
pub gathered-is : (d : DesignView) (s : SolutionView) (net : ℕ) (frame : Frame) (old numbers : List ℕ) (runs : List Run) → IsOf d s → frame ≡ d.frame →
    old ≡ [] → runs ≡ runs_at s net →
    Adds (covered_by frame.shape runs) old numbers → edges_numbered numbers ≡ edges_by s net
gathered-is d s net frame old numbers runs of same empty are gathered = fun_ext (λ e.
    gathered e
    ∙ ap (λ (ns : List ℕ). edges_numbered ns e || covered_by frame.shape runs e) empty
    ∙ ap (λ (rs : List Run). covered_by frame.shape rs e) are
    ∙ ap (λ (g : Shape). covered_by g (runs_at s net) e) (ap (λ (f : Frame). f.shape) same ∙ sym of.shape))

-- they are the grid's
covered-edge : (g : Shape) (runs : List Run) (e : Edge) → covered_by g runs e ≡ true → IsTrue (has_edge g e)
covered-edge g [] e has = absurd (false≢true has)
covered-edge g (run ∷ runs) e has =
    elim (or_cases (covers g run e) (covered_by g runs e) has) [
      | inl here ↦ (and_parts (has_edge g e) (is_on g run e.low) (and_parts (has_edge g e && is_on g run e.low) (is_on g run (high_of g e)) here).0).0
      | inr later ↦ covered-edge g runs e later
    ]

pub gathered-grid : (d : DesignView) (s : SolutionView) (net : ℕ) (numbers : List ℕ) → IsOf d s → edges_numbered numbers ≡ edges_by s net →
    LieIn d.frame.shape (edges_numbered numbers)
gathered-grid d s net numbers of is e has =
    let inside = covered-edge s.shape (runs_at s net) e (sym (ap (λ (set : Edges). set e) is) ∙ has) in
    subst (λ (g : Shape). IsTrue (has_edge g e)) of.shape inside

-- the pins of a net are cells of the grid
pub pins-inside : (d : DesignView) (net : ℕ) (value : Net) → IsDesign d → slice_get d.nets net ≡ Some value → All (λ pin. pin < cells_of d.frame.shape) value.pins
pins-inside d net value design is =
    let found : IfSome (Some value) (IsNet d.frame.shape) =
    subst (λ (o : Option Net). IfSome o (IsNet d.frame.shape)) is (get-all (IsNet d.frame.shape) d.nets net design.nets) in
    found.pins

pub pins-are : (d : DesignView) (net : ℕ) (value : Net) → slice_get d.nets net ≡ Some value → value.pins ≡ pins_at d net
pins-are d net value is = sym (ap pins_in is)

-- the demand of the nets below a number has room for that of one more
share-most : (d : DesignView) (sets : ℕ → Edges) (e : Edge) → IsDesign d → (net : ℕ) → (if sets net e then need d net e else 0) ≤ 2 * most_width
share-most d sets e design net = part (sets net e) (need-most (capacity_of d) net e (tables-of d design))
  where
    part : (b : Bool) → need_at (capacity_of d) net e ≤ 2 * most_width → (if b then need d net e else 0) ≤ 2 * most_width
    part true most = most
    part false most = omega arith

pub demand-room : (d : DesignView) (sets : ℕ → Edges) (k : ℕ) (e : Edge) → IsDesign d → k < length d.nets →
    sum_before d k (λ net. if sets net e then need d net e else 0) ≤ 2 ^ 47
demand-room d sets k e design below =
    let most = sum-most d (λ net. if sets net e then need d net e else 0) (2 * most_width) k (share-most d sets e design) in
    let few = design.few_nets in
    omega (arith, most, few, below)

-- each set has few wire edges and few via edges
few_wires : (g : Shape) (set : Edges) → count_by set (wire_edges g) ≤ 16777216
few_wires g set =
    omega (
      arith,
      count_by-le-length set (wire_edges g),
      length-filter (has_edge g) (wires_from_cells g),
      count_by-le-length (has_edge g) (wires_from_cells g),
      length-map-range_with_len wire_at 0 (2 * cells_of g),
      few_cells g,
    )

few_vias : (g : Shape) (set : Edges) → count_by set (via_edges g) ≤ 8388608
few_vias g set =
    omega (
      arith,
      count_by-le-length set (via_edges g),
      length-filter (has_edge g) (map (λ cell. edge_at cell Up) (range_with_len 0 (cells_of g))),
      count_by-le-length (has_edge g) (map (λ cell. edge_at cell Up) (range_with_len 0 (cells_of g))),
      length-map-range_with_len (λ cell. edge_at cell Up) 0 (cells_of g),
      few_cells g,
    )

-- the counts have room for those of one more net
pub counted-room : (d : DesignView) (sets : ℕ → Edges) (k nets_in wires_in vias_in : ℕ) (apart pins : List ℕ) (c : NetCount) → IsDesign d → is_routed d k ≡ true →
    IsCountOf d.frame.shape (sets k) pins c → AreCounted d sets k nets_in wires_in vias_in apart → HasRoomFor nets_in wires_in vias_in c
counted-room d sets k nets_in wires_in vias_in apart pins c design routed count counted =
    let g : Shape = d.frame.shape in
    let below = routed-below d k routed in
    let few = design.few_nets in
    record {
      wires =
          let most = sum-most d (λ net. count_by (sets net) (wire_edges g)) 16777216 k (λ net. few_wires g (sets net)) in
          omega (arith, most, few, below, counted.wires, count.wires, few_wires g (sets k));
      vias =
          let most = sum-most d (λ net. count_by (sets net) (via_edges g)) 8388608 k (λ net. few_vias g (sets net)) in
          omega (arith, most, few, below, counted.vias, count.vias, few_vias g (sets k));
      routed = omega (arith, below, few, counted.routed, routed-most d k);
    }

-- the demand once a net's edges are charged
pub charged-next : (d : DesignView) (sets : ℕ → Edges) (k : ℕ) (set : Edges) (capacity : CapacityView) (old new : LoadsView) → is_routed d k ≡ true →
    set ≡ sets k → capacity ≡ capacity_of d → new.shape ≡ old.shape → IsCharged capacity k set old new → AreCharged d sets k old → AreCharged d sets (k + 1) new
charged-next d sets k set capacity old new routed same of shape charged before = record {
  shape = shape ∙ before.shape;
  demand = λ e edge wire.
      charged e (subst (λ (g : Shape). IsTrue (has_edge g e)) (sym before.shape) edge) wire
      ∙ ap (λ (n : ℕ). n + (if set e then need_at capacity k e else 0)) (before.demand e edge wire)
      ∙ ap (λ (s : Edges). sum_before d k (λ net. if sets net e then need d net e else 0) + (if s e then need_at capacity k e else 0)) same
      ∙ ap (λ (c : CapacityView). sum_before d k (λ net. if sets net e then need d net e else 0) + (if sets k e then need_at c k e else 0)) of
      ∙ sym (sum-next d (λ net. if sets net e then need d net e else 0) k routed);
}

-- a tree that is put in charges its edges
pub tree-charged : (c : CapacityView) (net : ℕ) (t : TreeView) (old new : LoadsView) → new ≡ added c net t old → IsCharged c net (edges_of t) old new
tree-charged c net t old new is e edge wire =
    ap (λ (l : LoadsView). demand_at l e) is ∙ demand-added c net t old e (record { edge = edge; wire = wire })

-- there is room for a net's need
pub room-next : (d : DesignView) (sets : ℕ → Edges) (k : ℕ) (l : LoadsView) → IsDesign d → is_routed d k ≡ true → AreCharged d sets k l → HasRoom l
room-next d sets k l design routed charged e edge wire =
    let same = charged.demand e (subst (λ (g : Shape). IsTrue (has_edge g e)) charged.shape edge) wire in
    let room = demand-room d sets k e design (routed-below d k routed) in
    omega (arith, same, room)

-- what is counted of a net holds of its set of edges and its pins
pub count-same : (d : DesignView) (sets : ℕ → Edges) (k : ℕ) (g : Shape) (set : Edges) (pins : List ℕ) (c : NetCount) → g ≡ d.frame.shape → set ≡ sets k →
    pins ≡ pins_at d k → IsCountOf g set pins c → IsCountOf d.frame.shape (sets k) (pins_at d k) c
count-same d sets k g set pins c shape same are count =
    subst (λ (h : Shape). IsCountOf h (sets k) (pins_at d k) c) shape
    (subst (λ (s : Edges). IsCountOf g s (pins_at d k) c) same
    (subst (λ (ps : List ℕ). IsCountOf g set ps c) are count))

-- the counts once a net's are added
pub counted-next : (d : DesignView) (sets : ℕ → Edges) (k nets_in wires_in vias_in : ℕ) (apart : List ℕ) (c : NetCount) → is_routed d k ≡ true →
    IsCountOf d.frame.shape (sets k) (pins_at d k) c → AreCounted d sets k nets_in wires_in vias_in apart →
    AreCounted d sets (k + 1) (nets_in + 1) (wires_in + c.wires) (vias_in + c.vias) (noted c.joined k apart)
counted-next d sets k nets_in wires_in vias_in apart c routed count counted =
    let listed = listed-next d sets k apart (noted c.joined k apart) c.joined routed count.joined
    (record { rising = counted.rising; unjoined = counted.unjoined }) refl in
    let wires : ℕ → ℕ = λ net. count_by (sets net) (wire_edges d.frame.shape) in
    let vias : ℕ → ℕ = λ net. count_by (sets net) (via_edges d.frame.shape) in
    record {
      routed = ap (λ (n : ℕ). n + 1) counted.routed ∙ sym (routed-next d k routed);
      wires = ap (λ (n : ℕ). n + c.wires) counted.wires ∙ ap (λ (n : ℕ). sum_before d k wires + n) count.wires ∙ sym (sum-next d wires k routed);
      vias = ap (λ (n : ℕ). n + c.vias) counted.vias ∙ ap (λ (n : ℕ). sum_before d k vias + n) count.vias ∙ sym (sum-next d vias k routed);
      rising = listed.rising;
      unjoined = listed.unjoined;
    }

-- the tally once what is counted of a net is added
pub tallied-next : (d : DesignView) (sets : ℕ → Edges) (k : ℕ) (old new : Tally) (c : NetCount) → is_routed d k ≡ true →
    new ≡ with_count k c old → IsCountOf d.frame.shape (sets k) (pins_at d k) c → AreTallied d sets k old → AreTallied d sets (k + 1) new
tallied-next d sets k old new c routed is count tallied =
    subst (λ (t : Tally). AreTallied d sets (k + 1) t) (sym is)
    (counted-next d sets k old.routed old.wires old.vias old.unjoined c routed count tallied)
