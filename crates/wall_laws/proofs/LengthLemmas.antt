-- Wirelength is at least what pins ask for.
use Rattle.std.proofs.Common.{◌≡◌, ℕ, ◌+◌, ◌-◌, ◌*◌, ◌<◌, ◌≤◌, max, Bool, List, filter, map, length, All, count_by, sum_by, IsTrue, ap, arith}
use Rattle.std.specs.List.{range_with_len}
use Rattle.gr_base.specs.declared.grid.Edge.{Edge}
use Rattle.gr_base.specs.declared.grid.Shape.{Shape}
use Rattle.gr_base.specs.Designs.{DesignView, is_routed, pins_at}
use Rattle.gr_base.specs.EdgeSets.{Edges, IsJoined}
use Rattle.gr_base.specs.Grid.{cells_of}
use Rattle.gr_base.specs.Sums.{wire_edges, via_edges, vias, wirelength}
use Rattle.wall_laws.proofs.ForcedLemmas.{vias-counted}
use Rattle.wall_laws.proofs.OverflowLemmas.{pins-inside, all-passing}
use Rattle.wall_laws.proofs.SpanLemmas.{box-counted, layers-counted}
use Rattle.wall_laws.proofs.SumLemmas.{sum-plus, sum-times, sum-le}
use Rattle.wall_laws.proofs.TileLemmas.{tiles-counted}
use Rattle.wall_laws.proofs.WalkLemmas.{AreInGrid}
use Rattle.wall_laws.specs.Laws.{WirelengthLaw, UsableWirelengthLaw}
use Rattle.wall_laws.specs.Spans.{least_wires, least_vias, least_length, least_wirelength, least_usable_vias, least_usable_length, least_usable_wirelength}
use Rattle.wall_laws.specs.Walls.{JoinNets}

wires-counted : (g : Shape) (set : Edges) (pins : List ℕ) → AreInGrid g set → All (λ pin. pin < cells_of g) pins → IsJoined g set pins →
    least_wires g pins ≤ count_by set (wire_edges g)
wires-counted g set pins within pins_in join =
    let box = box-counted g set pins within pins_in join in
    let tiles = tiles-counted g set pins within pins_in join in
    omega (arith, box, tiles)

-- a bound for each net is one for all
lengths-bounded : (d : DesignView) (via_cost : ℕ) (sets : ℕ → Edges) (least : ℕ → ℕ) →
    ((net : ℕ) → IsTrue (is_routed d net) →
    least net ≤ count_by (sets net) (wire_edges d.frame.shape) + via_cost * count_by (sets net) (via_edges d.frame.shape)) →
    sum_by least (filter (is_routed d) (range_with_len 0 (length d.nets))) ≤ wirelength d via_cost sets
lengths-bounded d via_cost sets least each =
    let nets : List ℕ = range_with_len 0 (length d.nets) in
    let routed : List ℕ = filter (is_routed d) nets in
    let wire : ℕ → ℕ = λ net. count_by (sets net) (wire_edges d.frame.shape) in
    let via : ℕ → ℕ = λ net. count_by (sets net) (via_edges d.frame.shape) in
    let bound =
    sum-le least (λ net. wire net + via_cost * via net) routed
    (all-passing (λ net. least net ≤ wire net + via_cost * via net) (is_routed d) each nets) in
    let split = sum-plus wire (λ net. via_cost * via net) routed in
    let times = sum-times via_cost via routed in
    omega (arith, bound, split, times)

-- a product grows with its second part
times-le : (v a b : ℕ) → a ≤ b → v * a ≤ v * b
times-le v a b le = let whole : v * (a + (b - a)) ≡ v * a + v * (b - a) = omega arith in let is : a + (b - a) ≡ b = omega (arith, le) in by is whole
  where
    by : a + (b - a) ≡ b → v * (a + (b - a)) ≡ v * a + v * (b - a) → v * a ≤ v * b
    by is whole = omega (arith, ap (λ (n : ℕ). v * n) is, whole)

pub wirelength-law : WirelengthLaw
wirelength-law d design via_cost sets join =
    lengths-bounded d via_cost sets (least_length d via_cost) (λ net routed.
    let g : Shape = d.frame.shape in
    let pins : List ℕ = pins_at d net in
    let within = join.inside net routed in
    let pins_in = pins-inside d net design in
    let wires = wires-counted g (sets net) pins within pins_in (join.joined net routed) in
    let layers = layers-counted g (sets net) pins within pins_in (join.joined net routed) in
    let times = times-le via_cost (least_vias g pins) (count_by (sets net) (via_edges g)) layers in
    omega (arith, wires, times))

pub usable-wirelength-law : UsableWirelengthLaw
usable-wirelength-law d design via_cost sets join usable_all =
    lengths-bounded d via_cost sets (least_usable_length d via_cost) (λ net routed.
    let g : Shape = d.frame.shape in
    let pins : List ℕ = pins_at d net in
    let within = join.inside net routed in
    let pins_in = pins-inside d net design in
    let wires = wires-counted g (sets net) pins within pins_in (join.joined net routed) in
    let vias = vias-counted d (sets net) pins within pins_in (join.joined net routed) (usable_all net routed) in
    let times = times-le via_cost (least_usable_vias d.frame pins) (count_by (sets net) (via_edges g)) vias in
    omega (arith, wires, times))
