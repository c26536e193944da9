-- Wire edges that lie side by side stand side by side in tables.
use Rattle.std.proofs.Common.{◌≡◌, ℕ, ◌+◌, ◌-◌, ◌*◌, ◌≤◌, true, List, length, take, drop, slice_index, Option, Some, None, IfSome, IsTrue, refl, sym, ap, ◌∙◌, arith}
use Rattle.std.proofs.lemmas.Bool.{both_ways}
use Rattle.std.proofs.lemmas.List.{get_or-take, get_or-drop, length-take, length-drop}
use Rattle.gr_base.specs.Grid.{cells_of, has_edge, edge_at, is_wire_way}
use Rattle.gr_base.specs.Sums.{wire_number}
use Rattle.gr_base.specs.declared.grid.Edge.{Edge}
use Rattle.gr_base.specs.declared.grid.Shape.{Shape}
use Rattle.gr_base.specs.declared.grid.Way.{Way}
use Rattle.gr_base.specs.declared.grid.Way.TheVariants.{East, North, Up}
use Rattle.grid_demand.specs.Planes.{place_of, by_number}
use Rattle.grid_demand.specs.Runs.{IsPart, AreBeside, IsRunOf}
use Rattle.grid_demand.specs.LoadSums.{LoadsView, AreLoads, demand_at, marks_at}
use Rattle.grid_demand.specs.Tables.{CapacityView, IsCapacity, capacity_at}
use Rattle.grid_demand.proofs.CapacityLemmas.{capacity-place}
use Rattle.grid_demand.proofs.LoadLemmas.{demand-place, marks-place, demands-long}
use Rattle.grid_demand.proofs.PlaneLemmas.{place-east, place-north, length-by_number, StandsAt}

place-beside : (cells low i : ℕ) (way : Way) → IsTrue (is_wire_way way) →
    place_of (2 * cells) (wire_number (edge_at (low + i) way)) ≡ place_of (2 * cells) (wire_number (edge_at low way)) + i
place-beside cells low i East wire =
    let next : 2 * (low + i) + 0 ≡ 2 * (low + i) = omega arith in
    let own : 2 * low + 0 ≡ 2 * low = omega arith in
    ap (place_of (2 * cells)) next ∙ place-east cells (low + i) ∙ sym (ap (λ (n : ℕ). n + i) (ap (place_of (2 * cells)) own ∙ place-east cells low))
place-beside cells low i North wire =
    let a = place-north cells (low + i) in
    let b = place-north cells low in
    let sum : cells + (low + i) ≡ cells + low + i = omega arith in
    a ∙ sum ∙ sym (ap (λ (n : ℕ). n + i) b)
place-beside cells low i Up wire = absurd (both_ways true (sym wire) refl)

-- each edge of the grid stands in the table with its number
abbrev pub StandsEach : Shape → List ℕ → ℕ → (Edge → ℕ) → Type 0
StandsEach g xs cells number = (e : Edge) → IsTrue (has_edge g e) →
    StandsAt 0 xs (wire_number e) (place_of (2 * cells) (wire_number e)) × (slice_index (by_number 0 xs) (wire_number e) ≡ number e)

pub run-inside : (g : Shape) (xs : List ℕ) (cells first count : ℕ) (from : Edge) (number : Edge → ℕ) → AreBeside g from count → first ≡ place_of (2 * cells) (wire_number from) →
    StandsEach g xs cells number → first + count ≤ length xs
run-inside g xs cells first count from number beside is stands =
    let some = beside.some in
    let last = stands (edge_at (from.low + (count - 1)) from.way) (beside.edges (count - 1) (omega arith)) in
    let below = (last.0).below in
    let at = place-beside cells from.low (count - 1) from.way beside.wire in
    omega (arith, below, at, is, some)

pub run-told : (g : Shape) (xs part : List ℕ) (cells first count : ℕ) (from : Edge) (number : Edge → ℕ) → AreBeside g from count → first ≡ place_of (2 * cells) (wire_number from) →
    StandsEach g xs cells number → IsPart xs first (first + count) part → IsRunOf number from count part
run-told g xs part cells first count from number beside is stands told = record {
  size = let size = told.size in omega (arith, size);
  each = λ place below.
      let e = edge_at (from.low + place) from.way in
      let here = stands e (beside.edges place below) in
      let at : first + place ≡ place_of (2 * cells) (wire_number e) = let h = place-beside cells from.low place from.way beside.wire in omega (arith, h, is) in
      told.each place (omega arith) ∙ ap (λ (n : ℕ). slice_index xs n) at ∙ (here.0).value ∙ here.1;
}

-- a part of a list
pub part-is : (xs : List ℕ) (from to : ℕ) → from ≤ to → to ≤ length xs → IsPart xs from to (take (to - from) (drop from xs))
part-is xs from to range inside = record {
  size = let h = length-take (to - from) (drop from xs) in let k = length-drop from xs in omega (arith, h, k);
  each = λ n below. get_or-take (to - from) (drop from xs) n 0 below ∙ get_or-drop from xs n 0;
}

-- where capacities, demands and marks stand
pub capacity-long : (c : CapacityView) (capacities : List ℕ) → IsCapacity c → by_number 0 capacities ≡ c.capacities → length capacities ≡ 2 * cells_of c.shape
capacity-long c capacities tables is = sym (length-by_number 0 capacities) ∙ ap length is ∙ tables.wires

pub capacities-stand : (c now : CapacityView) (capacities : List ℕ) → IsCapacity c → c ≡ now → by_number 0 capacities ≡ c.capacities →
    StandsEach now.shape capacities (cells_of c.shape) (capacity_at now)
capacities-stand c now capacities tables same is e edge =
    let long = capacity-long c capacities tables is in
    let value = ap (λ (xs : List ℕ). slice_index xs (wire_number e)) is ∙ ap (λ (v : CapacityView). capacity_at v e) same in
    (capacity-place c now capacities (2 * cells_of c.shape) e (place_of (2 * cells_of c.shape) (wire_number e)) tables same is edge (sym long) refl, value)

pub demands-stand : (l now : LoadsView) (demands : List ℕ) → AreLoads l → l ≡ now → by_number 0 demands ≡ l.demands →
    StandsEach now.shape demands (cells_of l.shape) (demand_at now)
demands-stand l now demands loads same is e edge =
    let long = demands-long l demands loads is in
    let value = ap (λ (xs : List ℕ). slice_index xs (wire_number e)) is ∙ ap (λ (v : LoadsView). demand_at v e) same in
    (demand-place l now demands (2 * cells_of l.shape) e (place_of (2 * cells_of l.shape) (wire_number e)) loads same is edge (sym long) refl, value)

pub marks-stand : (l now : LoadsView) (demands marks : List ℕ) → AreLoads l → l ≡ now → by_number 0 demands ≡ l.demands → by_number 0 marks ≡ l.marks →
    StandsEach now.shape marks (cells_of l.shape) (marks_at now)
marks-stand l now demands marks loads same is also e edge =
    let long = demands-long l demands loads is in
    let value = ap (λ (xs : List ℕ). slice_index xs (wire_number e)) also ∙ ap (λ (v : LoadsView). marks_at v e) same in
    (marks-place l now demands marks (2 * cells_of l.shape) e (place_of (2 * cells_of l.shape) (wire_number e)) loads same is also edge (sym long) refl, value)

pub if-run : {A : Type 0} {P Q : A → Type 0} (o : Option A) → IfSome o P → ((x : A) → P x → Q x) → IfSome o Q
if-run None is then_is = tt
if-run (Some x) is then_is = then_is x is
