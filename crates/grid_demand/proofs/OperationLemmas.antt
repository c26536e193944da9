-- Loads after a list of operations.
use Rattle.std.proofs.Common.{◌≡◌, ℕ, ◌+◌, ◌-◌, ◌*◌, ◌^◌, ◌≤◌, inl, inr, min, nat_lt, List, [], ◌∷◌, ◌++◌, fold, All, slice_get, Option, Some, None, IfSome, unwrap_or, if◌then◌else◌, IsTrue, refl, ap, subst, ◌∙◌, arith}
use Rattle.std.proofs.lemmas.Bool.{cases_Bool}
use Rattle.std.proofs.lemmas.List.{get_or-replicate}
use Rattle.std.proofs.lemmas.List.Elements.{All-replicate}
use Rattle.std.proofs.lemmas.List.Sums.{sum_by-append, sum_by-cons}
use Rattle.gr_base.proofs.TreeEdges.{tree-grid_edges}
use Rattle.gr_base.specs.Capacities.{need_along, width_in}
use Rattle.gr_base.specs.Designs.{IsLayer}
use Rattle.gr_base.specs.Grid.{cells_of, place_at, has_edge, is_wire}
use Rattle.gr_base.specs.Limits.{most_width}
use Rattle.gr_base.specs.Sums.{wire_number}
use Rattle.gr_base.specs.Trees.{TreeView, IsTree}
use Rattle.gr_base.specs.declared.frame.Layer.{Layer}
use Rattle.gr_base.specs.declared.grid.Edge.{Edge}
use Rattle.gr_base.specs.declared.grid.Shape.{Shape}
use Rattle.gr_base.specs.declared.grid.Way.{Way}
use Rattle.gr_base.specs.declared.grid.Way.TheVariants.{East, North, Up}
use Rattle.grid_demand.proofs.CapacityLemmas.{get-all}
use Rattle.grid_demand.proofs.LoadLemmas.{index-most}
use Rattle.grid_demand.proofs.LoadSteps.{tree-edge}
use Rattle.grid_demand.proofs.WireLemmas.{number-below, table-edge}
use Rattle.gr_base.specs.Limits.{most_marks}
use Rattle.grid_demand.specs.LoadSums.{LoadsView, demand_at, marks_at, no_loads, share, added, taken, mark_of, marked, HasRoom, HasShare}
use Rattle.grid_demand.specs.Operations.{Routed, Operation, after, after_all, Leaves, taken_of, marks_over}
use Rattle.grid_demand.specs.Operations.Operation.{Add, Take, Mark}
use Rattle.grid_demand.specs.Operations.Leaves.{Nothing_done, Then_add, Then_take, Then_mark}
use Rattle.grid_demand.specs.Tables.{CapacityView, capacity_at, need_at, IsCapacity}

-- a wire edge of the grid of some loads
pub record IsWireOf (g : Shape) (e : Edge) : Type 0 where
  pub edge : IsTrue (has_edge g e)
  pub wire : IsTrue (is_wire e)

-- demand and marks after an operation
pub demand-added : (c : CapacityView) (net : ℕ) (t : TreeView) (l : LoadsView) (e : Edge) → IsWireOf l.shape e →
    demand_at (added c net t l) e ≡ demand_at l e + share c net t e
demand-added c net t l e is = table-edge l.shape (λ f. demand_at l f + share c net t f) e is.edge is.wire

pub demand-taken : (c : CapacityView) (net : ℕ) (t : TreeView) (l : LoadsView) (e : Edge) → IsWireOf l.shape e →
    demand_at (taken c net t l) e ≡ demand_at l e - share c net t e
demand-taken c net t l e is = table-edge l.shape (λ f. demand_at l f - share c net t f) e is.edge is.wire

pub marks-marked : (c : CapacityView) (l : LoadsView) (e : Edge) → IsWireOf l.shape e →
    marks_at (marked c l) e ≡ mark_of (demand_at l e) (capacity_at c e) (marks_at l e)
marks-marked c l e is = table-edge l.shape (λ f. mark_of (demand_at l f) (capacity_at c f) (marks_at l f)) e is.edge is.wire

pub demand-none : (g : Shape) (e : Edge) → IsWireOf g e → demand_at (no_loads g) e ≡ 0
demand-none g e is = get_or-replicate (2 * cells_of g) (wire_number e) 0 0 (number-below g e is.edge)

pub marks-none : (g : Shape) (e : Edge) → IsWireOf g e → marks_at (no_loads g) e ≡ 0
marks-none g e is = get_or-replicate (2 * cells_of g) (wire_number e) 0 0 (number-below g e is.edge)

abbrev share_of : CapacityView → Edge → Routed → ℕ
share_of c e routed = share c routed.net routed.tree e

taken-cons : (c : CapacityView) (e : Edge) (routed : Routed) (routes : List Routed) → taken_of c (routed ∷ routes) e ≡ share_of c e routed + taken_of c routes e
taken-cons c e routed routes = sum_by-cons (share_of c e) routed routes

taken-without : (c : CapacityView) (e : Edge) (before : List Routed) (routed : Routed) (others : List Routed) →
    taken_of c (before ++ routed ∷ others) e ≡ share_of c e routed + taken_of c (before ++ others) e
taken-without c e before routed others =
    let all = sum_by-append (share_of c e) before (routed ∷ others) in
    let rest = sum_by-append (share_of c e) before others in
    let one = taken-cons c e routed others in
    omega (arith, all, rest, one)

demand-all : (c : CapacityView) (e : Edge) (l : LoadsView) (routes : List Routed) (operations : List Operation) (last : List Routed) →
    Leaves routes operations last → IsWireOf l.shape e → demand_at l e ≡ taken_of c routes e → demand_at (fold (after c) l operations) e ≡ taken_of c last e
demand-all c e l _ _ last Nothing_done wire is = is
demand-all c e l _ _ last (Then_add {routes = routes} {operations = operations} routed leaves) wire is =
    demand-all c e (added c routed.net routed.tree l) (routed ∷ routes) operations last leaves wire
    (demand-added c routed.net routed.tree l e wire ∙ omega (arith, is, taken-cons c e routed routes))
demand-all c e l _ _ last (Then_take {operations = operations} before routed others leaves) wire is =
    demand-all c e (taken c routed.net routed.tree l) (before ++ others) operations last leaves wire
    (demand-taken c routed.net routed.tree l e wire ∙ omega (arith, is, taken-without c e before routed others))
demand-all c e l _ _ last (Then_mark {routes = routes} {operations = operations} leaves) wire is =
    demand-all c e (marked c l) routes operations last leaves wire is

pub demand-sums : (c : CapacityView) (operations : List Operation) (routes : List Routed) → Leaves [] operations routes → (e : Edge) →
    IsTrue (has_edge c.shape e) → IsTrue (is_wire e) → demand_at (after_all c operations) e ≡ taken_of c routes e
demand-sums c operations routes leaves e edge wire =
    let is : IsWireOf c.shape e = record { edge = edge; wire = wire } in
    demand-all c e (no_loads c.shape) [] operations routes leaves is (demand-none c.shape e is)

marks-all : (c : CapacityView) (e : Edge) (l : LoadsView) (operations : List Operation) (n : ℕ) → IsWireOf l.shape e → marks_at l e ≡ min most_marks n →
    marks_at (fold (after c) l operations) e ≡ min most_marks (n + marks_over c e l operations)
marks-all c e l [] n wire is = is ∙ omega arith
marks-all c e l (Add routed ∷ operations) n wire is = marks-all c e (added c routed.net routed.tree l) operations n wire is
marks-all c e l (Take routed ∷ operations) n wire is = marks-all c e (taken c routed.net routed.tree l) operations n wire is
marks-all c e l (Mark ∷ operations) n wire is =
    let more : ℕ = if nat_lt (capacity_at c e) (demand_at l e) then 1 else 0 in
    let one : marks_at (marked c l) e ≡ min most_marks (n + more) =
    marks-marked c l e wire ∙ ap (λ (k : ℕ). mark_of (demand_at l e) (capacity_at c e) k) is ∙ mark-once (demand_at l e) (capacity_at c e) n in
    marks-all c e (marked c l) operations (n + more) wire one ∙ ap (λ (k : ℕ). min most_marks k) (omega arith)
  where
    mark-once : (demand capacity n : ℕ) → mark_of demand capacity (min most_marks n) ≡ min most_marks (n + (if nat_lt capacity demand then 1 else 0))
    mark-once demand capacity n =
        elim (cases_Bool (nat_lt capacity demand)) [
          | inl over ↦ rw over (omega arith)
          | inr within ↦ rw within (omega arith)
        ]

pub marks-sums : (c : CapacityView) (operations : List Operation) (e : Edge) → IsTrue (has_edge c.shape e) → IsTrue (is_wire e) →
    marks_at (after_all c operations) e ≡ min most_marks (marks_over c e (no_loads c.shape) operations)
marks-sums c operations e edge wire =
    let is : IsWireOf c.shape e = record { edge = edge; wire = wire } in
    marks-all c e (no_loads c.shape) operations 0 is (marks-none c.shape e is) ∙ ap (λ (k : ℕ). min most_marks k) (omega arith)

-- what a net takes of an edge is small
need-along-most : (way : Way) (width : ℕ) (layer : Option Layer) → width ≤ most_width → IfSome layer IsLayer → need_along way width layer ≤ 2 * most_width
need-along-most East width None few is = omega arith
need-along-most North width None few is = omega arith
need-along-most Up width None few is = omega arith
need-along-most East width (Some layer) few is = let w = is.width in let s = is.spacing in omega (arith, w, s, few)
need-along-most North width (Some layer) few is = let w = is.width in let s = is.spacing in omega (arith, w, s, few)
need-along-most Up width (Some layer) few is = omega arith

width-most : (o : Option ℕ) → IfSome o (λ width. width ≤ most_width) → unwrap_or o 0 ≤ most_width
width-most None few = omega arith
width-most (Some width) few = few

pub need-most : (c : CapacityView) (net : ℕ) (e : Edge) → IsCapacity c → need_at c net e ≤ 2 * most_width
need-most c net e tables =
    need-along-most e.way (width_in c.widths net) (slice_get c.layers (place_at c.shape e.low).layer)
    (width-most (slice_get c.widths net) (get-all (λ (width : ℕ). width ≤ most_width) c.widths net tables.widths))
    (get-all IsLayer c.layers (place_at c.shape e.low).layer tables.in_range)

-- no demand is above a bound
abbrev pub AreBelow : ℕ → LoadsView → Type 0
AreBelow most l = All (λ demand. demand ≤ most) l.demands

pub below-none : (g : Shape) → AreBelow 0 (no_loads g)
below-none g = All-replicate (λ (demand : ℕ). demand ≤ 0) (2 * cells_of g) 0 (omega arith)

-- where no demand is above 2^47, any tree has room
pub room-below : (most : ℕ) (t : TreeView) (l : LoadsView) → most ≤ 2 ^ 47 → AreBelow most l → HasRoom l t
room-below most t l few below = λ e inside wire.
    let demand = index-most most l.demands (wire_number e) below in omega (arith, demand, few)

-- a tree that was added may be taken
pub share-added : (c : CapacityView) (net : ℕ) (t : TreeView) (l : LoadsView) → IsTree t → t.shape ≡ l.shape → HasShare c net t (added c net t l)
share-added c net t l tree same = λ e inside wire.
    let edge = subst (λ (g : Shape). IsTrue (has_edge g e)) same (tree-edge t e (tree-grid_edges t tree) inside) in
    let demand = demand-added c net t l e (record { edge = edge; wire = wire }) in
    let whole : share c net t e ≡ need_at c net e = rw inside refl in
    omega (arith, demand, whole)
