-- Loads as sums of tables.
use Rattle.std.proofs.Common.{◌≡◌, ℕ, suc, zero, ◌+◌, ◌-◌, ◌*◌, ◌<◌, ◌≤◌, inl, inr, max, Bool, true, false, nat_lt, List, [], ◌∷◌, map, filter, fold, zip, sum_by, length, get_or, replicate, All, slice_index, slice_index_or, IsTrue, refl, sym, ap, subst, ◌∙◌, arith}
use Rattle.std.proofs.lemmas.Bool.{cases_Bool, both_ways}
use Rattle.std.proofs.lemmas.Bool.Decides.{nat_tests}
use Rattle.std.proofs.lemmas.List.{length-replicate, get_or-replicate}
use Rattle.std.proofs.lemmas.List.Elements.{All-head, All-tail, All-map, All-replicate}
use Rattle.std.proofs.lemmas.List.FromFn.{get_or-map-range_with_len}
use Rattle.std.proofs.lemmas.List.Sums.{sum_by-cons}
use Rattle.gr_base.proofs.TreeEdges.{tree-grid_edges}
use Rattle.gr_base.specs.Capacities.{capacity}
use Rattle.gr_base.specs.Designs.{DesignView}
use Rattle.gr_base.specs.Grid.{cells_of, has_edge, is_wire}
use Rattle.gr_base.specs.Sums.{wire_at, wire_number, wires_from_cells, overflow, total_overflow, most_overflow}
use Rattle.gr_base.specs.Trees.{TreeView, IsTree, edges_of}
use Rattle.gr_base.specs.declared.grid.Edge.{Edge}
use Rattle.gr_base.specs.declared.grid.Shape.{Shape}
use Rattle.grid_demand.proofs.CapacityLemmas.{capacity-table}
use Rattle.grid_demand.proofs.LoadSteps.{tree-edge}
use Rattle.grid_demand.proofs.PlaneLemmas.{StandsAt, stands, length-by_number, by_number-zeros, each-number, sum-tables, most-tables, sum-planes, most-planes}
use Rattle.grid_demand.proofs.WireLemmas.{table-at, table-is, table-self, length-table, length-wires, number-below, number-wire_at, wire-wire_at}
use Rattle.gr_base.specs.Limits.{most_marks}
use Rattle.grid_demand.specs.Listings.{AreTables}
use Rattle.grid_demand.specs.LoadSums.{LoadsView, no_loads, demand_at, marks_at, share, added, taken, mark_of, marked, AreLoads}
use Rattle.grid_demand.specs.Overfull.{OverfullView, AreOverfull}
use Rattle.grid_demand.specs.Planes.{place_of, by_number}
use Rattle.grid_demand.specs.Tables.{CapacityView, capacity_of, capacity_at, IsCapacity}

-- an edge that leaves the grid has no demand
pub no_demand : (l : LoadsView) (n : ℕ) → AreLoads l → n < 2 * cells_of l.shape → has_edge l.shape (wire_at n) ≡ false → demand_at l (wire_at n) ≡ 0
no_demand l n loads below out = ap (λ (k : ℕ). slice_index l.demands k) (number-wire_at n) ∙ loads.inside n below out

-- and is none of a tree's
no_share : (c : CapacityView) (net : ℕ) (t : TreeView) (e : Edge) → IsTree t → has_edge t.shape e ≡ false → share c net t e ≡ 0
no_share c net t e tree out =
    elim (cases_Bool (edges_of t e)) [
      | inl inside ↦ absurd (both_ways (has_edge t.shape e) out (tree-edge t e (tree-grid_edges t tree) inside))
      | inr outside ↦ rw outside refl
    ]

-- loads of zeros
pub no-loads : (g : Shape) → AreLoads (no_loads g)
no-loads g = record {
  demands = length-replicate (2 * cells_of g) 0;
  marks = length-replicate (2 * cells_of g) 0;
  inside = λ number below out. get_or-replicate (2 * cells_of g) number 0 0 below;
  most = All-replicate (λ (marks : ℕ). marks ≤ most_marks) (2 * cells_of g) 0 (omega arith);
}

pub loads-new : (g : Shape) (demands marks : List ℕ) → demands ≡ replicate (2 * cells_of g) 0 → marks ≡ replicate (2 * cells_of g) 0 →
    record { shape = g; demands = by_number 0 demands; marks = by_number 0 marks } ≡ no_loads g
loads-new g demands marks zeros none =
    let L : List ℕ → List ℕ → LoadsView = λ xs ys. record { shape = g; demands = xs; marks = ys } in
    let same = by_number-zeros (2 * cells_of g) in
    ap (λ (xs : List ℕ). L xs (by_number 0 marks)) (ap (λ (xs : List ℕ). by_number 0 xs) zeros ∙ same)
    ∙ ap (L (replicate (2 * cells_of g) 0)) (ap (λ (ys : List ℕ). by_number 0 ys) none ∙ same)

-- loads stay loads
pub added-loads : (c : CapacityView) (net : ℕ) (t : TreeView) (l : LoadsView) → AreLoads l → IsTree t → t.shape ≡ l.shape → AreLoads (added c net t l)
added-loads c net t l loads tree same = record {
  demands = length-table l.shape (λ e. demand_at l e + share c net t e);
  marks = loads.marks;
  inside = λ n below out.
      let out_of_tree : has_edge t.shape (wire_at n) ≡ false = ap (λ (g : Shape). has_edge g (wire_at n)) same ∙ out in
      let none = no_demand l n loads below out in
      let none_more = no_share c net t (wire_at n) tree out_of_tree in
      table-at l.shape (λ e. demand_at l e + share c net t e) n below
      ∙ ap (λ (k : ℕ). k + share c net t (wire_at n)) none ∙ ap (λ (k : ℕ). 0 + k) none_more;
  most = loads.most;
}

pub taken-loads : (c : CapacityView) (net : ℕ) (t : TreeView) (l : LoadsView) → AreLoads l → AreLoads (taken c net t l)
taken-loads c net t l loads = record {
  demands = length-table l.shape (λ e. demand_at l e - share c net t e);
  marks = loads.marks;
  inside = λ n below out.
      table-at l.shape (λ e. demand_at l e - share c net t e) n below
      ∙ ap (λ (k : ℕ). k - share c net t (wire_at n)) (no_demand l n loads below out) ∙ omega arith;
  most = loads.most;
}

-- each number of a list within a bound, and what stands past its end
pub index-most : (m : ℕ) (xs : List ℕ) (n : ℕ) → All (λ x. x ≤ m) xs → slice_index xs n ≤ m
index-most m [] n all = omega arith
index-most m (x ∷ xs) zero all = All-head (λ (y : ℕ). y ≤ m) x xs all
index-most m (x ∷ xs) (suc n) all = index-most m xs n (All-tail (λ (y : ℕ). y ≤ m) x xs all)

mark-most : (demand capacity marks : ℕ) → marks ≤ most_marks → mark_of demand capacity marks ≤ most_marks
mark-most demand capacity marks few =
    elim (cases_Bool (nat_lt capacity demand)) [
      | inl over ↦ rw over (omega arith)
      | inr within ↦ rw within few
    ]

pub marked-loads : (c : CapacityView) (l : LoadsView) → AreLoads l → AreLoads (marked c l)
marked-loads c l loads = record {
  demands = loads.demands;
  marks = length-table l.shape (λ e. mark_of (demand_at l e) (capacity_at c e) (marks_at l e));
  inside = loads.inside;
  most =
      All-map (λ (n : ℕ). n ≤ most_marks) (λ (e : Edge). mark_of (demand_at l e) (capacity_at c e) (marks_at l e)) (wires_from_cells l.shape)
      (λ k e below.
      let wire : Edge = get_or (wires_from_cells l.shape) k e in
      mark-most (demand_at l wire) (capacity_at c wire) (marks_at l wire) (index-most most_marks l.marks (wire_number wire) loads.most));
}

-- a table of marks, number by number
pub marks-table : (c : CapacityView) (l : LoadsView) (new : List ℕ) → AreLoads l → length new ≡ length l.marks →
    ((n : ℕ) → n < length l.marks → slice_index new n ≡ mark_of (slice_index l.demands n) (slice_index c.capacities n) (slice_index l.marks n)) →
    new ≡ map (λ e. mark_of (demand_at l e) (capacity_at c e) (marks_at l e)) (wires_from_cells l.shape)
marks-table c l new loads long each =
    table-is l.shape (λ e. mark_of (demand_at l e) (capacity_at c e) (marks_at l e)) new (long ∙ loads.marks)
    (λ n below.
    let within : n < length l.marks = let h = loads.marks in omega (arith, h) in
    each n within
    ∙ ap (λ (k : ℕ). mark_of (slice_index l.demands k) (slice_index c.capacities k) (slice_index l.marks k)) (sym (number-wire_at n)))

-- items that count nothing may be left out
sum-kept : (f : Edge → ℕ) (keep : Edge → Bool) (edges : List Edge) → All (λ e. keep e ≡ false → f e ≡ 0) edges → sum_by f edges ≡ sum_by f (filter keep edges)
sum-kept f keep [] all = refl
sum-kept f keep (e ∷ edges) all =
    let rest = sum-kept f keep edges (All-tail (λ (x : Edge). keep x ≡ false → f x ≡ 0) e edges all) in
    sum_by-cons f e edges
    ∙ elim (cases_Bool (keep e)) [
      | inl kept ↦ rw kept (ap (λ (n : ℕ). f e + n) rest ∙ sym (sum_by-cons f e (filter keep edges)))
      | inr left ↦ rw left (ap (λ (n : ℕ). n + sum_by f edges) (All-head (λ (x : Edge). keep x ≡ false → f x ≡ 0) e edges all left) ∙ omega (arith, rest))
    ]

most-kept : (f : Edge → ℕ) (keep : Edge → Bool) (edges : List Edge) (a : ℕ) → All (λ e. keep e ≡ false → f e ≡ 0) edges →
    fold max a (map f edges) ≡ fold max a (map f (filter keep edges))
most-kept f keep [] a all = refl
most-kept f keep (e ∷ edges) a all =
    let rest : All (λ e. keep e ≡ false → f e ≡ 0) edges = All-tail (λ (x : Edge). keep x ≡ false → f x ≡ 0) e edges all in
    elim (cases_Bool (keep e)) [
      | inl kept ↦ rw kept (most-kept f keep edges (max a (f e)) rest)
      | inr left ↦
          let none = All-head (λ (x : Edge). keep x ≡ false → f x ≡ 0) e edges all left in
          let same : max a (f e) ≡ a = omega (arith, none) in
          rw left (ap (λ (n : ℕ). fold max n (map f edges)) same ∙ most-kept f keep edges a rest)
    ]

-- edges that leave the grid have no overflow
out-none : (l : LoadsView) (c : CapacityView) → AreLoads l → All (λ e. has_edge l.shape e ≡ false → overflow (demand_at l) (capacity_at c) e ≡ 0) (wires_from_cells l.shape)
out-none l c loads = λ k d below.
    let within : k < 2 * cells_of l.shape = let h = length-wires l.shape in omega (arith, h, below) in
    let is : get_or (wires_from_cells l.shape) k d ≡ wire_at k = get_or-map-range_with_len wire_at 0 (2 * cells_of l.shape) k k d within (omega arith) in
    let P : Edge → Type 0 = λ e. has_edge l.shape e ≡ false → overflow (demand_at l) (capacity_at c) e ≡ 0 in
    subst P (sym is) (λ out. ap (λ (n : ℕ). n - capacity_at c (wire_at k)) (no_demand l k loads within out) ∙ omega arith)

-- the demands and the capacities are tables
pub demands-table : (l : LoadsView) → AreLoads l → l.demands ≡ map (demand_at l) (wires_from_cells l.shape)
demands-table l loads = table-self l.shape l.demands loads.demands

pub capacities-table : (c : CapacityView) (g : Shape) → IsCapacity c → c.shape ≡ g → c.capacities ≡ map (capacity_at c) (wires_from_cells g)
capacities-table c g tables same =
    subst (λ (h : Shape). c.capacities ≡ map (capacity_at c) (wires_from_cells h)) same (table-self c.shape c.capacities tables.wires)

pub total-tables : (l : LoadsView) (c : CapacityView) → AreLoads l → IsCapacity c → c.shape ≡ l.shape →
    sum_by (λ (p : ℕ × ℕ). p.0 - p.1) (zip l.demands c.capacities) ≡ total_overflow l.shape (demand_at l) (capacity_at c)
total-tables l c loads tables same =
    ap (λ (xs : List ℕ). sum_by (λ (p : ℕ × ℕ). p.0 - p.1) (zip xs c.capacities)) (demands-table l loads)
    ∙ ap (λ (ys : List ℕ). sum_by (λ (p : ℕ × ℕ). p.0 - p.1) (zip (map (demand_at l) (wires_from_cells l.shape)) ys)) (capacities-table c l.shape tables same)
    ∙ sum-tables (demand_at l) (capacity_at c) (wires_from_cells l.shape)
    ∙ sum-kept (overflow (demand_at l) (capacity_at c)) (has_edge l.shape) (wires_from_cells l.shape) (out-none l c loads)

pub most-of-tables : (l : LoadsView) (c : CapacityView) → AreLoads l → IsCapacity c → c.shape ≡ l.shape →
    fold (λ m (p : ℕ × ℕ). max m (p.0 - p.1)) 0 (zip l.demands c.capacities) ≡ most_overflow l.shape (demand_at l) (capacity_at c)
most-of-tables l c loads tables same =
    ap (λ (xs : List ℕ). fold (λ m (p : ℕ × ℕ). max m (p.0 - p.1)) 0 (zip xs c.capacities)) (demands-table l loads)
    ∙ ap (λ (ys : List ℕ). fold (λ m (p : ℕ × ℕ). max m (p.0 - p.1)) 0 (zip (map (demand_at l) (wires_from_cells l.shape)) ys)) (capacities-table c l.shape tables same)
    ∙ most-tables (demand_at l) (capacity_at c) (wires_from_cells l.shape) 0
    ∙ most-kept (overflow (demand_at l) (capacity_at c)) (has_edge l.shape) (wires_from_cells l.shape) 0 (out-none l c loads)

-- the tables in planes are as long
pub demands-long : (l : LoadsView) (demands : List ℕ) → AreLoads l → by_number 0 demands ≡ l.demands → length demands ≡ 2 * cells_of l.shape
demands-long l demands loads is = sym (length-by_number 0 demands) ∙ ap length is ∙ loads.demands

pub capacities-long : (l : LoadsView) (c : CapacityView) (capacities : List ℕ) → IsCapacity c → c.shape ≡ l.shape → by_number 0 capacities ≡ c.capacities →
    length capacities ≡ 2 * cells_of l.shape
capacities-long l c capacities tables same is =
    sym (length-by_number 0 capacities) ∙ ap length is ∙ tables.wires ∙ ap (λ (g : Shape). 2 * cells_of g) same

pub tables-fit : (l : LoadsView) (c : CapacityView) (demands capacities : List ℕ) → AreLoads l → IsCapacity c → c.shape ≡ l.shape →
    by_number 0 demands ≡ l.demands → by_number 0 capacities ≡ c.capacities → AreTables demands capacities
tables-fit l c demands capacities loads tables same is also =
    let long = demands-long l demands loads is in
    let valid = l.shape.valid in
    record {
      same = capacities-long l c capacities tables same also ∙ sym long;
      halves = omega (arith, long);
      few = grind (arith, nat_tests, long, valid);
    }

pub marks-long : (l : LoadsView) (marks : List ℕ) → AreLoads l → by_number 0 marks ≡ l.marks → length marks ≡ 2 * cells_of l.shape
marks-long l marks loads is = sym (length-by_number 0 marks) ∙ ap length is ∙ loads.marks

-- where a wire edge's demand stands
pub demand-place : (l now : LoadsView) (demands : List ℕ) (wires : ℕ) (e : Edge) (place : ℕ) → AreLoads l → l ≡ now → by_number 0 demands ≡ l.demands →
    IsTrue (has_edge now.shape e) → wires ≡ length demands → place ≡ place_of wires (wire_number e) → StandsAt 0 demands (wire_number e) place
demand-place l now demands wires e place loads same is edge all at =
    let inside : wire_number e < 2 * cells_of l.shape = subst (λ (v : LoadsView). wire_number e < 2 * cells_of v.shape) (sym same) (number-below now.shape e edge) in
    let long = demands-long l demands loads is in
    stands 0 demands wires (wire_number e) place (omega (arith, inside, long)) all at

-- and its marks
pub marks-place : (l now : LoadsView) (demands marks : List ℕ) (wires : ℕ) (e : Edge) (place : ℕ) → AreLoads l → l ≡ now → by_number 0 demands ≡ l.demands →
    by_number 0 marks ≡ l.marks → IsTrue (has_edge now.shape e) → wires ≡ length demands → place ≡ place_of wires (wire_number e) →
    StandsAt 0 marks (wire_number e) place
marks-place l now demands marks wires e place loads same is also edge all at =
    let demand = demand-place l now demands wires e place loads same is edge all at in
    let long = demands-long l demands loads is in
    let marks_all = marks-long l marks loads also in
    stands 0 marks wires (wire_number e) place (let inside = demand.inside in omega (arith, inside, long, marks_all)) (all ∙ long ∙ sym marks_all) at

-- where no edge has a mark
pub no-marks : (l now : LoadsView) (marks : List ℕ) (e : Edge) → l ≡ now → by_number 0 marks ≡ l.marks → marks ≡ replicate (2 * cells_of l.shape) 0 →
    IsTrue (has_edge now.shape e) → marks_at now e ≡ 0
no-marks l now marks e same is none edge =
    let inside : wire_number e < 2 * cells_of l.shape = subst (λ (v : LoadsView). wire_number e < 2 * cells_of v.shape) (sym same) (number-below now.shape e edge) in
    ap (λ (v : LoadsView). marks_at v e) (sym same)
    ∙ ap (λ (xs : List ℕ). slice_index xs (wire_number e)) (sym is ∙ ap (λ (xs : List ℕ). by_number 0 xs) none ∙ by_number-zeros (2 * cells_of l.shape))
    ∙ get_or-replicate (2 * cells_of l.shape) (wire_number e) 0 0 inside

-- the loads after new demands
pub added-whole : (c : CapacityView) (net : ℕ) (t : TreeView) (l : LoadsView) (new : List ℕ) → AreLoads l → IsTree t → t.shape ≡ l.shape →
    new ≡ map (λ e. demand_at l e + share c net t e) (wires_from_cells t.shape) → AreLoads (record { shape = l.shape; demands = new; marks = l.marks })
added-whole c net t l new loads tree same is =
    let P : List ℕ → Type 0 = λ xs. AreLoads (record { shape = l.shape; demands = xs; marks = l.marks }) in
    subst P (sym (is ∙ ap (λ (g : Shape). map (λ (e : Edge). demand_at l e + share c net t e) (wires_from_cells g)) same)) (added-loads c net t l loads tree same)

pub taken-whole : (c : CapacityView) (net : ℕ) (t : TreeView) (l : LoadsView) (new : List ℕ) → AreLoads l → t.shape ≡ l.shape →
    new ≡ map (λ e. demand_at l e - share c net t e) (wires_from_cells t.shape) → AreLoads (record { shape = l.shape; demands = new; marks = l.marks })
taken-whole c net t l new loads same is =
    let P : List ℕ → Type 0 = λ xs. AreLoads (record { shape = l.shape; demands = xs; marks = l.marks }) in
    subst P (sym (is ∙ ap (λ (g : Shape). map (λ (e : Edge). demand_at l e - share c net t e) (wires_from_cells g)) same)) (taken-loads c net t l loads)

-- the loads after new marks
pub marked-is : (c : CapacityView) (l : LoadsView) (demands capacities new : List ℕ) → AreLoads l → demands ≡ l.demands → capacities ≡ c.capacities →
    length new ≡ length l.marks →
    ((n : ℕ) → n < length l.marks → slice_index new n ≡ mark_of (slice_index demands n) (slice_index capacities n) (slice_index l.marks n)) →
    new ≡ (marked c l).marks
marked-is c l demands capacities new loads same_demands same_capacities long each =
    marks-table c l new loads long
    (λ n below.
    each n below ∙ ap (λ (xs : List ℕ). mark_of (slice_index xs n) (slice_index capacities n) (slice_index l.marks n)) same_demands
    ∙ ap (λ (xs : List ℕ). mark_of (slice_index l.demands n) (slice_index xs n) (slice_index l.marks n)) same_capacities)

-- the same by place
pub marked-planes : (c : CapacityView) (l : LoadsView) (demands capacities old new : List ℕ) → AreLoads l → IsCapacity c → c.shape ≡ l.shape →
    by_number 0 demands ≡ l.demands → by_number 0 capacities ≡ c.capacities → by_number 0 old ≡ l.marks → length new ≡ length old →
    ((n : ℕ) → n < length old → slice_index new n ≡ mark_of (slice_index demands n) (slice_index capacities n) (slice_index old n)) →
    by_number 0 new ≡ (marked c l).marks
marked-planes c l demands capacities old new loads tables same same_demands same_capacities same_marks long each =
    let wires = demands-long l demands loads same_demands in
    let limits = capacities-long l c capacities tables same same_capacities in
    let marks = marks-long l old loads same_marks in
    let R : ℕ → ℕ → ℕ → ℕ → Type 0 = λ m d k o. m ≡ mark_of d k o in
    let by = each-number R new demands capacities old (wires ∙ sym (long ∙ marks)) (limits ∙ sym (long ∙ marks)) (sym long)
    (λ n below. each n (omega (arith, below, long))) in
    marked-is c l (by_number 0 demands) (by_number 0 capacities) (by_number 0 new) loads same_demands same_capacities
    (length-by_number 0 new ∙ long ∙ marks ∙ sym loads.marks)
    (λ n below.
    let within : n < length new = let h = loads.marks in omega (arith, h, below, long, marks) in
    by n within ∙ ap (λ (xs : List ℕ). mark_of (slice_index (by_number 0 demands) n) (slice_index (by_number 0 capacities) n) (slice_index xs n)) same_marks)

pub marked-whole : (c : CapacityView) (l : LoadsView) (new : List ℕ) → AreLoads l → new ≡ (marked c l).marks → AreLoads (record { shape = l.shape; demands = l.demands; marks = new })
marked-whole c l new loads is =
    let P : List ℕ → Type 0 = λ xs. AreLoads (record { shape = l.shape; demands = l.demands; marks = xs }) in
    subst P (sym is) (marked-loads c l loads)

-- sums and maxima over functions that agree on the grid's wire edges
sum-same : (f h : Edge → ℕ) (keep : Edge → Bool) (edges : List Edge) → All (λ e. keep e ≡ true → f e ≡ h e) edges → sum_by f (filter keep edges) ≡ sum_by h (filter keep edges)
sum-same f h keep [] all = refl
sum-same f h keep (e ∷ edges) all =
    let rest = sum-same f h keep edges (All-tail (λ (x : Edge). keep x ≡ true → f x ≡ h x) e edges all) in
    elim (cases_Bool (keep e)) [
      | inl kept ↦
          let first = All-head (λ (x : Edge). keep x ≡ true → f x ≡ h x) e edges all kept in
          rw kept (sum_by-cons f e (filter keep edges) ∙ omega (arith, first, rest) ∙ sym (sum_by-cons h e (filter keep edges)))
      | inr left ↦ rw left rest
    ]

most-same : (f h : Edge → ℕ) (keep : Edge → Bool) (edges : List Edge) (a : ℕ) → All (λ e. keep e ≡ true → f e ≡ h e) edges →
    fold max a (map f (filter keep edges)) ≡ fold max a (map h (filter keep edges))
most-same f h keep [] a all = refl
most-same f h keep (e ∷ edges) a all =
    let tail : All (λ e. keep e ≡ true → f e ≡ h e) edges = All-tail (λ (x : Edge). keep x ≡ true → f x ≡ h x) e edges all in
    elim (cases_Bool (keep e)) [
      | inl kept ↦
          let first = All-head (λ (x : Edge). keep x ≡ true → f x ≡ h x) e edges all kept in
          rw kept (ap (λ (n : ℕ). fold max (max a n) (map f (filter keep edges))) first ∙ most-same f h keep edges (max a (h e)) tail)
      | inr left ↦ rw left (most-same f h keep edges a tail)
    ]

-- two functions agree on the grid's wire edges
abbrev pub Agree : Shape → (Edge → ℕ) → (Edge → ℕ) → Type 0
Agree g f h = (e : Edge) → IsTrue (has_edge g e) → IsTrue (is_wire e) → f e ≡ h e

agree-each : (g : Shape) (f h : Edge → ℕ) → Agree g f h → All (λ e. has_edge g e ≡ true → f e ≡ h e) (wires_from_cells g)
agree-each g f h agree = λ k d below is.
    let within : k < 2 * cells_of g = let long = length-wires g in omega (arith, long, below) in
    let at : get_or (wires_from_cells g) k d ≡ wire_at k = get_or-map-range_with_len wire_at 0 (2 * cells_of g) k k d within (omega arith) in
    agree (get_or (wires_from_cells g) k d) is (subst (λ (e : Edge). IsTrue (is_wire e)) (sym at) (wire-wire_at k))

agree-over : (g : Shape) (f h c d : Edge → ℕ) → Agree g f h → Agree g c d → Agree g (overflow f c) (overflow h d)
agree-over g f h c d demands capacities = λ e edge wire.
    ap (λ (n : ℕ). n - c e) (demands e edge wire) ∙ ap (λ (n : ℕ). h e - n) (capacities e edge wire)

pub total_overflow-same : (g : Shape) (f h c d : Edge → ℕ) → Agree g f h → Agree g c d → total_overflow g f c ≡ total_overflow g h d
total_overflow-same g f h c d demands capacities =
    sum-same (overflow f c) (overflow h d) (has_edge g) (wires_from_cells g)
    (agree-each g (overflow f c) (overflow h d) (agree-over g f h c d demands capacities))

pub most_overflow-same : (g : Shape) (f h c d : Edge → ℕ) → Agree g f h → Agree g c d → most_overflow g f c ≡ most_overflow g h d
most_overflow-same g f h c d demands capacities =
    most-same (overflow f c) (overflow h d) (has_edge g) (wires_from_cells g) 0
    (agree-each g (overflow f c) (overflow h d) (agree-over g f h c d demands capacities))

design-agrees : (l : LoadsView) (c : CapacityView) (d : DesignView) → c.shape ≡ l.shape → c ≡ capacity_of d → Agree l.shape (capacity_at c) (capacity d)
design-agrees l c d same is = λ e edge wire.
    let shape : l.shape ≡ d.frame.shape = sym same ∙ ap (λ (v : CapacityView). v.shape) is in
    ap (λ (v : CapacityView). capacity_at v e) is ∙ capacity-table d e (subst (λ (g : Shape). IsTrue (has_edge g e)) shape edge) wire

-- sums over the capacities of a design
pub total-design : (l : LoadsView) (c : CapacityView) (d : DesignView) → c.shape ≡ l.shape → c ≡ capacity_of d →
    total_overflow l.shape (demand_at l) (capacity_at c) ≡ total_overflow l.shape (demand_at l) (capacity d)
total-design l c d same is =
    total_overflow-same l.shape (demand_at l) (demand_at l) (capacity_at c) (capacity d) (λ e edge wire. refl) (design-agrees l c d same is)

pub most-design : (l : LoadsView) (c : CapacityView) (d : DesignView) → c.shape ≡ l.shape → c ≡ capacity_of d →
    most_overflow l.shape (demand_at l) (capacity_at c) ≡ most_overflow l.shape (demand_at l) (capacity d)
most-design l c d same is =
    most_overflow-same l.shape (demand_at l) (demand_at l) (capacity_at c) (capacity d) (λ e edge wire. refl) (design-agrees l c d same is)

pub total-of : (l now : LoadsView) (c : CapacityView) (demands capacities : List ℕ) (result : ℕ) → AreLoads l → IsCapacity c → l ≡ now → c.shape ≡ now.shape →
    by_number 0 demands ≡ l.demands → by_number 0 capacities ≡ c.capacities → result ≡ sum_by (λ (p : ℕ × ℕ). p.0 - p.1) (zip demands capacities) →
    result ≡ total_overflow now.shape (demand_at now) (capacity_at c)
total-of l now c demands capacities result loads tables is same same_demands same_capacities sum_is =
    let P : LoadsView → Type 0 = λ v. result ≡ total_overflow v.shape (demand_at v) (capacity_at c) in
    let shape : c.shape ≡ l.shape = same ∙ sym (ap (λ (v : LoadsView). v.shape) is) in
    subst P is
    (sum_is
    ∙ sum-planes demands capacities (cells_of l.shape) (demands-long l demands loads same_demands) (capacities-long l c capacities tables shape same_capacities)
    ∙ ap (λ (xs : List ℕ). sum_by (λ (p : ℕ × ℕ). p.0 - p.1) (zip xs (by_number 0 capacities))) same_demands
    ∙ ap (λ (ys : List ℕ). sum_by (λ (p : ℕ × ℕ). p.0 - p.1) (zip l.demands ys)) same_capacities
    ∙ total-tables l c loads tables shape)

pub most-of : (l now : LoadsView) (c : CapacityView) (demands capacities : List ℕ) (result : ℕ) → AreLoads l → IsCapacity c → l ≡ now → c.shape ≡ now.shape →
    by_number 0 demands ≡ l.demands → by_number 0 capacities ≡ c.capacities → result ≡ fold (λ m (p : ℕ × ℕ). max m (p.0 - p.1)) 0 (zip demands capacities) →
    result ≡ most_overflow now.shape (demand_at now) (capacity_at c)
most-of l now c demands capacities result loads tables is same same_demands same_capacities sum_is =
    let P : LoadsView → Type 0 = λ v. result ≡ most_overflow v.shape (demand_at v) (capacity_at c) in
    let shape : c.shape ≡ l.shape = same ∙ sym (ap (λ (v : LoadsView). v.shape) is) in
    subst P is
    (sum_is
    ∙ most-planes demands capacities (cells_of l.shape) (demands-long l demands loads same_demands) (capacities-long l c capacities tables shape same_capacities)
    ∙ ap (λ (xs : List ℕ). fold (λ m (p : ℕ × ℕ). max m (p.0 - p.1)) 0 (zip xs (by_number 0 capacities))) same_demands
    ∙ ap (λ (ys : List ℕ). fold (λ m (p : ℕ × ℕ). max m (p.0 - p.1)) 0 (zip l.demands ys)) same_capacities
    ∙ most-of-tables l c loads tables shape)

-- which wire edges have more demand than capacity
pub overfull-whole : (c : CapacityView) (l : LoadsView) (demands capacities : List ℕ) (over : OverfullView) → AreLoads l → IsCapacity c → c.shape ≡ l.shape →
    by_number 0 demands ≡ l.demands → by_number 0 capacities ≡ c.capacities → length over.table ≡ length demands →
    ((n : ℕ) → n < length demands → slice_index_or over.table n false ≡ nat_lt (slice_index (by_number 0 capacities) n) (slice_index (by_number 0 demands) n)) →
    over.total ≡ sum_by (λ (p : ℕ × ℕ). p.0 - p.1) (zip demands capacities) → AreOverfull c l over
overfull-whole c l demands capacities over loads tables same same_demands same_capacities long each sum =
    let wires = demands-long l demands loads same_demands in
    record {
      long = long ∙ wires;
      each = λ n below.
          each n (omega (arith, below, wires))
          ∙ ap (λ (xs : List ℕ). nat_lt (slice_index xs n) (slice_index (by_number 0 demands) n)) same_capacities
          ∙ ap (λ (xs : List ℕ). nat_lt (slice_index c.capacities n) (slice_index xs n)) same_demands;
      total = total-of l l c demands capacities over.total loads tables refl same same_demands same_capacities sum;
    }
