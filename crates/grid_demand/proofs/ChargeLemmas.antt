-- Loads that one edge is charged to.
use Rattle.std.proofs.Common.{◌≡◌, ℕ, ◌+◌, ◌*◌, Bool, true, false, List, length, slice_index, slice_set, if◌then◌else◌, IsTrue, refl, sym, ap, subst, ◌∙◌, arith}
use Rattle.std.proofs.lemmas.Bool.{both_ways}
use Rattle.gr_base.proofs.TreeDistinct.{is_edge-same}
use Rattle.gr_base.specs.EdgeSets.{is_edge}
use Rattle.gr_base.specs.Grid.{has_edge, is_wire}
use Rattle.gr_base.specs.Sums.{wire_at, wire_number}
use Rattle.gr_base.specs.declared.grid.Edge.{Edge}
use Rattle.grid_demand.proofs.LoadLemmas.{no_demand}
use Rattle.grid_demand.proofs.PlaneLemmas.{StandsAt, written-at}
use Rattle.grid_demand.proofs.WireLemmas.{table-at, table-same, table-self, table-set, table-edge, length-table}
use Rattle.grid_demand.specs.LoadSums.{LoadsView, demand_at, charged, AreLoads}
use Rattle.grid_demand.specs.Planes.{by_number}
use Rattle.grid_demand.specs.Tables.{CapacityView, need_at}

-- the charged edge has the sum, another what it had
chosen : (b : Bool) (sum had need : ℕ) → (b ≡ true → sum ≡ had + need) → (if b then sum else had) ≡ had + (if b then need else 0)
chosen true sum had need same = same refl
chosen false sum had need same = omega arith

-- the demands after a write
pub charged-demands : (c : CapacityView) (net : ℕ) (e : Edge) (l : LoadsView) (new : List ℕ) → AreLoads l → IsTrue (has_edge l.shape e) → IsTrue (is_wire e) →
    new ≡ slice_set l.demands (wire_number e) (slice_index l.demands (wire_number e) + need_at c net e) → new ≡ (charged c net e l).demands
charged-demands c net e l new loads edge wire written =
    let sum : ℕ = demand_at l e + need_at c net e in
    written
    ∙ ap (λ (xs : List ℕ). slice_set xs (wire_number e) sum) (table-self l.shape l.demands loads.demands)
    ∙ table-set l.shape (demand_at l) e sum edge wire
    ∙ table-same l.shape (λ f. if is_edge f e then sum else demand_at l f) (λ f. demand_at l f + (if is_edge f e then need_at c net f else 0))
    (λ f is. chosen (is_edge f e) sum (demand_at l f) (need_at c net f)
    (λ same. ap (λ (x : Edge). demand_at l x + need_at c net x) (sym (is_edge-same f e same))))

-- loads stay loads
pub charged-loads : (c : CapacityView) (net : ℕ) (e : Edge) (l : LoadsView) → AreLoads l → IsTrue (has_edge l.shape e) → AreLoads (charged c net e l)
charged-loads c net e l loads edge = record {
  demands = length-table l.shape (λ f. demand_at l f + (if is_edge f e then need_at c net f else 0));
  marks = loads.marks;
  inside = λ n below out.
      table-at l.shape (λ f. demand_at l f + (if is_edge f e then need_at c net f else 0)) n below
      ∙ ap (λ (k : ℕ). k + (if is_edge (wire_at n) e then need_at c net (wire_at n) else 0)) (no_demand l n loads below out)
      ∙ none (is_edge (wire_at n) e) (need_at c net (wire_at n))
      (λ same. both_ways (has_edge l.shape (wire_at n)) out (subst (λ (f : Edge). IsTrue (has_edge l.shape f)) (sym (is_edge-same (wire_at n) e same)) edge));
  most = loads.most;
}
  where
    none : (b : Bool) (need : ℕ) → (b ≡ true → ⊥) → 0 + (if b then need else 0) ≡ 0
    none true need other = absurd (other refl)
    none false need other = refl

-- the demand after a charge
pub demand-charged : (c : CapacityView) (net : ℕ) (e : Edge) (l : LoadsView) (f : Edge) → IsTrue (has_edge l.shape f) → IsTrue (is_wire f) →
    demand_at (charged c net e l) f ≡ demand_at l f + (if is_edge f e then need_at c net f else 0)
demand-charged c net e l f edge wire =
    table-edge l.shape (λ x. demand_at l x + (if is_edge x e then need_at c net x else 0)) f edge wire

-- a sum that is written over what was read
pub written : (xs : List ℕ) (cells number place x m n : ℕ) → length xs ≡ 2 * cells → StandsAt 0 xs number place → x ≡ slice_index xs place → m ≡ n →
    by_number 0 (slice_set xs place (x + m)) ≡ slice_set (by_number 0 xs) number (slice_index (by_number 0 xs) number + n)
written xs cells number place x m n long is value more =
    written-at xs cells number place (x + m) long is
    ∙ ap (λ (k : ℕ). slice_set (by_number 0 xs) number (k + m)) (value ∙ is.value)
    ∙ ap (λ (k : ℕ). slice_set (by_number 0 xs) number (slice_index (by_number 0 xs) number + k)) more

-- the loads after the write
abbrev pub with_demands : LoadsView → List ℕ → LoadsView
with_demands l new = record { shape = l.shape; demands = new; marks = l.marks }

pub charge-is : (c : CapacityView) (net : ℕ) (e : Edge) (l now : LoadsView) (new : List ℕ) → AreLoads l → l ≡ now → IsTrue (has_edge now.shape e) → IsTrue (is_wire e) →
    new ≡ slice_set l.demands (wire_number e) (slice_index l.demands (wire_number e) + need_at c net e) → with_demands l new ≡ charged c net e now
charge-is c net e l now new loads is edge wire set =
    let inside = subst (λ (v : LoadsView). IsTrue (has_edge v.shape e)) (sym is) edge in
    ap (with_demands l) (charged-demands c net e l new loads inside wire set) ∙ ap (charged c net e) is

pub charge-whole : (c : CapacityView) (net : ℕ) (e : Edge) (l now : LoadsView) (new : List ℕ) → AreLoads l → l ≡ now → IsTrue (has_edge now.shape e) → IsTrue (is_wire e) →
    new ≡ slice_set l.demands (wire_number e) (slice_index l.demands (wire_number e) + need_at c net e) → AreLoads (with_demands l new)
charge-whole c net e l now new loads is edge wire set =
    let inside = subst (λ (v : LoadsView). IsTrue (has_edge v.shape e)) (sym is) edge in
    subst (λ (v : LoadsView). AreLoads v) (sym (ap (with_demands l) (charged-demands c net e l new loads inside wire set))) (charged-loads c net e l loads inside)
