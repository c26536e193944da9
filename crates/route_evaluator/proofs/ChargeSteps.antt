-- The demand for wire edges, edge after edge of a net.
use Rattle.std.proofs.Common.{◌≡◌, ℕ, ◌+◌, ◌*◌, ◌<◌, ◌≤◌, ◌==◌, inl, inr, Bool, true, false, cond, List, length, get_or, take, if◌then◌else◌, IsTrue, refl, sym, ap, subst, ◌∙◌, arith}
use Rattle.std.proofs.lemmas.Bool.{cases_Bool, eq-eqb, both_ways}
use Rattle.std.proofs.lemmas.List.{take_more}
use Rattle.std.proofs.lemmas.List.Sums.{sum_by_push, sum_by-take-le}
use Rattle.gr_base.specs.declared.grid.Edge.{Edge}
use Rattle.gr_base.specs.EdgeSets.{is_edge}
use Rattle.gr_base.specs.Grid.{has_edge, is_wire}
use Rattle.gr_base.proofs.TreeDistinct.{is_edge-same}
use Rattle.grid_demand.specs.LoadSums.{LoadsView, demand_at, charged}
use Rattle.grid_demand.specs.Tables.{CapacityView, need_at}
use Rattle.grid_demand.proofs.ChargeLemmas.{demand-charged}
use Rattle.route_evaluator.specs.Counts.{IsCharged}
use Rattle.route_evaluator.specs.EdgeNumbers.{edge_number, edge_numbered, edges_numbered}
use Rattle.route_evaluator.proofs.EdgeNumberLemmas.{number-numbered, is_edge-number}
use Rattle.route_evaluator.proofs.CountLemmas.{times, times-has}

-- each wire edge of the old loads' grid has gained the net's need as often as the list has its number
abbrev pub HasGained : CapacityView → ℕ → List ℕ → LoadsView → LoadsView → Type 0
HasGained c net numbers old new =
    (e : Edge) → IsTrue (has_edge old.shape e) → IsTrue (is_wire e) → demand_at new e ≡ demand_at old e + need_at c net e * times numbers (edge_number e)

times-next : (numbers : List ℕ) (i n : ℕ) → i < length numbers → times (take (i + 1) numbers) n ≡ times (take i numbers) n + cond (n == get_or numbers i 0) 1 0
times-next numbers i n within =
    ap (λ (xs : List ℕ). times xs n) (take_more numbers i 0 within) ∙ sum_by_push (λ (other : ℕ). cond (n == other) 1 0) (take i numbers) (get_or numbers i 0)

-- the number at a place isn't among those before it
pub times-before : (numbers : List ℕ) (i : ℕ) → i < length numbers → times numbers (get_or numbers i 0) ≤ 1 → times (take i numbers) (get_or numbers i 0) ≡ 0
times-before numbers i within once =
    let x : ℕ = get_or numbers i 0 in
    let next = times-next numbers i x within in
    let part = sum_by-take-le (λ (other : ℕ). cond (x == other) 1 0) numbers (i + 1) in
    let test : (x == x) ≡ true = eq-eqb x x refl in
    let one : cond {A = ℕ} (x == x) 1 0 ≡ 1 = rw test refl in
    omega (arith, next, part, one, once)

-- the number of the edge at a place
test-at : (numbers : List ℕ) (i : ℕ) (f e : Edge) → f ≡ edge_numbered (get_or numbers i 0) → (edge_number e == get_or numbers i 0) ≡ is_edge e f
test-at numbers i f e is =
    ap (λ (n : ℕ). edge_number e == n) (sym (ap edge_number is ∙ number-numbered (get_or numbers i 0))) ∙ is_edge-number e f

gained : (b : Bool) (old need before : ℕ) → (old + need * before) + (if b then need else 0) ≡ old + need * (before + cond b 1 0)
gained true old need before = omega arith
gained false old need before = omega arith

pub gained-next : (c : CapacityView) (net : ℕ) (numbers : List ℕ) (i : ℕ) (f : Edge) (old mid new : LoadsView) → i < length numbers →
    f ≡ edge_numbered (get_or numbers i 0) → mid.shape ≡ old.shape → HasGained c net (take i numbers) old mid → new ≡ charged c net f mid →
    HasGained c net (take (i + 1) numbers) old new
gained-next c net numbers i f old mid new within is same before now e edge wire =
    let need : ℕ = need_at c net e in
    let inside = subst (λ (g : _). IsTrue (has_edge g e)) (sym same) edge in
    ap (λ (l : LoadsView). demand_at l e) now
    ∙ demand-charged c net f mid e inside wire
    ∙ ap (λ (n : ℕ). n + (if is_edge e f then need else 0)) (before e edge wire)
    ∙ gained (is_edge e f) (demand_at old e) need (times (take i numbers) (edge_number e))
    ∙ ap (λ (b : Bool). demand_at old e + need * (times (take i numbers) (edge_number e) + cond b 1 0)) (sym (test-at numbers i f e is))
    ∙ ap (λ (n : ℕ). demand_at old e + need * n) (sym (times-next numbers i (edge_number e) within))

pub gained-via : (c : CapacityView) (net : ℕ) (numbers : List ℕ) (i : ℕ) (f : Edge) (old mid new : LoadsView) → i < length numbers →
    f ≡ edge_numbered (get_or numbers i 0) → is_wire f ≡ false → HasGained c net (take i numbers) old mid → new ≡ mid →
    HasGained c net (take (i + 1) numbers) old new
gained-via c net numbers i f old mid new within is via before now e edge wire =
    let other : is_edge e f ≡ false = elim (cases_Bool (is_edge e f)) [
      | inl same ↦ absurd (both_ways (is_wire f) via (subst (λ (x : Edge). IsTrue (is_wire x)) (is_edge-same e f same) wire))
      | inr apart ↦ apart
    ] in
    let one : cond {A = ℕ} (edge_number e == get_or numbers i 0) 1 0 ≡ 0 = rw (test-at numbers i f e is ∙ other) refl in
    let next : times (take (i + 1) numbers) (edge_number e) ≡ times (take i numbers) (edge_number e) = omega (arith, one, times-next numbers i (edge_number e) within) in
    ap (λ (l : LoadsView). demand_at l e) now ∙ before e edge wire ∙ ap (λ (n : ℕ). demand_at old e + need_at c net e * n) (sym next)

-- the demand for the edge at a place is still what it was
pub gained-before : (c : CapacityView) (net : ℕ) (numbers : List ℕ) (i : ℕ) (f : Edge) (old mid : LoadsView) → i < length numbers →
    f ≡ edge_numbered (get_or numbers i 0) → times numbers (get_or numbers i 0) ≤ 1 → IsTrue (has_edge old.shape f) → IsTrue (is_wire f) →
    HasGained c net (take i numbers) old mid → demand_at mid f ≡ demand_at old f
gained-before c net numbers i f old mid within is once edge wire before =
    let number : edge_number f ≡ get_or numbers i 0 = ap edge_number is ∙ number-numbered (get_or numbers i 0) in
    let none : times (take i numbers) (edge_number f) ≡ 0 = ap (times (take i numbers)) number ∙ times-before numbers i within once in
    before f edge wire ∙ ap (λ (n : ℕ). demand_at old f + need_at c net f * n) none ∙ omega arith

-- each edge stands once
pub gained-all : (c : CapacityView) (net : ℕ) (numbers : List ℕ) (old new : LoadsView) → ((n : ℕ) → times numbers n ≤ 1) → HasGained c net numbers old new →
    IsCharged c net (edges_numbered numbers) old new
gained-all c net numbers old new once all e edge wire =
    all e edge wire ∙ ap (λ (n : ℕ). demand_at old e + need_at c net e * n) (times-has numbers (edge_number e) (once (edge_number e)))
    ∙ whole (edges_numbered numbers e) (demand_at old e) (need_at c net e)
  where
    whole : (b : Bool) (base need : ℕ) → base + need * cond b 1 0 ≡ base + (if b then need else 0)
    whole true base need = omega arith
    whole false base need = omega arith
