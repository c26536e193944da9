-- A mark that one replica reads by the edges that another found over their capacity.
use Rattle.std.proofs.Common.{◌≡◌, ℕ, ◌+◌, ◌*◌, ◌<◌, true, List, [], ◌∷◌, ◌++◌, length, take, Some, slice_get, slice_index, sym, ap, subst, ◌∙◌, arith, inl, inr}
use Rattle.std.proofs.lemmas.Bool.{cases_Bool}
use Rattle.std.proofs.lemmas.Grind.{same_number_lists}
use Rattle.std.proofs.lemmas.List.{take_all}
use Rattle.gr_base.specs.Grid.{cells_of, has_edge}
use Rattle.gr_base.specs.Sums.{wire_at}
use Rattle.gr_base.specs.declared.grid.Edge.{Edge}
use Rattle.gr_base.specs.declared.grid.Shape.{Shape}
use Rattle.grid_demand.proofs.LoadLemmas.{no_demand}
use Rattle.grid_demand.proofs.WireLemmas.{number-wire_at, wire-wire_at}
use Rattle.grid_demand.specs.LoadSums.{LoadsView, demand_at, AreLoads}
use Rattle.grid_demand.specs.Overfull.{OverfullView, AreOverfull}
use Rattle.grid_demand.specs.Tables.{CapacityView}
use Rattle.book_state.proofs.BookSteps as steps
use Rattle.book_state.proofs.ReplicaSteps.{take-entry, booked-mark}
use Rattle.book_state.proofs.StandSteps.{mark-entry}
use Rattle.book_state.specs.Books.{booked, demand, AreLoadsOf}
use Rattle.book_state.specs.Entries.{is_mark_at}
use Rattle.book_state.specs.Replicas.{ReplicaView, StandsFor}
use Rattle.book_state.specs.declared.entry.Call.TheVariants.{Mark}
use Rattle.book_state.specs.declared.entry.Entry.{Entry}

-- loads of histories with the same demand have the same demand, at each number
same-demand : (c : CapacityView) (h k : List Entry) (l m : LoadsView) → AreLoads l → AreLoads m → AreLoadsOf c h l → AreLoadsOf c k m →
    ((e : Edge) → demand c h e ≡ demand c k e) → (n : ℕ) → n < 2 * cells_of c.shape → demand_at l (wire_at n) ≡ demand_at m (wire_at n)
same-demand c h k l m whole others of other same n below =
    elim (cases_Bool (has_edge c.shape (wire_at n))) [
      | inl inside ↦ of.demand (wire_at n) inside (wire-wire_at n) ∙ same (wire_at n) ∙ sym (other.demand (wire_at n) inside (wire-wire_at n))
      | inr out ↦
          no_demand l n whole (subst (λ (g : Shape). n < 2 * cells_of g) (sym of.shape) below) (ap (λ (g : Shape). has_edge g (wire_at n)) of.shape ∙ out)
          ∙ sym (no_demand m n others (subst (λ (g : Shape). n < 2 * cells_of g) (sym other.shape) below) (ap (λ (g : Shape). has_edge g (wire_at n)) other.shape ∙ out))
    ]

same-demands : (c : CapacityView) (h k : List Entry) (l m : LoadsView) → AreLoads l → AreLoads m → AreLoadsOf c h l → AreLoadsOf c k m →
    ((e : Edge) → demand c h e ≡ demand c k e) → l.demands ≡ m.demands
same-demands c h k l m whole others of other same =
    let long : length l.demands ≡ 2 * cells_of c.shape = whole.demands ∙ ap (λ (g : Shape). 2 * cells_of g) of.shape in
    let length_is : length l.demands ≡ length m.demands = long ∙ sym (others.demands ∙ ap (λ (g : Shape). 2 * cells_of g) other.shape) in
    same_number_lists l.demands m.demands length_is (λ n below.
    ap (λ (k : ℕ). slice_index l.demands k) (sym (number-wire_at n))
    ∙ same-demand c h k l m whole others of other same n (omega (arith, below, long))
    ∙ ap (λ (k : ℕ). slice_index m.demands k) (number-wire_at n))

-- what is told of loads is told of loads with the same demands
told-same : (c : CapacityView) (l m : LoadsView) (over : OverfullView) → l.shape ≡ m.shape → l.demands ≡ m.demands → AreOverfull c l over → AreOverfull c m over
told-same c l m over shape demands are =
    let first : AreOverfull c (record { shape = l.shape; demands = l.demands; marks = m.marks }) over = record { long = are.long; each = are.each; total = are.total } in
    subst (λ (x : Shape × List ℕ). AreOverfull c (record { shape = x.0; demands = x.1; marks = m.marks }) over) (λ i. (shape i, demands i)) first

-- the edges over their capacity after a mark are those before it
pub told-before : (c : CapacityView) (h : List Entry) (r whole : ReplicaView) (over : OverfullView) → StandsFor c (take r.front h) r → StandsFor c h whole →
    r.front + 1 ≡ length h → is_mark_at h r.front ≡ true → AreLoads r.loads → AreLoads whole.loads → AreOverfull c whole.loads over → AreOverfull c r.loads over
told-before c h r whole over stands all last mark loads others are =
    told-same c whole.loads r.loads over (all.loads.shape ∙ sym stands.loads.shape)
    (same-demands c h (take r.front h) whole.loads r.loads others loads all.loads stands.loads same) are
  where
    before : List Entry
    before = take r.front h

    e : (x : Entry) × (slice_get h r.front ≡ Some x) × (x.call ≡ Mark)
    e = mark-entry (slice_get h r.front) mark

    h_is : h ≡ before ++ e.0 ∷ []
    h_is = sym (take_all (r.front + 1) h (omega (arith, last))) ∙ take-entry h r.front e.0 e.1

    same : (x : Edge) → demand c h x ≡ demand c before x
    same x =
        steps.demand-same c before h x (λ net. ap (λ (k : List Entry). booked k net) h_is ∙ booked-mark before e.0 net e.2)
