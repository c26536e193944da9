-- Replies, as the code finds them.
use Rattle.std.proofs.Common.{◌≡◌, ℕ, ◌+◌, inl, inr, Bool, true, false, ◌&&◌, ◌||◌, nat_lt, cond, List, [], ◌∷◌, All, Option, Some, None, IsSome, IsTrue, refl, sym, ap, subst, ◌∙◌}
use Rattle.std.specs.List.{find, list_any}
use Rattle.std.proofs.lemmas.Bool.{cases_Bool, and_parts}
use Rattle.std.proofs.lemmas.List.Elements.{All-head, All-tail}
use Rattle.gr_base.proofs.TreeEdges.{tree-grid_edges}
use Rattle.gr_base.specs.Grid.{has_edge, is_wire}
use Rattle.gr_base.specs.Sums.{wire_number, total_overflow}
use Rattle.gr_base.specs.Trees.{TreeView, IsTree, tree_edges}
use Rattle.gr_base.specs.declared.grid.Edge.{Edge}
use Rattle.gr_base.specs.declared.grid.Shape.{Shape}
use Rattle.grid_demand.proofs.LoadLemmas.{total_overflow-same}
use Rattle.grid_demand.proofs.WireLemmas.{number-below}
use Rattle.grid_demand.specs.LoadSums.{LoadsView, demand_at}
use Rattle.grid_demand.specs.Overfull.{OverfullView, AreOverfull}
use Rattle.grid_demand.specs.Tables.{CapacityView, capacity_at, need_at}
use Rattle.book_state.proofs.StandSteps.{tree-shape}
use Rattle.book_state.specs.Books.{booked, demand, is_full, is_over, is_crowded, reply_by_full, reply_to_free, reply_to_mark, overflow_after, IsLegal, AreLoadsOf}
use Rattle.book_state.specs.Crowds.{is_overfull}
use Rattle.book_state.specs.Replicas.{ReplicaView, place_of, StandsFor}
use Rattle.book_state.specs.declared.entry.Claim.{Claim}
use Rattle.book_state.specs.declared.entry.Entry.{Entry}
use Rattle.book_state.specs.declared.entry.Reply.TheVariants.{Full, Marked}

-- a tree in the design's grid has edges of that grid
grid-edges : (c : CapacityView) (t : TreeView) → IsTree t → t.shape ≡ c.shape → All (λ e. IsTrue (has_edge c.shape e)) (tree_edges t)
grid-edges c t tree same = subst (λ (g : Shape). All (λ e. IsTrue (has_edge g e)) (tree_edges t)) same (tree-grid_edges t tree)

-- a test of a demand that only wire edges pass is the same by the loads and by the history
wire-test : (b : Bool) (x y : Bool) → (b ≡ true → x ≡ y) → (b && x) ≡ (b && y)
wire-test true x y same = same refl
wire-test false x y same = refl

full-same : (c : CapacityView) (h : List Entry) (l : LoadsView) (net slack : ℕ) (e : Edge) → AreLoadsOf c h l → IsTrue (has_edge c.shape e) →
    is_full c (demand_at l) net slack e ≡ is_full c (demand c h) net slack e
full-same c h l net slack e of edge =
    wire-test (is_wire e) (nat_lt (capacity_at c e + slack) (demand_at l e + need_at c net e)) (nat_lt (capacity_at c e + slack) (demand c h e + need_at c net e))
    (λ wire. ap (λ (n : ℕ). nat_lt (capacity_at c e + slack) (n + need_at c net e)) (of.demand e edge wire))

over-same : (c : CapacityView) (h : List Entry) (l : LoadsView) (e : Edge) → AreLoadsOf c h l → IsTrue (has_edge c.shape e) → is_over c (demand_at l) e ≡ is_over c (demand c h) e
over-same c h l e of edge =
    wire-test (is_wire e) (nat_lt (capacity_at c e) (demand_at l e)) (nat_lt (capacity_at c e) (demand c h e))
    (λ wire. ap (λ (n : ℕ). nat_lt (capacity_at c e) n) (of.demand e edge wire))

reply-find : (c : CapacityView) (h : List Entry) (l : LoadsView) (net slack : ℕ) (edges : List Edge) → AreLoadsOf c h l → All (λ e. IsTrue (has_edge c.shape e)) edges →
    reply_by_full (demand_at l) (find (is_full c (demand_at l) net slack) edges) ≡ reply_by_full (demand c h) (find (is_full c (demand c h) net slack) edges)
reply-find c h l net slack [] of all = refl
reply-find c h l net slack (e ∷ edges) of all =
    let edge = All-head (λ (x : Edge). IsTrue (has_edge c.shape x)) e edges all in
    let rest = reply-find c h l net slack edges of (All-tail (λ (x : Edge). IsTrue (has_edge c.shape x)) e edges all) in
    let same = full-same c h l net slack e of edge in
    elim (cases_Bool (is_full c (demand_at l) net slack e)) [
      | inl full ↦
          let wire = (and_parts (is_wire e) (nat_lt (capacity_at c e + slack) (demand_at l e + need_at c net e)) full).0 in
          ap (λ (b : Bool). reply_by_full (demand_at l) (cond b (Some e) (find (is_full c (demand_at l) net slack) edges))) full
          ∙ ap (λ (n : ℕ). Full e n) (of.demand e edge wire)
          ∙ sym (ap (λ (b : Bool). reply_by_full (demand c h) (cond b (Some e) (find (is_full c (demand c h) net slack) edges))) (sym same ∙ full))
      | inr free ↦
          ap (λ (b : Bool). reply_by_full (demand_at l) (cond b (Some e) (find (is_full c (demand_at l) net slack) edges))) free
          ∙ rest
          ∙ sym (ap (λ (b : Bool). reply_by_full (demand c h) (cond b (Some e) (find (is_full c (demand c h) net slack) edges))) (sym same ∙ free))
    ]

-- the reply by the loads is the one by the history
pub reply-same : (c : CapacityView) (h : List Entry) (l : LoadsView) (claim : Claim) (slack : Option ℕ) → AreLoadsOf c h l → (IsSome slack → IsTree claim.tree) → claim.tree.shape ≡ c.shape →
    reply_to_free c (demand_at l) claim slack ≡ reply_to_free c (demand c h) claim slack
reply-same c h l claim None of tree same = refl
reply-same c h l claim (Some slack) of tree same = reply-find c h l claim.net slack (tree_edges claim.tree) of (grid-edges c claim.tree (tree refl) same)

any-same : (p q : Edge → Bool) (edges : List Edge) → All (λ e. p e ≡ q e) edges → list_any p edges ≡ list_any q edges
any-same p q [] all = refl
any-same p q (e ∷ edges) all =
    ap (λ (b : Bool). b || list_any p edges) (All-head (λ (x : Edge). p x ≡ q x) e edges all)
    ∙ ap (λ (b : Bool). q e || b) (any-same p q edges (All-tail (λ (x : Edge). p x ≡ q x) e edges all))

pub crowded-same : (c : CapacityView) (h : List Entry) (l : LoadsView) (t : TreeView) → AreLoadsOf c h l → IsTree t → t.shape ≡ c.shape →
    is_crowded c (demand_at l) (Some t) ≡ is_crowded c (demand c h) (Some t)
crowded-same c h l t of tree same =
    any-same (is_over c (demand_at l)) (is_over c (demand c h)) (tree_edges t)
    (λ k d below. over-same c h l _ of (grid-edges c t tree same k d below))

-- a table of overfull edges says of a tree what the loads say
pub crowded-table : (c : CapacityView) (l : LoadsView) (over : OverfullView) (t : TreeView) → AreOverfull c l over → l.shape ≡ c.shape → IsTree t → t.shape ≡ c.shape →
    list_any (is_overfull over.table) (tree_edges t) ≡ is_crowded c (demand_at l) (Some t)
crowded-table c l over t are shape tree same =
    any-same (is_overfull over.table) (is_over c (demand_at l)) (tree_edges t)
    (λ k d below. by_number _ (grid-edges c t tree same k d below))
  where
    by_number : (e : Edge) → IsTrue (has_edge c.shape e) → is_overfull over.table e ≡ is_over c (demand_at l) e
    by_number e edge =
        let inside = subst (λ (g : Shape). IsTrue (has_edge g e)) (sym shape) edge in
        ap (λ (b : Bool). is_wire e && b) (are.each (wire_number e) (number-below l.shape e inside))

-- the total overflow by the loads
pub overflow-same : (c : CapacityView) (h : List Entry) (l : LoadsView) → AreLoadsOf c h l → total_overflow l.shape (demand_at l) (capacity_at c) ≡ overflow_after c h
overflow-same c h l of =
    ap (λ (g : Shape). total_overflow g (demand_at l) (capacity_at c)) of.shape
    ∙ total_overflow-same c.shape (demand_at l) (demand c h) (capacity_at c) (capacity_at c) of.demand (λ e edge wire. refl)

-- a booked tree lies in the design's grid
pub booked-shape : (c : CapacityView) (h : List Entry) (r : ReplicaView) (net : ℕ) (t : TreeView) → IsLegal c h → StandsFor c h r → booked h net ≡ Some t → t.shape ≡ c.shape
booked-shape c h r net t legal stands is = tree-shape c h (place_of r.places net) t legal ((stands.places net).tree_there ∙ is)

-- the reply to a mark by a table of overfull edges
pub marked-reply : (c : CapacityView) (h : List Entry) (l : LoadsView) (over : OverfullView) (total : ℕ) → AreLoadsOf c h l → AreOverfull c l over → total ≡ over.total →
    Marked total ≡ reply_to_mark c h
marked-reply c h l over total of are is = ap (λ (n : ℕ). Marked n) (is ∙ are.total ∙ overflow-same c h l of)
