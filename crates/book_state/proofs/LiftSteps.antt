-- Loads as they are once a net is released, while it is booked.
use Rattle.std.proofs.Common.{◌≡◌, ℕ, ◌+◌, ◌<◌, ◌≤◌, List, [], ◌∷◌, ◌++◌, length, take, Option, Some, is_some, slice_get, IsTrue, refl, sym, ap, subst, ◌∙◌, arith}
use Rattle.std.proofs.lemmas.List.{take_all}
use Rattle.gr_base.proofs.TreeEdges.{tree-grid_edges}
use Rattle.gr_base.specs.Grid.{has_edge}
use Rattle.gr_base.specs.Limits.{most_nets}
use Rattle.gr_base.specs.Trees.{TreeView, IsTree}
use Rattle.gr_base.specs.declared.grid.Edge.{Edge}
use Rattle.gr_base.specs.declared.grid.Shape.{Shape}
use Rattle.grid_demand.proofs.LoadSteps.{tree-edge}
use Rattle.grid_demand.proofs.OperationLemmas.{demand-added}
use Rattle.grid_demand.specs.LoadSums.{LoadsView, share, added, taken, HasRoom}
use Rattle.grid_demand.specs.Tables.{CapacityView, IsCapacity}
use Rattle.maze_route.specs.declared.window.Window.{Window}
use Rattle.book_state.proofs.BookSteps as steps
use Rattle.book_state.proofs.ReplicaSteps.{take-entry, booked-release, booked-release_other}
use Rattle.book_state.proofs.StandSteps.{replica_of, wire_of, loads-release, is_mark-release}
use Rattle.book_state.specs.Books.{nets_of, booked, share_of, demand, AreLoadsOf}
use Rattle.book_state.specs.Lifted.{IsFreeing, IsLifted}
use Rattle.book_state.specs.Replicas.{ReplicaView, tree_at_place, StandsFor}
use Rattle.book_state.specs.Still.{StaysBest, IsWireIn, over_with}
use Rattle.book_state.specs.Views.{entry_of}
use Rattle.book_state.specs.declared.entry.Call.TheVariants.{Release}
use Rattle.book_state.specs.declared.entry.Entry.{Entry}
use Rattle.book_state.specs.declared.entry.Reply.TheVariants.{Released}
use Rattle.cost_rules.specs.declared.site.Formula.{Formula}

-- the loads of a replica without a net's tree
pub lifts : (c : CapacityView) (h : List Entry) (net : ℕ) (t : TreeView) (r : ReplicaView) (new : LoadsView) → StandsFor c h r → net < nets_of c →
    booked h net ≡ Some t → new ≡ taken c net t r.loads → IsLifted c h net (replica_of r.front r.places new)
lifts c h net t r new stands within held is = record {
  front = stands.front;
  nets = stands.nets;
  places = stands.places;
  held = subst (λ (o : Option TreeView). IsTrue (is_some o)) (sym held) refl;
  loads = λ e freeing. loads-release c h e r.loads new net t stands.loads is within held
      (booked-release h e net freeing.call freeing.reply)
      (λ other apart. booked-release_other h e net other freeing.call freeing.reply apart)
      (is_mark-release e net freeing.call);
}

-- an entry that frees the net
pub freeing-entry : (net : ℕ) → IsFreeing net (entry_of 0 (Release net) Released)
freeing-entry net = record { call = refl; reply = refl }

-- the loads of a replica with the tree again
loads-back : (c : CapacityView) (h : List Entry) (e : Entry) (l new : LoadsView) (net : ℕ) (t : TreeView) → AreLoadsOf c (h ++ e ∷ []) l → new ≡ added c net t l →
    net < nets_of c → booked h net ≡ Some t → IsFreeing net e → AreLoadsOf c h new
loads-back c h e l new net t of is within held freeing =
    subst (λ (v : LoadsView). AreLoadsOf c h v) (sym is) (record {
      shape = of.shape;
      demand = λ x edge wire.
          let change = steps.demand-change c h (h ++ e ∷ []) x net within (λ other apart. booked-release_other h e net other freeing.call freeing.reply apart) in
          let none : share_of c net (booked (h ++ e ∷ []) net) x ≡ 0 = ap (λ (o : Option TreeView). share_of c net o x) (booked-release h e net freeing.call freeing.reply) in
          let all : share_of c net (booked h net) x ≡ share c net t x = ap (λ (o : Option TreeView). share_of c net o x) held in
          let old = of.demand x edge wire in
          demand-added c net t l x (wire_of c l x of.shape edge wire) ∙ omega (arith, change, none, all, old);
      marks = λ x edge wire. of.marks x edge wire ∙ steps.marks-idle c h e x (is_mark-release e net freeing.call);
    })

pub puts-back : (c : CapacityView) (h : List Entry) (net : ℕ) (t : TreeView) (r : ReplicaView) (new : LoadsView) → IsLifted c h net r → net < nets_of c →
    booked h net ≡ Some t → new ≡ added c net t r.loads → StandsFor c h (replica_of r.front r.places new)
puts-back c h net t r new lifted within held is = record {
  front = lifted.front;
  nets = lifted.nets;
  places = lifted.places;
  loads = loads-back c h (entry_of 0 (Release net) Released) r.loads new net t (lifted.loads _ (freeing-entry net)) is within held (freeing-entry net);
}

-- there is room for the tree
pub room-back : (c : CapacityView) (h : List Entry) (net : ℕ) (r : ReplicaView) (t : TreeView) → IsLifted c h net r → IsCapacity c → length r.places ≤ most_nets → IsTree t → t.shape ≡ c.shape → HasRoom r.loads t
room-back c h net r t lifted tables few tree same = λ e inside wire.
    let freed : Entry = entry_of 0 (Release net) Released in
    let edge = subst (λ (g : Shape). IsTrue (has_edge g e)) same (tree-edge t e (tree-grid_edges t tree) inside) in
    let nets : nets_of c ≤ most_nets = let long = lifted.nets in omega (arith, long, few) in
    let demand_is = (lifted.loads freed (freeing-entry net)).demand e edge wire in
    let most = steps.demand-most c (h ++ freed ∷ []) e tables nets in
    omega (arith, demand_is, most)

-- how much an edge is over without a tree, by how much it is over with the tree
over-without : (formula : Formula) (c : CapacityView) (net taken : ℕ) (x : Edge) (d e with_d with_e : ℕ) → with_d ≡ d + taken → with_e ≡ e + taken →
    over_with c formula net x with_d ≤ over_with c formula net x with_e → over_with c formula net x d ≤ over_with c formula net x e
over-without formula c net taken x d e with_d with_e one two more = omega (arith, one, two, more)

-- where one history leaves a net's plan the best after another, so do the two with an entry more each that frees the net
pub freed-still : {formula : Formula} (c : CapacityView) (w : Window) (t : TreeView) (h k : List Entry) (net : ℕ) (e f : Entry) → net < nets_of c → StaysBest c formula net w t h k →
    IsFreeing net e → IsFreeing net f → StaysBest c formula net w t (h ++ e ∷ []) (k ++ f ∷ [])
freed-still {formula = formula} c w t h k net e f within still one two =
    let freed : (l : List Entry) (g : Entry) (x : Edge) → IsFreeing net g → demand c l x ≡ demand c (l ++ g ∷ []) x + share_of c net (booked l net) x =
    λ l g x freeing.
    let change = steps.demand-change c l (l ++ g ∷ []) x net within (λ other apart. booked-release_other l g net other freeing.call freeing.reply apart) in
    let none : share_of c net (booked (l ++ g ∷ []) net) x ≡ 0 = ap (λ (o : Option TreeView). share_of c net o x) (booked-release l g net freeing.call freeing.reply) in
    omega (arith, change, none) in
    let first : (x : Edge) → demand c h x ≡ demand c (h ++ e ∷ []) x + share_of c net (booked h net) x = λ x. freed h e x one in
    let second : (x : Edge) → demand c k x ≡ demand c (k ++ f ∷ []) x + share_of c net (booked h net) x =
    λ x. freed k f x two ∙ ap (λ (o : Option TreeView). demand c (k ++ f ∷ []) x + share_of c net o x) still.booking in
    let rises : (x : Edge) → IsWireIn c w x → over_with c formula net x (demand c (h ++ e ∷ []) x) ≤ over_with c formula net x (demand c (k ++ f ∷ []) x) =
    λ x is_in. over-without formula c net (share_of c net (booked h net) x) x (demand c (h ++ e ∷ []) x) (demand c (k ++ f ∷ []) x)
    (demand c h x) (demand c k x) (first x) (second x) (still.rises x is_in) in
    record {
      booking = booked-release k f net two.call two.reply ∙ sym (booked-release h e net one.call one.reply);
      rises = rises;
      stays = λ x is_in joins.
          let same = still.stays x is_in joins in
          let below = rises x is_in in
          let above = over-without formula c net (share_of c net (booked h net) x) x (demand c (k ++ f ∷ []) x) (demand c (h ++ e ∷ []) x)
          (demand c k x) (demand c h x) (second x) (first x) (omega (arith, same)) in
          omega (arith, below, above);
      marks = λ x is_in.
          steps.marks-idle c k f x (is_mark-release f net two.call) ∙ still.marks x is_in ∙ sym (steps.marks-idle c h e x (is_mark-release e net one.call));
    }

-- the same, where the later history is a whole one without its last entry
pub last-freed : {formula : Formula} (c : CapacityView) (w : Window) (t : TreeView) (h whole : List Entry) (last net : ℕ) (f : Entry) → net < nets_of c → length whole ≡ last + 1 → slice_get whole last ≡ Some f →
    StaysBest c formula net w t h (take last whole) → IsFreeing net f → (e : Entry) → IsFreeing net e → StaysBest c formula net w t (h ++ e ∷ []) whole
last-freed {formula = formula} c w t h whole last net f within long there still two e one =
    subst (λ (k : List Entry). StaysBest c formula net w t (h ++ e ∷ []) k) (sym (take-entry whole last f there) ∙ take_all (last + 1) whole (omega (arith, long)))
    (freed-still c w t h (take last whole) net e f within still one two)

-- the tree of a booked net, read off a past with the same entries
pub past-tree : (h past : List Entry) (place : Option ℕ) (t : TreeView) → past ≡ h → Some t ≡ tree_at_place past place → tree_at_place h place ≡ Some t
past-tree h past place t same is = sym (ap (λ (k : List Entry). tree_at_place k place) same) ∙ sym is

pub lifted-shape : (c : CapacityView) (h : List Entry) (net : ℕ) (r : ReplicaView) → IsLifted c h net r → r.loads.shape ≡ c.shape
lifted-shape c h net r lifted = (lifted.loads (entry_of 0 (Release net) Released) (freeing-entry net)).shape
