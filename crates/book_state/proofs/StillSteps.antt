-- Entries that leave a net's plan the best in a window.
use Rattle.std.proofs.Common.{◌≡◌, ℕ, ◌+◌, ◌<◌, ◌≤◌, inl, inr, Bool, true, false, ◌&&◌, nat_lt, List, [], ◌∷◌, ◌++◌, length, take, All, Option, Some, None, slice_get, slice_index_or, IsTrue, refl, sym, ap, subst, ◌∙◌, arith}
use Rattle.std.proofs.lemmas.Bool.{cases_Bool, both_ways}
use Rattle.std.proofs.lemmas.Bool.Decides.{nat_tests}
use Rattle.gr_base.proofs.TreeEdges.{tree-grid_edges}
use Rattle.gr_base.specs.Grid.{has_edge, is_wire}
use Rattle.gr_base.specs.Trees.{TreeView, IsTree, edges_of}
use Rattle.gr_base.specs.declared.grid.Edge.{Edge}
use Rattle.gr_base.specs.declared.grid.Shape.{Shape}
use Rattle.grid_demand.proofs.LoadSteps.{tree-edge}
use Rattle.grid_demand.specs.LoadSums.{LoadsView, demand_at, share}
use Rattle.grid_demand.specs.Tables.{CapacityView, capacity_at, need_at}
use Rattle.maze_route.specs.Windows.{in_window}
use Rattle.maze_route.specs.declared.window.Window.{Window}
use Rattle.book_state.proofs.BookSteps as steps
use Rattle.book_state.proofs.ReplicaSteps.{take-entry, claimed-free, booked-claim, booked-claim_other, booked-release, booked-release_other, idle-by}
use Rattle.book_state.specs.Books.{nets_of, booked, share_of, demand, AreLoadsOf, IsCall, IsLegal, IsIdle}
use Rattle.book_state.specs.Entries.{is_mark, is_mark_call}
use Rattle.book_state.specs.Replicas.{IsClaimed, IsReleased}
use Rattle.book_state.proofs.TouchSteps.{notes-none, touches-then}
use Rattle.book_state.specs.Still.{StaysBest, IsWireIn, over_with, need_of, lacks_room}
use Rattle.book_state.specs.Touches.{is_noted, IsTouch, AddsTouches, AreTouches}
use Rattle.book_state.specs.declared.entry.Call.{Call}
use Rattle.book_state.specs.declared.entry.Call.TheVariants.{Claim as Claims, Release, Mark}
use Rattle.book_state.specs.declared.entry.Claim.{Claim}
use Rattle.book_state.specs.declared.entry.Entry.{Entry}
use Rattle.book_state.specs.declared.touches.Touch.{Touch}
use Rattle.cost_rules.specs.Formulas.{reach}
use Rattle.cost_rules.specs.declared.site.Formula.{Formula}

-- the last of three tests fails where the whole fails and the others pass
last-fails : (a b t : Bool) → a ≡ true → b ≡ true → (a && (b && t)) ≡ false → t ≡ false
last-fails true true t first second none = none
last-fails true false t first second none = absurd (both_ways false refl second)
last-fails false b t first second none = absurd (both_ways false refl first)

-- a wire edge in the window that doesn't lack room has room
room-in : (formula : Formula) (c : CapacityView) (w : Window) (l : LoadsView) (h : List Entry) (net : ℕ) (beside : Option ℕ) (x : Edge) → AreLoadsOf c h l → IsTrue (has_edge c.shape x) →
    IsWireIn c w x → lacks_room c formula w (demand_at l) net beside x ≡ false → demand c h x + need_of c beside x + need_at c net x + reach formula (need_at c net x) ≤ capacity_at c x
room-in formula c w l h net beside x of edge is_in fails =
    let test : nat_lt (capacity_at c x) (demand_at l x + need_of c beside x + need_at c net x + reach formula (need_at c net x)) ≡ false =
    last-fails (is_wire x) (in_window c.shape w x.low) (nat_lt (capacity_at c x) (demand_at l x + need_of c beside x + need_at c net x + reach formula (need_at c net x))) is_in.wire is_in.begins fails in
    let demand_is = of.demand x edge is_in.wire in
    grind (arith, nat_tests, test, demand_is)

-- an edge of a tree is one of the grid's
edge-in : (g : Shape) (t : TreeView) (x : Edge) → IsTree t → t.shape ≡ g → edges_of t x ≡ true → IsTrue (has_edge g x)
edge-in g t x tree shape there = subst (λ (s : Shape). IsTrue (has_edge s x)) shape (tree-edge t x (tree-grid_edges t tree) there)

pub still-same : {formula : Formula} (c : CapacityView) (net : ℕ) (w : Window) (t : TreeView) (h : List Entry) → StaysBest c formula net w t h h
still-same c net w t h =
    record { booking = refl; rises = λ e is_in. omega arith; stays = λ e is_in joins. refl; marks = λ e is_in. refl }

pub still-then : {formula : Formula} (c : CapacityView) (net : ℕ) (w : Window) (t : TreeView) (h k l : List Entry) → StaysBest c formula net w t h k → StaysBest c formula net w t k l → StaysBest c formula net w t h l
still-then c net w t h k l one two = record {
  booking = two.booking ∙ one.booking;
  rises = λ e is_in. let first = one.rises e is_in in let second = two.rises e is_in in omega arith;
  stays = λ e is_in joins. two.stays e is_in joins ∙ one.stays e is_in joins;
  marks = λ e is_in. two.marks e is_in ∙ one.marks e is_in;
}

-- a demand that grows or shrinks by what a tree takes, where there is room for that and for the net
over-share : (formula : Formula) (c : CapacityView) (net other : ℕ) (t : TreeView) (x : Edge) (less more : ℕ) → more ≡ less + share c other t x →
    (edges_of t x ≡ true → less + need_at c other x + need_at c net x + reach formula (need_at c net x) ≤ capacity_at c x) → over_with c formula net x more ≡ over_with c formula net x less
over-share formula c net other t x less more grown room = elim (cases_Bool (edges_of t x)) [
  | inl inside ↦
      let there = room inside in
      let taken : share c other t x ≡ need_at c other x = rw inside refl in
      omega (arith, there, taken, grown)
  | inr outside ↦
      let nothing : share c other t x ≡ 0 = rw outside refl in
      let same : more ≡ less = omega (arith, nothing, grown) in
      ap (over_with c formula net x) same
]

-- where the booking of one net alone changes from none to a tree, the demand grows by what the tree takes
grown-by : (c : CapacityView) (h k : List Entry) (other : ℕ) (t : TreeView) (x : Edge) → other < nets_of c → ((n : ℕ) → (n ≡ other → ⊥) → booked k n ≡ booked h n) →
    booked h other ≡ None → booked k other ≡ Some t → demand c k x ≡ demand c h x + share c other t x
grown-by c h k other t x within others before after =
    let change = steps.demand-change c h k x other within others in
    let nothing : share_of c other (booked h other) x ≡ 0 = ap (λ (o : Option TreeView). share_of c other o x) before in
    let all : share_of c other (booked k other) x ≡ share c other t x = ap (λ (o : Option TreeView). share_of c other o x) after in
    omega (arith, change, nothing, all)

-- an edge that isn't noted doesn't lack room, where each that lacks it is noted
lacks-not : (formula : Formula) (c : CapacityView) (w : Window) (l : LoadsView) (net : ℕ) (beside : Option ℕ) (touches : List Touch) (x : Edge) → (IsTrue (lacks_room c formula w (demand_at l) net beside x) → IsTrue (is_noted touches x)) →
    is_noted touches x ≡ false → lacks_room c formula w (demand_at l) net beside x ≡ false
lacks-not formula c w l net beside touches x noted unnoted = elim (cases_Bool (lacks_room c formula w (demand_at l) net beside x)) [
  | inl lack ↦ absurd (both_ways (is_noted touches x) unnoted (noted lack))
  | inr room ↦ room
]

-- what is noted with the demands of loads is noted with those of the history
adds-of : (c : CapacityView) (w : Window) (l : LoadsView) (h : List Entry) (old new : List Touch) → AreLoadsOf c h l → AddsTouches c w (demand_at l) old new → AddsTouches c w (demand c h) old new
adds-of c w l h old new of adds =
    record { added = adds.added; new_is = adds.new_is; each = adds.each; told = told adds.added adds.each adds.told; fresh = adds.fresh }
  where
    told : (ts : List Touch) → All (IsTouch c w) ts → All (λ (t : Touch). t.demand ≡ demand_at l t.edge) ts → All (λ (t : Touch). t.demand ≡ demand c h t.edge) ts
    told ts each are = λ k d below.
        let t = slice_index_or ts k d in
        are k d below ∙ of.demand t.edge (each k d below).edge (each k d below).is_in.wire

-- one entry more, where the edges that aren't noted have room
pub noted-claim : {formula : Formula} (c : CapacityView) (net : ℕ) (w : Window) (first h : List Entry) (place : ℕ) (claim : Claim) (l : LoadsView) (old new : List Touch) → IsLegal c h → IsClaimed h place claim →
    AreLoadsOf c (take place h) l → (claim.net ≡ net → ⊥) → IsTree claim.tree → AddsTouches c w (demand_at l) old new →
    ((e : Edge) → IsTrue (lacks_room c formula w (demand_at l) net (Some claim.net) e) → IsTrue (edges_of claim.tree e) → IsTrue (is_noted new e)) →
    AreTouches c formula net w first (take place h) old → AreTouches c formula net w first (take (place + 1) h) new
noted-claim {formula = formula} c net w first h place claim l old new legal is of apart tree adds noted are =
    let before = take place h in
    let e = is.e in
    let after = before ++ e ∷ [] in
    let right = legal.right place e is.there in
    let in_range = subst (λ (k : Call). IsCall c (length before) k) is.call right.call in
    let others : (other : ℕ) → (other ≡ claim.net → ⊥) → booked after other ≡ booked before other =
    λ other apart. booked-claim_other before e claim other is.call is.reply apart in
    let grown : (x : Edge) → demand c after x ≡ demand c before x + share c claim.net claim.tree x =
    λ x. grown-by c before after claim.net claim.tree x in_range.net others
    (claimed-free c before e claim right is.call is.reply) (booked-claim before e claim is.call is.reply) in
    subst (λ (k : List Entry). AreTouches c formula net w first k new) (sym (take-entry h place e is.there))
    (touches-then c net w first before after old new are (adds-of c w l before old new of adds) (others net (λ same. apart (sym same)))
    (λ x is_in. steps.marks-idle c before e x (ap (λ (k : Call). is_mark_call k) is.call))
    (λ x is_in unnoted. over-share formula c net claim.net claim.tree x (demand c before x) (demand c after x) (grown x) (λ there.
    room-in formula c w l before net (Some claim.net) x of (edge-in c.shape claim.tree x tree in_range.shape there) is_in
    (lacks-not formula c w l net (Some claim.net) new x (λ lack. noted x lack there) unnoted))))

pub noted-release : {formula : Formula} (c : CapacityView) (net : ℕ) (w : Window) (first h : List Entry) (place freed : ℕ) (u : TreeView) (l : LoadsView) (old new : List Touch) → IsLegal c h → IsReleased h place freed →
    AreLoadsOf c (take place h) l → (freed ≡ net → ⊥) → IsTree u → u.shape ≡ c.shape → booked (take place h) freed ≡ Some u → AddsTouches c w (demand_at l) old new →
    ((e : Edge) → IsTrue (lacks_room c formula w (demand_at l) net None e) → IsTrue (edges_of u e) → IsTrue (is_noted new e)) →
    AreTouches c formula net w first (take place h) old → AreTouches c formula net w first (take (place + 1) h) new
noted-release {formula = formula} c net w first h place freed u l old new legal is of apart tree shape held adds noted are =
    let before = take place h in
    let e = is.e in
    let after = before ++ e ∷ [] in
    let within : freed < nets_of c = subst (λ (k : Call). IsCall c (length before) k) is.call (legal.right place e is.there).call in
    let others : (other : ℕ) → (other ≡ freed → ⊥) → booked after other ≡ booked before other =
    λ other apart. booked-release_other before e freed other is.call is.reply apart in
    let grown : (x : Edge) → demand c before x ≡ demand c after x + share c freed u x =
    λ x. grown-by c after before freed u x within (λ other apart. sym (others other apart)) (booked-release before e freed is.call is.reply) held in
    subst (λ (k : List Entry). AreTouches c formula net w first k new) (sym (take-entry h place e is.there))
    (touches-then c net w first before after old new are (adds-of c w l before old new of adds) (others net (λ same. apart (sym same)))
    (λ x is_in. steps.marks-idle c before e x (ap (λ (k : Call). is_mark_call k) is.call))
    (λ x is_in unnoted. sym (over-share formula c net freed u x (demand c after x) (demand c before x) (grown x) (λ there.
    let room = room-in formula c w l before net None x of (edge-in c.shape u x tree shape there) is_in
    (lacks-not formula c w l net None new x (λ lack. noted x lack there) unnoted) in
    let taken : share c freed u x ≡ need_at c freed x = rw there refl in
    let less = grown x in
    omega (arith, room, less, taken)))))

is_mark-idle : (call : Call) (e : Entry) → e.call ≡ call → IsIdle call e.reply → is_mark e ≡ false
is_mark-idle (Claims claim) e is idle = ap (λ (k : Call). is_mark_call k) is
is_mark-idle (Release net) e is idle = ap (λ (k : Call). is_mark_call k) is
is_mark-idle Mark e is idle = absurd idle

pub noted-idle : {formula : Formula} (c : CapacityView) (net : ℕ) (w : Window) (first h : List Entry) (place : ℕ) (e : Entry) (old new : List Touch) → slice_get h place ≡ Some e → IsIdle e.call e.reply → new ≡ old →
    AreTouches c formula net w first (take place h) old → AreTouches c formula net w first (take (place + 1) h) new
noted-idle {formula = formula} c net w first h place e old new there idle none are =
    let before = take place h in
    let same : (other : ℕ) → booked (before ++ e ∷ []) other ≡ booked before other =
    λ other. steps.booked-idle before e other (idle-by other (booked before other) e.call e.reply idle) in
    subst (λ (k : List Entry). AreTouches c formula net w first k new) (sym (take-entry h place e there))
    (touches-then c net w first before (before ++ e ∷ []) old new are (notes-none c w (demand c before) old new none) (same net)
    (λ x is_in. steps.marks-idle c before e x (is_mark-idle e.call e refl idle))
    (λ x is_in unnoted. ap (over_with c formula net x) (steps.demand-same c before (before ++ e ∷ []) x same)))
