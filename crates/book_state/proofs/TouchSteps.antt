-- What entries may change for a net, edge by edge.
use Rattle.std.proofs.Common.{◌≡◌, ℕ, ◌+◌, ◌<◌, ◌≤◌, ◌⊎◌, inl, inr, Bool, true, false, ◌&&◌, ◌||◌, List, [], ◌∷◌, ◌++◌, length, All, Option, Some, None, slice_index_or, IsTrue, refl, sym, ap, subst, ◌∙◌, arith}
use Rattle.std.proofs.lemmas.Bool.{cases_Bool, both_ways, or_parts, or_cases}
use Rattle.std.proofs.lemmas.List.{append-nil, append_assoc}
use Rattle.std.proofs.lemmas.List.Elements.{All-nil, All-head, All-tail, All-same, All-append}
use Rattle.std.proofs.lemmas.List.Folds.{list_any-append}
use Rattle.std.specs.List.{list_any}
use Rattle.gr_base.proofs.TreeDistinct.{is_edge-same}
use Rattle.gr_base.specs.EdgeSets.{is_edge}
use Rattle.gr_base.specs.Grid.{is_wire}
use Rattle.gr_base.specs.ParentEdges.{wire_to_parent}
use Rattle.gr_base.specs.Trees.{TreeView, edges_of, tree_edges}
use Rattle.gr_base.specs.declared.grid.Edge.{Edge}
use Rattle.grid_demand.specs.LoadSums.{LoadsView, demand_at}
use Rattle.grid_demand.specs.Tables.{CapacityView}
use Rattle.maze_route.specs.declared.window.Window.{Window}
use Rattle.book_state.proofs.EdgeSearch.{edges_from, edges-end, any-over, any-fails}
use Rattle.book_state.specs.Books.{booked, demand, marks, AreLoadsOf}
use Rattle.book_state.specs.Still.{StaysBest, IsWireIn, over_with, joins_cells, lacks_room}
use Rattle.book_state.specs.Touches.{is_noted, IsTouch, AddsTouches, IsTold, AreTouches, IsSettled}
use Rattle.book_state.specs.declared.entry.Entry.{Entry}
use Rattle.book_state.specs.declared.touches.Touch.{Touch}
use Rattle.cost_rules.specs.declared.site.Formula.{Formula}

-- nothing is noted
pub notes-none : (c : CapacityView) (w : Window) (demands : Edge → ℕ) (old new : List Touch) → new ≡ old → AddsTouches c w demands old new
notes-none c w demands old new same =
    record {
      added = [];
      new_is = same ∙ sym (append-nil old);
      each = All-nil (IsTouch c w);
      told = All-nil (λ (t : Touch). t.demand ≡ demands t.edge);
      fresh = All-nil (λ (t : Touch). is_noted old t.edge ≡ false);
    }

noted-append : (xs ys : List Touch) (e : Edge) → is_noted (xs ++ ys) e ≡ (is_noted xs e || is_noted ys e)
noted-append xs ys e = list_any-append (λ (t : Touch). is_edge e t.edge) xs ys

-- what was noted is noted still
pub noted-more : (c : CapacityView) (w : Window) (demands : Edge → ℕ) (old new : List Touch) (e : Edge) → AddsTouches c w demands old new → is_noted old e ≡ true → is_noted new e ≡ true
noted-more c w demands old new e adds there =
    let long = ap (λ (xs : List Touch). is_noted xs e) adds.new_is ∙ noted-append old adds.added e in
    long ∙ ap (λ (b : Bool). b || is_noted adds.added e) there

pub unnoted-before : (c : CapacityView) (w : Window) (demands : Edge → ℕ) (old new : List Touch) (e : Edge) → AddsTouches c w demands old new → is_noted new e ≡ false → is_noted old e ≡ false
unnoted-before c w demands old new e adds none =
    (or_parts (is_noted old e) (is_noted adds.added e) (sym (ap (λ (xs : List Touch). is_noted xs e) adds.new_is ∙ noted-append old adds.added e) ∙ none)).0

pub notes-then : (c : CapacityView) (w : Window) (demands : Edge → ℕ) (old mid new : List Touch) → AddsTouches c w demands old mid → AddsTouches c w demands mid new → AddsTouches c w demands old new
notes-then c w demands old mid new one two = record {
  added = one.added ++ two.added;
  new_is = two.new_is ∙ ap (λ (xs : List Touch). xs ++ two.added) one.new_is ∙ append_assoc old one.added two.added;
  each = All-append (IsTouch c w) one.added two.added one.each two.each;
  told = All-append (λ (t : Touch). t.demand ≡ demands t.edge) one.added two.added one.told two.told;
  fresh = All-append (λ (t : Touch). is_noted old t.edge ≡ false) one.added two.added one.fresh (older two.added two.fresh);
}
  where
    older : (ts : List Touch) → All (λ (t : Touch). is_noted mid t.edge ≡ false) ts → All (λ (t : Touch). is_noted old t.edge ≡ false) ts
    older ts none = λ k d below. unnoted-before c w demands old mid (slice_index_or ts k d).edge one (none k d below)

-- a wire edge among edges
abbrev pub is_this_wire : Edge → Edge → Bool
is_this_wire x e = is_wire e && is_edge x e

pub this-wires : (x : Edge) (e : Edge) → is_wire e ≡ false → is_this_wire x e ≡ false
this-wires x e via = rw via refl

among-wires : (x : Edge) (es : List Edge) → is_wire x ≡ true → list_any (is_edge x) es ≡ true → list_any (is_this_wire x) es ≡ true
among-wires x [] wire there = there
among-wires x (e ∷ es) wire there = elim (or_cases (is_edge x e) (list_any (is_edge x) es) there) [
  | inl same ↦
      let is_wire_e : is_wire e ≡ true = ap (λ (y : Edge). is_wire y) (sym (is_edge-same x e same)) ∙ wire in
      rw (is_wire_e, same) refl
  | inr later ↦ second (is_this_wire x e) (list_any (is_this_wire x) es) (among-wires x es wire later)
]
  where
    second : (a b : Bool) → b ≡ true → (a || b) ≡ true
    second true b is = refl
    second false b is = is

-- the edges so far that lack room are noted: an edge is still to come, or is noted
abbrev pub AreNotedTo : (lacks : Edge → Bool) (t : TreeView) (node : ℕ) (touches : List Touch) → Type 0
AreNotedTo lacks t node touches = (x : Edge) → IsTrue (lacks x) → IsTrue (edges_of t x) → IsTrue (is_wire x) →
    (list_any (is_this_wire x) (edges_from t node) ≡ true) ⊎ (is_noted touches x ≡ true)

pub noted-first : (lacks : Edge → Bool) (t : TreeView) (touches : List Touch) → AreNotedTo lacks t 0 touches
noted-first lacks t touches = λ x lack there wire. inl (among-wires x (tree_edges t) wire there)

pub noted-over : (lacks : Edge → Bool) (t : TreeView) (node : ℕ) (touches : List Touch) → node < length t.nodes → None ≡ wire_to_parent t node → AreNotedTo lacks t node touches → AreNotedTo lacks t (node + 1) touches
noted-over lacks t node touches below none are = λ x lack there wire. elim (are x lack there wire) [
  | inl come ↦ inl (sym (any-over (is_this_wire x) t node (this-wires x) below none) ∙ come)
  | inr noted ↦ inr noted
]

pub noted-next : (c : CapacityView) (w : Window) (demands : Edge → ℕ) (lacks : Edge → Bool) (t : TreeView) (node : ℕ) (old new : List Touch) (e : Edge) → node < length t.nodes → Some e ≡ wire_to_parent t node →
    AddsTouches c w demands old new → (IsTrue (lacks e) → is_noted new e ≡ true) → AreNotedTo lacks t node old → AreNotedTo lacks t (node + 1) new
noted-next c w demands lacks t node old new e below is adds noted are = λ x lack there wire. elim (are x lack there wire) [
  | inr before ↦ inr (noted-more c w demands old new x adds before)
  | inl come ↦ elim (cases_Bool (is_edge x e)) [
    | inl same ↦
        let one : x ≡ e = is_edge-same x e same in
        inr (ap (λ (y : Edge). is_noted new y) one ∙ noted (subst (λ (y : Edge). IsTrue (lacks y)) one lack))
    | inr other ↦
        let fails : is_this_wire x e ≡ false = second (is_wire e) (is_edge x e) other in
        inl (sym (any-fails (is_this_wire x) t node e below is fails) ∙ come)
  ]
]
  where
    second : (a b : Bool) → b ≡ false → (a && b) ≡ false
    second true b is = is
    second false b is = refl

pub noted-all : (lacks : Edge → Bool) (t : TreeView) (node : ℕ) (touches : List Touch) (x : Edge) → length t.nodes ≤ node → AreNotedTo lacks t node touches →
    IsTrue (lacks x) → IsTrue (edges_of t x) → IsTrue (is_wire x) → is_noted touches x ≡ true
noted-all lacks t node touches x all are lack there wire = elim (are x lack there wire) [
  | inr noted ↦ noted
  | inl come ↦ absurd (both_ways false refl (sym (ap (list_any (is_this_wire x)) (edges-end t node all)) ∙ come))
]

-- only wire edges lack room
pub lack-wire : (formula : Formula) (c : CapacityView) (w : Window) (demands : Edge → ℕ) (net : ℕ) (beside : Option ℕ) (e : Edge) → IsTrue (lacks_room c formula w demands net beside e) → IsTrue (is_wire e)
lack-wire formula c w demands net beside e lack = first (is_wire e) _ lack
  where
    first : (a b : Bool) → (a && b) ≡ true → a ≡ true
    first true b is = refl
    first false b is = is

-- an edge that is noted has what each noted edge has
noted-holds : (P Q S : Touch → Type 0) (R : Edge → Type 0) → ((t : Touch) → P t → Q t → S t → R t.edge) → (ts : List Touch) (e : Edge) → All P ts → All Q ts → All S ts → is_noted ts e ≡ true → R e
noted-holds P Q S R each [] e ps qs ss there = absurd (both_ways false refl there)
noted-holds P Q S R each (t ∷ ts) e ps qs ss there = elim (or_cases (is_edge e t.edge) (is_noted ts e) there) [
  | inl same ↦ subst R (sym (is_edge-same e t.edge same)) (each t (All-head P t ts ps) (All-head Q t ts qs) (All-head S t ts ss))
  | inr later ↦ noted-holds P Q S R each ts e (All-tail P t ts ps) (All-tail Q t ts qs) (All-tail S t ts ss) later
]

-- entries, and one more, which changes what isn't noted in no way that matters
pub touches-then : {formula : Formula} (c : CapacityView) (net : ℕ) (w : Window) (first before after : List Entry) (old new : List Touch) → AreTouches c formula net w first before old → AddsTouches c w (demand c before) old new →
    booked after net ≡ booked before net → ((e : Edge) → IsWireIn c w e → marks c after e ≡ marks c before e) →
    ((e : Edge) → IsWireIn c w e → is_noted new e ≡ false → over_with c formula net e (demand c after e) ≡ over_with c formula net e (demand c before e)) → AreTouches c formula net w first after new
touches-then {formula = formula} c net w first before after old new are adds booking same others = record {
  booking = booking ∙ are.booking;
  marks = λ e is_in. same e is_in ∙ are.marks e is_in;
  each = All-same (IsTouch c w) new (old ++ adds.added) adds.new_is (All-append (IsTouch c w) old adds.added are.each adds.each);
  told = All-same (IsTold c formula net first) new (old ++ adds.added) adds.new_is
      (All-append (IsTold c formula net first) old adds.added are.told (all-told adds.added adds.each adds.told adds.fresh));
  others = λ e is_in unnoted. others e is_in unnoted ∙ are.others e is_in (unnoted-before c w (demand c before) old new e adds unnoted);
}
  where
    all-told : (ts : List Touch) → All (IsTouch c w) ts → All (λ (t : Touch). t.demand ≡ demand c before t.edge) ts → All (λ (t : Touch). is_noted old t.edge ≡ false) ts → All (IsTold c formula net first) ts
    all-told ts each told fresh = λ k d below.
        let t = slice_index_or ts k d in
        ap (over_with c formula net t.edge) (told k d below) ∙ are.others t.edge (each k d below).is_in (fresh k d below)

-- noted edges that leave the plan the best, and the others, which stay
pub settled-best : {formula : Formula} (c : CapacityView) (net : ℕ) (w : Window) (u : TreeView) (first now : List Entry) (l : LoadsView) (touches : List Touch) → AreTouches c formula net w first now touches → AreLoadsOf c now l →
    All (IsSettled c formula net u (demand_at l)) touches → StaysBest c formula net w u first now
settled-best {formula = formula} c net w u first now l touches are of settled = record {
  booking = are.booking;
  rises = λ e is_in. elim (cases_Bool (is_noted touches e)) [
    | inl noted ↦ noted-holds (IsTouch c w) (IsTold c formula net first) (IsSettled c formula net u (demand_at l)) (Rises) rises touches e are.each are.told settled noted
    | inr other ↦ let same = are.others e is_in other in omega (arith, same)
  ];
  stays = λ e is_in joins. elim (cases_Bool (is_noted touches e)) [
    | inl noted ↦ noted-holds (IsTouch c w) (IsTold c formula net first) (IsSettled c formula net u (demand_at l)) (Stays) stays touches e are.each are.told settled noted joins
    | inr other ↦ are.others e is_in other
  ];
  marks = are.marks;
}
  where
    Rises : Edge → Type 0
    Rises e = over_with c formula net e (demand c first e) ≤ over_with c formula net e (demand c now e)

    Stays : Edge → Type 0
    Stays e = IsTrue (joins_cells c.shape u e) → over_with c formula net e (demand c now e) ≡ over_with c formula net e (demand c first e)

    now-is : (t : Touch) → IsTouch c w t → over_with c formula net t.edge (demand_at l t.edge) ≡ over_with c formula net t.edge (demand c now t.edge)
    now-is t touch = ap (over_with c formula net t.edge) (of.demand t.edge touch.edge touch.is_in.wire)

    rises : (t : Touch) → IsTouch c w t → IsTold c formula net first t → IsSettled c formula net u (demand_at l) t → Rises t.edge
    rises t touch told settled = let more = settled.rises in let now = now-is t touch in omega (arith, more, told, now)

    stays : (t : Touch) → IsTouch c w t → IsTold c formula net first t → IsSettled c formula net u (demand_at l) t → Stays t.edge
    stays t touch told settled joins = sym (now-is t touch) ∙ settled.stays joins ∙ told
