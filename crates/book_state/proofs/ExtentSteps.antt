-- Boxes that hold the wires of booked trees.
use Rattle.std.proofs.Common.{◌≡◌, ℕ, suc, zero, ◌+◌, ◌<◌, ◌≤◌, inl, inr, Bool, true, false, ◌&&◌, nat_le, cond, List, [], ◌∷◌, ◌++◌, length, All, Option, Some, None, is_some, Result, Ok, Err, IfSome, slice_index_or, IsTrue, refl, sym, ap, subst, ◌∙◌, append-nil, arith}
use Rattle.std.proofs.lemmas.Bool.{cases_eq}
use Rattle.std.proofs.lemmas.Bool.Decides.{nat_tests}
use Rattle.std.proofs.lemmas.List.{get_or_push, get_or_append_left, length_push}
use Rattle.std.proofs.lemmas.Option.{none-some, same_Some}
use Rattle.gr_base.proofs.GridLemmas.{some_columns, some_rows}
use Rattle.std.specs.Result.{IfOk, OnOk}
use Rattle.std.proofs.lemmas.List.Concat.{flat_map-append}
use Rattle.std.proofs.lemmas.List.Elements.{filter-append}
use Rattle.gr_base.proofs.General.{range-more}
use Rattle.std.specs.List.{list_any, filter, flat_map, range_with_len}
use Rattle.gr_base.specs.Grid.{IsInside, place_at}
use Rattle.gr_base.specs.ParentEdges.{wire_to_parent}
use Rattle.gr_base.specs.Trees.{TreeView, IsTree, tree_edges}
use Rattle.gr_base.specs.declared.grid.Cell.{Cell}
use Rattle.gr_base.specs.declared.grid.Edge.{Edge}
use Rattle.gr_base.specs.declared.grid.Shape.{Shape}
use Rattle.grid_demand.specs.Overfull.{OverfullView, AreOverfull}
use Rattle.grid_demand.specs.Tables.{CapacityView}
use Rattle.maze_route.specs.Windows.{IsWindow, with_place, is_within}
use Rattle.maze_route.specs.declared.window.Window.{Window}
use Rattle.book_state.proofs.EdgeSearch.{edges_from, edges-end, wire-inside, table-wires, any-over, any-fails}
use Rattle.book_state.proofs.ReplicaSteps.{place-kept}
use Rattle.book_state.proofs.Replies.{crowded-same, crowded-table, booked-shape}
use Rattle.book_state.specs.Books.{booked, demand, is_crowded, is_victim, victims, IsLegal}
use Rattle.book_state.specs.Crowds.{is_overfull, IsCalm}
use Rattle.book_state.specs.Replicas.{ReplicaView, tree_at_place, place_of, IsPlace, StandsFor}
use Rattle.book_state.specs.Extents.{HoldsWires, Bounds, IsExtent, AreExtents, nets_in, AreParts, AreSeen, IsLookedAt, listed}
use Rattle.book_state.specs.PlaceStore.{told}
use Rattle.book_state.specs.declared.entry.Entry.{Entry}
use Rattle.book_state.specs.declared.extents.Extent.{Extent}
use Rattle.book_state.specs.declared.extents.Part.{Part}

-- boxes stay right as the history grows
extents-more : (g : Shape) (h : List Entry) (e : Entry) (xs : List Extent) → AreExtents g h xs → AreExtents g (h ++ e ∷ []) xs
extents-more g h e xs are = λ net default below.
    let is = are net default below in
    record {
      window = is.window;
      tree = is.tree;
      there = place-kept h (e ∷ []) (told (slice_index_or xs net default).front) is.tree is.there;
      holds = is.holds;
    }

pub parts-more : (c : CapacityView) (h : List Entry) (e : Entry) (ps : List Part) → AreParts c h ps → AreParts c (h ++ e ∷ []) ps
parts-more c h e ps are = record {
  each = λ at default below.
      let is = are.each at default below in
      record {
        within = is.within;
        few = is.few;
        extents = extents-more c.shape h e (slice_index_or ps at default).extents.items is.extents;
      };
  nets = are.nets;
}

-- parts that were looked at, each by itself, have the same nets
same-nets : (ps qs : List Part) → length qs ≡ length ps → ((at : ℕ) (default : Part) → at < length ps → nets_in (slice_index_or qs at default) ≡ nets_in (slice_index_or ps at default)) →
    flat_map nets_in qs ≡ flat_map nets_in ps
same-nets [] [] long same = refl
same-nets [] (q ∷ qs) long same = absurd (omega (arith, long))
same-nets (p ∷ ps) [] long same = absurd (omega (arith, long))
same-nets (p ∷ ps) (q ∷ qs) long same =
    let first : nets_in q ≡ nets_in p = same 0 q (omega arith) in
    let rest = same-nets ps qs (omega (arith, long)) (λ at default below. same (suc at) default (omega (arith, below))) in
    ap (λ (xs : List ℕ). xs ++ flat_map nets_in qs) first ∙ ap (λ (xs : List ℕ). nets_in p ++ xs) rest

pub parts-looked-at : (c : CapacityView) (h : List Entry) (ps qs : List Part) → length qs ≡ length ps → AreParts c h ps →
    ((at : ℕ) (default : Part) → at < length ps → IsLookedAt c h (slice_index_or ps at default) (slice_index_or qs at default)) → AreParts c h qs
parts-looked-at c h ps qs long are looked = record {
  each = λ at default below. (looked at default (omega (arith, long, below))).part;
  nets = same-nets ps qs long (λ at default below. (looked at default below).nets) ∙ are.nets;
}

-- the lists of the parts together
listed-filter : (c : CapacityView) (h : List Entry) (ps : List Part) → AreSeen c h ps → All (λ p. IsTrue p.whole) ps →
    listed ps ≡ filter (is_victim c h) (flat_map nets_in ps)
listed-filter c h [] seen whole = refl
listed-filter c h (p ∷ ps) seen whole =
    let rest =
    listed-filter c h ps (λ at default below. seen (suc at) default (omega (arith, below)))
    (λ at default below. whole (suc at) default (omega (arith, below))) in
    let first = seen 0 p (omega arith) (whole 0 p (omega arith)) in
    ap (λ (xs : List ℕ). xs ++ listed ps) first ∙ ap (λ (xs : List ℕ). filter (is_victim c h) (nets_in p) ++ xs) rest
    ∙ sym (filter-append (is_victim c h) (nets_in p) (flat_map nets_in ps))

listed-victims : (c : CapacityView) (h : List Entry) (ps : List Part) → AreParts c h ps → AreSeen c h ps → All (λ p. IsTrue p.whole) ps → listed ps ≡ victims c h
listed-victims c h ps are seen whole = listed-filter c h ps seen whole ∙ ap (filter (is_victim c h)) are.nets

pub victims-listed : {E : Type 0} (c : CapacityView) (h : List Entry) (ps : List Part) (r : Result (List ℕ) E) → AreParts c h ps → AreSeen c h ps → IfOk r (λ nets. nets ≡ listed ps) →
    OnOk r (All (λ p. IsTrue p.whole) ps) → IfOk r (λ nets. nets ≡ victims c h)
victims-listed c h ps (Ok nets) are seen listed_so whole = listed_so ∙ listed-victims c h ps are seen whole
victims-listed c h ps (Err e) are seen listed_so whole = tt

pub listed-push : (ps more : List Part) (p : Part) (all nets new : List ℕ) → more ≡ ps ++ p ∷ [] → all ≡ listed ps → nets ≡ p.victims.items → new ≡ all ++ nets → new ≡ listed more
listed-push ps more p all nets new is are lists joined =
    joined ∙ ap (λ (xs : List ℕ). xs ++ nets) are
    ∙ ap (λ (xs : List ℕ). listed ps ++ xs) (lists ∙ sym (append-nil p.victims.items))
    ∙ sym (flat_map-append (λ (q : Part). q.victims.items) ps (p ∷ []))
    ∙ ap listed (sym is)

-- one part more behind the others
range-join : (a m n : ℕ) → range_with_len a m ++ range_with_len (a + m) n ≡ range_with_len a (m + n)
range-join a zero n =
    let e : a + 0 ≡ a = omega arith in
    let f : n ≡ 0 + n = omega arith in
    ap (λ (k : ℕ). range_with_len k n) e ∙ ap (λ (k : ℕ). range_with_len a k) f
range-join a (suc m) n =
    let e : a + suc m ≡ a + 1 + m = omega arith in
    let f : suc (m + n) ≡ suc m + n = omega arith in
    ap (λ (k : ℕ). a ∷ (range_with_len (a + 1) m ++ range_with_len k n)) e
    ∙ ap (λ (ks : List ℕ). a ∷ ks) (range-join (a + 1) m n) ∙ ap (λ (k : ℕ). range_with_len a k) f

pub nets-push : (ps : List Part) (p : Part) (count next : ℕ) → flat_map nets_in ps ≡ range_with_len 0 p.first → length p.extents.items ≡ count → next ≡ p.first + count →
    flat_map nets_in (ps ++ p ∷ []) ≡ range_with_len 0 next
nets-push ps p count next are long is =
    flat_map-append nets_in ps (p ∷ [])
    ∙ ap (λ (xs : List ℕ). flat_map nets_in ps ++ xs) (append-nil (nets_in p))
    ∙ ap (λ (xs : List ℕ). xs ++ nets_in p) are
    ∙ ap (λ (from : ℕ). range_with_len 0 p.first ++ range_with_len from (length p.extents.items)) (let e : p.first ≡ 0 + p.first = omega arith in e)
    ∙ range-join 0 p.first (length p.extents.items)
    ∙ ap (λ (n : ℕ). range_with_len 0 n) (ap (λ (n : ℕ). p.first + n) long ∙ sym is)

-- the victims of a range of nets, with one net more
range-filter : (p : ℕ → Bool) (a n net : ℕ) → net ≡ a + n → filter p (range_with_len a (n + 1)) ≡ filter p (range_with_len a n) ++ cond (p net) (net ∷ []) []
range-filter p a n net at =
    ap (filter p) (range-more a n ∙ ap (λ (k : ℕ). range_with_len a n ++ k ∷ []) (sym at)) ∙ filter-append p (range_with_len a n) (net ∷ [])

pub victim-passes : (p : ℕ → Bool) (a n net : ℕ) (xs new : List ℕ) → xs ≡ filter p (range_with_len a n) → net ≡ a + n → p net ≡ true → new ≡ xs ++ net ∷ [] →
    new ≡ filter p (range_with_len a (n + 1))
victim-passes p a n net xs new is at passes more =
    more ∙ ap (λ (ys : List ℕ). ys ++ net ∷ []) is
    ∙ sym (range-filter p a n net at ∙ ap (λ (b : Bool). filter p (range_with_len a n) ++ cond b (net ∷ []) []) passes)

pub victim-fails : (p : ℕ → Bool) (a n net : ℕ) (xs : List ℕ) → xs ≡ filter p (range_with_len a n) → net ≡ a + n → p net ≡ false → xs ≡ filter p (range_with_len a (n + 1))
victim-fails p a n net xs is at fails =
    is
    ∙ sym (range-filter p a n net at ∙ ap (λ (b : Bool). filter p (range_with_len a n) ++ cond b (net ∷ []) []) fails ∙ append-nil (filter p (range_with_len a n)))

-- a net of which nothing is seen, and one net more
pub nothing-seen : (g : Shape) (h : List Entry) (x : Extent) → x.front ≡ 0 → IsWindow g x.window → IsExtent g h x
nothing-seen g h x none fits = record {
  window = fits;
  tree = None;
  there = subst (λ (front : ℕ). IsPlace h (told front) None) (sym none) (record { tree_there = refl; known = refl });
  holds = tt;
}

pub first-tile : (g : Shape) → IsWindow g (record { x0 = 0; y0 = 0; x1 = 0; y1 = 0 })
first-tile g = record { columns = omega arith; rows = omega arith; last_column = some_columns g; last_row = some_rows g }

pub extents-push : (g : Shape) (h : List Entry) (xs : List Extent) (x : Extent) → AreExtents g h xs → IsExtent g h x → AreExtents g h (xs ++ x ∷ [])
extents-push g h xs x are is = λ net default below.
    let long = length_push xs x in
    elim (cases_eq net (length xs)) [
      | inl same ↦ subst (IsExtent g h) (sym (get_or_push xs x default net (sym same))) is
      | inr apart ↦
          let within : net < length xs = omega (arith, long, below, apart) in
          subst (IsExtent g h) (sym (get_or_append_left xs (x ∷ []) default net within)) (are net default within)
    ]

-- a box with a place more
within-test : (w : Window) (p : Cell) → w.x0 ≤ p.x → p.x ≤ w.x1 → w.y0 ≤ p.y → p.y ≤ w.y1 → IsTrue (is_within w p)
within-test w p left right bottom top =
    four (nat_le w.x0 p.x) (nat_le p.x w.x1) (nat_le w.y0 p.y) (nat_le p.y w.y1) (test w.x0 p.x left) (test p.x w.x1 right) (test w.y0 p.y bottom) (test p.y w.y1 top)
  where
    four : (a b c d : Bool) → a ≡ true → b ≡ true → c ≡ true → d ≡ true → (a && b && c && d) ≡ true
    four a b c d i j k l = rw (i, j, k, l) refl

    test : (a b : ℕ) → a ≤ b → nat_le a b ≡ true
    test a b low = grind (arith, nat_tests)

within-new : (w : Window) (p : Cell) → IsTrue (is_within (with_place w p) p)
within-new w p = within-test (with_place w p) p (omega arith) (omega arith) (omega arith) (omega arith)

within-old : (w : Window) (p q : Cell) → IsTrue (is_within w q) → IsTrue (is_within (with_place w p) q)
within-old w p q is =
    let left : w.x0 ≤ q.x = grind (arith, nat_tests, is) in
    let right : q.x ≤ w.x1 = grind (arith, nat_tests, is) in
    let bottom : w.y0 ≤ q.y = grind (arith, nat_tests, is) in
    let top : q.y ≤ w.y1 = grind (arith, nat_tests, is) in
    within-test (with_place w p) q (omega (arith, left)) (omega (arith, right)) (omega (arith, bottom)) (omega (arith, top))

pub window-with : (g : Shape) (w : Window) (p : Cell) → IsWindow g w → IsInside g p → IsWindow g (with_place w p)
window-with g w p fits inside =
    let column = inside.column in
    let row = inside.row in
    let columns = fits.columns in
    let rows = fits.rows in
    let last_column = fits.last_column in
    let last_row = fits.last_row in
    record {
      columns = omega (arith, columns);
      rows = omega (arith, rows);
      last_column = omega (arith, last_column, column);
      last_row = omega (arith, last_row, row);
    }

-- the wires of one node more
pub holds-wire : (w v : Window) (t : TreeView) (node : ℕ) (e : Edge) (p : Cell) → HoldsWires w node t → Some e ≡ wire_to_parent t node → p ≡ place_at t.shape e.low → v ≡ with_place w p →
    HoldsWires v (node + 1) t
holds-wire w v t node e p are is place grown = λ other x below there.
    let old : IsTrue (is_within w (place_at t.shape x.low)) → IsTrue (is_within v (place_at t.shape x.low)) =
    λ within. subst (λ (u : Window). IsTrue (is_within u (place_at t.shape x.low))) (sym grown) (within-old w p (place_at t.shape x.low) within) in
    elim (cases_eq other node) [
      | inl same ↦
          let one : x ≡ e = same_Some x e (there ∙ ap (wire_to_parent t) same ∙ sym is) in
          let here : p ≡ place_at t.shape x.low = place ∙ ap (λ (y : Edge). place_at t.shape y.low) (sym one) in
          subst (λ (q : Cell). IsTrue (is_within v q)) here (subst (λ (u : Window). IsTrue (is_within u p)) (sym grown) (within-new w p))
      | inr apart ↦ old (are other x (omega (arith, below, apart)) there)
    ]

pub holds-over : (w : Window) (t : TreeView) (node : ℕ) → HoldsWires w node t → None ≡ wire_to_parent t node → HoldsWires w (node + 1) t
holds-over w t node are none = λ other x below there.
    elim (cases_eq other node) [
      | inl same ↦ absurd (none-some x (none ∙ ap (wire_to_parent t) (sym same) ∙ sym there))
      | inr apart ↦ are other x (omega (arith, below, apart)) there
    ]

-- no edge of a tree in a calm box is overfull
pub calm-tree : (g : Shape) (over : List Bool) (w : Window) (t : TreeView) → IsTree t → t.shape ≡ g → HoldsWires w (length t.nodes) t → IsCalm g over w →
    list_any (is_overfull over) (tree_edges t) ≡ false
calm-tree g over w t tree shape holds calm = from_node (length t.nodes) 0 (omega arith)
  where
    p : Edge → Bool
    p = is_overfull over

    fails : (node : ℕ) (e : Edge) → node < length t.nodes → Some e ≡ wire_to_parent t node → p e ≡ false
    fails node e below is =
        let edge = (wire-inside t g node e tree shape below is).0 in
        calm e edge (subst (λ (s : Shape). IsTrue (is_within w (place_at s e.low))) shape (holds node e below is))

    at_node : (node : ℕ) (o : Option Edge) → node < length t.nodes → o ≡ wire_to_parent t node → list_any p (edges_from t node) ≡ list_any p (edges_from t (node + 1))
    at_node node None below is = any-over p t node (table-wires over) below is
    at_node node (Some e) below is = any-fails p t node e below is (fails node e below is)

    from_node : (left node : ℕ) → node + left ≡ length t.nodes → list_any p (edges_from t node) ≡ false
    from_node zero node all = ap (list_any p) (edges-end t node (omega (arith, all)))
    from_node (suc left) node all =
        at_node node (wire_to_parent t node) (omega (arith, all)) refl ∙ from_node left (node + 1) (omega (arith, all))

-- a net's box
pub extent-booked : (c : CapacityView) (h : List Entry) (r : ReplicaView) (x : Extent) (net : ℕ) (o : Option TreeView) → StandsFor c h r → told x.front ≡ place_of r.places net →
    tree_at_place h (place_of r.places net) ≡ o → IsWindow c.shape x.window → IfSome o (Bounds x.window) → IsExtent c.shape h x
extent-booked c h r x net o stands place is fits bounds =
    let booked_is : booked h net ≡ o = sym (stands.places net).tree_there ∙ is in
    record {
      window = fits;
      tree = o;
      there = record {
        tree_there = ap (tree_at_place h) place ∙ is;
        known = ap (λ (p : Option ℕ). is_some p) place ∙ (stands.places net).known ∙ ap (λ (t : Option TreeView). is_some t) booked_is;
      };
      holds = bounds;
    }

-- a net with a calm box isn't a victim, whether it is booked or not
pub calm-net : (c : CapacityView) (h : List Entry) (r : ReplicaView) (over : OverfullView) (x : Extent) (net : ℕ) → IsLegal c h → StandsFor c h r → AreOverfull c r.loads over →
    IsExtent c.shape h x → told x.front ≡ place_of r.places net → IsCalm c.shape over.table x.window → false ≡ is_victim c h net
calm-net c h r over x net legal stands are is place calm = by_tree (booked h net) refl
  where
    seen : (o : Option TreeView) → booked h net ≡ o → is.tree ≡ o
    seen o booked_is = sym is.there.tree_there ∙ ap (tree_at_place h) place ∙ (stands.places net).tree_there ∙ booked_is

    by_tree : (o : Option TreeView) → booked h net ≡ o → false ≡ is_victim c h net
    by_tree None none = sym (ap (λ (o : Option TreeView). is_crowded c (demand c h) o) none)
    by_tree (Some t) some =
        let shape = booked-shape c h r net t legal stands some in
        let bounds : Bounds x.window t = subst (λ (o : Option TreeView). IfSome o (Bounds x.window)) (seen (Some t) some) is.holds in
        sym (calm-tree c.shape over.table x.window t bounds.0 shape bounds.1 calm)
        ∙ crowded-table c r.loads over t are stands.loads.shape bounds.0 shape
        ∙ crowded-same c h r.loads t stands.loads bounds.0 shape
        ∙ ap (λ (o : Option TreeView). is_crowded c (demand c h) o) (sym some)
