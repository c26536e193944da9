-- No edge of a tree stands twice.
use Rattle.std.proofs.Common.{◌≡◌, ℕ, suc, zero, ◌<◌, ◌≤◌, inl, inr, Bool, true, false, ◌||◌, ◌==◌, List, [], ◌∷◌, ◌++◌, length, take, Option, Some, None, is_some, slice_get, IfSome, if◌then◌else◌, refl, sym, ap, subst, ◌∙◌, append_assoc, arith}
use Rattle.std.proofs.Math.Seq.{take-append_seam}
use Rattle.std.proofs.lemmas.Bool.{cases_Bool, eqb-true, both_ways, and_parts, or_cases}
use Rattle.std.proofs.lemmas.List.{append-nil}
use Rattle.std.proofs.lemmas.List.Elements.{filter_map-append}
use Rattle.std.proofs.lemmas.List.Sums.{sum_by-append}
use Rattle.std.proofs.lemmas.Option.{none-some, same_Some}
use Rattle.std.specs.List.{list_any, filter_map, cons_option, count_by}
use Rattle.std.specs.Option.{option_and_then}
use Rattle.gr_base.specs.Grid.{cells_of, edge_of, high_of, Joins}
use Rattle.gr_base.specs.EdgeSets.{is_way, is_edge, set_of}
use Rattle.gr_base.specs.Trees.{TreeView, cell_at, node_with, AllHang, IsTree, edge_to_parent, HasDistinctEdges}
use Rattle.gr_base.specs.declared.grid.Edge.{Edge}
use Rattle.gr_base.specs.declared.grid.Shape.{Shape}
use Rattle.gr_base.specs.declared.grid.Way.{Way}
use Rattle.gr_base.specs.declared.grid.Way.TheVariants.{East, North, Up}
use Rattle.gr_base.specs.declared.tree.Node.{Node}
use Rattle.gr_base.proofs.GridLemmas.{edge_of-joins}
use Rattle.gr_base.proofs.TreeLemmas.{cell_at-take, cell-inside, hangs-at, read-cell}
use Rattle.gr_base.proofs.TreeEdges.{found-at}
use Rattle.gr_base.proofs.TreeGrowth.{parent-held}

pub is_way-same : (v w : Way) → is_way v w ≡ true → v ≡ w
is_way-same East East is = refl
is_way-same North North is = refl
is_way-same Up Up is = refl
is_way-same East North is = absurd (both_ways false refl is)
is_way-same East Up is = absurd (both_ways false refl is)
is_way-same North East is = absurd (both_ways false refl is)
is_way-same North Up is = absurd (both_ways false refl is)
is_way-same Up East is = absurd (both_ways false refl is)
is_way-same Up North is = absurd (both_ways false refl is)

pub is_edge-same : (e f : Edge) → is_edge e f ≡ true → e ≡ f
is_edge-same e f is =
    let parts = and_parts (e.low == f.low) (is_way e.way f.way) is in
    let by_low : ℕ → Edge = λ n. record { low = n; way = e.way } in
    let by_way : Way → Edge = λ w. record { low = f.low; way = w } in
    ap by_low (eqb-true e.low f.low parts.0) ∙ ap by_way (is_way-same e.way f.way parts.1)

-- a node of the list gives the edge
abbrev pub Gives : (Node → Option Edge) → Edge → List Node → Type 0
Gives f e xs = (k : ℕ) × ((x : Node) × ((slice_get xs k ≡ Some x) × (f x ≡ Some e)))

pub gives_either : (f : Node → Option Edge) (e : Edge) (x : Node) (xs : List Node) (o : Option Edge) → f x ≡ o →
    list_any (is_edge e) (cons_option o (filter_map f xs)) ≡ true → (set_of (filter_map f xs) e ≡ true → Gives f e xs) → Gives f e (x ∷ xs)
gives_either f e x xs None at is later = let rest = later is in (suc rest.0, (rest.1.0, rest.1.1))
gives_either f e x xs (Some other) at is later =
    elim (or_cases (is_edge e other) (set_of (filter_map f xs) e) is) [
      | inl same ↦ (0, (x, (refl, at ∙ ap (λ (d : Edge). Some d) (sym (is_edge-same e other same)))))
      | inr more ↦ let rest = later more in (suc rest.0, (rest.1.0, rest.1.1))
    ]

-- an edge of the list is one that some node gives
pub gives : (f : Node → Option Edge) (e : Edge) (xs : List Node) → set_of (filter_map f xs) e ≡ true → Gives f e xs
gives f e [] is = absurd (both_ways false refl is)
gives f e (x ∷ xs) is = gives_either f e x xs (f x) refl is (λ later. gives f e xs later)

-- the two cells that a node's edge joins
pub edge-parts : (g : Shape) (node : Node) (o : Option ℕ) (e : Edge) → option_and_then (λ cell. edge_of g node.cell cell) o ≡ Some e →
    (c : ℕ) × ((o ≡ Some c) × (edge_of g node.cell c ≡ Some e))
edge-parts g node None e is = absurd (none-some e is)
edge-parts g node (Some c) e is = (c, (refl, is))

-- the edge between two cells joins them
pub joins-of : (g : Shape) (a b : ℕ) (e : Edge) → a < cells_of g → b < cells_of g → edge_of g a b ≡ Some e → Joins g e a b
joins-of g a b e first second is =
    let P : Option Edge → Type 0 = λ o. IfSome o (λ d. Joins g d a b) in subst P is (edge_of-joins g a b first second)

-- the first nodes of a tree hang on those before them
pub AllHang-take : (g : Shape) (before nodes : List Node) (k : ℕ) → AllHang g before nodes → AllHang g before (take k nodes)
AllHang-take g before [] zero hanging = tt
AllHang-take g before [] (suc k) hanging = tt
AllHang-take g before (x ∷ xs) zero hanging = tt
AllHang-take g before (x ∷ xs) (suc k) hanging = (hanging.0, AllHang-take g (before ++ x ∷ []) xs k hanging.1)

slice_get-take : (xs : List Node) (n k : ℕ) (x : Node) → slice_get (take n xs) k ≡ Some x → slice_get xs k ≡ Some x
slice_get-take [] zero k x is = is
slice_get-take [] (suc n) k x is = is
slice_get-take (y ∷ xs) zero k x is = absurd (none-some x is)
slice_get-take (y ∷ xs) (suc n) zero x is = is
slice_get-take (y ∷ xs) (suc n) (suc k) x is = slice_get-take xs n k x is

-- an edge's ends are among these nodes
record Held (g : Shape) (nodes : List Node) (e : Edge) : Type 0 where
  low : is_some (node_with nodes e.low) ≡ true
  high : is_some (node_with nodes (high_of g e)) ≡ true

held-from : (g : Shape) (nodes : List Node) (e : Edge) (a b : ℕ) → Joins g e a b →
    is_some (node_with nodes a) ≡ true → is_some (node_with nodes b) ≡ true → Held g nodes e
held-from g nodes e a b joined first second =
    let P : ℕ → Type 0 = λ n. is_some (node_with nodes n) ≡ true in
    elim joined.ends [
      | inl ends ↦ record { low = subst P (sym ends.0) first; high = subst P (sym ends.1) second }
      | inr ends ↦ record { low = subst P (sym ends.0) second; high = subst P (sym ends.1) first }
    ]

held-end : (g : Shape) (nodes : List Node) (e : Edge) (a b : ℕ) → Joins g e a b → Held g nodes e → is_some (node_with nodes a) ≡ true
held-end g nodes e a b joined held =
    let P : ℕ → Type 0 = λ n. is_some (node_with nodes n) ≡ true in
    elim joined.ends [
      | inl ends ↦ subst P ends.0 held.low
      | inr ends ↦ subst P ends.1 held.high
    ]

-- the ends of an edge of a tree's first nodes are among them
edge-held : (g : Shape) (nodes : List Node) (k : ℕ) (e : Edge) → AllHang g [] nodes →
    set_of (filter_map (edge_to_parent g nodes) (take k nodes)) e ≡ true → Held g (take k nodes) e
edge-held g nodes k e hanging is =
    let found = gives (edge_to_parent g nodes) e (take k nodes) is in
    let j = found.0 in
    let x : Node = found.1.0 in
    let at : slice_get (take k nodes) j ≡ Some x = found.1.1.0 in
    let parts = edge-parts g x (cell_at nodes x.parent) e found.1.1.1 in
    let own = read-cell (take k nodes) j x at in
    let parent = parent-held g (take k nodes) j x (AllHang-take g [] nodes k hanging) at in
    let whole = cell_at-take nodes k x.parent parent.0 parent.1 in
    let same : parent.0 ≡ parts.0 = same_Some parent.0 parts.0 (sym whole ∙ parts.1.0) in
    let P : ℕ → Type 0 = λ c. is_some (node_with (take k nodes) c) ≡ true in
    let inside = cell-inside g nodes j x.cell hanging (cell_at-take nodes k j x.cell own) in
    let other = cell-inside g nodes x.parent parts.0 hanging parts.1.0 in
    held-from g (take k nodes) e x.cell parts.0 (joins-of g x.cell parts.0 e inside other parts.1.1)
    (found-at (take k nodes) j x.cell own) (subst P same (found-at (take k nodes) x.parent parent.0 parent.1))

-- the edge of a node is none of those of the nodes before it
pub edge-new : (g : Shape) (nodes : List Node) (k : ℕ) (node : Node) (e : Edge) → AllHang g [] nodes → slice_get nodes k ≡ Some node →
    edge_to_parent g nodes node ≡ Some e → set_of (filter_map (edge_to_parent g nodes) (take k nodes)) e ≡ false
edge-new g nodes k node e hanging at is =
    elim (cases_Bool (set_of (filter_map (edge_to_parent g nodes) (take k nodes)) e)) [
      | inr other ↦ other
      | inl old ↦
          let hangs = hangs-at g nodes k node hanging at in
          let parts = edge-parts g node (cell_at nodes node.parent) e is in
          let own = read-cell nodes k node at in
          let joined = joins-of g node.cell parts.0 e (cell-inside g nodes k node.cell hanging own) (cell-inside g nodes node.parent parts.0 hanging parts.1.0) parts.1.1 in
          let held = held-end g (take k nodes) e node.cell parts.0 joined (edge-held g nodes k e hanging old) in
          let none : is_some (node_with (take k nodes) node.cell) ≡ false = ap (λ (o : Option ℕ). is_some o) hangs.fresh in
          absurd (both_ways (is_some (node_with (take k nodes) node.cell)) none held)
    ]

count-none : (e : Edge) (es : List Edge) → set_of es e ≡ false → count_by (is_edge e) es ≡ 0
count-none e [] is = refl
count-none e (f ∷ es) is =
    elim (cases_Bool (is_edge e f)) [
      | inl same ↦ absurd (both_ways (is_edge e f || set_of es e) is (rw same refl))
      | inr other ↦ let rest : set_of es e ≡ false = (let h = is in rw other at h) in rw other (let c = count-none e es rest in omega arith)
    ]

abbrev counted : Bool → ℕ
counted b = if b then 1 else 0

-- one more edge that is none of the others
count-more : (e : Edge) (es : List Edge) (o : Option Edge) → ((f : Edge) → o ≡ Some f → set_of es f ≡ false) →
    count_by (is_edge e) es ≤ 1 → count_by (is_edge e) (es ++ cons_option o []) ≤ 1
count-more e es None new once =
    let P : List Edge → Type 0 = λ fs. count_by (is_edge e) fs ≤ 1 in subst P (sym (append-nil es)) once
count-more e es (Some f) new once =
    let both = sum_by-append (λ d. counted (is_edge e d)) es (f ∷ []) in
    elim (cases_Bool (is_edge e f)) [
      | inl same ↦
          let P : Edge → Type 0 = λ d. set_of es d ≡ false in
          let none = count-none e es (subst P (sym (is_edge-same e f same)) (new f refl)) in
          let one : counted (is_edge e f) ≡ 1 = ap (λ (b : Bool). counted b) same in
          omega (arith, both, none, one)
      | inr other ↦
          let one : counted (is_edge e f) ≡ 0 = ap (λ (b : Bool). counted b) other in
          omega (arith, both, one)
    ]

slice_get-seam : (before after : List Node) (node : Node) → slice_get (before ++ node ∷ after) (length before) ≡ Some node
slice_get-seam [] after node = refl
slice_get-seam (x ∷ xs) after node = slice_get-seam xs after node

distinct-from : (g : Shape) (whole before after : List Node) (e : Edge) → AllHang g [] whole → whole ≡ before ++ after →
    count_by (is_edge e) (filter_map (edge_to_parent g whole) before) ≤ 1 → count_by (is_edge e) (filter_map (edge_to_parent g whole) whole) ≤ 1
distinct-from g whole before [] e hanging is once =
    let P : List Node → Type 0 = λ ns. count_by (is_edge e) (filter_map (edge_to_parent g whole) ns) ≤ 1 in
    subst P (sym (is ∙ append-nil before)) once
distinct-from g whole before (node ∷ after) e hanging is once =
    let f : Node → Option Edge = edge_to_parent g whole in
    let P : List Node → Type 0 = λ ns. slice_get ns (length before) ≡ Some node in
    let at = subst P (sym is) (slice_get-seam before after node) in
    let first : take (length before) whole ≡ before = ap (λ (ns : List Node). take (length before) ns) is ∙ take-append_seam before (node ∷ after) in
    let Q : List Node → Edge → Type 0 = λ ns d. set_of (filter_map f ns) d ≡ false in
    let more = count-more e (filter_map f before) (f node) (λ d gives. subst (λ (ns : List Node). Q ns d) first (edge-new g whole (length before) node d hanging at gives)) once in
    let R : List Edge → Type 0 = λ es. count_by (is_edge e) es ≤ 1 in
    distinct-from g whole (before ++ node ∷ []) after e hanging (is ∙ sym (append_assoc before (node ∷ []) after))
    (subst R (sym (filter_map-append f before (node ∷ []))) more)

pub tree-distinct_edges : (t : TreeView) → IsTree t → HasDistinctEdges t
tree-distinct_edges t tree = λ e. distinct-from t.shape t.nodes [] t.nodes e tree.hanging refl (omega arith)
