-- A tree that is raised, tile by tile.
use Rattle.std.proofs.Common.{◌≡◌, ◌≢◌, ℕ, suc, zero, ◌+◌, ◌<◌, ◌≤◌, inl, inr, Bool, true, false, ◌&&◌, ◌||◌, ◌==◌, nat_lt, not, List, [], ◌∷◌, length, set, Option, unwrap_or, refl, sym, ap, subst, ◌∙◌, arith}
use Rattle.std.proofs.lemmas.Bool.{cases_Bool, cases_eq, both_ways}
use Rattle.std.proofs.lemmas.Bool.Decides.{nat_tests}
use Rattle.std.proofs.lemmas.List.{length-append}
use Rattle.std.proofs.lemmas.List.Folds.{list_any-append}
use Rattle.std.specs.List.{list_any, range_with_len}
use Rattle.gr_base.specs.Trees.{TreeView, holds, IsTree}
use Rattle.gr_base.specs.declared.grid.Edge.{Edge}
use Rattle.gr_base.specs.declared.grid.Shape.{Shape}
use Rattle.gr_base.specs.declared.tree.Node.{Node}
use Rattle.gr_base.proofs.TreeLemmas.{cell-only}
use Rattle.layer_assign.specs.declared.span.Span.{Span}
use Rattle.layer_assign.specs.Assignments.{IsFlat, cell_on, tile_at}
use Rattle.layer_assign.specs.Raised.{in_column, is_via_of, is_wire_of, Grows}
use Rattle.layer_assign.specs.Raising.{any_below, end_of, is_done, IsEarly, IsIn, IsRaised, AreEnds}
use Rattle.layer_assign.proofs.Sums.{range-more}
use Rattle.layer_assign.proofs.FlatLemmas.{tile-on}
use Rattle.layer_assign.proofs.PinLemmas.{tile-held, tile-apart}
use Rattle.layer_assign.proofs.ColumnLemmas.{column-parts, column-in, held_new, held-early, early-still}
use Rattle.layer_assign.proofs.LinkLemmas.{tile-inside}
use Rattle.layer_assign.proofs.TableLemmas.{get-set_same, get-set_other}

pub any-same : (P Q : ℕ → Bool) (n : ℕ) → ((u : ℕ) → u < n → P u ≡ Q u) → any_below P n ≡ any_below Q n
any-same P Q zero each = refl
any-same P Q (suc n) each =
    ap (λ (b : Bool). b || P n) (any-same P Q n (λ u lt. each u (omega arith))) ∙ ap (λ (b : Bool). any_below Q n || b) (each n (omega arith))

pub any-none : (P : ℕ → Bool) (n : ℕ) → ((u : ℕ) → u < n → P u ≡ false) → any_below P n ≡ false
any-none P zero each = refl
any-none P (suc n) each = rw (any-none P n (λ u lt. each u (omega arith)), each n (omega arith)) refl

right_true : (p q : Bool) → q ≡ true → (p || q) ≡ true
right_true true q is = refl
right_true false q is = is

pub any-at : (P : ℕ → Bool) (n p : ℕ) → p < n → P p ≡ true → any_below P n ≡ true
any-at P zero p lt is = absurd (omega arith)
any-at P (suc n) p lt is =
    elim (cases_eq p n) [
      | inl same ↦ right_true (any_below P n) (P n) (ap P (sym same) ∙ is)
      | inr other ↦ rw (any-at P n p (omega arith) is) refl
    ]

last_moved : (a p q : Bool) → ((a || p) || q) ≡ ((a || q) || p)
last_moved true p q = refl
last_moved false true true = refl
last_moved false true false = refl
last_moved false false true = refl
last_moved false false false = refl

or_false : (a : Bool) → (a || false) ≡ a
or_false true = refl
or_false false = refl

-- where one more number has the property
pub any-changed : (P Q : ℕ → Bool) (n p : ℕ) → p < n → P p ≡ false → ((u : ℕ) → u < n → u ≢ p → Q u ≡ P u) → any_below Q n ≡ (any_below P n || Q p)
any-changed P Q zero p lt none each = absurd (omega arith)
any-changed P Q (suc n) p lt none each =
    elim (cases_eq p n) [
      | inl same ↦
          ap (λ (b : Bool). b || Q n) (any-same Q P n (λ u less. each u (omega arith) (λ e. omega arith)))
          ∙ ap (λ (b : Bool). any_below P n || b) (ap Q (sym same))
          ∙ ap (λ (b : Bool). b || Q p) (sym (ap (λ (b : Bool). any_below P n || b) (ap P (sym same) ∙ none) ∙ or_false (any_below P n)))
      | inr other ↦
          ap (λ (b : Bool). b || Q n) (any-changed P Q n p (omega arith) none (λ u less apart. each u (omega arith) apart))
          ∙ ap (λ (b : Bool). (any_below P n || Q p) || b) (each n (omega arith) (λ e. other (sym e)))
          ∙ last_moved (any_below P n) (Q p) (P n)
    ]

pub any-range : (P : ℕ → Bool) (n : ℕ) → list_any P (range_with_len 0 n) ≡ any_below P n
any-range P zero = refl
any-range P (suc n) =
    ap (λ (xs : List ℕ). list_any P xs) (range-more n) ∙ list_any-append P (range_with_len 0 n) (n ∷ [])
    ∙ ap (λ (b : Bool). list_any P (range_with_len 0 n) || b) (or_false (P n)) ∙ ap (λ (b : Bool). b || P n) (any-range P n)

-- marks
pub end-set : (ends : List ℕ) (p count : ℕ) → p < length ends → end_of (set ends p count) p ≡ count
end-set ends p count below = ap (λ (o : Option ℕ). unwrap_or o 0) (get-set_same ends p count below)

pub end-kept : (ends : List ℕ) (p u count : ℕ) → u ≢ p → end_of (set ends p count) u ≡ end_of ends u
end-kept ends p u count other = ap (λ (o : Option ℕ). unwrap_or o 0) (get-set_other ends p u count other)

pub done-set : (ends : List ℕ) (p count : ℕ) → p < length ends → 0 < count → is_done (set ends p count) p ≡ true
done-set ends p count below some = ap (λ (n : ℕ). nat_lt 0 n) (end-set ends p count below) ∙ marked count some
  where
    marked : (n : ℕ) → 0 < n → nat_lt 0 n ≡ true
    marked n lt = grind (arith, nat_tests)

pub done-kept : (ends : List ℕ) (p u count : ℕ) → u ≢ p → is_done (set ends p count) u ≡ is_done ends u
done-kept ends p u count other = ap (λ (n : ℕ). nat_lt 0 n) (end-kept ends p u count other)

-- a tree with a tile that is done has nodes, and goes on having them
pub done-some : (g : Shape) (t : TreeView) (spans : ℕ → Span) (ends : List ℕ) (node : ℕ) (old new : TreeView) (cells : ℕ → Bool) (edges : Edge → Bool) →
    AreEnds g t spans ends old → is_done ends node ≡ true → Grows old new cells edges → 0 < length new.nodes
done-some g t spans ends node old new cells edges are is grows =
    let some = marked (end_of ends node) is in
    let most = are.most node in
    let long = ap (λ (ns : List Node). length ns) grows.nodes ∙ length-append old.nodes grows.added in
    omega (arith, some, most, long)
  where
    marked : (n : ℕ) → nat_lt 0 n ≡ true → 0 < n
    marked n is = grind (arith, nat_tests)

-- what is done of a tree of tiles
abbrev pub column_of : Shape → TreeView → (ℕ → Span) → ℕ → ℕ → Bool
column_of g t spans cell node = in_column g (tile_at t node) (spans node).low ((spans node).high + 1) cell

and_false : (p q : Bool) → q ≡ false → (p && q) ≡ false
and_false true q is = is
and_false false q is = refl

-- the cells of a tile that isn't done are free
pub raised-free : (g : Shape) (t : TreeView) (a : ℕ → ℕ) (spans : ℕ → Span) (first : Option ℕ) (done : ℕ → Bool) (left : ℕ) (r : TreeView) (to layer : ℕ) → IsFlat g t.shape → IsTree t →
    IsRaised g t a spans first done left r → to < length t.nodes → done to ≡ false → holds r (cell_on g (tile_at t to) layer) ≡ false
raised-free g t a spans first done left r to layer flat tree raised below open_is =
    let cell = cell_on g (tile_at t to) layer in
    raised.cells_are cell
    ∙ any-none (λ node. done node && column_of g t spans cell node) (length t.nodes)
    (λ u lt.
    elim (cases_Bool (done u)) [
      | inl yes_u ↦
          and_false (done u) (column_of g t spans cell u)
          (elim (cases_Bool (column_of g t spans cell u)) [
            | inl is ↦
                let parts = column-parts g (tile_at t u) (spans u).low ((spans u).high + 1) cell is in
                let own = tile-on g (tile_at t to) layer (tile-inside g t to flat tree below) in
                let found = cell-only t.shape t.nodes to (tile_at t to) tree.hanging (tile-held t to below) in
                let same : u ≡ to = tile-apart t u to (tile_at t to) tree lt found (sym parts.0 ∙ own) in
                absurd (both_ways (done u) (ap done same ∙ open_is) yes_u)
            | inr is ↦ is
          ])
      | inr no_u ↦ rw no_u refl
    ])

-- the cells of a tile's span that is done are there
pub raised-on : (g : Shape) (t : TreeView) (a : ℕ → ℕ) (spans : ℕ → Span) (first : Option ℕ) (done : ℕ → Bool) (left : ℕ) (r : TreeView) (from layer : ℕ) → IsFlat g t.shape → IsTree t →
    IsRaised g t a spans first done left r → from < length t.nodes → done from ≡ true → IsIn (spans from) layer → holds r (cell_on g (tile_at t from) layer) ≡ true
raised-on g t a spans first done left r from layer flat tree raised below is inside =
    let cell = cell_on g (tile_at t from) layer in
    let within : column_of g t spans cell from ≡ true =
    column-in g (tile_at t from) (spans from).low ((spans from).high + 1) layer (tile-inside g t from flat tree below) inside.low (let h = inside.high in omega arith) in
    raised.cells_are cell ∙ any-at (λ node. done node && column_of g t spans cell node) (length t.nodes) from below (rw (is, within) refl)

-- one more tile, with the wire edge of a node
pub raised-more : (g : Shape) (t : TreeView) (a : ℕ → ℕ) (spans : ℕ → Span) (first : Option ℕ) (done more : ℕ → Bool) (left now : ℕ) (old new : TreeView) (edge to : ℕ) →
    IsRaised g t a spans first done left old → edge < length t.nodes → to < length t.nodes → done to ≡ false → more to ≡ true →
    ((u : ℕ) → u ≢ to → more u ≡ done u) →
    (done edge && not (edge == left)) ≡ false → (more edge && not (edge == now)) ≡ true →
    ((u : ℕ) → u ≢ edge → (more u && not (u == now)) ≡ (done u && not (u == left))) →
    Grows old new (in_column g (tile_at t to) (spans to).low ((spans to).high + 1)) (λ e. is_wire_of g t a edge e || is_via_of g (tile_at t to) (spans to) e) →
    IsRaised g t a spans first more now new
raised-more g t a spans first done more left now old new edge to raised edge_in to_in open_is is kept wire_open wire_is wire_kept grows = record {
  shape = grows.shape ∙ raised.shape;
  starts = grows.first ∙ raised.starts;
  cells_are = λ c.
      let P : ℕ → Bool = λ node. done node && column_of g t spans c node in
      let Q : ℕ → Bool = λ node. more node && column_of g t spans c node in
      let changed = any-changed P Q (length t.nodes) to to_in (rw open_is refl) (λ u lt other. ap (λ (b : Bool). b && column_of g t spans c u) (kept u other)) in
      let last : Q to ≡ column_of g t spans c to = rw is refl in
      grows.cells_are c ∙ ap (λ (b : Bool). b || column_of g t spans c to) (raised.cells_are c)
      ∙ ap (λ (b : Bool). any_below P (length t.nodes) || b) (sym last) ∙ sym changed;
  edges_are = λ e.
      let P : ℕ → Bool = λ node. done node && is_via_of g (tile_at t node) (spans node) e in
      let Q : ℕ → Bool = λ node. more node && is_via_of g (tile_at t node) (spans node) e in
      let vias = any-changed P Q (length t.nodes) to to_in (rw open_is refl) (λ u lt other. ap (λ (b : Bool). b && is_via_of g (tile_at t u) (spans u) e) (kept u other)) in
      let via : Q to ≡ is_via_of g (tile_at t to) (spans to) e = rw is refl in
      let R : ℕ → Bool = λ node. (done node && not (node == left)) && is_wire_of g t a node e in
      let S : ℕ → Bool = λ node. (more node && not (node == now)) && is_wire_of g t a node e in
      let wires = any-changed R S (length t.nodes) edge edge_in (ap (λ (b : Bool). b && is_wire_of g t a edge e) wire_open) (λ u lt other. ap (λ (b : Bool). b && is_wire_of g t a u e) (wire_kept u other)) in
      let wire : S edge ≡ is_wire_of g t a edge e = ap (λ (b : Bool). b && is_wire_of g t a edge e) wire_is in
      grows.edges_are e
      ∙ ap (λ (b : Bool). b || (is_wire_of g t a edge e || is_via_of g (tile_at t to) (spans to) e)) (raised.edges_are e)
      ∙ mixed (any_below P (length t.nodes)) (any_below R (length t.nodes)) (is_wire_of g t a edge e) (is_via_of g (tile_at t to) (spans to) e)
      ∙ ap (λ (b : Bool). (any_below P (length t.nodes) || b) || (any_below R (length t.nodes) || is_wire_of g t a edge e)) (sym via)
      ∙ ap (λ (b : Bool). (any_below P (length t.nodes) || Q to) || (any_below R (length t.nodes) || b)) (sym wire)
      ∙ ap (λ (b : Bool). b || (any_below R (length t.nodes) || S edge)) (sym vias)
      ∙ ap (λ (b : Bool). any_below Q (length t.nodes) || b) (sym wires);
}
  where
    mixed : (p r w v : Bool) → ((p || r) || (w || v)) ≡ ((p || v) || (r || w))
    mixed true r w v = refl
    mixed false true w true = refl
    mixed false true w false = refl
    mixed false false true true = refl
    mixed false false true false = refl
    mixed false false false true = refl
    mixed false false false false = refl

not_same : (u v : ℕ) → u ≢ v → not (u == v) ≡ true
not_same u v other = let test : (u == v) ≡ false = grind (arith, nat_tests) in rw test refl

same_not : (u : ℕ) → not (u == u) ≡ false
same_not u = let test : (u == u) ≡ true = grind (arith, nat_tests) in rw test refl

and_right : (p q : Bool) → p ≡ true → q ≡ true → (p && q) ≡ true
and_right p q first second = rw (first, second) refl

left_false : (p q : Bool) → p ≡ false → (p && q) ≡ false
left_false p q is = rw is refl

-- the step from a node up to its parent
pub raised-up : (g : Shape) (t : TreeView) (a : ℕ → ℕ) (spans : ℕ → Span) (first : Option ℕ) (done : List ℕ) (node parent count : ℕ) (old new : TreeView) →
    IsRaised g t a spans first (is_done done) node old → 0 < count → node < length t.nodes → parent < node → length done ≡ length t.nodes → is_done done node ≡ true → is_done done parent ≡ false →
    Grows old new (in_column g (tile_at t parent) (spans parent).low ((spans parent).high + 1)) (λ e. is_wire_of g t a node e || is_via_of g (tile_at t parent) (spans parent) e) →
    IsRaised g t a spans first (is_done (set done parent count)) parent new
raised-up g t a spans first done node parent count old new raised some below up long is open_is grows =
    raised-more g t a spans first (is_done done) (is_done (set done parent count)) node parent old new node parent raised below (omega arith) open_is (done-set done parent count (omega arith) some)
    (λ u other. done-kept done parent u count other)
    (and_false (is_done done node) (not (node == node)) (same_not node))
    (and_right (is_done (set done parent count) node) (not (node == parent)) (done-kept done parent node count (λ e. omega arith) ∙ is) (not_same node parent (λ e. omega arith)))
    (λ u other.
    elim (cases_eq u parent) [
      | inl same ↦
          let open_u : is_done done u ≡ false = ap (is_done done) same ∙ open_is in
          let test : not (u == parent) ≡ false = ap (λ (k : ℕ). not (u == k)) (sym same) ∙ same_not u in
          and_false (is_done (set done parent count) u) (not (u == parent)) test ∙ sym (left_false (is_done done u) (not (u == node)) open_u)
      | inr apart ↦
          ap (λ (b : Bool). b && not (u == parent)) (done-kept done parent u count apart)
          ∙ ap (λ (b : Bool). is_done done u && b) (not_same u parent apart ∙ sym (not_same u node other))
    ]) grows

-- the step from a node's parent down to it
pub raised-down : (g : Shape) (t : TreeView) (a : ℕ → ℕ) (spans : ℕ → Span) (first : Option ℕ) (done : List ℕ) (node count : ℕ) (old new : TreeView) →
    IsRaised g t a spans first (is_done done) 0 old → 0 < count → 0 < node → node < length t.nodes → length done ≡ length t.nodes → is_done done node ≡ false →
    Grows old new (in_column g (tile_at t node) (spans node).low ((spans node).high + 1)) (λ e. is_wire_of g t a node e || is_via_of g (tile_at t node) (spans node) e) →
    IsRaised g t a spans first (is_done (set done node count)) 0 new
raised-down g t a spans first done node count old new raised some later below long open_is grows =
    raised-more g t a spans first (is_done done) (is_done (set done node count)) 0 0 old new node node raised below below open_is (done-set done node count (omega arith) some)
    (λ u other. done-kept done node u count other)
    (left_false (is_done done node) (not (node == 0)) open_is)
    (and_right (is_done (set done node count) node) (not (node == 0)) (done-set done node count (omega arith) some) (not_same node 0 (λ e. omega arith)))
    (λ u other. ap (λ (b : Bool). b && not (u == 0)) (done-kept done node u count other)) grows

-- one more tile is done
pub ends-more : (g : Shape) (t : TreeView) (spans : ℕ → Span) (ends : List ℕ) (to : ℕ) (old new : TreeView) (edges : Edge → Bool) → IsFlat g t.shape → IsTree t →
    length ends ≡ length t.nodes → to < length t.nodes → Grows old new (in_column g (tile_at t to) (spans to).low ((spans to).high + 1)) edges →
    AreEnds g t spans ends old → AreEnds g t spans (set ends to (length new.nodes)) new
ends-more g t spans ends to old new edges flat tree count below grows are = record {
  most = λ node.
      elim (cases_eq node to) [
        | inl same ↦ let e = ap (λ (k : ℕ). end_of (set ends to (length new.nodes)) k) same ∙ end-set ends to (length new.nodes) (omega arith) in omega (arith, e)
        | inr other ↦ let e = end-kept ends to node (length new.nodes) other in let most = are.most node in omega (arith, e, most, long)
      ];
  early = λ node layer lt is inside.
      elim (cases_eq node to) [
        | inl same ↦
            let end : length new.nodes ≡ end_of (set ends to (length new.nodes)) node =
            sym (ap (λ (k : ℕ). end_of (set ends to (length new.nodes)) k) same ∙ end-set ends to (length new.nodes) (omega arith)) in
            let here = subst (λ (k : ℕ). IsIn (spans k) layer) same inside in
            let high = here.high in
            let within = column-in g (tile_at t to) (spans to).low ((spans to).high + 1) layer (tile-inside g t to flat tree below) here.low (omega arith) in
            let held = held_new old new cells edges (cell_on g (tile_at t to) layer) grows within in
            subst (λ (k : ℕ). IsEarly new k (cell_on g (tile_at t node) layer)) end
            (subst (λ (k : ℕ). IsEarly new (length new.nodes) (cell_on g (tile_at t k) layer)) (sym same) (held-early new (cell_on g (tile_at t to) layer) (length new.nodes) held refl))
        | inr other ↦
            let kept = done-kept ends to node (length new.nodes) other in
            subst (λ (k : ℕ). IsEarly new k (cell_on g (tile_at t node) layer)) (sym (end-kept ends to node (length new.nodes) other))
            (early-still old new cells edges (end_of ends node) (cell_on g (tile_at t node) layer) grows (are.early node layer lt (sym kept ∙ is) inside))
      ];
}
  where
    cells : ℕ → Bool
    cells = in_column g (tile_at t to) (spans to).low ((spans to).high + 1)

    long : length old.nodes ≤ length new.nodes
    long = let e = ap (λ (ns : List Node). length ns) grows.nodes ∙ length-append old.nodes grows.added in omega (arith, e)

-- all tiles are done
pub raised-all : (g : Shape) (t : TreeView) (a : ℕ → ℕ) (spans : ℕ → Span) (first : Option ℕ) (done : ℕ → Bool) (r : TreeView) →
    IsRaised g t a spans first done 0 r → ((u : ℕ) → u < length t.nodes → done u ≡ true) → IsRaised g t a spans first (λ _. true) 0 r
raised-all g t a spans first done r raised all = record {
  shape = raised.shape;
  starts = raised.starts;
  cells_are = λ c.
      raised.cells_are c
      ∙ any-same (λ node. done node && column_of g t spans c node) (λ node. true && column_of g t spans c node) (length t.nodes) (λ u lt. ap (λ (b : Bool). b && column_of g t spans c u) (all u lt));
  edges_are = λ e.
      raised.edges_are e
      ∙ ap (λ (b : Bool). b || any_below (λ node. (done node && not (node == 0)) && is_wire_of g t a node e) (length t.nodes))
      (any-same (λ node. done node && is_via_of g (tile_at t node) (spans node) e) (λ node. true && is_via_of g (tile_at t node) (spans node) e) (length t.nodes)
      (λ u lt. ap (λ (b : Bool). b && is_via_of g (tile_at t u) (spans u) e) (all u lt)))
      ∙ ap (λ (b : Bool). any_below (λ node. true && is_via_of g (tile_at t node) (spans node) e) (length t.nodes) || b)
      (any-same (λ node. (done node && not (node == 0)) && is_wire_of g t a node e) (λ node. (true && not (node == 0)) && is_wire_of g t a node e) (length t.nodes)
      (λ u lt. ap (λ (b : Bool). (b && not (u == 0)) && is_wire_of g t a u e) (all u lt)));
}

-- the growth by a tile, in the grid's shape
pub grows-at : (g h : Shape) (t : TreeView) (a : ℕ → ℕ) (spans : ℕ → Span) (old new : TreeView) (edge to : ℕ) → h ≡ g →
    Grows old new (in_column h (tile_at t to) (spans to).low ((spans to).high + 1)) (λ e. is_wire_of h t a edge e || is_via_of h (tile_at t to) (spans to) e) →
    Grows old new (in_column g (tile_at t to) (spans to).low ((spans to).high + 1)) (λ e. is_wire_of g t a edge e || is_via_of g (tile_at t to) (spans to) e)
grows-at g h t a spans old new edge to same grows =
    subst (λ (k : Shape). Grows old new (in_column k (tile_at t to) (spans to).low ((spans to).high + 1)) (λ e. is_wire_of k t a edge e || is_via_of k (tile_at t to) (spans to) e)) same grows
