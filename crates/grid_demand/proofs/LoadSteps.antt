-- Demands that change node by node along a tree.
use Rattle.std.proofs.Common.{◌≡◌, ℕ, suc, zero, ◌+◌, ◌*◌, ◌<◌, inl, inr, Bool, true, false, List, [], ◌∷◌, ◌++◌, map, length, take, get_or, slice_index, slice_set, slice_get, Option, Some, None, if◌then◌else◌, IsTrue, refl, sym, ap, subst, ◌∙◌, arith}
use Rattle.std.proofs.lemmas.Bool.{cases_Bool, both_ways}
use Rattle.std.proofs.lemmas.Option.{none-some, same_Some}
use Rattle.std.specs.List.{filter_map}
use Rattle.std.specs.Option.{option_and_then, option_to_list}
use Rattle.gr_base.proofs.TreeDistinct.{is_edge-same, tree-distinct_edges}
use Rattle.gr_base.proofs.TreeEdges.{tree-grid_edges}
use Rattle.gr_base.specs.EdgeSets.{is_edge, set_of}
use Rattle.gr_base.specs.Grid.{cells_of, has_edge, is_wire}
use Rattle.gr_base.specs.Sums.{wire_number, wires_from_cells}
use Rattle.gr_base.specs.Trees.{TreeView, IsTree, HasGridEdges, edge_to_parent, tree_edges, edges_of}
use Rattle.gr_base.specs.declared.grid.Edge.{Edge}
use Rattle.gr_base.specs.declared.grid.Shape.{Shape}
use Rattle.gr_base.specs.declared.tree.Node.{Node}
use Rattle.grid_demand.proofs.CapacityLemmas.{take-next}
use Rattle.grid_demand.proofs.PlaneLemmas.{StandsAt, stands, length-by_number, written-at}
use Rattle.grid_demand.proofs.TreeTimes.{times, times-append, times-one, one_if-true, one_if-false, times-set, edges_before, edges_before-more, edge-next}
use Rattle.grid_demand.proofs.WireLemmas.{number-below, table-same, table-self, table-set, table-edge, length-table}
use Rattle.grid_demand.specs.LoadSums.{changed_by}
use Rattle.grid_demand.specs.Planes.{place_of, by_number}
use Rattle.grid_demand.specs.declared.loads.Change.{Change}
use Rattle.grid_demand.specs.declared.loads.Change.TheVariants.{Gain, Lose}
use Rattle.gr_base.specs.ParentEdges.{wire_only, wire_to_parent}

-- demands changed by the needs of the edges of a list
abbrev pub changed : Shape → (ℕ → ℕ → ℕ) → List ℕ → (Edge → ℕ) → List Edge → List ℕ
changed g change base need edges =
    map (λ e. change (slice_index base (wire_number e)) (need e * times e edges)) (wires_from_cells g)

-- a change of nothing, and one change after another
pub record Adds (change : ℕ → ℕ → ℕ) : Type 0 where
  pub none : (base : ℕ) → change base 0 ≡ base
  pub next : (base need n : ℕ) → change (change base (need * n)) need ≡ change base (need * (n + 1))

pub adds : (change : Change) → Adds (changed_by change)
adds Gain = record { none = λ base. omega arith; next = λ base need n. omega arith }
adds Lose = record { none = λ base. omega arith; next = λ base need n. let e : need * (n + 1) ≡ need * n + need = omega arith in omega (arith, e) }

-- no edges change nothing
pub changed-none : (g : Shape) (change : ℕ → ℕ → ℕ) (base : List ℕ) (need : Edge → ℕ) → Adds change → length base ≡ 2 * cells_of g →
    base ≡ changed g change base need []
changed-none g change base need adds long =
    table-self g base long
    ∙ table-same g (λ e. slice_index base (wire_number e)) (λ e. change (slice_index base (wire_number e)) (need e * times e []))
    (λ e wire. let nothing : need e * times e [] ≡ 0 = omega arith in
    sym (ap (λ (n : ℕ). change (slice_index base (wire_number e)) n) nothing ∙ adds.none (slice_index base (wire_number e))))

-- edges that are no wire edges change nothing
wire-kept : (e : Edge) (o : Option Edge) (edges : List Edge) → wire_only o ≡ None → IsTrue (is_wire e) → times e (edges ++ option_to_list o) ≡ times e edges
wire-kept e None edges none wire = times-append e edges [] ∙ omega arith
wire-kept e (Some via) edges none wire =
    let other : is_edge e via ≡ false = elim (cases_Bool (is_edge e via)) [
      | inl same ↦ absurd (not_wire (is_wire via) none (subst (λ (x : Edge). IsTrue (is_wire x)) (is_edge-same e via same) wire))
      | inr apart ↦ apart
    ] in
    let nothing = one_if-false (is_edge e via) other in
    times-append e edges (via ∷ []) ∙ omega (arith, nothing, times-one e via)
  where
    not_wire : (b : Bool) → (if b then Some via else None) ≡ None → IsTrue b → ⊥
    not_wire true is_none is = none-some via (sym is_none)
    not_wire false is_none is = both_ways false refl is

pub changed-via : (g : Shape) (change : ℕ → ℕ → ℕ) (base : List ℕ) (need : Edge → ℕ) (edges : List Edge) (o : Option Edge) → wire_only o ≡ None →
    changed g change base need edges ≡ changed g change base need (edges ++ option_to_list o)
changed-via g change base need edges o none =
    table-same g (λ e. change (slice_index base (wire_number e)) (need e * times e edges)) (λ e. change (slice_index base (wire_number e)) (need e * times e (edges ++ option_to_list o)))
    (λ e wire. ap (λ (n : ℕ). change (slice_index base (wire_number e)) (need e * n)) (sym (wire-kept e o edges none wire)))

-- one more wire edge changes its own demand alone
pub changed-wire : (g : Shape) (change : ℕ → ℕ → ℕ) (base : List ℕ) (need : Edge → ℕ) (edges : List Edge) (a : Edge) → Adds change →
    IsTrue (has_edge g a) → IsTrue (is_wire a) →
    slice_set (changed g change base need edges) (wire_number a) (change (slice_index (changed g change base need edges) (wire_number a)) (need a))
    ≡ changed g change base need (edges ++ a ∷ [])
changed-wire g change base need edges a adds edge wire =
    let f : Edge → ℕ = λ e. change (slice_index base (wire_number e)) (need e * times e edges) in
    let h : Edge → ℕ = λ e. change (slice_index base (wire_number e)) (need e * times e (edges ++ a ∷ [])) in
    let v = change (slice_index (map f (wires_from_cells g)) (wire_number a)) (need a) in
    let at : v ≡ change (f a) (need a) = ap (λ (n : ℕ). change n (need a)) (table-edge g f a edge wire) in
    table-set g f a v edge wire
    ∙ table-same g (λ e. if is_edge e a then v else f e) h (λ e is. elim (cases_Bool (is_edge e a)) [
      | inl same ↦
          let one = one_if-true (is_edge e a) same in
          let more : times e edges + 1 ≡ times e (edges ++ a ∷ []) = omega (arith, one, times-append e edges (a ∷ []), times-one e a) in
          let there : v ≡ change (f e) (need e) = at ∙ ap (λ (x : Edge). change (f x) (need x)) (sym (is_edge-same e a same)) in
          rw same (there ∙ adds.next (slice_index base (wire_number e)) (need e) (times e edges) ∙ ap (λ (n : ℕ). change (slice_index base (wire_number e)) (need e * n)) more)
      | inr other ↦
          let nothing = one_if-false (is_edge e a) other in
          let same_times : times e edges ≡ times e (edges ++ a ∷ []) = omega (arith, nothing, times-append e edges (a ∷ []), times-one e a) in
          rw other (ap (λ (n : ℕ). change (slice_index base (wire_number e)) (need e * n)) same_times)
    ])

-- what a node with a wire edge gives
some-wire : (o : Option Edge) (a : Edge) → wire_only o ≡ Some a → (o ≡ Some a) × IsTrue (is_wire a)
some-wire None a is = absurd (none-some a is)
some-wire (Some e) a is = tested (is_wire e) refl is
  where
    tested : (b : Bool) → is_wire e ≡ b → (if b then Some e else None) ≡ Some a → (Some e ≡ Some a) × IsTrue (is_wire a)
    tested true wire same = (same, subst (λ (x : Edge). IsTrue (is_wire x)) (same_Some e a same) wire)
    tested false wire same = absurd (none-some a same)

-- the node with a number
pub node-at : (t : TreeView) (k : ℕ) → k < length t.nodes → (node : Node) × (slice_get t.nodes k ≡ Some node)
node-at t k below = at t.nodes k below
  where
    at : (nodes : List Node) (k : ℕ) → k < length nodes → (node : Node) × (slice_get nodes k ≡ Some node)
    at [] k below = absurd (omega arith)
    at (x ∷ xs) zero below = (x, refl)
    at (x ∷ xs) (suc k) below = at xs k (omega arith)

-- the wire edge from a node of a tree to its parent: where it is, how often it stood before, and that it is the tree's
pub record IsNext (t : TreeView) (k : ℕ) (a : Edge) : Type 0 where
  pub edge : IsTrue (has_edge t.shape a)
  pub wire : IsTrue (is_wire a)
  pub first : times a (edges_before t k) ≡ 0
  pub inside : IsTrue (edges_of t a)
  pub more : edges_before t (k + 1) ≡ edges_before t k ++ a ∷ []

in_grid : (g : Shape) (edges : List Edge) (a : Edge) → ((k : ℕ) (d : Edge) → k < length edges → IsTrue (has_edge g (get_or edges k d))) → set_of edges a ≡ true → IsTrue (has_edge g a)
in_grid g [] a all is = absurd (both_ways false refl is)
in_grid g (x ∷ xs) a all is =
    elim (cases_Bool (is_edge a x)) [
      | inl same ↦ subst (λ (e : Edge). IsTrue (has_edge g e)) (sym (is_edge-same a x same)) (all 0 a (omega arith))
      | inr other ↦ let rest : set_of xs a ≡ true = rw other at is in in_grid g xs a (λ k d below. all (suc k) d (omega arith)) rest
    ]

-- a tree's edges are the grid's
pub tree-edge : (t : TreeView) (e : Edge) → HasGridEdges t → IsTrue (edges_of t e) → IsTrue (has_edge t.shape e)
tree-edge t e all inside = in_grid t.shape (tree_edges t) e all inside

pub next-wire : (t : TreeView) (k : ℕ) (a : Edge) → IsTree t → k < length t.nodes → wire_to_parent t k ≡ Some a → IsNext t k a
next-wire t k a tree below is =
    let node = node-at t k below in
    let to : wire_only (edge_to_parent t.shape t.nodes node.0) ≡ Some a =
    ap (λ (o : Option Node). wire_only (option_and_then (edge_to_parent t.shape t.nodes) o)) (sym node.1) ∙ is in
    let wire = some-wire (edge_to_parent t.shape t.nodes node.0) a to in
    let next = edge-next t k node.0 a tree node.1 wire.0 in
    record {
      edge = tree-edge t a (tree-grid_edges t tree) next.1;
      wire = wire.1;
      first = next.0;
      inside = next.1;
      more =
          edges_before-more t k node.0 node.1 (take-next t.nodes k node.0 node.1)
          ∙ ap (λ (o : Option Edge). edges_before t k ++ option_to_list o) wire.0;
    }

-- a node without a wire edge changes nothing
pub next-via : (t : TreeView) (k : ℕ) (change : ℕ → ℕ → ℕ) (base : List ℕ) (need : Edge → ℕ) → k < length t.nodes → wire_to_parent t k ≡ None →
    changed t.shape change base need (edges_before t k) ≡ changed t.shape change base need (edges_before t (k + 1))
next-via t k change base need below is =
    let node = node-at t k below in
    let to : wire_only (edge_to_parent t.shape t.nodes node.0) ≡ None =
    ap (λ (o : Option Node). wire_only (option_and_then (edge_to_parent t.shape t.nodes) o)) (sym node.1) ∙ is in
    changed-via t.shape change base need (edges_before t k) (edge_to_parent t.shape t.nodes node.0) to
    ∙ ap (changed t.shape change base need) (sym (edges_before-more t k node.0 node.1 (take-next t.nodes k node.0 node.1)))

-- the demands after the next node's wire edge
pub next-changed : (t : TreeView) (k : ℕ) (change : ℕ → ℕ → ℕ) (base old : List ℕ) (need : Edge → ℕ) (a : Edge) → Adds change → IsNext t k a →
    old ≡ changed t.shape change base need (edges_before t k) →
    slice_set old (wire_number a) (change (slice_index old (wire_number a)) (need a)) ≡ changed t.shape change base need (edges_before t (k + 1))
next-changed t k change base old need a adds next is =
    ap (λ (xs : List ℕ). slice_set xs (wire_number a) (change (slice_index xs (wire_number a)) (need a))) is
    ∙ changed-wire t.shape change base need (edges_before t k) a adds next.edge next.wire
    ∙ ap (changed t.shape change base need) (sym next.more)

-- the demand of the next node's wire edge is still what it was
pub next-before : (t : TreeView) (k : ℕ) (change : ℕ → ℕ → ℕ) (base old : List ℕ) (need : Edge → ℕ) (a : Edge) → Adds change → IsNext t k a →
    old ≡ changed t.shape change base need (edges_before t k) → slice_index old (wire_number a) ≡ slice_index base (wire_number a)
next-before t k change base old need a adds next is =
    let nothing : need a * times a (edges_before t k) ≡ 0 = rw next.first (omega arith) in
    ap (λ (xs : List ℕ). slice_index xs (wire_number a)) is
    ∙ table-edge t.shape (λ e. change (slice_index base (wire_number e)) (need e * times e (edges_before t k))) a next.edge next.wire
    ∙ ap (λ (n : ℕ). change (slice_index base (wire_number a)) n) nothing ∙ adds.none (slice_index base (wire_number a))

needed : (b : Bool) (n : ℕ) → n * (if b then 1 else 0) ≡ (if b then n else 0)
needed true n = omega arith
needed false n = omega arith

take-all : (nodes : List Node) (n : ℕ) → n ≡ length nodes → take n nodes ≡ nodes
take-all [] zero is = refl
take-all [] (suc n) is = refl
take-all (x ∷ xs) zero is = absurd (omega arith)
take-all (x ∷ xs) (suc n) is = ap (λ (ns : List Node). x ∷ ns) (take-all xs n (omega arith))

-- after all nodes each edge of the tree has changed by its need once
pub changed-all : (t : TreeView) (k : ℕ) (change : ℕ → ℕ → ℕ) (base : List ℕ) (need : Edge → ℕ) → IsTree t → k ≡ length t.nodes →
    changed t.shape change base need (edges_before t k)
    ≡ map (λ e. change (slice_index base (wire_number e)) (if edges_of t e then need e else 0)) (wires_from_cells t.shape)
changed-all t k change base need tree all =
    let whole : edges_before t k ≡ tree_edges t =
    ap (λ (ns : List Node). filter_map (edge_to_parent t.shape t.nodes) ns) (take-all t.nodes k all) in
    ap (changed t.shape change base need) whole
    ∙ table-same t.shape (λ e. change (slice_index base (wire_number e)) (need e * times e (tree_edges t)))
    (λ e. change (slice_index base (wire_number e)) (if edges_of t e then need e else 0))
    (λ e wire. ap (λ (n : ℕ). change (slice_index base (wire_number e)) n)
    (ap (λ (n : ℕ). need e * n) (times-set e (tree_edges t) (tree-distinct_edges t tree e)) ∙ needed (edges_of t e) (need e)))

-- a length of demands that have changed
pub length-changed : (g : Shape) (change : ℕ → ℕ → ℕ) (base : List ℕ) (need : Edge → ℕ) (edges : List Edge) → length (changed g change base need edges) ≡ 2 * cells_of g
length-changed g change base need edges = length-table g (λ e. change (slice_index base (wire_number e)) (need e * times e edges))

-- a turn of the loop over a tree's nodes that comes to a wire edge
pub record IsTurn (t : TreeView) (k : ℕ) (base now : List ℕ) (e : Edge) (place : ℕ) : Type 0 where
  pub next : IsNext t k e
  pub long : length now ≡ 2 * cells_of t.shape
  pub stands : StandsAt 0 now (wire_number e) place
  pub before : slice_index now place ≡ slice_index base (wire_number e)

pub turn : (t : TreeView) (k : ℕ) (change : ℕ → ℕ → ℕ) (base now : List ℕ) (need : Edge → ℕ) (e : Edge) (wires place : ℕ) → Adds change →
    by_number 0 now ≡ changed t.shape change base need (edges_before t k) → IsTree t → k < length t.nodes → wire_to_parent t k ≡ Some e →
    wires ≡ length now → place ≡ place_of wires (wire_number e) → IsTurn t k base now e place
turn t k change base now need e wires place all is tree below edge whole at =
    let next = next-wire t k e tree below edge in
    let long : length now ≡ 2 * cells_of t.shape = sym (length-by_number 0 now) ∙ ap length is ∙ length-changed t.shape change base need (edges_before t k) in
    let inside = number-below t.shape e next.edge in
    let there = stands 0 now wires (wire_number e) place (omega (arith, long, inside)) whole at in
    record {
      next = next;
      long = long;
      stands = there;
      before = there.value ∙ next-before t k change base (by_number 0 now) need e all next is;
    }

-- what is written in it
pub turn-written : (t : TreeView) (k : ℕ) (change : ℕ → ℕ → ℕ) (base now : List ℕ) (need : Edge → ℕ) (e : Edge) (place read taken new : ℕ) → Adds change →
    by_number 0 now ≡ changed t.shape change base need (edges_before t k) → IsTurn t k base now e place →
    read ≡ slice_index now place → taken ≡ need e → new ≡ change read taken →
    by_number 0 (slice_set now place new) ≡ changed t.shape change base need (edges_before t (k + 1))
turn-written t k change base now need e place read taken new all is turn_is reads takes makes =
    let value : new ≡ change (slice_index (by_number 0 now) (wire_number e)) (need e) =
    makes ∙ ap (λ (n : ℕ). change n taken) (reads ∙ turn_is.stands.value)
    ∙ ap (λ (n : ℕ). change (slice_index (by_number 0 now) (wire_number e)) n) takes in
    written-at now (cells_of t.shape) (wire_number e) place new turn_is.long turn_is.stands
    ∙ ap (λ (n : ℕ). slice_set (by_number 0 now) (wire_number e) n) value
    ∙ next-changed t k change base (by_number 0 now) need e all turn_is.next is
