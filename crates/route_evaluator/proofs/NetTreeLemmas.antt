-- The edges of a set are a tree exactly where the tree of the cells that they reach has as many edges and each pin.
use Rattle.std.proofs.Common.{◌≡◌, ℕ, ◌+◌, ◌<◌, ◌≤◌, inl, inr, Bool, true, false, ◌==◌, List, [], ◌∷◌, get_or, length, All, Some, IsTrue, refl, sym, ap, subst, ◌∙◌, arith}
use Rattle.std.specs.List.{list_all}
use Rattle.std.proofs.lemmas.Bool.{or_cases, or_right, and_parts, and_from, eqb-true, false≢true}
use Rattle.std.proofs.lemmas.Bool.Decides.{nat_tests}
use Rattle.std.proofs.lemmas.List.Elements.{All-nil, All-cons}
use Rattle.std.proofs.lemmas.Option.{same_Some}
use Rattle.gr_base.specs.declared.grid.Edge.{Edge}
use Rattle.gr_base.specs.declared.grid.Shape.{Shape}
use Rattle.gr_base.specs.Grid.{high_of, has_edge, Joins}
use Rattle.gr_base.specs.EdgeSets.{Edges}
use Rattle.gr_base.specs.Trees.{TreeView, cell_at, holds, IsTree, is_among, edges_of}
use Rattle.gr_base.proofs.GridLemmas.{joins-swap}
use Rattle.gr_base.proofs.TreeEdges.{found-at}
use Rattle.solution_text.specs.Runs.{LieIn}
use Rattle.solution_text.proofs.CoverLemmas.{bool-same}
use Rattle.route_evaluator.specs.NetTrees.{StepsTo, IsPath, OnePath, IsTouched, AreTree, HasJust}
use Rattle.route_evaluator.specs.EdgeNumbers.{edges_numbered}
use Rattle.route_evaluator.specs.Floods.{IsReach}
use Rattle.route_evaluator.specs.NumberSets.{has_number}
use Rattle.route_evaluator.proofs.CountLemmas.{times}
use Rattle.route_evaluator.proofs.ListedLemmas.{none-left, as-many}
use Rattle.route_evaluator.proofs.PathLemmas.{step-more, path-more, joins-apart, among-first}
use Rattle.route_evaluator.proofs.TreePaths.{one-path, ends-held}
use Rattle.route_evaluator.proofs.FloodLemmas.{joins-edge_of}

-- ---- tests of all pins

pub all-pins : (p : ℕ → Bool) (pins : List ℕ) → list_all p pins ≡ true → (pin : ℕ) → is_among pins pin ≡ true → p pin ≡ true
all-pins p [] all pin here = absurd (false≢true here)
all-pins p (x ∷ pins) all pin here =
    let parts = and_parts (p x) (list_all p pins) all in
    elim (or_cases (x == pin) (is_among pins pin) here) [
      | inl same ↦ ap p (sym (eqb-true x pin same)) ∙ parts.0
      | inr later ↦ all-pins p pins parts.1 pin later
    ]

pub pins-all : (p : ℕ → Bool) (pins : List ℕ) → ((pin : ℕ) → is_among pins pin ≡ true → p pin ≡ true) → list_all p pins ≡ true
pins-all p [] each = refl
pins-all p (x ∷ pins) each =
    and_from (p x) (list_all p pins) (each x (among-first x pins))
    (pins-all p pins (λ pin here. each pin (or_right (x == pin) (is_among pins pin) here)))

pub All-pins : (p : ℕ → Bool) (pins : List ℕ) → list_all p pins ≡ true → All (λ pin. IsTrue (p pin)) pins
All-pins p [] all = All-nil (λ pin. IsTrue (p pin))
All-pins p (x ∷ pins) all =
    let parts = and_parts (p x) (list_all p pins) all in
    All-cons (λ pin. IsTrue (p pin)) x pins parts.0 (All-pins p pins parts.1)

-- ---- a closed tree

-- the cells of a path that begins in a closed tree are the tree's
path-held : (set : Edges) (t : TreeView) → ((cell other : ℕ) → holds t cell ≡ true → StepsTo t.shape set cell other → holds t other ≡ true) → (a b : ℕ) (path : List ℕ) → holds t a ≡ true → IsPath t.shape set a b path → holds t b ≡ true
path-held set t is a b [] held leads = let P : ℕ → Type 0 = λ c. holds t c ≡ true in subst P leads held
path-held set t is a b (next ∷ after) held leads = path-held set t is next b after (is a next held leads.0) leads.2

joins-ends : (g : Shape) (e : Edge) → IsTrue (has_edge g e) → Joins g e e.low (high_of g e)
joins-ends g e edge = record { edge = edge; ends = inl (refl, refl) }

alone : (a b : ℕ) → (a ≡ b → ⊥) → is_among (b ∷ []) a ≡ false
alone a b apart = let test : (b == a) ≡ false = grind (arith, nat_tests) in rw test refl

module _ (set : Edges) (t : TreeView) (pins : List ℕ) (driver : ℕ) (tree : IsTree t) (in_grid : LieIn t.shape set) (within : (e : Edge) → edges_of t e ≡ true → set e ≡ true)
    (closed : (cell other : ℕ) → holds t cell ≡ true → StepsTo t.shape set cell other → holds t other ≡ true) (first : cell_at t.nodes 0 ≡ Some driver) (is_pin : is_among pins driver ≡ true) where
  -- an edge of the set between two cells of the tree is one of the tree's, where one path alone leads from the one to the other
  only-edge : (e : Edge) → set e ≡ true → holds t e.low ≡ true → holds t (high_of t.shape e) ≡ true → OnePath t.shape set e.low (high_of t.shape e) → edges_of t e ≡ true
  only-edge e here low high only =
      let g = t.shape in
      let end = high_of g e in
      let joins = joins-ends g e (in_grid e here) in
      let one = one-path t tree e.low end low high in
      let short : IsPath g set e.low end (end ∷ []) = (record { edge = e; among = here; joins = joins }, alone e.low end (joins-apart g e e.low end joins), refl) in
      let long : IsPath g set e.low end one.path = path-more g (edges_of t) set (step-more g (edges_of t) set within) e.low end one.path one.leads in
      let same : one.path ≡ end ∷ [] = only.only one.path long ∙ sym (only.only (end ∷ []) short) in
      let P : List ℕ → Type 0 = λ cells. IsPath g (edges_of t) e.low end cells in
      let step : StepsTo g (edges_of t) e.low end = (subst P same one.leads).0 in
      let is : step.edge ≡ e = same_Some step.edge e (sym (joins-edge_of g step.edge e.low end step.joins) ∙ joins-edge_of g e e.low end joins) in
      let Q : Edge → Type 0 = λ d. edges_of t d ≡ true in
      subst Q is step.among

  reached : AreTree t.shape set pins → (cell : ℕ) → IsTouched t.shape set pins cell → holds t cell ≡ true
  reached are cell touched =
      let path = are driver cell (inr is_pin) touched in
      path-held set t closed driver cell path.path (found-at t.nodes 0 driver first) path.leads

  -- where the set is a tree, each of its edges is the flooded tree's
  pub all-edges : AreTree t.shape set pins → (e : Edge) → set e ≡ true → edges_of t e ≡ true
  all-edges are e here =
      let low : IsTouched t.shape set pins e.low = inl (e, here, inl refl) in
      let high : IsTouched t.shape set pins (high_of t.shape e) = inl (e, here, inr refl) in
      only-edge e here (reached are e.low low) (reached are (high_of t.shape e) high) (are e.low (high_of t.shape e) low high)

  pub every-pin : AreTree t.shape set pins → (pin : ℕ) → is_among pins pin ≡ true → holds t pin ≡ true
  every-pin are pin here = reached are pin (inr here)

-- the edges of a tree that holds the pins are a tree for them
pub are-tree : (set : Edges) (t : TreeView) (pins : List ℕ) → IsTree t → LieIn t.shape set → HasJust set t →
    ((pin : ℕ) → is_among pins pin ≡ true → holds t pin ≡ true) → AreTree t.shape set pins
are-tree set t pins tree in_grid just pinned = λ a b touched_a touched_b.
    let g = t.shape in
    let one = one-path t tree a b (held a touched_a) (held b touched_b) in
    let on = step-more g (edges_of t) set (λ e here. sym (just e) ∙ here) in
    let back = step-more g set (edges_of t) (λ e here. just e ∙ here) in
    record {
      path = one.path;
      leads = path-more g (edges_of t) set on a b one.path one.leads;
      only = λ other leads. one.only other (path-more g set (edges_of t) back a b other leads);
    }
  where
    held : (cell : ℕ) → IsTouched t.shape set pins cell → holds t cell ≡ true
    held cell (inr pin) = pinned cell pin
    held cell (inl end) =
        let e : Edge = end.0 in
        let joins = joins-ends t.shape e (in_grid e end.1) in
        let H : ℕ → Type 0 = λ c. holds t c ≡ true in
        let inside : edges_of t e ≡ true = just e ∙ end.1 in
        elim end.2 [
          | inl low ↦ subst H low (ends-held t tree e e.low (high_of t.shape e) inside joins)
          | inr high ↦ subst H high (ends-held t tree e (high_of t.shape e) e.low inside (joins-swap t.shape e e.low (high_of t.shape e) joins))
        ]

-- ---- what the tree of the reached cells shows of the set

pub first-pin : (pins : List ℕ) → 0 < length pins → is_among pins (get_or pins 0 0) ≡ true
first-pin [] some = absurd (omega arith)
first-pin (pin ∷ pins) some = among-first pin pins

module _ (g : Shape) (numbers pins cells : List ℕ) (t : TreeView) (in_grid : LieIn g (edges_numbered numbers)) (some : 0 < length pins)
    (reach : IsReach g (edges_numbered numbers) (get_or pins 0 0) cells t) where
  abbrev set : Edges
  set = edges_numbered numbers

  within-grid : LieIn t.shape set
  within-grid = subst (λ (s : Shape). LieIn s set) (sym reach.shape) in_grid

  pub has-just : length numbers + 1 ≡ length t.nodes → HasJust set t
  has-just size = λ e.
      bool-same (edges_of t e) (set e) (reach.within e) (none-left numbers t reach.tree reach.within (omega (arith, size, reach.count)) e)

  pub pins-held : list_all (has_number cells) pins ≡ true → (pin : ℕ) → is_among pins pin ≡ true → holds t pin ≡ true
  pins-held all pin here = reach.held pin ∙ all-pins (has_number cells) pins all pin here

  pub is-tree : length numbers + 1 ≡ length t.nodes → list_all (has_number cells) pins ≡ true → AreTree g set pins
  is-tree size all =
      subst (λ (s : Shape). AreTree s set pins) reach.shape (are-tree set t pins reach.tree within-grid (has-just size) (pins-held all))

  module _ (are : AreTree g set pins) where
    are-here : AreTree t.shape set pins
    are-here = subst (λ (s : Shape). AreTree s set pins) (sym reach.shape) are

    pub as-many-edges : ((n : ℕ) → times numbers n ≤ 1) → length numbers + 1 ≡ length t.nodes
    as-many-edges once =
        let all = all-edges set t pins (get_or pins 0 0) reach.tree within-grid reach.within reach.closed reach.start (first-pin pins some) are-here in
        omega (arith, as-many numbers t reach.tree reach.within once all, reach.count)

    pub no-pin-left : list_all (has_number cells) pins ≡ true
    no-pin-left = pins-all (has_number cells) pins (λ pin here.
        sym (reach.held pin)
        ∙ every-pin set t pins (get_or pins 0 0) reach.tree within-grid reach.within reach.closed reach.start (first-pin pins some) are-here pin here)
