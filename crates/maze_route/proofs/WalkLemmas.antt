-- The walk back, cell by cell.
use Rattle.std.proofs.Common.{◌≡◌, ℕ, ◌-◌, ◌<◌, inl, inr, Bool, false, List, [], ◌∷◌, ◌++◌, map, Option, append_assoc, refl, sym, ap, subst, ◌∙◌, arith}
use Rattle.std.proofs.lemmas.Bool.{cases_Bool}
use Rattle.cost_rules.specs.Prices.{ArePrices}
use Rattle.gr_base.specs.declared.grid.Edge.{Edge}
use Rattle.gr_base.specs.declared.grid.Way.{Way}
use Rattle.gr_base.specs.Trees.{TreeView}
use Rattle.maze_route.specs.Backs.{IsNear, IsWalkBack}
use Rattle.maze_route.specs.Steps.{Step, cell_in, pane_graph, rest_of}
use Rattle.maze_route.specs.Walks.{IsFirstBack, LeadsBack}
use Rattle.maze_route.specs.declared.pane.Pane.{Pane}
use Rattle.maze_route.proofs.BackLemmas.{GoesBack}
use Rattle.maze_route.proofs.Distances.{guided-distance, source-zero, distance-source}
use Rattle.maze_route.proofs.HandingLemmas.{pane-costs}

-- the cells so far, by numbers in the window, and how a walk from the cell in hand makes up the whole
pub record IsOnWay (p : Pane) (t : TreeView) (price : Edge → Option ℕ) (label : ℕ → Option ℕ) (goal : ℕ) (cells : List ℕ) (cell left : ℕ) : Type 0 where
  pub near : IsNear p t price label cell left
  pub done : List ℕ
  pub are : cells ≡ map (cell_in p) done
  pub starts : (rest : List ℕ) → (tail : List ℕ) × (done ++ cell ∷ rest ≡ goal ∷ tail)
  pub onward : (rest : List ℕ) → LeadsBack (pane_graph p t price) (cell ∷ rest) → LeadsBack (pane_graph p t price) (done ++ cell ∷ rest)

pub way-start : (p : Pane) (t : TreeView) (price : Edge → Option ℕ) (label : ℕ → Option ℕ) (goal cell left : ℕ) (cells : List ℕ) →
    cells ≡ [] → cell ≡ goal → IsNear p t price label goal left → IsOnWay p t price label goal cells cell left
way-start p t price label goal cell left cells none same near =
    let P : ℕ → Type 0 = λ n. IsNear p t price label n left in
    record {
      near = subst P (sym same) near;
      done = [];
      are = none;
      starts = λ rest. (rest, ap (λ (n : ℕ). n ∷ rest) same);
      onward = λ rest leads. leads;
    }

map-push : (f : ℕ → ℕ) (xs : List ℕ) (x : ℕ) → map f (xs ++ x ∷ []) ≡ map f xs ++ f x ∷ []
map-push f [] x = refl
map-push f (y ∷ ys) x = ap (λ (zs : List ℕ). f y ∷ zs) (map-push f ys x)

-- a cell that something is left from is no source
outside : (p : Pane) (t : TreeView) (price : Edge → Option ℕ) (label : ℕ → Option ℕ) (cell left : ℕ) →
    IsNear p t price label cell left → 0 < left → (pane_graph p t price).source cell ≡ false
outside p t price label cell left near some =
    let graph = pane_graph p t price in
    let distance = guided-distance graph (rest_of p near.aim) label near.bound near.consistent near.guided cell left near.labelled near.near in
    elim (cases_Bool (graph.source cell)) [
      | inl source ↦ let h = distance-source graph cell left distance source in absurd (omega arith)
      | inr isnt ↦ isnt
    ]

pub way-turn : (p : Pane) (t : TreeView) (price : Edge → Option ℕ) (label : ℕ → Option ℕ) (goal cell left next left_next at : ℕ) (step : Step) (cells cells_next : List ℕ) →
    IsOnWay p t price label goal cells cell left → 0 < left → GoesBack p t price label cell left step →
    next ≡ step.cell → left_next ≡ left - step.cost → at ≡ cell_in p cell → cells_next ≡ cells ++ at ∷ [] →
    IsOnWay p t price label goal cells_next next left_next
way-turn p t price label goal cell left next left_next at step cells cells_next way some back is_next is_left is_at pushed =
    let graph = pane_graph p t price in
    let P : ℕ → Type 0 = λ n. IsNear p t price label n left_next in
    let Q : ℕ → Type 0 = λ n. IsNear p t price label step.cell n in
    let F : ℕ → Type 0 = λ n. IsFirstBack graph cell n in
    let first = subst F (sym is_next) back.first in
    let done = way.done ++ cell ∷ [] in
    record {
      near = subst P (sym is_next) (subst Q (sym is_left) back.near);
      done = done;
      are = pushed ∙ ap (λ (xs : List ℕ). xs ++ at ∷ []) way.are ∙ ap (λ (n : ℕ). map (cell_in p) way.done ++ n ∷ []) is_at ∙ sym (map-push (cell_in p) way.done cell);
      starts = λ rest. let whole = way.starts (next ∷ rest) in (whole.0, append_assoc way.done (cell ∷ []) (next ∷ rest) ∙ whole.1);
      onward = λ rest leads.
          let L : List ℕ → Type 0 = λ xs. LeadsBack graph xs in
          subst L (sym (append_assoc way.done (cell ∷ []) (next ∷ rest)))
          (way.onward (next ∷ rest) (outside p t price label cell left way.near some, (first, leads)));
    }

pub way-end : (p : Pane) (t : TreeView) (ways : ℕ → Way → Bool) (price : Edge → Option ℕ) (label : ℕ → Option ℕ) (goal cell left at : ℕ) (cells whole : List ℕ) →
    ArePrices p.grid ways price → IsOnWay p t price label goal cells cell left → left ≡ 0 → at ≡ cell_in p cell → whole ≡ cells ++ at ∷ [] →
    IsWalkBack p t price goal whole
way-end p t ways price label goal cell left at cells whole prices way none is_at pushed =
    let graph = pane_graph p t price in
    let source = source-zero graph cell left (pane-costs p t ways price prices) (way.near.guided.walked cell left way.near.labelled) none in
    let start = way.starts [] in
    record {
      locals = way.done ++ cell ∷ [];
      are = pushed ∙ ap (λ (xs : List ℕ). xs ++ at ∷ []) way.are ∙ ap (λ (n : ℕ). map (cell_in p) way.done ++ n ∷ []) is_at ∙ sym (map-push (cell_in p) way.done cell);
      rest = start.0;
      begins = start.1;
      leads = way.onward [] source;
    }
