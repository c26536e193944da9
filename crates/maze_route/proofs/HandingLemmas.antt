-- A cell that hands its label on is relaxed.
use Rattle.std.proofs.Common.{◌≡◌, ℕ, ◌<◌, inl, inr, Bool, length, Option, Some, None, IfSome, refl, ap, ◌∙◌}
use Rattle.std.specs.Option.{option_map}
use Rattle.cost_rules.specs.Prices.{ArePrices}
use Rattle.gr_base.specs.declared.grid.Edge.{Edge}
use Rattle.gr_base.specs.declared.grid.Way.{Way}
use Rattle.gr_base.specs.declared.grid.Way.TheVariants.{East, North, Up}
use Rattle.gr_base.specs.Trees.{TreeView}
use Rattle.maze_route.specs.Search.{IsConsistent, HasCosts, IsRelaxed, IsSearching}
use Rattle.maze_route.specs.Handing.{HandsOn}
use Rattle.maze_route.specs.Steps.{Step, size_of, pane_step, pane_graph, rest_of, IsGuide, step_to, made_step, ahead_of, behind_of, steps_from}
use Rattle.maze_route.specs.declared.front.Frontier.{Frontier}
use Rattle.maze_route.specs.declared.pane.Pane.{Pane}
use Rattle.maze_route.specs.declared.pane.Aim.{Aim}
use Rattle.maze_route.proofs.StepLemmas.{step-by, step-least, step-to-some, ahead-is, behind-is, at-some}
use Rattle.maze_route.proofs.SearchLemmas.{labels_of, Grown, IsReached, AllSteps, CanTake, reach-all}

if-some : (o : Option Step) (P : Step → Type 0) → ((s : Step) → o ≡ Some s → P s) → IfSome o P
if-some None P all = tt
if-some (Some s) P all = all s refl

-- the steps from a cell can be taken
can-take : (p : Pane) (t : TreeView) (price : Edge → Option ℕ) (aim : Aim) (n : ℕ) (o : Option ℕ) →
    IfSome (step_to p price aim n o) (CanTake (pane_graph p t price) (rest_of p aim) (size_of p) n)
can-take p t price aim n o =
    if-some (step_to p price aim n o) (CanTake (pane_graph p t price) (rest_of p aim) (size_of p) n) (λ s is.
    let to = step-to-some p price aim n o s is in
    let by = step-by p price n s.cell s.cost to.1.0 in
    let inside : s.cell < size_of p = elim (by.next) [ inl next ↦ next.inside | inr next ↦ next.low_inside ] in
    (record { taken = to.1.0; left = to.1.1 }, inside))

-- a step that the graph has stands among them
taken-by : (p : Pane) (price : Edge → Option ℕ) (aim : Aim) (n m k : ℕ) (o : Option ℕ) → o ≡ Some m → pane_step p price n m ≡ Some k →
    step_to p price aim n o ≡ Some (made_step p aim m k)
taken-by p price aim n m k o leads costs =
    ap (λ (q : Option ℕ). step_to p price aim n q) leads ∙ ap (λ (c : Option ℕ). option_map (made_step p aim m) c) costs

pick-ahead : (p : Pane) (price : Edge → Option ℕ) (aim : Aim) (n : ℕ) (P : Step → Type 0) (way : Way) → AllSteps P (steps_from p price aim n) → IfSome (step_to p price aim n (ahead_of p.shape n way)) P
pick-ahead p price aim n P East all = all.1.1.1.0
pick-ahead p price aim n P North all = all.1.1.1.1.0
pick-ahead p price aim n P Up all = all.1.1.1.1.1.0

pick-behind : (p : Pane) (price : Edge → Option ℕ) (aim : Aim) (n : ℕ) (P : Step → Type 0) (way : Way) → AllSteps P (steps_from p price aim n) → IfSome (step_to p price aim n (behind_of p.shape n way)) P
pick-behind p price aim n P Up all = all.0
pick-behind p price aim n P North all = all.1.0
pick-behind p price aim n P East all = all.1.1.0

pub pick-step : (p : Pane) (price : Edge → Option ℕ) (aim : Aim) (n m k : ℕ) (P : Step → Type 0) → pane_step p price n m ≡ Some k → AllSteps P (steps_from p price aim n) →
    P (made_step p aim m k)
pick-step p price aim n m k P taken all =
    let by = step-by p price n m k taken in
    elim (by.next) [
      | inl next ↦
          at-some (step_to p price aim n (ahead_of p.shape n by.way)) (made_step p aim m k) P
          (taken-by p price aim n m k (ahead_of p.shape n by.way) (ahead-is p n m by.way next) taken) (pick-ahead p price aim n P by.way all)
      | inr next ↦
          at-some (step_to p price aim n (behind_of p.shape n by.way)) (made_step p aim m k) P
          (taken-by p price aim n m k (behind_of p.shape n by.way) (behind-is p n m by.way next) taken) (pick-behind p price aim n P by.way all)
    ]

pub pane-costs : (p : Pane) (t : TreeView) (ways : ℕ → Way → Bool) (price : Edge → Option ℕ) → ArePrices p.grid ways price → HasCosts (pane_graph p t price)
pane-costs p t ways price prices u v k taken = step-least p ways price prices u v k taken

pub pane-rest : (p : Pane) (t : TreeView) (price : Edge → Option ℕ) (aim : Aim) → IsGuide p price aim → IsConsistent (pane_graph p t price) (rest_of p aim)
pane-rest p t price aim guide u v k taken = guide.falls u v k taken

-- a settled cell is relaxed
pub spread-grown : (p : Pane) (t : TreeView) (ways : ℕ → Way → Bool) (price : Edge → Option ℕ) (aim : Aim) (cell from : ℕ) (before after : Frontier) → ArePrices p.grid ways price →
    IsSearching (pane_graph p t price) (rest_of p aim) (labels_of before) before.queue.pairs cell → labels_of before cell ≡ Some from →
    length before.labels.costs.items ≡ size_of p → HandsOn p price aim cell from before after →
    (Grown (pane_graph p t price) (rest_of p aim) cell from before after) × IsRelaxed (pane_graph p t price) (labels_of after) cell from
spread-grown p t ways price aim cell from before after prices searching is all spreads =
    let can = can-take p t price aim cell in
    let grown = reach-all (pane_graph p t price) (rest_of p aim) cell from (size_of p) (steps_from p price aim cell) before after
    (pane-costs p t ways price prices) searching is all
    (can (behind_of p.shape cell Up), (can (behind_of p.shape cell North), (can (behind_of p.shape cell East), (can (ahead_of p.shape cell East), (can (ahead_of p.shape cell North), (can (ahead_of p.shape cell Up), tt))))))
    spreads in
    (grown.0, λ v k taken small. pick-step p price aim cell v k (IsReached (labels_of after) from) taken grown.1 small)
