-- The frontier at which a search begins.
use Rattle.std.proofs.Common.{◌≡◌, ℕ, ◌+◌, ◌<◌, ◌≤◌, inl, inr, Bool, true, ◌&&◌, nat_lt, length, Option, Some, is_some, IsTrue, sym, ap, subst, ◌∙◌, arith}
use Rattle.std.proofs.lemmas.Bool.{cases_eq}
use Rattle.std.proofs.lemmas.Bool.Decides.{nat_tests}
use Rattle.std.proofs.lemmas.Option.{same_Some}
use Rattle.gr_base.specs.declared.grid.Cell.{Cell}
use Rattle.gr_base.specs.declared.grid.Edge.{Edge}
use Rattle.gr_base.specs.declared.grid.Shape.{Shape}
use Rattle.gr_base.specs.Trees.{TreeView, holds, cell_at, node_with}
use Rattle.gr_base.proofs.TreeLemmas.{some_from, node_with-at, cell_at-within}
use Rattle.maze_route.specs.Search.{HasSources, IsSearching}
use Rattle.maze_route.specs.Handing.{IsReach}
use Rattle.maze_route.specs.Steps.{Step, size_of, cell_in, local_of, pane_source, pane_graph, rest_of, least_to, IsSpot, IsSeededTo}
use Rattle.maze_route.specs.Windows.{in_window, TreeLiesIn}
use Rattle.maze_route.specs.declared.front.Frontier.{Frontier}
use Rattle.maze_route.specs.declared.pane.Pane.{Pane}
use Rattle.maze_route.specs.declared.pane.Spot.{Spot}
use Rattle.maze_route.specs.declared.pane.Aim.{Aim}
use Rattle.maze_route.proofs.PaneLemmas.{local-cell}
use Rattle.maze_route.proofs.SearchLemmas.{labels_of, seed-grown, seed-low, sources-fall}

-- a cell of the tree lies in the window
pub tree-window : (p : Pane) (t : TreeView) (node cell : ℕ) → t.shape ≡ p.grid → TreeLiesIn p.window t → node_with t.nodes cell ≡ Some node →
    IsTrue (in_window p.grid p.window cell)
tree-window p t node cell same lies found =
    let P : Shape → Type 0 = λ g. IsTrue (in_window g p.window cell) in
    subst P same (lies cell (ap (λ (o : Option ℕ). is_some o) found))

both : (a b : Bool) → a ≡ true → b ≡ true → IsTrue (a && b)
both a b first second = grind (arith, nat_tests)

pub tree-source : (p : Pane) (t : TreeView) (node cell local : ℕ) → node_with t.nodes cell ≡ Some node → local < size_of p → cell_in p local ≡ cell →
    IsTrue (pane_source p t local)
tree-source p t node cell local found inside is =
    both (nat_lt local (size_of p)) (holds t (cell_in p local)) (grind (arith, nat_tests))
    (ap (λ (c : ℕ). holds t c) is ∙ ap (λ (o : Option ℕ). is_some o) found)

-- one more node
pub seed-turn : (p : Pane) (t : TreeView) (price : Edge → Option ℕ) (aim : Aim) (node cell : ℕ) (spot : Spot) (step : Step) (before after : Frontier) →
    node_with t.nodes cell ≡ Some node → IsSpot p spot → spot.local ≡ local_of p cell → cell_in p (local_of p cell) ≡ cell →
    step.cell ≡ spot.local → step.cost ≡ 0 → step.rest ≡ least_to aim spot.place → length before.labels.costs.items ≡ size_of p →
    IsReach 0 (Some step) before after →
    IsSearching (pane_graph p t price) (rest_of p aim) (labels_of before) before.queue.pairs (size_of p) →
    IsSearching (pane_graph p t price) (rest_of p aim) (labels_of after) after.queue.pairs (size_of p)
seed-turn p t price aim node cell spot step before after found is_spot local back is_cell free left all reach searching =
    let inside : step.cell < size_of p = omega (arith, is_spot.inside) in
    let own : cell_in p step.cell ≡ cell = ap (λ (n : ℕ). cell_in p n) (is_cell ∙ local) ∙ back in
    let source = tree-source p t node cell step.cell found inside own in
    let tiles : Cell → ℕ = λ q. least_to aim q in
    let rest : step.rest ≡ rest_of p aim step.cell = left ∙ ap tiles is_spot.place ∙ ap (λ (n : ℕ). rest_of p aim n) (sym is_cell) in
    seed-grown (pane_graph p t price) (rest_of p aim) (size_of p) step before after searching source free rest (omega arith) reach

pub seeded-turn : (p : Pane) (t : TreeView) (node next cell : ℕ) (spot : Spot) (step : Step) (before after : Frontier) →
    next ≡ node + 1 → cell_at t.nodes node ≡ Some cell → IsSpot p spot → spot.local ≡ local_of p cell → step.cell ≡ spot.local → step.cost ≡ 0 →
    length before.labels.costs.items ≡ size_of p → IsReach 0 (Some step) before after → IsSeededTo p t (labels_of before) node → IsSeededTo p t (labels_of after) next
seeded-turn p t node next cell spot step before after is_next at is_spot local is_cell free all reach seeded k other below is =
    let low = seed-low step before after free (omega (arith, is_spot.inside)) reach in
    elim (cases_eq k node) [
      | inl same ↦
          let P : ℕ → Type 0 = λ m. cell_at t.nodes m ≡ Some other in
          let e : cell ≡ other = same_Some cell other (sym at ∙ subst P same is) in
          ap (λ (c : ℕ). labels_of after (local_of p c)) (sym e) ∙ ap (λ (n : ℕ). labels_of after n) (sym (is_cell ∙ local)) ∙ low.1
      | inr apart ↦ sources-fall (labels_of before) (labels_of after) (local_of p other) low.0 (seeded k other (omega arith) is)
    ]

-- after the last node
pub seed-done : (p : Pane) (t : TreeView) (price : Edge → Option ℕ) (label : ℕ → Option ℕ) (nodes : ℕ) → length t.nodes ≤ nodes → IsSeededTo p t label nodes → HasSources (pane_graph p t price) label
seed-done p t price label nodes all seeded v source =
    let below : v < size_of p = grind (arith, nat_tests) in
    let held : holds t (cell_in p v) ≡ true = grind (arith, nat_tests) in
    let found = some_from (node_with t.nodes (cell_in p v)) held in
    let at = node_with-at t.nodes (cell_in p v) found.0 found.1 in
    let within = cell_at-within t.nodes found.0 (cell_in p v) at in
    ap (λ (n : ℕ). label n) (sym (local-cell p v below)) ∙ seeded found.0 (cell_in p v) (omega arith) at
