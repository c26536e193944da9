use Rattle.std.proofs.Common.{◌≡◌, ℕ, List, Err, subst, ◌∙◌}
use Rattle.std.specs.Result.{OnOk, IfOk}
use Rattle.gr_base.specs.declared.frame.Frame.{Frame}
use Rattle.gr_base.specs.declared.grid.Shape.{Shape}
use Rattle.gr_base.specs.Designs.{pins_at}
use Rattle.gr_base.specs.EdgeSets.{Edges}
use Rattle.route_reader.specs.Solutions.{edges_by}
use Rattle.route_evaluator.specs.declared.tree_error.TreeError.TheVariants.{NotTree}
use Rattle.route_evaluator.specs.EdgeNumbers.{edges_numbered}
use Rattle.route_evaluator.specs.NetTrees.{AreTree, HasJust}
use Rattle.route_evaluator.proofs.CountedLemmas.{pins-are}
use Rattle.route_evaluator.proofs.net_tree.TreeMaker.tree_of.Goals as goal

-- what is said of the gathered edges and the pins holds of the net's
of-net : (P : Shape → Edges → List ℕ → Type 0) (c : goal.After-tree_along) →
    P c.frame.result.now.shape (edges_numbered c.gather_net.new.edges.numbers) c.as_slice-pins.result.now →
    P c.args.design.now.frame.shape (edges_by c.args.solution.now c.args.net) (pins_at c.args.design.now c.args.net)
of-net P c fact =
    let A : Frame → Type 0 = λ f. P f.shape (edges_numbered c.gather_net.new.edges.numbers) c.as_slice-pins.result.now in
    let B : Edges → Type 0 = λ set. P c.args.design.now.frame.shape set c.as_slice-pins.result.now in
    let C : List ℕ → Type 0 = λ pins. P c.args.design.now.frame.shape (edges_by c.args.solution.now c.args.net) pins in
    subst C (c.as_slice-pins.ensures ∙ pins-are c.args.design.now c.args.net c.net.result.now c.net.ensures.net)
    (subst B c.in_ok-gather_net.ensures.edges (subst A c.frame.ensures.frame fact))

pub returns-clause-edges : goal.returns-clause-edges
returns-clause-edges c = of-net (λ g set pins. IfOk c.tree_along.result (HasJust set)) c c.tree_along.ensures.edges

pub returns-clause-ok : goal.returns-clause-ok
returns-clause-ok c = of-net (λ g set pins. OnOk c.tree_along.result (AreTree g set pins)) c c.tree_along.ensures.ok

pub returns-clause-not_tree : goal.returns-clause-not_tree
returns-clause-not_tree c =
    of-net (λ g set pins. c.tree_along.result ≡ Err NotTree → AreTree g set pins → ⊥) c c.tree_along.ensures.not_tree
