use Rattle.std.proofs.Common.{ap, sym, subst, ◌∙◌}
use Rattle.maze_route.specs.Scales.{AreScales}
use Rattle.maze_route.specs.declared.window.Window.{Window}
use Rattle.maze_route.specs.Queues.{QueueView}
use Rattle.maze_route.specs.Steps.{size_of, pane_graph}
use Rattle.maze_route.proofs.KeptLemmas.{kept-empty}
use Rattle.maze_route.proofs.room.MazeRoom.begin.Goals as goal

pub returns : goal.returns
returns g c t same =
    let pane = c.fill.new.self.pane in
    record {
      grid = c.fill.ensures.grid ∙ sym same;
      window = c.fill.ensures.window;
      priced = c.in_ok-fill.ensures.priced;
      scales = subst (λ (w : Window). AreScales pane.grid w (g.C.Costs.price c.args.costs.now) c.in_ok-self.field-0) c.fill.ensures.window c.in_ok-self.ensures;
      size = c.in_ok-clear.ensures.size ∙ c.size.ensures;
      kept = kept-empty (pane_graph pane t (g.C.Costs.price c.args.costs.now)) (size_of pane) c.clear.new.self c.in_ok-clear.ensures.none
          (ap (λ (q : QueueView). q.pairs) c.in_ok-clear.ensures.queue);
    }
