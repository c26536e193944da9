use Rattle.std.proofs.Common.{◌∙◌}
use Rattle.grid_demand.specs.Tables.{capacity_of}
use Rattle.batch_rounds.proofs.KeptPlans.{from-loads}
use Rattle.batch_rounds.proofs.basis.Basis.noted_plan.Goals as goal

pub returns : goal.returns
returns g c = λ h of.
    let b = c.args.self.now in
    let tree = c.in_ok-tree.tree in
    record {
      plan = c.in_ok-tree.ensures.plan h of;
      demand = c.demand_from-demand.ensures
          ∙ from-loads (capacity_of b.design.now) h b.loads.now tree of (c.in_ok-tree.ensures.shape ∙ b.shape);
    }
