use Rattle.std.proofs.Common.{◌≡◌, ℕ, ◌+◌, ◌*◌, ◌^◌, ap, ◌∙◌, arith}
use Rattle.gr_base.specs.declared.grid.Shape.{Shape}
use Rattle.grid_demand.specs.LoadSums.{demand_at}
use Rattle.batch_rounds.specs.SecondTries.{demand_from_cell}
use Rattle.batch_rounds.proofs.KeptPlans.{sum-more}
use Rattle.batch_rounds.proofs.again.demand_from.Goals as goal

pub loop-node-preserved : goal.loop-node-preserved
loop-node-preserved c =
    let t = c.args.tree.now in
    let at = c.loop-node.node in
    let one =
    c.demand_from_cell-sum.ensures.demand ∙ ap (λ (g : Shape). demand_from_cell g (demand_at c.args.loads.now) c.cell.result) c.shape.ensures.shape in
    let more = sum-more (demand_from_cell t.shape (demand_at c.args.loads.now)) t.nodes at c.cell.result c.cell.ensures.cell in
    let before = c.loop-node.invariant.sum in
    let small = c.demand_from_cell-sum.ensures.most in
    let most = c.loop-node.invariant.most in
    let product : (at + 1) * 2 ^ 65 ≡ at * 2 ^ 65 + 2 ^ 65 = grind arith in
    record {
      sum = omega (arith, one, more, before);
      most = omega (arith, small, most, product);
    }
