use Rattle.std.proofs.Common.{◌≡◌, ℕ, ℤ, Option, ap, ◌∙◌}
use Rattle.elmore_delay.specs.FromLeaves.{sinks_seen}
use Rattle.elmore_delay.specs.RcTrees.{RcTree}
use Rattle.elmore_delay.specs.Loadings.{rc_of}
use Rattle.elmore_delay.proofs.Ranges.{table-more}
use Rattle.elmore_delay.proofs.times.at_sinks.Goals as goal

pub loop-node-preserved : goal.loop-node-preserved
loop-node-preserved c =
    let t : RcTree = rc_of c.args.loading.now in
    let is : c.of_sinks.result ≡ sinks_seen t c.loop-node.node =
    c.of_sinks.ensures
    ∙ ap (λ (load : ℕ). record { load = load; time = c.time.result }) c.load.ensures.load
    ∙ ap (λ (time : Option ℤ). record { load = (sinks_seen t c.loop-node.node).load; time = time }) c.time.ensures.time in
    table-more (sinks_seen t) c.loop-node.node c.loop-node.seen.items c.push.new.self.items c.of_sinks.result c.in_ok-push.ensures.items c.loop-node.invariant is
