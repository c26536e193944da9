use Rattle.std.proofs.Common.{◌≡◌, ℕ, Bool, None, ap, ◌∙◌}
use Rattle.rc_library.specs.declared.parts.Wire.{Wire}
use Rattle.elmore_delay.specs.NodeLoads.{bare_node}
use Rattle.elmore_delay.specs.declared.node_load.NodeLoad.{NodeLoad}
use Rattle.elmore_delay.specs.declared.wants.Wants.TheVariants.{Any}
use Rattle.elmore_delay.proofs.Ranges.{table-more}
use Rattle.elmore_delay.proofs.node_load.without_sinks.Goals as goal

pub loop-node-preserved : goal.loop-node-preserved
loop-node-preserved c =
    let bare : ℕ → NodeLoad = bare_node c.args.library.now c.args.tree.now in
    let now : NodeLoad = record { load = 0; time = None; wire = c.wire_to_parent.result; free = c.may_hold.result; wants = Any } in
    let is : now ≡ bare c.loop-node.node =
    ap (λ (wire : Wire). record { load = 0; time = None; wire = wire; free = c.may_hold.result; wants = Any }) c.wire_to_parent.ensures
    ∙ ap (λ (free : Bool). record { load = 0; time = None; wire = (bare c.loop-node.node).wire; free = free; wants = Any }) c.may_hold.ensures in
    table-more bare c.loop-node.node c.loop-node.nodes.items c.push.new.self.items now c.in_ok-push.ensures.items c.loop-node.invariant is
