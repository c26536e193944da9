use Rattle.elmore_delay.specs.NodeLoads.{AreStored}
use Rattle.elmore_delay.proofs.SinkLemmas.{sinks_before}
use Rattle.elmore_delay.proofs.node_load.hang_sinks.Given as goal

abbrev pub invariant-loop-pin : goal.invariant-loop-pin
invariant-loop-pin l =
    AreStored (record { library = l.library; net = l.net; pins = l.pins; tree = l.tree })
    (sinks_before (record { library = l.library; net = l.net; pins = l.pins; tree = l.tree }) l.pin) l.nodes.items
