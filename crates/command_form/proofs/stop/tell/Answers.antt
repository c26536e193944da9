use Rattle.gr_io.specs.Devices.{device_of}
use Rattle.command_form.specs.declared.stop.Stop.TheVariants.{Fault, NotTree}
use Rattle.command_form.proofs.StopLemmas.{told-line}
use Rattle.command_form.proofs.stop.tell.Goals as goal

pub returns-in-Fault : goal.returns-in-Fault
returns-in-Fault g c =
    let sink = g.E.Sink in
    let f = c.in-Fault in
    told-line c.args.program (device_of sink.tells sink.faults sink.written c.args.err.now c.tell_line.new.err) (Fault f.text f.number f.token) _ _
    c.fault_line-line.result (λ told. told) f.is c.fault_line-line.ensures c.tell_line.ensures

pub returns-in-NotTree : goal.returns-in-NotTree
returns-in-NotTree g c =
    let sink = g.E.Sink in
    let f = c.in-NotTree in
    told-line c.args.program (device_of sink.tells sink.faults sink.written c.args.err.now c.tell_line-in-NotTree.new.err) (NotTree f.id) _ _
    c.net_line.result (λ told. told) f.is c.net_line.ensures c.tell_line-in-NotTree.ensures
