use Rattle.std.proofs.Common.{refl, ◌∙◌}
use Rattle.gr_io.specs.Devices.{Reading, reading_of}
use Rattle.text_commands.specs.Buffering.{begun_at}
use Rattle.router_top.proofs.BeginningLemmas.{beginning-fails, begun-first, begun-given}
use Rattle.router_top.proofs.routing.route_from.Goals as goal

pub route_opened-requires-clause-given : goal.route_opened-requires-clause-given
route_opened-requires-clause-given g c = λ κs within.
    begun-given _ c.args.design _ c.in-Ok.beginning c.in-Ok.ensures.2

pub returns-in-Ok : goal.returns-in-Ok
returns-in-Ok g c = λ held faults misses design library same_faults same_misses same said read.
    let s = g.S.Shelf in
    let shelf : Reading = reading_of s.tells s.held s.faults s.misses c.args.shelf.now c.open_beginning.new.shelf in
    c.route_opened.ensures (begun_at shelf held faults misses) design library _ (c.in-Ok.ensures.0 ∙ same_faults) said read
    (begun-first shelf held faults misses c.args.design _ c.in-Ok.beginning same c.in-Ok.ensures.2)

pub returns-in-Err : goal.returns-in-Err
returns-in-Err g c = λ held faults misses design library same_faults same_misses same said read.
    let s = g.S.Shelf in
    let shelf : Reading = reading_of s.tells s.held s.faults s.misses c.args.shelf.now c.open_beginning.new.shelf in
    beginning-fails shelf held faults misses design library c.args.options c.args.design c.args.library same_faults same_misses same said read _ _
    (record { faults = refl; written = λ tells. refl }) (record { faults = refl; written = λ tells. refl }) _ c.in-Err.stop
    c.with_nothing.result.kept c.with_nothing.result.end c.in-Err.ensures c.with_nothing.ensures.end c.with_nothing.ensures.kept
