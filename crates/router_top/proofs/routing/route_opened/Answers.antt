use Rattle.std.proofs.Common.{Some, refl}
use Rattle.command_form.proofs.LeavingLemmas.{wants-memory, written}
use Rattle.gr_base.specs.Trees.{route_edges}
use Rattle.router_top.specs.Routing.{routing}
use Rattle.router_top.proofs.RoutingLemmas.{is-routing}
use Rattle.router_top.proofs.routing.route_opened.Goals as goal
use Rattle.solution_text.specs.WrittenText.{written_text}

pub returns-in_default : goal.returns-in_default
returns-in_default g c = λ shelf design library from reads said read begun.
    wants-memory (routing design library from c.args.options) shelf _ _ c.with_nothing.result.kept c.with_nothing.result.end
    c.with_nothing.ensures.end c.with_nothing.ensures.kept (record { faults = refl; written = λ tells. refl }) (record { faults = refl; written = λ tells. refl })

pub returns : goal.returns
returns g c = λ shelf design library from reads said read begun.
    let d = c.args.design in
    let r = c.in-Ok.routed in
    written (routing design library from c.args.options) shelf _ _ (Some (record { book = r.rounds.book; hands = r.rounds.hands }))
    (written_text d (route_edges r.routes)) r.report c.write_routes-end.result refl reads
    (refl, is-routing shelf design library from d c.args.library c.args.beginning c.args.options r said read begun c.requires.design c.in-Ok.ensures) c.write_routes-end.ensures
