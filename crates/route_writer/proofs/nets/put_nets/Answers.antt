use Rattle.std.proofs.Common.{◌++◌, List, sym, ap, ◌∙◌, append_assoc}
use Rattle.route_writer.specs.RouteTexts.{net_text, nets_text}
use Rattle.route_writer.proofs.WriteLemmas.{nets-next}
use Rattle.route_writer.proofs.nets.put_nets.Goals as goal

pub loop-net-preserved : goal.loop-net-preserved
loop-net-preserved c =
    let d = c.args.design.now in
    let trees = c.args.routes.now in
    let k = c.loop-net.net in
    c.in_ok-put_net.ensures
    ∙ ap (λ (t : List _). t ++ net_text d trees k) c.loop-net.invariant
    ∙ append_assoc c.args.draft.now.text (nets_text d trees c.args.first k) (net_text d trees k)
    ∙ ap (λ (t : List _). c.args.draft.now.text ++ t) (sym (nets-next d trees c.args.first k c.loop-net.auto.net))
