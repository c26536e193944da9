use Rattle.std.proofs.Common.{List, ◌++◌, sym, ap, ◌∙◌, append-nil}
use Rattle.std.specs.Option.{option_copied}
use Rattle.gr_base.specs.Trees.{route_edges}
use Rattle.route_writer.proofs.WriteLemmas.{text-skip, text-routed}
use Rattle.route_writer.proofs.nets.put_net.Goals as goal

pub returns-then-not-routed : goal.returns-then-not-routed
returns-then-not-routed c =
    sym (append-nil c.args.draft.now.text)
    ∙ ap (λ (t : List _). c.args.draft.now.text ++ t)
    (sym (text-skip c.args.design.now (route_edges c.args.routes.now) c.args.net (sym c.routed.ensures ∙ c.if-not-routed.true)))

pub returns : goal.returns
returns c =
    c.in_ok-put_record.ensures
    ∙ ap (λ (t : List _). c.args.draft.now.text ++ t)
    (sym (text-routed c.args.design.now c.args.routes.now c.args.net c.net.result.now c.unwrap-tree.result.now c.net.ensures.net
    (sym c.routed.ensures ∙ c.if-not-routed.false) (sym c.get.ensures ∙ ap option_copied c.unwrap-tree.ensures)))
