use Rattle.std.proofs.Common.{◌≡◌, ℕ, List, ◌++◌, OnOk, sym, ap, subst, ◌∙◌, append-nil}
use Rattle.std.specs.Option.{option_copied}
use Rattle.report_text.proofs.BufferLemmas.{net-skipped, net-lines, planned-for}
use Rattle.report_text.proofs.buffer_text.put_net.Goals as goal

pub returns-then-not-routed : goal.returns-then-not-routed
returns-then-not-routed c =
    sym (append-nil c.args.text.now)
    ∙ ap (λ (text : List _). c.args.text.now ++ text)
    (sym (net-skipped c.args.design.now c.args.library.now c.args.routes.now c.args.plans.now c.args.net (sym c.routed.ensures ∙ c.if-not-routed.true)))

pub put_planned-requires : goal.put_planned-requires
put_planned-requires c =
    planned-for c.args.design.now c.args.library.now c.args.routes.now c.args.plans.now c.args.net c.unwrap-tree.result.now c.get-plan.result
    c.requires.plans (sym c.routed.ensures ∙ c.if-not-routed.false) (sym c.get.ensures ∙ ap option_copied c.unwrap-tree.ensures) c.get-plan.ensures

pub returns : goal.returns
returns c =
    let tree = sym c.get.ensures ∙ ap option_copied c.unwrap-tree.ensures in
    subst (λ (lines : List ℕ). OnOk c.put_planned.result (c.put_planned.new.text ≡ c.args.text.now ++ lines))
    (sym (net-lines c.args.design.now c.args.library.now c.args.routes.now c.args.plans.now c.args.net c.net.result.now c.unwrap-tree.result.now
    (option_copied c.get-plan.result) (sym c.routed.ensures ∙ c.if-not-routed.false) c.net.ensures.net tree (sym c.get-plan.ensures))) c.put_planned.ensures
