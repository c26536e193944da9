use Rattle.std.proofs.Common.{refl, sym, subst, arith}
use Rattle.std.specs.Option.{option_copied}
use Rattle.buffer_plan.specs.Rules.{IsByRule}
use Rattle.text_commands.proofs.PlacingLemmas.{told-skipped, told-routed, on-ok}
use Rattle.text_commands.proofs.placing.tell.Goals as goal

pub returns-in_default-clause-told : goal.returns-in_default-clause-told
returns-in_default-clause-told g c = λ first low before.
    told-skipped g.P.NetPlanner.rule c.args.nets.now.design.now c.args.nets.now.library.now c.args.nets.now.routes.now first c.args.net c.args.told.now c.in_ok-plan.plan low before
    c.in_ok-plan.ensures.plan (c.in_default.ensures.none refl)

pub returns-clause-told : goal.returns-clause-told
returns-clause-told g c =
    let rule = g.P.NetPlanner.rule in
    let same = c.as_ref-plan.ensures.value in
    let is = subst (IsByRule rule c.args.nets.now.design.now c.args.nets.now.library.now c.args.nets.now.routes.now c.args.net) (sym same) c.in_ok-plan.ensures.plan in
    on-ok c.put_planned.result c.put_planned.ensures (λ put first low before.
    told-routed rule c.args.nets.now.design.now c.args.nets.now.library.now c.args.nets.now.routes.now first c.args.net c.args.told.now _ (option_copied c.as_ref-plan.result) c.net-net.result.now
    c.in-Some.tree.now low before is c.in-Some.ensures.routed c.net-net.ensures.net c.in-Some.ensures.tree put (omega (arith, c.from.ensures, c.buffers_of.ensures))
    (omega (arith, c.buffers_of.ensures, c.buffers_of.type_inv)))
