use Rattle.std.proofs.Common.{List, ◌+◌, subst, sym, ◌∙◌, arith}
use Rattle.std.specs.Global.{Vec}
use Rattle.work_share.specs.HandStore.{Pass}
use Rattle.work_share.proofs.RowLemmas.{AreCutting, rows-first, rows-last, rows-more, length-stocks, same-deques}
use Rattle.work_share.proofs.dealing.rows.Goals as goal

pub loop-number-init : goal.loop-number-init
loop-number-init c =
    subst (λ (l : List (Vec Pass)). AreCutting 0 c.args.owners.now.items c.args.owners.now.items l) (sym c.in_ok-rows.ensures.items)
    (rows-first c.args.owners.now.items c.requires.cut)

pub row-requires-clause-cut : goal.row-requires-clause-cut
row-requires-clause-cut c = c.loop-number.invariant.cut

pub row-requires-clause-thieves : goal.row-requires-clause-thieves
row-requires-clause-thieves c = c.requires.thieves ∙ same-deques c.args.owners.now.items c.loop-number.owners.items c.loop-number.invariant.same

pub loop-number-preserved : goal.loop-number-preserved
loop-number-preserved c =
    let r = c.in_ok-row.ensures in
    subst (λ (l : List (Vec Pass)). AreCutting (c.loop-number.number + 1) c.args.owners.now.items c.row.new.owners.items l) (sym c.in_ok-push.ensures.items)
    (rows-more c.loop-number.number c.args.owners.now.items c.loop-number.owners.items c.row.new.owners.items c.loop-number.rows.items c.in_ok-row.field-0 c.loop-number.invariant r.same r.cut r.row)

pub returns : goal.returns
returns c =
    let same = length-stocks c.args.owners.now.items c.loop-number.owners.items c.loop-number.invariant.same in
    let last = rows-last c.loop-number.number c.args.owners.now.items c.loop-number.owners.items c.loop-number.rows.items c.loop-number.invariant
    (omega (arith, c.len-number-end.ensures, c.args.owners.now.ok.0, same, c.loop-number-test.false, c.loop-number.auto.number-end)) in
    record { same = c.loop-number.invariant.same; cut = last.0; rows = last.1 }
