use Rattle.std.proofs.Common.{◌<◌, subst, sym}
use Rattle.work_share.specs.Views.{ShareView, EndView, IsEnded}
use Rattle.work_share.proofs.EndLemmas.{few, own-parts, rows-are, ended}
use Rattle.work_share.proofs.shared.Share.end.Goals as goal

pub gather-requires-clause-few : goal.gather-requires-clause-few
gather-requires-clause-few c =
    let some = subst (λ (s : ShareView). 0 < s.workers) c.self.view_is c.self.invariant.some in
    few c.args.self c.args.hands.items c.in_ok-owners.field-0 c.requires c.in_ok-owners.ensures some

pub gather-requires-clause-parts : goal.gather-requires-clause-parts
gather-requires-clause-parts c = own-parts c.args.self c.args.hands.items c.in_ok-owners.field-0 c.requires c.in_ok-owners.ensures

pub gather-requires-clause-rows : goal.gather-requires-clause-rows
gather-requires-clause-rows c =
    let some = subst (λ (s : ShareView). 0 < s.workers) c.self.view_is c.self.invariant.some in
    rows-are c.args.self c.args.hands.items c.in_ok-owners.field-0 c.requires c.in_ok-owners.ensures some

pub returns : goal.returns
returns c =
    let some = subst (λ (s : ShareView). 0 < s.workers) c.self.view_is c.self.invariant.some in
    let g = c.gather.ensures in
    subst (λ (e : EndView). IsEnded c.args.self c.args.hands.items e) (sym c.new.ensures)
    (ended c.args.self c.args.hands.items c.in_ok-owners.field-0 c.requires c.in_ok-owners.ensures c.gather.new.owners.items c.in_ok-rest.rest.items some g.same g.taken c.in_ok-rest.ensures)
