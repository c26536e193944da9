use Rattle.std.proofs.Common.{length, ap, ◌∙◌}
use Rattle.batch_rounds.proofs.RoundSteps.{given-claimed, given-in_range}
use Rattle.batch_rounds.proofs.given.claim_tree.Goals as goal

pub add_claim-requires : goal.add_claim-requires
add_claim-requires g c =
    let route = c.args.asked.now.fits.each c.args.net c.args.tree.now c.requires.given in
    given-in_range c.args.asked.now.design.now c.args.book.now.capacity c.args.net c.args.tree.now c.in_ok-tree.tree c.len-front.result c.args.book.now.history c.requires.capacity route c.in_ok-tree.ensures.same
    (c.len-front.ensures.len ∙ ap length c.history.ensures.history)

pub returns-clause-after : goal.returns-clause-after
returns-clause-after g c =
    let route = c.args.asked.now.fits.each c.args.net c.args.tree.now c.requires.given in
    given-claimed c.args.asked.now.design.now c.args.asked.now.given.now c.args.book.now.capacity c.args.net c.args.tree.now c.in_ok-tree.tree c.len-front.result c.args.book.now.history _ c.requires.capacity
    c.requires.before route c.requires.given c.in_ok-tree.ensures.same (c.len-front.ensures.len ∙ ap length c.history.ensures.history) c.in_ok-add_claim.ensures.history
