use Rattle.std.proofs.Common.{length, sym, ap, subst, ◌∙◌}
use Rattle.gr_base.specs.Trees.{TreeView}
use Rattle.grid_demand.specs.Tables.{CapacityView}
use Rattle.book_state.specs.declared.entry.Call.TheVariants.{Claim as Claims}
use Rattle.run_histories.proofs.GivenLemmas.{given_claim}
use Rattle.run_histories.proofs.TurnLemmas.{routed-within}
use Rattle.track_book.specs.Passes.{IsAnswered}
use Rattle.ripup_workers.specs.Rounding.{setting_of}
use Rattle.ripup_workers.proofs.GivingSteps.{given-answered, given-is, given-shape}
use Rattle.ripup_workers.proofs.given.claim_tree.Goals as goal

pub claim-requires-clause-net : goal.claim-requires-clause-net
claim-requires-clause-net g c =
    let route = c.args.asked.now.fits.each c.args.net c.args.tree.now c.requires.given in
    routed-within c.args.asked.now.design.now g.N.BookName.capacity c.args.net c.requires.capacity route.routed

pub claim-requires-clause-shape : goal.claim-requires-clause-shape
claim-requires-clause-shape g c =
    let route = c.args.asked.now.fits.each c.args.net c.args.tree.now c.requires.given in
    ap (λ (u : TreeView). u.shape) c.in_ok-tree.ensures.same ∙ given-shape c.args.asked.now.design.now c.args.net c.args.tree.now route
    ∙ sym (ap (λ (v : CapacityView). v.shape) c.requires.capacity)

pub returns : goal.returns
returns g c =
    let t = setting_of c.args.asked.now in
    let p = c.args.worker.now.pass in
    let q = c.claim.new.self.pass in
    let route = c.args.asked.now.fits.each c.args.net c.args.tree.now c.requires.given in
    given-answered t g.N.BookName.capacity c.args.net c.args.tree.now c.in_ok-claim.field-0 p q c.requires.capacity c.requires.before c.in_ok-claim.ensures.pass
    (given-is t c.args.net c.args.tree.now c.requires.given route.routed) route
    (subst (λ (u : TreeView). IsAnswered g.N.BookName.capacity p q (Claims (given_claim (length p.seen) c.args.net u)) c.in_ok-claim.field-0) c.in_ok-tree.ensures.same c.in_ok-claim.ensures.reply)
