use Rattle.std.proofs.Common.{refl, sym, ◌∙◌}
use Rattle.batch_rounds.specs.Rounds.{batching_of}
use Rattle.batch_rounds.proofs.KeptPlans.{refused-now}
use Rattle.batch_rounds.proofs.RoundSteps.{is-added, claim-over, turn-first, turn-on}
use Rattle.batch_rounds.proofs.claims.claim_net.Goals as goal

pub claim_alone-requires-clause-refused : goal.claim_alone-requires-clause-refused
claim_alone-requires-clause-refused g c =
    let t = batching_of c.args.asked.now in
    let b = c.args.book.now in
    let added = c.in_ok-add_claim in
    refused-now t c.args.round c.args.net b.history c.add_claim.new.book.history _ added.field-0 c.args.planned c.requires.planned refl refl
    (is-added t b.capacity b.history _ added.field-0 c.add_claim.new.book.history c.requires.capacity added.ensures.reply added.ensures.history)
    (sym c.is_full.ensures ∙ c.if-is_full.true)

pub returns-in_ok-claim_alone-clause-turn : goal.returns-in_ok-claim_alone-clause-turn
returns-in_ok-claim_alone-clause-turn g c = λ h long plan.
    let t = batching_of c.args.asked.now in
    let b = c.args.book.now in
    let added = c.in_ok-add_claim in
    turn-on t c.args.round c.args.net h b.history c.add_claim.new.book.history c.claim_alone.new.book.history _ added.field-0
    (claim-over t c.args.round c.args.net _ c.first_slack.result c.args.front c.kind_of.result h c.args.planned.tree plan c.first_slack.ensures long c.kind_of.ensures)
    (is-added t b.capacity b.history _ added.field-0 c.add_claim.new.book.history c.requires.capacity added.ensures.reply added.ensures.history)
    (sym c.is_full.ensures ∙ c.if-is_full.true) c.in_ok-claim_alone.ensures.alone

pub returns-else-is_full-clause-turn : goal.returns-else-is_full-clause-turn
returns-else-is_full-clause-turn g c = λ h long plan.
    let t = batching_of c.args.asked.now in
    let b = c.args.book.now in
    let added = c.in_ok-add_claim in
    turn-first t c.args.round c.args.net h b.history c.add_claim.new.book.history _ added.field-0
    (claim-over t c.args.round c.args.net _ c.first_slack.result c.args.front c.kind_of.result h c.args.planned.tree plan c.first_slack.ensures long c.kind_of.ensures)
    (is-added t b.capacity b.history _ added.field-0 c.add_claim.new.book.history c.requires.capacity added.ensures.reply added.ensures.history)
    (sym c.is_full.ensures ∙ c.if-is_full.false)
