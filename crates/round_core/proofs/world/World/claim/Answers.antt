use Rattle.std.proofs.Common.{◌≡◌, ℕ, length, IsTrue, sym, ap, subst, ◌∙◌, arith}
use Rattle.round_core.specs.Worlds.{WorldView, tries_in, phase_replied, is_allowed, happens, IsStep}
use Rattle.round_core.specs.WorldStore.{Keeps, seen}
use Rattle.round_core.specs.declared.steps.Phase.{Phase}
use Rattle.round_core.specs.declared.steps.Step.TheVariants.{Claim}
use Rattle.round_core.proofs.WorldFields.{called_fields, claimed-view, claimed-keeps, claimed-tries}
use Rattle.round_core.proofs.world.World.claim.Goals as goal

pub phase_replied-requires : goal.phase_replied-requires
phase_replied-requires c =
    let step = subst (λ (v : WorldView). IsStep v (Claim c.args.worker c.args.claim)) (sym c.self.view_is) c.requires.step in
    let allowed = subst (λ (v : WorldView). IsTrue (is_allowed v (Claim c.args.worker c.args.claim))) (sym c.self.view_is) c.requires.allowed in
    let few = claimed-tries c.self.inside c.args.worker c.args.claim c.index.result.now c.self.invariant step.0 allowed c.index.ensures in
    omega (arith, few, c.tries_of-tries.ensures)

pub invariant_of-self-2 : goal.invariant_of-self-2
invariant_of-self-2 c =
    let step = subst (λ (v : WorldView). IsStep v (Claim c.args.worker c.args.claim)) (sym c.self.view_is) c.requires.step in
    let allowed = subst (λ (v : WorldView). IsTrue (is_allowed v (Claim c.args.worker c.args.claim))) (sym c.self.view_is) c.requires.allowed in
    let phase : c.phase_replied.result ≡ phase_replied c.args.claim.net (tries_in c.index.result.now) c.len-since.result c.in_ok-reply.reply =
    c.phase_replied.ensures ∙ ap (λ (n : ℕ). phase_replied c.args.claim.net n c.len-since.result c.in_ok-reply.reply) c.tries_of-tries.ensures in
    subst (λ (p : Phase). Keeps (called_fields c.self.inside c.claim.new.self c.args.worker p c.len-since.result)) (sym phase)
    (claimed-keeps c.self.inside c.claim.new.self c.args.worker c.args.claim c.index.result.now c.in_ok-reply.reply c.len-since.result c.self.invariant step allowed
    c.index.ensures c.in_ok-reply.ensures.reply
    (record {
      reply = c.in_ok-reply.reply;
      book_is = c.in_ok-reply.ensures.entry;
      reply_is = c.in_ok-reply.ensures.reply;
      since_is = c.len-since.ensures.len ∙ ap length c.history.ensures.history;
    }))

pub returns-clause-ok : goal.returns-clause-ok
returns-clause-ok c =
    let step = subst (λ (v : WorldView). IsStep v (Claim c.args.worker c.args.claim)) (sym c.self.view_is) c.requires.step in
    let allowed = subst (λ (v : WorldView). IsTrue (is_allowed v (Claim c.args.worker c.args.claim))) (sym c.self.view_is) c.requires.allowed in
    let phase : c.phase_replied.result ≡ phase_replied c.args.claim.net (tries_in c.index.result.now) c.len-since.result c.in_ok-reply.reply =
    c.phase_replied.ensures ∙ ap (λ (n : ℕ). phase_replied c.args.claim.net n c.len-since.result c.in_ok-reply.reply) c.tries_of-tries.ensures in
    ap (λ (p : Phase). seen (called_fields c.self.inside c.claim.new.self c.args.worker p c.len-since.result)) phase
    ∙ claimed-view c.self.inside c.claim.new.self c.args.worker c.args.claim c.index.result.now c.in_ok-reply.reply c.len-since.result c.self.invariant step.0 allowed
    c.index.ensures c.in_ok-reply.ensures.reply
    (record {
      reply = c.in_ok-reply.reply;
      book_is = c.in_ok-reply.ensures.entry;
      reply_is = c.in_ok-reply.ensures.reply;
      since_is = c.len-since.ensures.len ∙ ap length c.history.ensures.history;
    })
    ∙ ap (λ (v : WorldView). happens v (Claim c.args.worker c.args.claim)) c.self.view_is
