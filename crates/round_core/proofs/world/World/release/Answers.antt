use Rattle.std.proofs.Common.{◌<◌, ℕ, length, IsTrue, sym, ap, subst, ◌∙◌}
use Rattle.book_state.specs.Books.{nets_of}
use Rattle.round_core.specs.Worlds.{WorldView, is_allowed, happens}
use Rattle.round_core.specs.declared.steps.Step.TheVariants.{Release}
use Rattle.round_core.proofs.WorldFields.{release-in, IsReleaseIn, released-view, released-keeps}
use Rattle.round_core.proofs.world.World.release.Goals as goal

pub release-requires : goal.release-requires
release-requires c =
    subst (λ (n : ℕ). n < nets_of c.self.inside.book.capacity) (sym c.net_of-net.ensures)
    (release-in c.self.inside c.args.worker c.index.result.now c.self.invariant
    (subst (λ (v : WorldView). c.args.worker < v.setting.workers) (sym c.self.view_is) c.requires.worker)
    (subst (λ (v : WorldView). IsTrue (is_allowed v (Release c.args.worker))) (sym c.self.view_is) c.requires.allowed) c.index.ensures).below

pub invariant_of-self-2 : goal.invariant_of-self-2
invariant_of-self-2 c =
    let within = subst (λ (v : WorldView). c.args.worker < v.setting.workers) (sym c.self.view_is) c.requires.worker in
    let allowed = subst (λ (v : WorldView). IsTrue (is_allowed v (Release c.args.worker))) (sym c.self.view_is) c.requires.allowed in
    released-keeps c.self.inside c.release.new.self c.args.worker c.net_of-net.result c.len-since.result c.self.invariant within allowed
    (subst (λ (n : ℕ). IsReleaseIn c.self.inside c.args.worker n) (sym c.net_of-net.ensures)
    (release-in c.self.inside c.args.worker c.index.result.now c.self.invariant within allowed c.index.ensures))
    (record {
      reply = c.in_ok-release.field-0;
      book_is = c.in_ok-release.ensures.entry;
      reply_is = c.in_ok-release.ensures.reply;
      since_is = c.len-since.ensures.len ∙ ap length c.history.ensures.history;
    })

pub returns-clause-ok : goal.returns-clause-ok
returns-clause-ok c =
    let within = subst (λ (v : WorldView). c.args.worker < v.setting.workers) (sym c.self.view_is) c.requires.worker in
    let allowed = subst (λ (v : WorldView). IsTrue (is_allowed v (Release c.args.worker))) (sym c.self.view_is) c.requires.allowed in
    released-view c.self.inside c.release.new.self c.args.worker c.net_of-net.result c.len-since.result c.self.invariant
    (subst (λ (n : ℕ). IsReleaseIn c.self.inside c.args.worker n) (sym c.net_of-net.ensures)
    (release-in c.self.inside c.args.worker c.index.result.now c.self.invariant within allowed c.index.ensures))
    (record {
      reply = c.in_ok-release.field-0;
      book_is = c.in_ok-release.ensures.entry;
      reply_is = c.in_ok-release.ensures.reply;
      since_is = c.len-since.ensures.len ∙ ap length c.history.ensures.history;
    })
    ∙ ap (λ (v : WorldView). happens v (Release c.args.worker)) c.self.view_is
