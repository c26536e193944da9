use Rattle.std.proofs.Common.{◌<◌, not, ◌==◌, IsTrue, rules, sym, ap, subst, ◌∙◌, arith}
use Rattle.std.proofs.lemmas.Fn.{filter_same}
use Rattle.round_core.specs.Worlds.{WorldView, is_allowed, with_taken}
use Rattle.round_core.specs.declared.steps.Step.TheVariants.{Take}
use Rattle.round_core.proofs.WorldFields.{taken-view, taken-keeps}
use Rattle.round_core.proofs.world.World.take.Goals as goal

pub invariant_of-self : goal.invariant_of-self
invariant_of-self c =
    taken-keeps c.self.inside c.args.worker c.args.net c.retain.new.self c.self.invariant
    (subst (λ (v : WorldView). c.args.worker < v.setting.workers) (sym c.self.view_is) c.requires.worker)
    (subst (λ (v : WorldView). IsTrue (is_allowed v (Take c.args.worker c.args.net))) (sym c.self.view_is) c.requires.allowed)
    (filter_same _ (λ n. not (n == c.args.net)) _ (λ x b f' called. search rules) _ _ c.retain.ensures.filtered)
    (omega (arith, c.retain.ensures.bound, c.retain.new.self.ok.0, c.self.inside.left.ok.0))

pub returns : goal.returns
returns c =
    taken-view c.self.inside c.args.worker c.args.net c.retain.new.self
    (filter_same _ (λ n. not (n == c.args.net)) _ (λ x b f' called. search rules) _ _ c.retain.ensures.filtered)
    ∙ ap (λ (v : WorldView). with_taken v c.args.worker c.args.net) c.self.view_is
