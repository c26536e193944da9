use Rattle.std.proofs.Common.{ℕ, List, IsTrue, sym, ap, subst, ◌∙◌}
use Rattle.round_core.specs.Worlds.{WorldView, goes_on_by, is_allowed, happens}
use Rattle.round_core.specs.declared.steps.Step.TheVariants.{Mark}
use Rattle.round_core.proofs.MarkFields.{next-view, last-view, next-keeps, last-keeps}
use Rattle.round_core.proofs.world.World.mark.Goals as goal
use Rattle.round_core.proofs.world.World.mark.Goals.{then-goes_on, else-goes_on}

pub invariant_of-self-then-goes_on : goal.invariant_of-self-then-goes_on
invariant_of-self-then-goes_on c =
    let found : List ℕ = c.in_ok-victims.victims in
    let left_is = c.in_ok-left.ensures.items ∙ c.as_slice.ensures in
    next-keeps c.self.inside c.mark.new.self c.in_ok-mark.field-0 c.overflow_in-overflow.result found c.says.result c.self.invariant
    (record { book_is = c.in_ok-mark.ensures.entry; reply_is = c.in_ok-mark.ensures.reply; overflow_is = c.overflow_in-overflow.ensures; found_is = c.in_ok-victims.ensures; going_is = c.says.ensures })
    c.in_ok-left.left left_is
    (subst (λ (v : WorldView). IsTrue (is_allowed v Mark)) (sym c.self.view_is) c.requires)
    (ap (λ (nets : List ℕ). goes_on_by c.self.inside.round c.self.inside.rounds nets c.says.result) (sym (c.deref.ensures.value ∙ left_is)) ∙ sym c.goes_on.ensures ∙ c.if-goes_on.true)

pub invariant_of-self-else-goes_on : goal.invariant_of-self-else-goes_on
invariant_of-self-else-goes_on c =
    let found : List ℕ = c.in_ok-victims.victims in
    let left_is = c.in_ok-left.ensures.items ∙ c.as_slice.ensures in
    last-keeps c.self.inside c.mark.new.self c.in_ok-mark.field-0 c.overflow_in-overflow.result found c.says.result c.self.invariant
    (record { book_is = c.in_ok-mark.ensures.entry; reply_is = c.in_ok-mark.ensures.reply; overflow_is = c.overflow_in-overflow.ensures; found_is = c.in_ok-victims.ensures; going_is = c.says.ensures })
    (subst (λ (v : WorldView). IsTrue (is_allowed v Mark)) (sym c.self.view_is) c.requires)
    (ap (λ (nets : List ℕ). goes_on_by c.self.inside.round c.self.inside.rounds nets c.says.result) (sym (c.deref.ensures.value ∙ left_is)) ∙ sym c.goes_on.ensures ∙ c.if-goes_on.false)

pub returns-clause-ok : goal.returns-clause-ok
returns-clause-ok c =
    let w = c.self.inside in
    let found : List ℕ = c.in_ok-victims.victims in
    let left_is = c.in_ok-left.ensures.items ∙ c.as_slice.ensures in
    let allowed = subst (λ (v : WorldView). IsTrue (is_allowed v Mark)) (sym c.self.view_is) c.requires in
    let said = ap (λ (nets : List ℕ). goes_on_by w.round w.rounds nets c.says.result) (sym (c.deref.ensures.value ∙ left_is)) ∙ sym c.goes_on.ensures in
    elim c.if-goes_on.branch [
      | then-goes_on on ↦
          on.self-is
          ∙ next-view w c.mark.new.self c.in_ok-mark.field-0 c.overflow_in-overflow.result found c.says.result c.self.invariant
          (record { book_is = c.in_ok-mark.ensures.entry; reply_is = c.in_ok-mark.ensures.reply; overflow_is = c.overflow_in-overflow.ensures; found_is = c.in_ok-victims.ensures; going_is = c.says.ensures })
          c.in_ok-left.left left_is allowed (said ∙ on.if-goes_on.true)
          ∙ ap (λ (v : WorldView). happens v Mark) c.self.view_is
      | else-goes_on off ↦
          off.self-is
          ∙ last-view w c.mark.new.self c.in_ok-mark.field-0 c.overflow_in-overflow.result found c.says.result c.self.invariant
          (record { book_is = c.in_ok-mark.ensures.entry; reply_is = c.in_ok-mark.ensures.reply; overflow_is = c.overflow_in-overflow.ensures; found_is = c.in_ok-victims.ensures; going_is = c.says.ensures })
          allowed (said ∙ off.if-goes_on.false)
          ∙ ap (λ (v : WorldView). happens v Mark) c.self.view_is
    ]
