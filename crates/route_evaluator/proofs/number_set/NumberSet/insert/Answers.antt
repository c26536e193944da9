use Rattle.std.proofs.Common.{◌≡◌, ◌<◌, ℕ, false, List, subst, sym, ◌∙◌}
use Rattle.route_evaluator.specs.NumberSets.{NumberSetView, has_number}
use Rattle.route_evaluator.specs.NumberSetStore.{AreMarked}
use Rattle.route_evaluator.proofs.NumberLemmas.{marked-push}
use Rattle.route_evaluator.proofs.number_set.NumberSet.insert.Goals as goal

pub invariant_of-self : goal.invariant_of-self
invariant_of-self c =
    let P : List ℕ → Type 0 = λ xs. AreMarked c.self.inside.bound xs c.self.inside.marks.items in
    subst P (sym c.in_err-push.ensures.items) c.self.invariant

pub invariant_of-self-then-not-has : goal.invariant_of-self-then-not-has
invariant_of-self-then-not-has c =
    let below = subst (λ (s : NumberSetView). c.args.number < s.bound) (sym c.self.view_is) c.requires in
    let fresh = subst (λ (s : NumberSetView). has_number s.numbers c.args.number ≡ false) (sym c.self.view_is) (sym c.has.ensures ∙ c.if-not-has.true) in
    marked-push c.self.inside.bound c.self.inside.numbers.items c.push.new.self.items c.self.inside.marks.items c.args.number
    c.self.invariant below fresh c.in_ok-push.ensures.items
