use Rattle.route_evaluator.proofs.NumberLemmas.{marked-clear}
use Rattle.route_evaluator.proofs.number_set.NumberSet.clear.Goals as goal

pub invariant_of-self : goal.invariant_of-self
invariant_of-self c =
    marked-clear c.self.inside.bound c.self.inside.numbers.items c.deref.result.now c.clear.new.self.items c.self.inside.marks.items c.unmark.new.marks.items
    c.self.invariant c.deref.ensures.value c.unmark.ensures.long c.unmark.ensures.marks c.clear.ensures.items
