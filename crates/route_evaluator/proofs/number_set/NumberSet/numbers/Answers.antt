use Rattle.std.proofs.Common.{◌==◌, ◌≤◌, ℕ, List, count_by, subst, sym}
use Rattle.route_evaluator.proofs.number_set.NumberSet.numbers.Goals as goal

pub returns-clause-once : goal.returns-clause-once
returns-clause-once c n =
    let P : List ℕ → Type 0 = λ xs. count_by (λ other. n == other) xs ≤ 1 in
    subst P (sym c.deref.ensures.value) (c.self.invariant.once n)
