use Rattle.std.proofs.Common.{ℕ, ◌*◌, ◌/◌, ap, ◌∙◌}
use Rattle.maze_route.proofs.DivisorLemmas.{quotient-exact}
use Rattle.maze_route.proofs.divisor.Divisor.quotient.Goals as goal

pub returns : goal.returns
returns c =
    ap (λ (m : ℕ). m * c.from-2.result / c.from-3.result) c.from.ensures ∙ ap (λ (m : ℕ). c.args.number * m / c.from-3.result) c.from-2.ensures
    ∙ ap (λ (m : ℕ). c.args.number * c.args.self.factor / m) c.from-3.ensures
    ∙ quotient-exact c.args.number c.args.self.by c.args.self.factor c.args.self.exact c.requires
