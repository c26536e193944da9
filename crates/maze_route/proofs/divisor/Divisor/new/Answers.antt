use Rattle.std.proofs.Common.{ℕ, ◌+◌, ◌-◌, ◌/◌, ap, ◌∙◌}
use Rattle.maze_route.proofs.DivisorLemmas.{factor-of}
use Rattle.maze_route.proofs.divisor.Divisor.new.Goals as goal

pub invariant_of-result : goal.invariant_of-result
invariant_of-result c = record {
  exact = factor-of c.args.by _ c.requires.some c.requires.few
      (ap (λ (m : ℕ). (70368744177664 + m - 1) / c.from-2.result) c.from.ensures ∙ ap (λ (m : ℕ). (70368744177664 + c.args.by - 1) / m) c.from-2.ensures);
}
