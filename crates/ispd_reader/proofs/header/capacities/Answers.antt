use Rattle.std.proofs.Common.{◌-◌, sym, ◌∙◌, arith}
use Rattle.ispd_reader.proofs.HeaderLemmas.{Any-some}
use Rattle.ispd_reader.proofs.header.capacities.Goals.{then-tiles-le1, else-tiles-le1}
use Rattle.ispd_reader.proofs.header.capacities.Goals as goal

pub returns-clause-some : goal.returns-clause-some
returns-clause-some g c wide =
    Any-some c.args.layers (16 - c.args.layers) c.in_ok-numbers.numbers c.in_ok-numbers.ensures.others
    (elim c.if-tiles-le1.branch [
      | then-tiles-le1 w ↦ absurd (omega arith)
      | else-tiles-le1 w ↦ sym w.is_any_above_zero.ensures ∙ sym w.check-is ∙ c.in_ok-check.ensures.holds
    ])
