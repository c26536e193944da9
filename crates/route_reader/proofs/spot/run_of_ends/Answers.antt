use Rattle.std.proofs.Common.{sym, ◌∙◌}
use Rattle.route_reader.proofs.SpotLemmas.{first-form, second-form, first-number, second-number, in-order}
use Rattle.route_reader.proofs.spot.run_of_ends.Goals as goal
use Rattle.route_reader.proofs.spot.run_of_ends.Goals.{then-not-are_whole-via-then-not-are_whole, then-not-are_whole-via-else-not-are_whole+then-not-are_whole-2}

pub returns-then-not-are_whole-clause-run : goal.returns-then-not-are_whole-clause-run
returns-then-not-are_whole-clause-run c =
    elim c.then-not-are_whole.branch [
      | then-not-are_whole-via-then-not-are_whole w ↦ first-form c.args.design.now.frame c.args.ends (sym w.if-not-are_whole.ensures)
      | then-not-are_whole-via-else-not-are_whole+then-not-are_whole-2 w ↦
          second-form c.args.design.now.frame c.args.ends (sym w.if-not-are_whole.ensures) (sym w.if-not-are_whole-2.ensures)
    ]

pub returns-in_default-clause-run : goal.returns-in_default-clause-run
returns-in_default-clause-run c =
    first-number c.args.design.now.frame c.args.ends (sym c.if-not-are_whole.ensures) (sym c.if-not-are_whole-2.ensures) (sym c.spot_in.ensures ∙ c.in_default.is)

pub returns-in_default-spot_in-clause-run : goal.returns-in_default-spot_in-clause-run
returns-in_default-spot_in-clause-run c =
    second-number c.args.design.now.frame c.args.ends (sym c.if-not-are_whole.ensures) (sym c.if-not-are_whole-2.ensures)
    c.in-Some.from (sym c.spot_in.ensures ∙ c.in-Some.is) (sym c.spot_in-2.ensures ∙ c.in_default-spot_in.is)

pub returns-clause-run : goal.returns-clause-run
returns-clause-run c =
    c.run_of_spots.ensures.run
    ∙ in-order c.args.design.now.frame c.args.ends (sym c.if-not-are_whole.ensures) (sym c.if-not-are_whole-2.ensures)
    c.in-Some.from c.in-Some-spot_in.to (sym c.spot_in.ensures ∙ c.in-Some.is) (sym c.spot_in-2.ensures ∙ c.in-Some-spot_in.is)
