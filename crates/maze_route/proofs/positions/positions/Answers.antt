use Rattle.std.proofs.Common.{ℕ, List, length, sym, ap, ◌∙◌, arith}
use Rattle.std.proofs.lemmas.List.{length-replicate}
use Rattle.maze_route.specs.Positions.{sums_from, borders_of}
use Rattle.maze_route.proofs.GoalLemmas.{result-then}
use Rattle.maze_route.proofs.PositionLemmas.{few-borders, positions-size, positions-near, positions-of, AreSteps, steps-lowered}
use Rattle.maze_route.proofs.positions.positions.Goals as goal

pub lower-requires-clause-size : goal.lower-requires-clause-size
lower-requires-clause-size g c =
    ap (λ (xs : List ℕ). length xs) (c.deref_mut.ensures.value ∙ c.in_ok-steps.ensures.items_if_clones_equal (λ y e. e)) ∙ length-replicate {A = ℕ} c.borders.result 1048576 ∙ c.borders.ensures

pub sums-requires : goal.sums-requires
sums-requires g c =
    let steps = c.in_ok-steps.steps in
    let are : AreSteps (borders_of c.args.pane.window c.args.way) c.lower.new.numbers c.deref.result.now =
    steps-lowered c.borders.result (borders_of c.args.pane.window c.args.way) steps.len steps.items c.deref_mut.result.now c.lower.new.numbers c.deref.result.now
    (c.in_ok-steps.ensures.items_if_clones_equal (λ y e. e)) c.borders.ensures c.deref_mut.ensures.value c.lower.ensures.lowered (omega (arith, steps.ok.0)) c.deref.ensures.value in
    let few = few-borders c.args.pane.grid c.args.pane.window c.args.way c.args.pane.fits.window in
    let size = are.size in
    record { few = omega arith; small = are.small }

pub returns : goal.returns
returns g c =
    let steps = c.in_ok-steps.steps in
    let price = g.C.Costs.price c.args.costs.now in
    let are : AreSteps (borders_of c.args.pane.window c.args.way) c.lower.new.numbers c.deref.result.now =
    steps-lowered c.borders.result (borders_of c.args.pane.window c.args.way) steps.len steps.items c.deref_mut.result.now c.lower.new.numbers c.deref.result.now
    (c.in_ok-steps.ensures.items_if_clones_equal (λ y e. e)) c.borders.ensures c.deref_mut.ensures.value c.lower.ensures.lowered (omega (arith, steps.ok.0)) c.deref.ensures.value in
    let few = few-borders c.args.pane.grid c.args.pane.window c.args.way c.args.pane.fits.window in
    record {
      size = result-then c.sums.result _ _ c.sums.ensures (λ positions is. positions-size c.args.pane.window c.args.way c.deref.result.now positions.items is are.size);
      near = result-then c.sums.result _ _ c.sums.ensures (λ positions is. positions-near c.args.pane.window c.args.way c.deref.result.now positions.items is are.size few are.small);
      positions = result-then c.sums.result _ _ c.sums.ensures (λ positions is.
          positions-of c.args.pane.grid c.args.pane.window price c.args.way c.lower.new.numbers positions.items (is ∙ ap (λ (xs : List ℕ). sums_from 0 xs) are.same) (ap (λ (xs : List ℕ). length xs) (sym are.same) ∙ are.size)
          c.lower.ensures.under);
    }
