use Rattle.std.proofs.Common.{sym, ap, subst, Option, List, ℕ, ◌∙◌}
use Rattle.std.specs.Option.{option_map}
use Rattle.gr_io.specs.declared.shelf.Slot.TheVariants.{Solution}
use Rattle.route_reader.specs.SolutionText.{solution_of}
use Rattle.command_form.specs.Opening.{IsCovered}
use Rattle.text_commands.proofs.TrackingLemmas.{tracked}
use Rattle.text_commands.proofs.tracking.read_and_track.Goals as goal

pub returns : goal.returns
returns g c =
    let d = c.in_ok-design.design in
    let s = c.in_ok-solution.solution in
    let held = c.in_ok-design.ensures.held Solution c.args.solution.now in
    tracked _ c.args.design.now c.args.solution.now d s c.in_ok-design.ensures.opens.2
    (λ tells. ap (option_map (solution_of d)) (sym held) ∙ c.in_ok-solution.ensures.opens.2 tells)
    (λ tells. subst (λ (o : Option (List ℕ)). IsCovered d o s) held (c.in_ok-solution.ensures.covered tells)) g.row.K.Denot _ _
    (c.in_ok-solution.ensures.opens.0 ∙ c.in_ok-design.ensures.opens.0) c.write_panels.ensures
