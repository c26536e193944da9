use Rattle.std.proofs.Common.{sym, ap, ◌∙◌}
use Rattle.route_reader.specs.Gathered.{mode_of}
use Rattle.route_reader.proofs.StepLemmas.{number-step, gathers-within}
use Rattle.route_reader.proofs.gathering.Gathering.take.Goals as goal

pub returns-then-is_number : goal.returns-then-is_number
returns-then-is_number c s gathers =
    let mode = gathers.mode ∙ ap (mode_of c.args.self.now.name.items) c.in-First.is in (
      _,
      number-step c.args.design.now s c.args.token.now c.in-First.net mode (sym c.if-is_number.ensures),
      gathers-within c.args.design.now s c.args.self.now c.in-First.net gathers c.in-First.is,
    )
