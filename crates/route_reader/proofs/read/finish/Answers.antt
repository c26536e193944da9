use Rattle.std.proofs.Common.{Ok, sym, ap, ◌∙◌}
use Rattle.gr_base.specs.declared.frame.Frame.{Frame}
use Rattle.route_reader.proofs.FinishLemmas.{finished}
use Rattle.route_reader.proofs.read.finish.Goals as goal

pub returns-clause-says : goal.returns-clause-says
returns-clause-says g c s gathers told =
    finished c.args.design.now s c.args.gathering _ c.frame.result.now.shape gathers c.in-Between.is (ap (λ (f : Frame). f.shape) c.frame.ensures.frame)
    ∙ ap Ok (sym c.new.ensures)
