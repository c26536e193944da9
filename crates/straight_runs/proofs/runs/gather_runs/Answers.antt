use Rattle.std.proofs.Common.{◌≡◌, OnOk, subst}
use Rattle.gr_base.specs.EdgeSets.{set_of}
use Rattle.solution_text.specs.Runs.{runs_of}
use Rattle.straight_runs.proofs.EndLemmas.{all-inside}
use Rattle.straight_runs.proofs.runs.gather_runs.Goals as goal

pub returns-in-Ok-clause-inside : goal.returns-in-Ok-clause-inside
returns-in-Ok-clause-inside c =
    let is = subst (λ result. OnOk result (c.gather_ways.new.runs.items ≡ runs_of c.args.shape (set_of c.args.edges.now))) c.in-Ok.is c.gather_ways.ensures in
    all-inside c.args.shape c.args.edges.now c.gather_ways.new.runs.items c.requires is
