use Rattle.std.proofs.Common.{◌<◌, length, All, List, subst, sym}
use Rattle.std.proofs.lemmas.List.{length-map}
use Rattle.solution_text.specs.declared.run.Run.{Run}
use Rattle.route_reader.specs.Solutions.{SolutionView, IsRun}
use Rattle.route_reader.specs.SolutionStore.{runs_between}
use Rattle.route_reader.proofs.SolutionLemmas.{runs-of-net}
use Rattle.route_reader.proofs.solution.Solution.runs.Goals as goal

pub returns-clause-each : goal.returns-clause-each
returns-clause-each c =
    let stretches = c.self.inside.stretches.items in
    let inside : c.args.net < length stretches =
    subst (λ n. c.args.net < n) (length-map stretches (runs_between c.self.inside.runs.items))
    (subst (λ (s : SolutionView). c.args.net < length s.runs) (sym c.self.view_is) c.requires) in
    let runs : All (IsRun c.self.inside.shape) (runs_between c.deref.result.now c.index-stretch.result.now) =
    subst (λ (runs : List Run). All (IsRun c.self.inside.shape) (runs_between runs c.index-stretch.result.now)) (sym c.deref.ensures.value)
    (runs-of-net c.self.inside.shape c.self.inside.runs.items stretches c.args.net c.index-stretch.result.now c.self.invariant.each inside c.index-stretch.ensures) in
    subst (λ (s : SolutionView). All (IsRun s.shape) (runs_between c.deref.result.now c.index-stretch.result.now)) c.self.view_is runs
