use Rattle.std.proofs.Common.{◌≡◌, IsTrue, ℕ, List}
use Rattle.solution_text.specs.Grammar.{Progress, start}
use Rattle.route_reader.specs.SolutionText.{solution_at}
use Rattle.route_reader.specs.Gathered.{Gathers}
use Rattle.route_reader.proofs.read.solution.Given as goal

abbrev pub invariant-loop : goal.invariant-loop
invariant-loop g l = record {
  so_far : Progress;
  gathers : Gathers l.design so_far l.gathering;
  says : IsTrue g.S.TokenSource.tells → solution_at l.design so_far (g.S.TokenSource.place l.source) ≡ solution_at l.design start (g.S.TokenSource.place l.fn.source);
  faults : g.S.TokenSource.faults l.source ≡ g.S.TokenSource.faults l.fn.source;
  origin : g.S.TokenSource.origin l.source ≡ g.S.TokenSource.origin l.fn.source;
  onward : (bytes : List ℕ) → g.S.TokenSource.reaches l.fn.source bytes → g.S.TokenSource.reaches l.source bytes;
}
