use Rattle.beside_calls.proofs.RunCalls.{Untouched, Touched}
use Rattle.beside_calls.proofs.run.call_run.Given as goal

-- the calls so far are made, and the other items are as they were
abbrev pub invariant-loop-at : goal.invariant-loop-at
invariant-loop-at g l =
    Untouched g.F.Fn l.f l.at l.initial.run l.run × Touched g.F.Fn l.f l.first l.at l.initial.run l.run
