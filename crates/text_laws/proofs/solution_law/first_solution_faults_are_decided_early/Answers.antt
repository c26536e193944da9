use Rattle.text_laws.proofs.SolutionTextLemmas.{early-solution-faults, tokens-decide}
use Rattle.text_laws.proofs.solution_law.first_solution_faults_are_decided_early.Goals as goal

pub returns : goal.returns
returns c = record { decided = early-solution-faults; tokens = tokens-decide }
