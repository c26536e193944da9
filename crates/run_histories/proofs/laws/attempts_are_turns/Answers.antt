use Rattle.run_histories.proofs.JoiningLaw.{attempts-granted}
use Rattle.run_histories.proofs.RoutedTrees.{attempts-stand}
use Rattle.run_histories.proofs.TurnWordLemmas.{attempts-turns}
use Rattle.run_histories.proofs.laws.attempts_are_turns.Goals as goal

pub returns-clause-granted : goal.returns-clause-granted
returns-clause-granted c = attempts-granted

pub returns-clause-turns : goal.returns-clause-turns
returns-clause-turns c = attempts-turns

pub returns-clause-stands : goal.returns-clause-stands
returns-clause-stands c = attempts-stand
