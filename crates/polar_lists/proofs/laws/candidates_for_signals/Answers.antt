use Rattle.polar_lists.proofs.NodeSignals.{complete-for, real-for, rising-for, few-for}
use Rattle.polar_lists.proofs.laws.candidates_for_signals.Goals as goal

pub returns : goal.returns
returns c = record { complete = complete-for; real = real-for; rising = rising-for; few = few-for }
