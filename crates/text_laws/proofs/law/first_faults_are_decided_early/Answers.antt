use Rattle.text_laws.proofs.DesignTextLemmas.{early-faults, tokens-decide}
use Rattle.text_laws.proofs.law.first_faults_are_decided_early.Goals as goal

pub returns : goal.returns
returns c = record { decided = early-faults; tokens = tokens-decide }
