use Rattle.text_laws.proofs.LibraryTextLemmas.{early-library-faults, tokens-decide}
use Rattle.text_laws.proofs.LibraryItemLemmas.{items-end}
use Rattle.text_laws.proofs.library_law.first_library_faults_are_decided_early.Goals as goal

pub returns : goal.returns
returns c = record { decided = early-library-faults; tokens = tokens-decide; items = items-end }
