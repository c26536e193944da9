-- A whole library text and its tokens.
use Rattle.std.proofs.Common.{ap}
use Rattle.gr_text.specs.Reading.{value_of}
use Rattle.rc_library.specs.LibraryText.{library, library_of}
use Rattle.text_laws.specs.EarlyLibraryFaults.{LibraryFaultsAreDecidedEarly, TokensDecideLibraries}
use Rattle.text_laws.proofs.WholeLemmas.{early-whole, same-whole}
use Rattle.text_laws.proofs.LibraryGrammarLemmas.{IsEarly-library}

pub early-library-faults : LibraryFaultsAreDecidedEarly
unfolding library_of
early-library-faults d = early-whole (library d) (IsEarly-library d)

pub tokens-decide : TokensDecideLibraries
unfolding library_of
tokens-decide d text other short other_short same = ap (λ place. value_of (library d place)) (same-whole text other short other_short same)
