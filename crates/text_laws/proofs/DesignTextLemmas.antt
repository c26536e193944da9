-- A whole design text and its tokens.
use Rattle.std.proofs.Common.{ap}
use Rattle.gr_text.specs.Reading.{value_of}
use Rattle.ispd_reader.specs.DesignText.{design, design_of}
use Rattle.text_laws.specs.EarlyFaults.{FaultsAreDecidedEarly, TokensDecideDesigns}
use Rattle.text_laws.proofs.WholeLemmas.{early-whole, same-whole}
use Rattle.text_laws.proofs.GrammarLemmas.{IsEarly-design}

pub early-faults : FaultsAreDecidedEarly
unfolding design_of
early-faults = early-whole design IsEarly-design

pub tokens-decide : TokensDecideDesigns
unfolding design_of
tokens-decide text other short other_short same = ap (λ place. value_of (design place)) (same-whole text other short other_short same)
