-- What decides a design text.
use Rattle.std.specs.Prelude.{◌≡◌, ℕ, ◌≤◌, List, length, take, Err}
use Rattle.gr_base.specs.Limits.{most_bytes}
use Rattle.gr_text.specs.Tokens.{tokens}
use Rattle.ispd_reader.specs.DesignText.{design_of}
use Rattle.ispd_reader.specs.declared.fault.DesignFault.{DesignFault}

-- The first fault is decided by the tokens up to it: each text with the same tokens, up to and with the faulty one, has
-- the same fault at the same token. Where a text ends too early, the fault's number is one more than the text has tokens;
-- a text with the same tokens up to that number has these tokens and no other, so that fault is decided by all tokens and
-- the end. Both texts are within the limit of what is read; neither then goes on past it.
abbrev pub FaultsAreDecidedEarly : Type 0
FaultsAreDecidedEarly = (text other : List ℕ) (fault : DesignFault) (token : ℕ) →
    length text ≤ most_bytes → length other ≤ most_bytes → take token (tokens text) ≡ take token (tokens other) →
    design_of text ≡ Err (fault, token) → design_of other ≡ Err (fault, token)

-- What a text says is decided by its tokens: the bytes between them mean nothing.
abbrev pub TokensDecideDesigns : Type 0
TokensDecideDesigns = (text other : List ℕ) → length text ≤ most_bytes → length other ≤ most_bytes →
    tokens text ≡ tokens other → design_of text ≡ design_of other
