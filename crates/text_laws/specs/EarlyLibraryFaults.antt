-- What decides a library text.
use Rattle.std.specs.Prelude.{◌≡◌, ℕ, ◌≤◌, List, length, take, Err}
use Rattle.gr_base.specs.Limits.{most_bytes}
use Rattle.gr_base.specs.Designs.{DesignView}
use Rattle.gr_text.specs.Tokens.{tokens}
use Rattle.rc_library.specs.LibraryText.{library_of}
use Rattle.rc_library.specs.declared.fault.LibraryFault.{LibraryFault}

-- The first fault is decided by the design and by the tokens up to it, as that of a design text is.
abbrev pub LibraryFaultsAreDecidedEarly : Type 0
LibraryFaultsAreDecidedEarly = (d : DesignView) (text other : List ℕ) (fault : LibraryFault) (token : ℕ) →
    length text ≤ most_bytes → length other ≤ most_bytes → take token (tokens text) ≡ take token (tokens other) →
    library_of d text ≡ Err (fault, token) → library_of d other ≡ Err (fault, token)

-- What a text says for a design is decided by its tokens.
abbrev pub TokensDecideLibraries : Type 0
TokensDecideLibraries = (d : DesignView) (text other : List ℕ) → length text ≤ most_bytes → length other ≤ most_bytes →
    tokens text ≡ tokens other → library_of d text ≡ library_of d other
