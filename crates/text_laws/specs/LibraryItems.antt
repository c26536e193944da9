-- How many items a library text may have.
use Rattle.std.specs.Prelude.{◌≡◌, ℕ, ◌<◌, length}
use Rattle.gr_base.specs.Designs.{DesignView}
use Rattle.gr_text.specs.Tokens.{Place}
use Rattle.rc_library.specs.Gathered.{Gathered}
use Rattle.rc_library.specs.LibraryText.{items}

-- An item takes a token or more. So, where more items may come than tokens are left, how many more makes no difference.
abbrev pub ItemsEndWithTheirTokens : Type 0
ItemsEndWithTheirTokens = (d : DesignView) (g : Gathered) (place : Place) (one other : ℕ) →
    length place.rest < one → length place.rest < other → items one d g place ≡ items other d g place
