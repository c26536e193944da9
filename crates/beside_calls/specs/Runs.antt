-- Calls of a function at the places of a list, which are numbered from some number on.
use Rattle.std.specs.Prelude.{◌≡◌, ℕ, ◌+◌, ◌<◌, List, length, slice_index_or}
use denote.Ref.{MutBor}
use denote.Param.Members.{Shared}
use Rattle.std.specs.Fork.{AcceptsAt, ChangesAt}

module _ {F T : Type 0} (g : Shared F (ℕ × (MutBor T × Unit {0})) ((Unit {0}) × (MutBor T × Unit {0}))) (f : F) where
  -- the function may be called at each place of the list, the first of which has this number
  pub record AreReady (base : ℕ) (xs : List T) : Type 0 where
    pub each : (k : ℕ) (default : T) → k < length xs → AcceptsAt g f (base + k) (slice_index_or xs k default)

  -- each element is what such a call left
  pub record AreDone (base : ℕ) (xs ys : List T) : Type 0 where
    pub long : length ys ≡ length xs
    pub each : (k : ℕ) (default : T) → k < length xs → ChangesAt g f (base + k) (slice_index_or xs k default) (slice_index_or ys k default)
