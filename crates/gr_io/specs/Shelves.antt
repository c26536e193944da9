-- What the calls that read a shelf keep of it.
use Rattle.std.specs.Prelude.{◌≡◌, ℕ, Bool, List, Option, IsTrue}
use Rattle.gr_io.specs.declared.shelf.Slot.{Slot}

-- what is open stays open
abbrev pub StaysOpen : (before after : Slot → Bool) → Type 0
StaysOpen before after = (slot : Slot) → IsTrue (before slot) → IsTrue (after slot)

-- each name has the bytes that it had
abbrev pub SameTexts : (before after : Slot → List ℕ → Option (List ℕ)) → Type 0
SameTexts before after = (slot : Slot) → (name : List ℕ) → after slot name ≡ before slot name

-- no name more was missing, what is open stays open, and each name has its bytes
pub record KeepsShelf {S : Type 0} (misses : S → ℕ) (reached : S → Slot → Bool)
    (held : S → Slot → List ℕ → Option (List ℕ)) (before after : S) : Type 0 where
  pub same_misses : misses after ≡ misses before
  pub stays_open : StaysOpen (reached before) (reached after)
  pub same_texts : SameTexts (held before) (held after)
