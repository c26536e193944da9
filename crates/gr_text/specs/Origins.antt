-- Where the tokens of a text come from.
use Rattle.std.specs.Prelude.{ℕ, List, Option}
use base.Fml.{GName}
use Rattle.gr_io.specs.declared.shelf.Slot.{Slot}

-- what no reading changes: which shelf it is, the slot that is read, how often a name was missing, and the texts that
-- the shelf holds
pub record Origin : Type 0 where
  pub reference : GName
  pub slot : Slot
  pub misses : ℕ
  pub held : Slot → List ℕ → Option (List ℕ)
