-- What is kept of a shelf by one call after another.
use Rattle.std.proofs.Common.{ℕ, Bool, List, Option, ◌∙◌}
use Rattle.gr_io.specs.declared.shelf.Slot.{Slot}
use Rattle.gr_io.specs.Shelves.{KeepsShelf}

pub keeps-then : {S : Type 0} {misses : S → ℕ} {reached : S → Slot → Bool} {held : S → Slot → List ℕ → Option (List ℕ)}
    {first second third : S} → KeepsShelf misses reached held first second → KeepsShelf misses reached held second third →
    KeepsShelf misses reached held first third
keeps-then one two = record {
  same_misses = two.same_misses ∙ one.same_misses;
  stays_open = λ slot was. two.stays_open slot (one.stays_open slot was);
  same_texts = λ slot name. two.same_texts slot name ∙ one.same_texts slot name;
}
