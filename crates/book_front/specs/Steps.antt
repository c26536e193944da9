-- What the steps of seats tell.
use Rattle.std.specs.Prelude.{◌≡◌, ℕ, ◌<◌, ◌≤◌, List, length, All, Some, slice_get}
use mathlib.Core.List.{IsPrefix}
use Rattle.atomic_table.specs.Table.{Me}
use Rattle.book_state.specs.Entries.{calls_of}
use Rattle.book_state.specs.declared.entry.Entry.{Entry}
use Rattle.book_front.specs.Views.{with_entry}
use Rattle.book_front.specs.declared.view.Ended.{Ended}
use Rattle.book_front.specs.declared.view.View.{View}

-- a pass with the role has added an entry: all that it had seen before it took the role begins the history, and its
-- own entries are those of its number
pub record Appends (e : Entry) (before after : Me (Unit {0}) View) : Type 0 where
  pub slots : after.1 ≡ before.1
  pub view : after.0 ≡ with_entry before.0 e
  pub old : IsPrefix before.0.old before.0.seen
  pub mine : after.0.mine ≡ calls_of after.0.number after.0.seen

-- a pass has looked: there are at least as many entries as it has seen
pub record Looks (before : Me (Unit {0}) View) (found : ℕ) (after : Me (Unit {0}) View) : Type 0 where
  pub same : after ≡ before
  pub most : length before.0.seen ≤ found
  pub old : IsPrefix before.0.old before.0.seen
  pub mine : before.0.mine ≡ calls_of before.0.number before.0.seen

-- what an ended pass had seen begins the history, and its own entries are all of its number
pub record IsTold (log : List Entry) (e : Ended) : Type 0 where
  pub begins : IsPrefix e.seen log
  pub mine : e.mine ≡ calls_of e.number log

-- the keeper has looked: the word is the length of its list, and what ended passes knew is true of it
pub record Finishes (before : Me (Unit {0}) View) (found : ℕ) (after : Me (Unit {0}) View) : Type 0 where
  pub same : after ≡ before
  pub all : found ≡ length before.0.seen
  pub gone : (place : ℕ) (e : Ended) → slice_get before.0.ended place ≡ Some e → IsTold before.0.seen e
  pub numbers : All (λ (e : Entry). e.number < before.0.made) before.0.seen
