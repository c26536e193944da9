-- A reader's result beside what the grammar says.
use Rattle.std.specs.Prelude.{◌≡◌, ℕ, ◌≤◌, Bool, List, Option, Some, None, Result, Ok, Err, if◌then◌else◌, IsTrue}
use Rattle.gr_io.specs.Counts.{Rose}
use Rattle.gr_text.specs.declared.source.ReadError.{ReadError}
use Rattle.gr_text.specs.declared.source.ReadError.TheVariants.{Fault, Failed, NoMemory}
use Rattle.gr_text.specs.Tokens.{Place}
use Rattle.gr_text.specs.Reading.{Read, Reader}
use Rattle.gr_text.specs.Streams.{Stream}
use Rattle.gr_text.specs.Unread.{HasRead, IsReadTo}
use Rattle.gr_io.specs.declared.shelf.Slot.{Slot}

-- the result is what the grammar says, seen as the grammar's values, and the place is the one behind it;
-- a failed read and want of memory say nothing of the text
abbrev pub Reads : {F A V : Type 0} → Read F A → (V → A) → Result V (ReadError F) → Place → Type 0
Reads read view (Ok value) place = read ≡ Ok (view value, place)
Reads read view (Err (Fault fault token)) place = read ≡ Err (fault, token)
Reads read view (Err Failed) place = Unit {0}
Reads read view (Err NoMemory) place = Unit {0}

-- where the source tells its tokens, the result is what the grammar says at its place before
abbrev pub ReadsBy : {S F A V : Type 0} → (tells : Bool) → (S → Place) → Reader F A → (V → A) → Result V (ReadError F) →
    (before after : S) → Type 0
ReadsBy tells place reader view result before after =
    IsTrue tells → Reads (reader (place before)) view result (place after)

-- the word in hand, where there is one more
abbrev pub word_if : List ℕ → Bool → Option (List ℕ)
word_if word more = if more then Some word else None

-- the shelf's count of faults rose where a read failed, and is as before where not
abbrev pub Counts : {F V : Type 0} → Result V (ReadError F) → ℕ → ℕ → Type 0
Counts (Ok value) before after = after ≡ before
Counts (Err (Fault fault token)) before after = after ≡ before
Counts (Err Failed) before after = (before ≤ after) × Rose before after
Counts (Err NoMemory) before after = after ≡ before

-- the answer is what a text says, or its first fault; a failed read and want of memory say nothing of the text
abbrev pub Says : {F A : Type 0} → Result A (F × ℕ) → Result A (ReadError F) → Type 0
Says said (Ok value) = said ≡ Ok value
Says said (Err (Fault fault token)) = said ≡ Err (fault, token)
Says said (Err Failed) = Unit {0}
Says said (Err NoMemory) = Unit {0}

-- a source goes on from what it has read of a text: a value leaves it so that little more is read, and so does a fault
-- behind the token that it names; a failed read and want of memory say nothing
abbrev pub Reaches : {F V : Type 0} → Result V (ReadError F) → Type 0 → (ℕ → Type 0) → Type 0
Reaches (Ok value) reaches stops = reaches
Reaches (Err (Fault fault token)) reaches stops = stops token
Reaches (Err Failed) reaches stops = Unit {0}
Reaches (Err NoMemory) reaches stops = Unit {0}

-- so it is of each text
abbrev pub Onward : {S F V : Type 0} → (reaches : S → List ℕ → Type 0) → (stops : S → List ℕ → ℕ → Type 0) →
    Result V (ReadError F) → (before after : S) → Type 0
Onward reaches stops result before after =
    (bytes : List ℕ) → reaches before bytes → Reaches result (reaches after bytes) (stops after bytes)

-- what a call that takes tokens leaves of the source, by the words of its trait: the reads that failed are counted, little
-- is read behind what it took, and the tokens come from where they came before
pub record Moves {S F V O : Type 0} (faults : S → ℕ) (reaches : S → List ℕ → Type 0) (stops : S → List ℕ → ℕ → Type 0)
    (origin : S → O) (result : Result V (ReadError F)) (before after : S) : Type 0 where
  pub counts : Counts result (faults before) (faults after)
  pub onward : Onward reaches stops result before after
  pub same : origin after ≡ origin before

-- the same of a stream over the unread bytes of each slot
abbrev pub GoesThrough : {F V : Type 0} → (tells : Bool) → Result V (ReadError F) → (before : Stream) → (Slot → List ℕ) →
    (after : Stream) → (Slot → List ℕ) → Type 0
GoesThrough tells result before left after left_after = (bytes : List ℕ) →
    (IsTrue tells → HasRead bytes before.number before.pending (left before.slot)) →
    Reaches result (IsTrue tells → HasRead bytes after.number after.pending (left_after after.slot))
    (λ token. IsTrue tells → IsReadTo bytes token (left_after after.slot))

-- a fact of the token at which a text is at fault
abbrev pub AtFault : {F V : Type 0} → Result V (ReadError F) → (ℕ → Type 0) → Type 0
AtFault (Ok value) fact = Unit {0}
AtFault (Err (Fault fault token)) fact = fact token
AtFault (Err Failed) fact = Unit {0}
AtFault (Err NoMemory) fact = Unit {0}
