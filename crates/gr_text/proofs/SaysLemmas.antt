-- What a whole text says, read from its first token.
use Rattle.std.proofs.Common.{◌≡◌, ℕ, List, Result, Ok, Err, ap, subst}
use Rattle.gr_io.specs.declared.shelf.Slot.{Slot}
use Rattle.gr_text.specs.declared.source.ReadError.{ReadError}
use Rattle.gr_text.specs.declared.source.ReadError.TheVariants.{Fault, Failed, NoMemory}
use Rattle.gr_text.specs.Tokens.{Place, place_in}
use Rattle.gr_text.specs.Streams.{Stream, new_stream, place_at}
use Rattle.gr_text.specs.Reading.{Read, value_of}
use Rattle.gr_text.specs.Reads.{Reads, Says}

-- a stream that begins is at the first place of its text
pub from-start : (slot : Slot) (limit : ℕ) (stream : Stream) (left : Slot → List ℕ) → stream ≡ new_stream slot limit →
    (P : Place → Type 0) → P (place_at stream left) → P (place_in limit 0 (left slot))
from-start slot limit stream left is P p = subst (λ (s : Stream). P (place_at s left)) is p

-- what is read at a place is what is said there
pub says-value : {F A : Type 0} (read : Read F A) (result : Result A (ReadError F)) (place : Place) → Reads read (λ (a : A). a) result place →
    Says (value_of read) result
says-value read (Ok value) place is = ap value_of is
says-value read (Err (Fault fault token)) place is = ap value_of is
says-value read (Err Failed) place is = tt
says-value read (Err NoMemory) place is = tt
