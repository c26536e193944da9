-- The tokens of a slot's text, read piece by piece.
use Rattle.std.specs.Prelude.{◌≡◌, ℕ, ◌-◌, ◌+◌, ◌^◌, ◌<◌, ◌≤◌, ◌⊎◌, true, false, not, Bool, nat_lt, List, [], ◌++◌, length, take, drop}
use Rattle.std.specs.List.{list_all, position_or_len}
use Rattle.gr_io.specs.declared.shelf.Slot.{Slot}
use Rattle.gr_text.specs.Tokens.{Place, place_in, is_blank}

-- a piece of a text: its bytes that are taken, and those ahead
pub record Cursor : Type 0 where
  pub taken : List ℕ
  pub ahead : List ℕ

-- the tokens of a slot's text: how many were given, the last of them, the bytes that were read and lie behind it,
-- and how many more bytes may be used
pub record Stream : Type 0 where
  pub slot : Slot
  pub number : ℕ
  pub word : List ℕ
  pub pending : List ℕ
  pub room : ℕ
  pub broken : Bool

-- so many tokens are given that the rest can be numbered, each token but the last taking two bytes or more
pub record Countable (number room : ℕ) : Type 0 where
  pub all : number + number + room ≤ 2 ^ 64
  pub more : 0 < room → number + number + room < 2 ^ 64

-- what is true inside a stream: the token in hand lies in earlier pieces or in this one
pub record Holds (carried taken : List ℕ) (from to number room : ℕ) : Type 0 where
  pub ordered : from ≤ to
  pub inside : to ≤ length taken
  pub one_part : (carried ≡ []) ⊎ (from ≡ to)
  pub countable : Countable number room

-- no token is given yet, and so many bytes may be used
abbrev pub new_stream : Slot → ℕ → Stream
new_stream slot limit = record { slot = slot; number = 0; word = []; pending = []; room = limit; broken = false }

-- where the stream stands among the tokens, given the bytes that are still unread
abbrev pub place_of : Stream → List ℕ → Place
place_of stream left = place_in stream.room stream.number (stream.pending ++ left)

-- the same, given the unread bytes of each slot
abbrev pub place_at : Stream → (Slot → List ℕ) → Place
place_at stream left = place_of stream (left stream.slot)

-- the stream past its next bytes
abbrev pub passed : ℕ → Stream → Stream
passed count stream = record stream { pending = drop count stream.pending; room = stream.room - count }

-- the stream with its next bytes in the token in hand
abbrev pub grown : ℕ → Stream → Stream
grown count stream = record (passed count stream) { word = stream.word ++ take count stream.pending }

-- the bytes that are read and may be used
abbrev pub usable : Stream → List ℕ
usable stream = take stream.room stream.pending

-- the usable blanks were passed, and another byte follows them or not
pub record SkipsAhead (before : Stream) (more : Bool) (after : Stream) : Type 0 where
  pub is : after ≡ passed (position_or_len (λ byte. not (is_blank byte)) (usable before)) before
  pub found : more ≡ nat_lt (position_or_len (λ byte. not (is_blank byte)) (usable before)) (length (usable before))

-- the usable bytes up to a blank were added to the token in hand, and a blank follows or not
pub record GrowsAhead (before : Stream) (closed : Bool) (after : Stream) : Type 0 where
  pub is : after ≡ grown (position_or_len is_blank (usable before)) before
  pub found : closed ≡ nat_lt (position_or_len is_blank (usable before)) (length (usable before))

-- the bytes were blanks, the token, blanks behind it, what was read and lies ahead, and what is left; what was read behind
-- the token's last byte is at most one piece
pub record ReadsLittleAhead (bytes word pending left : List ℕ) : Type 0 where
  pub blanks : List ℕ
  pub behind : List ℕ
  pub is : bytes ≡ blanks ++ (word ++ (behind ++ (pending ++ left)))
  pub blank : list_all is_blank blanks ≡ true
  pub closed : list_all is_blank behind ≡ true
  pub little : length (behind ++ pending) ≤ 65536

-- the bytes were blanks, the part of a token that lies within the limit, and what was read behind the limit, at most one
-- piece
pub record IsCut (bytes left : List ℕ) : Type 0 where
  pub blanks : List ℕ
  pub word : List ℕ
  pub ahead : List ℕ
  pub is : bytes ≡ blanks ++ (word ++ (ahead ++ left))
  pub blank : list_all is_blank blanks ≡ true
  pub solid : list_all (λ byte. not (is_blank byte)) word ≡ true
  pub little : length ahead ≤ 65536
