-- What the steps of reading tokens do.
use Rattle.std.specs.Prelude.{◌≡◌, ℕ, ◌+◌, ◌<◌, ◌≤◌, Bool, true, false, List, [], ◌∷◌, ◌++◌, length, Option, Some, None, Result, Ok, Err}
use Rattle.gr_io.specs.Counts.{Rose}
use Rattle.gr_io.specs.declared.shelf.Slot.{Slot}
use Rattle.gr_text.specs.declared.tokens.Token.{Token}
use Rattle.gr_text.specs.declared.tokens.TokenError.{TokenError}
use Rattle.gr_text.specs.declared.tokens.TokenError.TheVariants.{Failed, TooLong, NoMemory}
use Rattle.std.specs.List.{list_all, position_or_len}
use Rattle.gr_text.specs.Tokens.{Place, Ending, AtEnd, PastLimit, is_blank, place_in}
use Rattle.gr_text.specs.Streams.{Stream, Countable, usable, place_of, place_at, ReadsLittleAhead, IsCut}

-- the token was the next, and is behind the place now
pub record IsNext (before : Place) (word : List ℕ) (after : Place) : Type 0 where
  pub number : after.number ≡ before.number + 1
  pub rest : before.rest ≡ word ∷ after.rest
  pub ending : after.ending ≡ before.ending

-- no token is left, and this stands behind the last one
pub record IsLast (place : Place) (ending : Ending) : Type 0 where
  pub rest : place.rest ≡ []
  pub behind : place.ending ≡ ending

-- what a step from a place gave: the next token; nothing, exactly at the text's end; or that the text
-- goes on past its limit and no further token is followed by a blank before
abbrev pub Advances : Place → Result Bool TokenError → List ℕ → Place → Type 0
Advances before (Ok true) word after = IsNext before word after
Advances before (Ok false) word after = IsLast before AtEnd × (after ≡ before)
Advances before (Err (TooLong token)) word after = IsLast before PastLimit × (token ≡ before.number + 1)
Advances before (Err Failed) word after = Unit {0}
Advances before (Err NoMemory) word after = Unit {0}

-- the same of a call that gives the token itself
abbrev pub GivesToken : Place → Result (Option Token) TokenError → Place → Type 0
GivesToken before (Ok (Some token)) after = IsNext before token.text after × (token.number ≡ after.number)
GivesToken before (Ok None) after = IsLast before AtEnd × (after ≡ before)
GivesToken before (Err (TooLong token)) after = IsLast before PastLimit × (token ≡ before.number + 1)
GivesToken before (Err Failed) after = Unit {0}
GivesToken before (Err NoMemory) after = Unit {0}

-- the same of a stream over the unread bytes of each slot
abbrev pub GoesOn : Stream → (Slot → List ℕ) → Result Bool TokenError → Stream → (Slot → List ℕ) → Type 0
GoesOn before left result after left_after =
    Advances (place_at before left) result after.word (place_of after (left_after before.slot))

abbrev pub GivesNext : Stream → (Slot → List ℕ) → Result (Option Token) TokenError → Stream → (Slot → List ℕ) → Type 0
GivesNext before left result after left_after =
    GivesToken (place_at before left) result (place_of after (left_after before.slot))

-- the word was read, and at most one piece behind it
abbrev pub ReadsLittle : Stream → (Slot → List ℕ) → List ℕ → Stream → (Slot → List ℕ) → Type 0
ReadsLittle before left word after left_after =
    ReadsLittleAhead (before.pending ++ left before.slot) word after.pending (left_after before.slot)

-- what a step read of a text where it gave no token: blanks to its end, or up to its limit and at most one piece behind it
abbrev pub ReadsOn : (bytes : List ℕ) → Result Bool TokenError → (pending left : List ℕ) → Type 0
ReadsOn bytes (Ok true) pending left = Unit {0}
ReadsOn bytes (Ok false) pending left = (list_all is_blank bytes ≡ true) × (pending ≡ []) × (left ≡ [])
ReadsOn bytes (Err (TooLong token)) pending left = IsCut bytes left
ReadsOn bytes (Err Failed) pending left = Unit {0}
ReadsOn bytes (Err NoMemory) pending left = Unit {0}

-- the count of faults rose where a read failed, and is as before where not
abbrev pub Counted : {V : Type 0} → Result V TokenError → ℕ → ℕ → Type 0
Counted (Ok value) before after = after ≡ before
Counted (Err (TooLong token)) before after = after ≡ before
Counted (Err Failed) before after = (before ≤ after) × Rose before after
Counted (Err NoMemory) before after = after ≡ before

-- where no usable byte is ahead: more bytes were read; or the text has ended, and no more is used; or it goes on past its
-- limit
abbrev pub Refills : Stream → Result Bool TokenError → Stream → Type 0
Refills before (Ok true) after =
    (before.pending ≡ []) × (0 < length after.pending) × (after ≡ record before { pending = after.pending })
Refills before (Ok false) after = (before.pending ≡ []) × (after ≡ record before { room = 0 })
Refills before (Err (TooLong token)) after =
    (0 < length before.pending) × (after ≡ before) × (token ≡ before.number + 1)
Refills before (Err Failed) after = Unit {0}
Refills before (Err NoMemory) after = Unit {0}

-- what was read, and what is left then
abbrev pub LeavesRest : Result Bool TokenError → (pending before after : List ℕ) → Type 0
LeavesRest (Ok true) pending before after = pending ++ after ≡ before
LeavesRest (Ok false) pending before after = (before ≡ []) × (after ≡ [])
LeavesRest (Err (TooLong token)) pending before after = after ≡ before
LeavesRest (Err Failed) pending before after = Unit {0}
LeavesRest (Err NoMemory) pending before after = Unit {0}

-- the stream has a byte ahead that isn't blank, and the token in hand is let go
pub record IsAtWord (before after : Stream) : Type 0 where
  pub is : after ≡ record before { word = []; pending = after.pending; room = after.room }
  pub solid : 0 < position_or_len is_blank (usable after)
  pub countable : Countable after.number after.room

-- the stream went to a byte that isn't blank, or to the text's end
abbrev pub Seeks : Stream → Result Bool TokenError → Stream → Type 0
Seeks before (Ok true) after = IsAtWord before after
Seeks before (Ok false) after = after ≡ record before { word = []; pending = []; room = 0 }
Seeks before (Err (TooLong token)) after = token ≡ before.number + 1
Seeks before (Err Failed) after = Unit {0}
Seeks before (Err NoMemory) after = Unit {0}

-- blanks in front of a text, of which so many bytes may be used, were passed
pub record Skips (room : ℕ) (bytes : List ℕ) (new_room : ℕ) (new_bytes : List ℕ) : Type 0 where
  pub blanks : List ℕ
  pub blank : list_all is_blank blanks ≡ true
  pub bytes_are : bytes ≡ blanks ++ new_bytes
  pub room_is : room ≡ length blanks + new_room

-- the whole text was blanks
pub record SkipsAll (room : ℕ) (bytes : List ℕ) (new_bytes : List ℕ) : Type 0 where
  pub most : ℕ
  pub skipped : Skips room bytes most []
  pub none : new_bytes ≡ []

-- what of the text was passed: the blanks before a token, or up to the end, or up to the limit
abbrev pub SkipsTo : Result Bool TokenError → ℕ → List ℕ → ℕ → List ℕ → Type 0
SkipsTo (Ok true) room bytes new_room new_bytes = Skips room bytes new_room new_bytes
SkipsTo (Ok false) room bytes new_room new_bytes = SkipsAll room bytes new_bytes
SkipsTo (Err (TooLong token)) room bytes new_room new_bytes = Skips room bytes 0 new_bytes × (0 < length new_bytes)
SkipsTo (Err Failed) room bytes new_room new_bytes = Unit {0}
SkipsTo (Err NoMemory) room bytes new_room new_bytes = Unit {0}

-- one more token is given
abbrev pub TakesOne : Stream → Result (Unit {0}) TokenError → Stream → Type 0
TakesOne before (Ok done) after = after ≡ record before {
  number = before.number + 1;
  word = after.word;
  pending = after.pending;
  room = after.room;
}
TakesOne before (Err (TooLong token)) after = token ≡ before.number + 1
TakesOne before (Err Failed) after = Unit {0}
TakesOne before (Err NoMemory) after = Unit {0}

-- the token that a text begins with, of which so many bytes may be used, is in hand; or no blank follows it within the
-- limit
abbrev pub TakesToken : (room number : ℕ) → List ℕ → Result (Unit {0}) TokenError → Stream → List ℕ → Type 0
TakesToken room number bytes (Ok done) after left =
    IsNext (place_in room number bytes) after.word (place_of after left) ×
    ReadsLittleAhead bytes after.word after.pending left
TakesToken room number bytes (Err (TooLong token)) after left =
    IsLast (place_in room number bytes) PastLimit × IsCut bytes left
TakesToken room number bytes (Err Failed) after left = Unit {0}
TakesToken room number bytes (Err NoMemory) after left = Unit {0}

-- what a step leaves of a source that has read little more of a text than its tokens so far
abbrev pub Steps : Result Bool TokenError → Type 0 → (ℕ → Type 0) → Type 0
Steps (Ok more) reaches stops = reaches
Steps (Err (TooLong token)) reaches stops = stops token
Steps (Err Failed) reaches stops = Unit {0}
Steps (Err NoMemory) reaches stops = Unit {0}
