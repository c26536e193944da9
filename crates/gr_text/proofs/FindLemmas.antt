-- The next token, found behind the blanks in front of it.
use Rattle.std.proofs.Common.{◌≡◌, ℕ, ◌+◌, ◌≤◌, false, List, [], ◌++◌, length, Ok, Err, refl, sym, ap, subst, ◌∙◌, append_assoc, append-nil}
use Rattle.std.specs.List.{list_all}
use Rattle.std.proofs.lemmas.List.Folds.{list_all-append}
use Rattle.gr_io.specs.declared.shelf.Slot.{Slot}
use Rattle.gr_text.specs.declared.tokens.TokenError.{TokenError}
use Rattle.gr_text.specs.declared.tokens.TokenError.TheVariants.{Failed, TooLong, NoMemory}
use Rattle.gr_text.specs.Tokens.{is_blank, Place, place_in, AtEnd, PastLimit}
use Rattle.gr_text.specs.Streams.{Stream, place_of, ReadsLittleAhead, IsCut}
use Rattle.gr_text.specs.Steps.{IsNext, IsLast, Advances, ReadsOn, Seeks, Skips, SkipsAll, SkipsTo, TakesOne, TakesToken, IsAtWord}
use Rattle.gr_text.proofs.TokenLemmas.{place-blanks, place-past, place-end, place-is_end, place-number}

pub skips-place : (number room : ℕ) (bytes : List ℕ) (new_room : ℕ) (new_bytes : List ℕ) → Skips room bytes new_room new_bytes →
    place_in room number bytes ≡ place_in new_room number new_bytes
skips-place number room bytes new_room new_bytes skips =
    let P : ℕ → Type 0 = λ r. place_in r number bytes ≡ place_in new_room number new_bytes in
    let Q : List ℕ → Type 0 = λ bs. place_in (length skips.blanks + new_room) number bs ≡ place_in new_room number new_bytes in
    subst P (sym skips.room_is) (subst Q (sym skips.bytes_are) (place-blanks skips.blanks new_bytes new_room number skips.blank))

-- a token behind blanks
pub find-next : (before at after : Stream) (bytes new_bytes left : List ℕ) → Skips before.room bytes at.room new_bytes → IsAtWord before at →
    TakesToken at.room at.number new_bytes (Ok tt) after left → IsNext (place_in before.room before.number bytes) after.word (place_of after left)
find-next before at after bytes new_bytes left skips sought taken =
    let same : at.number ≡ before.number = ap (λ (s : Stream). s.number) sought.is in
    let place : place_in before.room before.number bytes ≡ place_in at.room at.number new_bytes =
    skips-place before.number before.room bytes at.room new_bytes skips ∙ ap (λ n. place_in at.room n new_bytes) (sym same) in
    let P : Place → Type 0 = λ p. IsNext p after.word (place_of after left) in
    subst P (sym place) taken.0

pub find-little : (before at after : Stream) (bytes new_bytes left : List ℕ) → Skips before.room bytes at.room new_bytes →
    TakesToken at.room at.number new_bytes (Ok tt) after left → ReadsLittleAhead bytes after.word after.pending left
find-little before at after bytes new_bytes left skips taken =
    let ends = taken.1 in
    record {
      blanks = skips.blanks ++ ends.blanks;
      behind = ends.behind;
      is = skips.bytes_are ∙ ap (λ xs. skips.blanks ++ xs) ends.is ∙
          sym (append_assoc skips.blanks ends.blanks (after.word ++ (ends.behind ++ (after.pending ++ left))));
      blank = list_all-append is_blank skips.blanks ends.blanks ∙ rw (skips.blank, ends.blank) refl;
      closed = ends.closed;
      little = ends.little;
    }

-- what was read where the limit comes before the end of a token
pub cut-behind : (room : ℕ) (bytes : List ℕ) (new_room : ℕ) (new_bytes left : List ℕ) → Skips room bytes new_room new_bytes → IsCut new_bytes left → IsCut bytes left
cut-behind room bytes new_room new_bytes left skips cut = record {
  blanks = skips.blanks ++ cut.blanks;
  word = cut.word;
  ahead = cut.ahead;
  is = skips.bytes_are ∙ ap (λ xs. skips.blanks ++ xs) cut.is ∙
      sym (append_assoc skips.blanks cut.blanks (cut.word ++ (cut.ahead ++ left)));
  blank = list_all-append is_blank skips.blanks cut.blanks ∙ rw (skips.blank, cut.blank) refl;
  solid = cut.solid;
  little = cut.little;
}

-- likewise, where the step's error is handed on
pub word-cut : (room number : ℕ) (bytes new_bytes : List ℕ) (after : Stream) (left pending : List ℕ) (new_room : ℕ) (error : TokenError) →
    Skips room bytes new_room new_bytes → TakesToken new_room number new_bytes (Err error) after left → ReadsOn bytes (Err error) pending left
word-cut room number bytes new_bytes after left pending new_room Failed skips taken = tt
word-cut room number bytes new_bytes after left pending new_room NoMemory skips taken = tt
word-cut room number bytes new_bytes after left pending new_room (TooLong token) skips taken =
    cut-behind room bytes new_room new_bytes left skips taken.1

-- blanks up to the limit, and what was read behind it
pub blanks-cut : (room : ℕ) (bytes : List ℕ) (after : Stream) (left : List ℕ) (error : TokenError) → length after.pending ≤ 65536 →
    SkipsTo (Err error) room bytes after.room (after.pending ++ left) → ReadsOn bytes (Err error) after.pending left
blanks-cut room bytes after left Failed few skips = tt
blanks-cut room bytes after left NoMemory few skips = tt
blanks-cut room bytes after left (TooLong token) few skips = record {
  blanks = skips.0.blanks;
  word = [];
  ahead = after.pending;
  is = skips.0.bytes_are;
  blank = skips.0.blank;
  solid = refl;
  little = few;
}

-- nothing but blanks up to the end
pub blanks-end : (before after : Stream) (bytes left : List ℕ) → Seeks before (Ok false) after → SkipsAll before.room bytes (after.pending ++ left) →
    ReadsOn bytes (Ok false) after.pending left
blanks-end before after bytes left sought all =
    let is : bytes ≡ all.skipped.blanks = all.skipped.bytes_are ∙ append-nil all.skipped.blanks in
    let none : after.pending ≡ [] = ap (λ (s : Stream). s.pending) sought in
    (ap (list_all is_blank) is ∙ all.skipped.blank, none, ap (λ xs. xs ++ left) (sym none) ∙ all.none)

-- a token that no blank follows within the limit
pub find-cut : (before at after : Stream) (bytes new_bytes left : List ℕ) (error : TokenError) (word : List ℕ) (place : Place) →
    Skips before.room bytes at.room new_bytes → IsAtWord before at → TakesOne at (Err error) after →
    TakesToken at.room at.number new_bytes (Err error) after left → Advances (place_in before.room before.number bytes) (Err error) word place
find-cut before at after bytes new_bytes left Failed word place skips sought one taken = tt
find-cut before at after bytes new_bytes left NoMemory word place skips sought one taken = tt
find-cut before at after bytes new_bytes left (TooLong token) word place skips sought one taken =
    let same : at.number ≡ before.number = ap (λ (s : Stream). s.number) sought.is in
    let place_is : place_in before.room before.number bytes ≡ place_in at.room at.number new_bytes =
    skips-place before.number before.room bytes at.room new_bytes skips ∙ ap (λ n. place_in at.room n new_bytes) (sym same) in
    let P : Place → Type 0 = λ p. IsLast p PastLimit in (
      subst P (sym place_is) taken.0,
      one ∙ ap (λ n. n + 1) same ∙ ap (λ n. n + 1) (sym (place-number before.room before.number bytes)),
    )

-- the same slot by another name
pub taken-at : (at after : Stream) (left left' : Slot → List ℕ) (slot other : Slot) (error : TokenError) → slot ≡ other →
    TakesToken at.room at.number (at.pending ++ left slot) (Err error) after (left' slot) →
    TakesToken at.room at.number (at.pending ++ left other) (Err error) after (left' other)
taken-at at after left left' slot other error same taken =
    let P : Slot → Type 0 = λ s. TakesToken at.room at.number (at.pending ++ left s) (Err error) after (left' s) in
    subst P same taken

-- blanks up to the text's end
pub find-end : (before after : Stream) (bytes left : List ℕ) → SkipsAll before.room bytes (after.pending ++ left) →
    after.number ≡ before.number →
    IsLast (place_in before.room before.number bytes) AtEnd × (place_of after left ≡ place_in before.room before.number bytes)
find-end before after bytes left all same =
    let place_is : place_in before.room before.number bytes ≡ place_in all.most before.number [] =
    skips-place before.number before.room bytes all.most [] all.skipped in
    let P : Place → Type 0 = λ p. IsLast p AtEnd in (
      subst P (sym place_is) (place-is_end all.most before.number),
      ap (λ bs. place_in after.room after.number bs) all.none ∙ place-end after.room after.number ∙
          ap (λ n. record { number = n; rest = []; ending = AtEnd }) same ∙ sym (place-end all.most before.number) ∙ sym place_is,
    )

-- blanks up to the limit
pub find-past : (before after : Stream) (bytes new_bytes : List ℕ) (error : TokenError) (word : List ℕ) (place : Place) →
    SkipsTo (Err error) before.room bytes after.room new_bytes → Seeks before (Err error) after →
    Advances (place_in before.room before.number bytes) (Err error) word place
find-past before after bytes new_bytes Failed word place skips sought = tt
find-past before after bytes new_bytes NoMemory word place skips sought = tt
find-past before after bytes new_bytes (TooLong token) word place skips sought =
    let place_is = skips-place before.number before.room bytes 0 new_bytes skips.0 in
    let P : Place → Type 0 = λ p. IsLast p PastLimit in (
      subst P (sym place_is) (place-past [] new_bytes before.number refl skips.1),
      sought ∙ ap (λ n. n + 1) (sym (place-number before.room before.number bytes)),
    )
