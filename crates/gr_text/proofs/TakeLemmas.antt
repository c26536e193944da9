-- A token, taken into the hand piece by piece.
use Rattle.std.proofs.Common.{◌≡◌, ℕ, zero, suc, ◌+◌, ◌-◌, ◌<◌, ◌≤◌, inl, inr, Bool, true, false, not, nat_lt, List, [], ◌∷◌, ◌++◌, length, take, drop, Ok, Err, refl, sym, ap, subst, ◌∙◌, arith, length-append, length-drop, append_assoc, append-nil}
use Rattle.std.specs.List.{position_or_len}
use Rattle.std.proofs.lemmas.Bool.{cases_Bool}
use Rattle.std.proofs.lemmas.Bool.Decides.{nat_tests}
use Rattle.std.proofs.lemmas.List.{take-append-drop, length-take}
use Rattle.std.proofs.lemmas.List.Folds.{list_all-append}
use Rattle.std.proofs.lemmas.Grind.{common_steps}
use Rattle.std.proofs.Math.Numerals.{one-add}
use Rattle.gr_text.specs.declared.tokens.TokenError.{TokenError}
use Rattle.gr_text.specs.declared.tokens.TokenError.TheVariants.{Failed, TooLong, NoMemory}
use Rattle.gr_base.specs.Names.{is_token}
use Rattle.gr_text.specs.Tokens.{is_blank, Place, place_in, PastLimit}
use Rattle.gr_text.specs.Streams.{Stream, passed, grown, usable, place_of, GrowsAhead}
use Rattle.gr_text.specs.Steps.{IsNext, IsLast, Refills, LeavesRest, TakesToken}
use Rattle.gr_text.proofs.ScanLemmas.{position_or_len-le}
use Rattle.gr_text.proofs.SeekLemmas.{all-before, usable-moved}
use Rattle.gr_text.proofs.TokenLemmas.{solid, place-word, place-last, place-past}

-- the token in hand is what was used of the text so far, and no blank is in it
pub record IsPart (room : ℕ) (now : Stream) : Type 0 where
  pub room_is : room ≡ length now.word + now.room
  pub all_solid : solid now.word ≡ true

pub part-none : (now : Stream) → now.word ≡ [] → IsPart now.room now
part-none now empty = record { room_is = rw empty (omega arith); all_solid = rw empty refl }

-- what lies ahead up to a blank is added
pub part-more : (room : ℕ) (before after : Stream) (closed : Bool) → IsPart room before → GrowsAhead before closed after → IsPart room after
part-more room before after closed part grew =
    let count : ℕ = position_or_len is_blank (usable before) in
    let fits = position_or_len-le is_blank (usable before) in
    let long = length-take before.room before.pending in
    let short : take count (usable before) ≡ take count before.pending = grind (arith, common_steps) in
    let room_now : after.room ≡ before.room - count = ap (λ (s : Stream). s.room) grew.is in
    let word : after.word ≡ before.word ++ take count before.pending = ap (λ (s : Stream). s.word) grew.is in
    let size = ap length word ∙ length-append before.word (take count before.pending) in
    let taken = length-take count before.pending in
    let was = part.room_is in
    let added : solid (take count before.pending) ≡ true = ap solid (sym short) ∙ all-before is_blank (usable before) in
    record {
      room_is = omega arith;
      all_solid = ap solid word ∙ list_all-append (λ byte. not (is_blank byte)) before.word (take count before.pending) ∙
          rw (part.all_solid, added) refl;
    }

pub some-more : (before after : Stream) (closed : Bool) → 0 < length before.word + position_or_len is_blank (usable before) →
    GrowsAhead before closed after → 0 < length after.word
some-more before after closed some grew =
    let count : ℕ = position_or_len is_blank (usable before) in
    let fits = position_or_len-le is_blank (usable before) in
    let long = length-take before.room before.pending in
    let word : after.word ≡ before.word ++ take count before.pending = ap (λ (s : Stream). s.word) grew.is in
    let size = ap length word ∙ length-append before.word (take count before.pending) in
    let taken = length-take count before.pending in
    omega arith

pub bytes-more : (before after : Stream) (closed : Bool) (left : List ℕ) → GrowsAhead before closed after →
    before.word ++ (before.pending ++ left) ≡ after.word ++ (after.pending ++ left)
bytes-more before after closed left grew =
    let count : ℕ = position_or_len is_blank (usable before) in
    let word : after.word ≡ before.word ++ take count before.pending = ap (λ (s : Stream). s.word) grew.is in
    let ahead : after.pending ≡ drop count before.pending = ap (λ (s : Stream). s.pending) grew.is in
    let parted : before.pending ++ left ≡ take count before.pending ++ (drop count before.pending ++ left) =
    ap (λ xs. xs ++ left) (sym (take-append-drop count before.pending)) ∙ append_assoc (take count before.pending) (drop count before.pending) left in
    ap (λ xs. before.word ++ xs) parted ∙
    sym (append_assoc before.word (take count before.pending) (drop count before.pending ++ left)) ∙
    ap (λ xs. xs ++ (drop count before.pending ++ left)) (sym word) ∙
    ap (λ xs. after.word ++ (xs ++ left)) (sym ahead)

-- where no blank lies ahead, the limit is reached or all that was read is used
pub grown-spent : (before after : Stream) → GrowsAhead before false after → 0 < length after.pending → after.room ≡ 0
grown-spent before after grew some =
    let count : ℕ = position_or_len is_blank (usable before) in
    let long = length-take before.room before.pending in
    let room : after.room ≡ before.room - count = ap (λ (s : Stream). s.room) grew.is in
    let ahead : length after.pending ≡ length before.pending - count =
    ap (λ (s : Stream). length s.pending) grew.is ∙ length-drop count before.pending in
    let found = grew.found in
    let fits = position_or_len-le is_blank (usable before) in
    grind (arith, nat_tests)

-- the first element that passes, and what follows it
pub record Found (p : ℕ → Bool) (xs : List ℕ) : Type 0 where
  pub first : ℕ
  pub others : List ℕ
  pub is : drop (position_or_len p xs) xs ≡ first ∷ others
  pub passing : p first ≡ true

pub found-first : (p : ℕ → Bool) (xs : List ℕ) → position_or_len p xs < length xs → Found p xs
found-first p [] within = absurd (omega arith)
found-first p (x ∷ xs) within =
    elim (cases_Bool (p x)) [
      | inl passes ↦
          let here : position_or_len p (x ∷ xs) ≡ 0 = rw passes refl in
          record { first = x; others = xs; is = ap (λ n. drop n (x ∷ xs)) here; passing = passes }
      | inr fails ↦
          let next : position_or_len p (x ∷ xs) ≡ suc (position_or_len p xs) = rw (fails, one-add) refl in
          let below : position_or_len p xs < length xs = omega arith in
          let rest = found-first p xs below in
          record { first = rest.first; others = rest.others; is = ap (λ n. drop n (x ∷ xs)) next ∙ rest.is; passing = rest.passing }
    ]

-- a list begins as its first elements do
pub record Begins (xs : List ℕ) (first : ℕ) : Type 0 where
  pub others : List ℕ
  pub is : xs ≡ first ∷ others

begins : (count : ℕ) (xs : List ℕ) (first : ℕ) (others : List ℕ) → take count xs ≡ first ∷ others → Begins xs first
begins zero xs first others is = absurd cc
begins (suc count) [] first others is = absurd cc
begins (suc count) (x ∷ xs) first others is =
    let same : x ≡ first = cc in
    record { others = xs; is = ap (λ y. y ∷ xs) same }

-- a blank is ahead, where one ended the token
pub record Closed (after : Stream) : Type 0 where
  pub byte : ℕ
  pub rest : List ℕ
  pub is : after.pending ≡ byte ∷ rest
  pub blank : is_blank byte ≡ true
  pub room : 0 < after.room

pub closed-ahead : (before after : Stream) → GrowsAhead before true after → Closed after
closed-ahead before after grew =
    let count : ℕ = position_or_len is_blank (usable before) in
    let found = grew.found in
    let within : count < length (usable before) = grind (arith, nat_tests) in
    let long = length-take before.room before.pending in
    let room : after.room ≡ before.room - count = ap (λ (s : Stream). s.room) grew.is in
    let next = found-first is_blank (usable before) within in
    let same : usable after ≡ drop count (usable before) =
    usable-moved before after count room (ap (λ (s : Stream). s.pending) grew.is) in
    let start = begins after.room after.pending next.first next.others (same ∙ next.is) in
    record { byte = next.first; rest = start.others; is = start.is; blank = next.passing; room = omega arith }

-- ---- the three ends of a token

-- a blank ends it
pub token-closed : (room number : ℕ) (bytes : List ℕ) (before after : Stream) (left : List ℕ) → before.number ≡ number →
    IsPart room before → 0 < length before.word → Closed before → length before.pending ≤ 65536 →
    bytes ≡ before.word ++ (before.pending ++ left) →
    after ≡ record (passed 1 before) { number = number + 1 } → TakesToken room number bytes (Ok tt) after left
token-closed room number bytes before after left numbered part some closed few are is =
    let word : after.word ≡ before.word = ap (λ (s : Stream). s.word) is in
    let ahead : after.pending ≡ closed.rest = ap (λ (s : Stream). s.pending) is ∙ ap (λ xs. drop 1 xs) closed.is in
    let left_room : after.room ≡ before.room - 1 = ap (λ (s : Stream). s.room) is in
    let new_number : after.number ≡ number + 1 = ap (λ (s : Stream). s.number) is in
    let positive = closed.room in
    let was = part.room_is in
    let room_is : room ≡ length before.word + (after.room + 1) = omega arith in
    let text : bytes ≡ before.word ++ (closed.byte ∷ (closed.rest ++ left)) =
    are ∙ ap (λ xs. before.word ++ (xs ++ left)) closed.is in
    let next = place-word before.word closed.byte (closed.rest ++ left) after.room number some part.all_solid closed.blank in
    let P : ℕ → Type 0 = λ r. IsNext (place_in r number bytes) after.word (place_of after left) in
    let Q : List ℕ → Type 0 = λ bs. IsNext (place_in (length before.word + (after.room + 1)) number bs) after.word (place_of after left) in
    let R : List ℕ → Type 0 = λ w. IsNext (place_in (length before.word + (after.room + 1)) number (before.word ++ (closed.byte ∷ (closed.rest ++ left)))) w (place_of after left) in
    let then_place : place_in after.room (number + 1) (closed.rest ++ left) ≡ place_of after left =
    ap (λ n. place_in after.room n (closed.rest ++ left)) (sym new_number) ∙ ap (λ xs. place_in after.room after.number (xs ++ left)) (sym ahead) in
    let S : Place → Type 0 = λ p. IsNext (place_in (length before.word + (after.room + 1)) number (before.word ++ (closed.byte ∷ (closed.rest ++ left)))) before.word p in (
      subst P (sym room_is) (subst Q (sym text) (subst R (sym word) (subst S then_place next))),
      record {
        blanks = [];
        behind = closed.byte ∷ [];
        is = text ∙ ap (λ w. w ++ (closed.byte ∷ (closed.rest ++ left))) (sym word) ∙
            ap (λ xs. after.word ++ (closed.byte ∷ (xs ++ left))) (sym ahead);
        blank = refl;
        closed = rw closed.blank refl;
        little = subst (λ (xs : List ℕ). length xs ≤ 65536) (closed.is ∙ ap (λ xs. closed.byte ∷ xs) (sym ahead)) few;
      },
    )

-- the text's end ends it
pub token-ended : (room number : ℕ) (bytes : List ℕ) (before after : Stream) (left rest : List ℕ) → before.number ≡ number →
    IsPart room before → 0 < length before.word → before.pending ≡ [] → left ≡ [] → rest ≡ [] →
    bytes ≡ before.word ++ (before.pending ++ left) →
    after ≡ record before { room = 0; number = number + 1 } → TakesToken room number bytes (Ok tt) after rest
token-ended room number bytes before after left rest numbered part some none_ahead none_left none_after are is =
    let word : after.word ≡ before.word = ap (λ (s : Stream). s.word) is in
    let ahead : after.pending ≡ [] = ap (λ (s : Stream). s.pending) is ∙ none_ahead in
    let left_room : after.room ≡ 0 = ap (λ (s : Stream). s.room) is in
    let new_number : after.number ≡ number + 1 = ap (λ (s : Stream). s.number) is in
    let was = part.room_is in
    let text : bytes ≡ before.word =
    are ∙ ap (λ xs. before.word ++ (xs ++ left)) none_ahead ∙ ap (λ xs. before.word ++ xs) none_left ∙ append-nil before.word in
    let next = place-last before.word room number some part.all_solid (omega arith) in
    let Q : List ℕ → Type 0 = λ bs. IsNext (place_in room number bs) after.word (place_of after rest) in
    let R : List ℕ → Type 0 = λ w. IsNext (place_in room number before.word) w (place_of after rest) in
    let then_place : place_in 0 (number + 1) [] ≡ place_of after rest =
    ap (λ r. place_in r (number + 1) []) (sym left_room) ∙ ap (λ n. place_in after.room n []) (sym new_number) ∙
    ap (λ xs. place_in after.room after.number (xs ++ [])) (sym ahead) ∙ ap (λ xs. place_in after.room after.number (after.pending ++ xs)) (sym none_after) in
    let S : Place → Type 0 = λ p. IsNext (place_in room number before.word) before.word p in (
      subst Q (sym text) (subst R (sym word) (subst S then_place next)),
      record {
        blanks = [];
        behind = [];
        is = text ∙ sym word ∙ sym (append-nil after.word) ∙ ap (λ xs. after.word ++ xs) (sym none_after) ∙
            ap (λ xs. after.word ++ (xs ++ rest)) (sym ahead);
        blank = refl;
        closed = refl;
        little = let size = ap length ahead in omega arith;
      },
    )

-- the limit comes before its end
pub token-past : (room number : ℕ) (bytes : List ℕ) (before : Stream) (left : List ℕ) →
    IsPart room before → 0 < length before.pending → before.room ≡ 0 →
    bytes ≡ before.word ++ (before.pending ++ left) → IsLast (place_in room number bytes) PastLimit
token-past room number bytes before left part some spent are =
    let was = part.room_is in
    let long = length-append before.pending left in
    let room_is : room ≡ length before.word = omega arith in
    let P : ℕ → Type 0 = λ r. IsLast (place_in r number bytes) PastLimit in
    let Q : List ℕ → Type 0 = λ bs. IsLast (place_in (length before.word) number bs) PastLimit in
    subst P (sym room_is) (subst Q (sym are) (place-past before.word (before.pending ++ left) number part.all_solid (omega arith)))

pub token-fails : (room number : ℕ) (bytes : List ℕ) (before after : Stream) (left rest : List ℕ) (error : TokenError) →
    IsPart room before → (0 < length before.pending → before.room ≡ 0) → bytes ≡ before.word ++ (before.pending ++ left) →
    length before.pending ≤ 65536 → Refills before (Err error) after → LeavesRest (Err error) after.pending left rest →
    TakesToken room number bytes (Err error) after rest
token-fails room number bytes before after left rest Failed part spent are few refilled leaves = tt
token-fails room number bytes before after left rest NoMemory part spent are few refilled leaves = tt
token-fails room number bytes before after left rest (TooLong token) part spent are few refilled leaves = (
  token-past room number bytes before left part refilled.0 (spent refilled.0) are,
  record {
    blanks = [];
    word = before.word;
    ahead = before.pending;
    is = are ∙ ap (λ xs. before.word ++ (before.pending ++ xs)) (sym leaves);
    blank = refl;
    solid = part.all_solid;
    little = few;
  },
)

-- ---- where more was read

pub part-refilled : (room : ℕ) (before after : Stream) → IsPart room before → Refills before (Ok true) after → IsPart room after
part-refilled room before after part refilled =
    let word : after.word ≡ before.word = ap (λ (s : Stream). s.word) refilled.2 in
    let left_room : after.room ≡ before.room = ap (λ (s : Stream). s.room) refilled.2 in
    let size = ap length word in
    let was = part.room_is in
    record { room_is = omega arith; all_solid = ap solid word ∙ part.all_solid }

pub some-refilled : (before after : Stream) (more : ℕ) → 0 < length before.word → Refills before (Ok true) after → 0 < length after.word + more
some-refilled before after more some refilled =
    let size = ap (λ (s : Stream). length s.word) refilled.2 in
    omega arith

pub bytes-refilled : (before after : Stream) (left rest : List ℕ) → Refills before (Ok true) after → LeavesRest (Ok true) after.pending left rest →
    before.word ++ (before.pending ++ left) ≡ after.word ++ (after.pending ++ rest)
bytes-refilled before after left rest refilled leaves =
    ap (λ xs. before.word ++ (xs ++ left)) refilled.0 ∙ ap (λ xs. before.word ++ xs) (sym leaves) ∙
    ap (λ w. w ++ (after.pending ++ rest)) (sym (ap (λ (s : Stream). s.word) refilled.2))

pub part-keeps : (start before grew after : Stream) (closed : Bool) →
    before ≡ record start { word = before.word; pending = before.pending; room = before.room } → GrowsAhead before closed grew →
    Refills grew (Ok true) after → after ≡ record start { word = after.word; pending = after.pending; room = after.room }
part-keeps start before grew after closed is here refilled =
    let count : ℕ = position_or_len is_blank (usable before) in
    let word : after.word ≡ before.word ++ take count before.pending = ap (λ (s : Stream). s.word) refilled.2 ∙ ap (λ (s : Stream). s.word) here.is in
    let room : after.room ≡ before.room - count = ap (λ (s : Stream). s.room) refilled.2 ∙ ap (λ (s : Stream). s.room) here.is in
    refilled.2 ∙ ap (λ (s : Stream). record s { pending = after.pending }) (here.is ∙ ap (λ (s : Stream). grown count s) is) ∙
    ap (λ (r : ℕ). record start { word = before.word ++ take count before.pending; pending = after.pending; room = r }) (sym room) ∙
    ap (λ (w : List ℕ). record start { word = w; pending = after.pending; room = after.room }) (sym word)

-- ---- where the token was counted

pub counted-end : (number : ℕ) (before spent after : Stream) → before.number ≡ number → spent ≡ record before { room = 0 } →
    after ≡ record spent { number = spent.number + 1 } → after ≡ record before { room = 0; number = number + 1 }
counted-end number before spent after numbered is then_is =
    then_is ∙ ap (λ (s : Stream). record s { number = s.number + 1 }) is ∙ ap (λ (n : ℕ). record before { room = 0; number = n + 1 }) numbered

pub counted-closed : (number : ℕ) (before spent after : Stream) → before.number ≡ number → spent ≡ passed 1 before →
    after ≡ record spent { number = spent.number + 1 } → after ≡ record (passed 1 before) { number = number + 1 }
counted-closed number before spent after numbered is then_is =
    then_is ∙ ap (λ (s : Stream). record s { number = s.number + 1 }) is ∙ ap (λ (n : ℕ). record (passed 1 before) { number = n + 1 }) numbered

-- what was taken is a token
pub token-word : (room : ℕ) (now after : Stream) → IsPart room now → 0 < length now.word → after.word ≡ now.word → is_token after.word ≡ true
token-word room now after part some same =
    let any : nat_lt 0 (length now.word) ≡ true = grind (arith, nat_tests) in
    rw same (rw any part.all_solid)
