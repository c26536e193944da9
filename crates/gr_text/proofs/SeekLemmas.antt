-- The blanks in front of a token, passed piece by piece.
use Rattle.std.proofs.Common.{◌≡◌, ℕ, suc, ◌+◌, ◌-◌, ◌<◌, inl, inr, Bool, true, false, not, List, [], ◌∷◌, ◌++◌, length, take, drop, Ok, Err, refl, sym, ap, subst, ◌∙◌, arith, length-append, length-drop, append_assoc}
use Rattle.std.specs.List.{list_all, position_or_len}
use Rattle.std.proofs.lemmas.Bool.{cases_lt, cases_Bool}
use Rattle.std.proofs.lemmas.Bool.Decides.{nat_tests}
use Rattle.std.proofs.lemmas.List.{take-append-drop, length-take, drop-take, drop_all}
use Rattle.std.proofs.lemmas.List.Folds.{list_all-append}
use Rattle.std.proofs.lemmas.Grind.{common_steps}
use Rattle.std.proofs.Math.Numerals.{one-add}
use Rattle.gr_text.specs.Tokens.{is_blank}
use Rattle.gr_text.specs.Streams.{Stream, Countable, passed, usable, SkipsAhead}
use Rattle.gr_text.specs.declared.tokens.TokenError.{TokenError}
use Rattle.gr_text.specs.declared.tokens.TokenError.TheVariants.{Failed, TooLong, NoMemory}
use Rattle.gr_text.specs.Steps.{Skips, SkipsAll, SkipsTo, Refills, LeavesRest, IsAtWord}
use Rattle.gr_text.proofs.ScanLemmas.{position_or_len-le}

-- what lies before the first element that passes doesn't pass
pub all-before : (p : ℕ → Bool) (xs : List ℕ) → list_all (λ x. not (p x)) (take (position_or_len p xs) xs) ≡ true
all-before p [] = refl
all-before p (x ∷ xs) =
    elim (cases_Bool (p x)) [
      | inl passes ↦ rw passes refl
      | inr fails ↦ rw (fails, one-add, fails) (all-before p xs)
    ]

not-not : (b : Bool) → not (not b) ≡ b
not-not true = refl
not-not false = refl

list_all-same : (p q : ℕ → Bool) (xs : List ℕ) → ((x : ℕ) → p x ≡ q x) → list_all p xs ≡ list_all q xs
list_all-same p q [] same = refl
list_all-same p q (x ∷ xs) same = rw (same x, list_all-same p q xs same) refl

-- the part before the first element that fails passes
pub all-passing : (p : ℕ → Bool) (xs : List ℕ) → list_all p (take (position_or_len (λ x. not (p x)) xs) xs) ≡ true
all-passing p xs =
    sym (list_all-same (λ x. not (not (p x))) p (take (position_or_len (λ x. not (p x)) xs) xs) (λ x. not-not (p x))) ∙
    all-before (λ x. not (p x)) xs

pub skips-none : (room : ℕ) (bytes : List ℕ) → Skips room bytes room bytes
skips-none room bytes = record { blanks = []; blank = refl; bytes_are = refl; room_is = omega arith }

pub skips-more : (room : ℕ) (bytes : List ℕ) (room' : ℕ) (bytes' : List ℕ) (room'' : ℕ) (bytes'' : List ℕ) →
    Skips room bytes room' bytes' → Skips room' bytes' room'' bytes'' → Skips room bytes room'' bytes''
skips-more room bytes room' bytes' room'' bytes'' first second =
    let long = length-append first.blanks second.blanks in
    record {
      blanks = first.blanks ++ second.blanks;
      blank = list_all-append is_blank first.blanks second.blanks ∙ rw (first.blank, second.blank) refl;
      bytes_are = first.bytes_are ∙ ap (λ xs. first.blanks ++ xs) second.bytes_are ∙ sym (append_assoc first.blanks second.blanks bytes'');
      room_is = (let r = first.room_is in let s = second.room_is in omega arith);
    }

-- the blanks that lie ahead are passed
pub skips-ahead : (before after : Stream) (more : Bool) (left : List ℕ) → SkipsAhead before more after →
    Skips before.room (before.pending ++ left) after.room (after.pending ++ left)
skips-ahead before after more left skipped =
    let count : ℕ = position_or_len (λ byte. not (is_blank byte)) (usable before) in
    let fits = position_or_len-le (λ byte. not (is_blank byte)) (usable before) in
    let long = length-take before.room before.pending in
    let short : take count (usable before) ≡ take count before.pending = grind (arith, common_steps) in
    let room : after.room ≡ before.room - count = ap (λ (s : Stream). s.room) skipped.is in
    let ahead : after.pending ≡ drop count before.pending = ap (λ (s : Stream). s.pending) skipped.is in
    let taken = length-take count before.pending in
    record {
      blanks = take count before.pending;
      blank = ap (λ xs. list_all is_blank xs) (sym short) ∙ all-passing is_blank (usable before);
      bytes_are =
          ap (λ xs. xs ++ left) (sym (take-append-drop count before.pending)) ∙
          append_assoc (take count before.pending) (drop count before.pending) left ∙
          ap (λ xs. take count before.pending ++ (xs ++ left)) (sym ahead);
      room_is = omega arith;
    }

-- ---- one turn of the search for a token's first byte

-- what lies ahead was skipped
pub skipped-here : (room : ℕ) (bytes : List ℕ) (before after : Stream) (more : Bool) (left : List ℕ) →
    Skips room bytes before.room (before.pending ++ left) → SkipsAhead before more after → Skips room bytes after.room (after.pending ++ left)
skipped-here room bytes before after more left far here =
    skips-more room bytes before.room (before.pending ++ left) after.room (after.pending ++ left) far (skips-ahead before after more left here)

-- where nothing usable is left ahead, the limit is reached or all that was read is used
pub spent-ahead : (before after : Stream) → SkipsAhead before false after → 0 < length after.pending → after.room ≡ 0
spent-ahead before after here some =
    let count : ℕ = position_or_len (λ byte. not (is_blank byte)) (usable before) in
    let long = length-take before.room before.pending in
    let room : after.room ≡ before.room - count = ap (λ (s : Stream). s.room) here.is in
    let ahead : length after.pending ≡ length before.pending - count =
    ap (λ (s : Stream). length s.pending) here.is ∙ length-drop count before.pending in
    let found = here.found in
    let fits = position_or_len-le (λ byte. not (is_blank byte)) (usable before) in
    grind (arith, nat_tests)

pub turn-goes : (room : ℕ) (bytes : List ℕ) (before after : Stream) (left rest : List ℕ) →
    Skips room bytes before.room (before.pending ++ left) → Refills before (Ok true) after → LeavesRest (Ok true) after.pending left rest →
    Skips room bytes after.room (after.pending ++ rest)
turn-goes room bytes before after left rest far refilled leaves =
    let same_room : before.room ≡ after.room = sym (ap (λ (s : Stream). s.room) refilled.2) in
    let same_bytes : before.pending ++ left ≡ after.pending ++ rest = ap (λ xs. xs ++ left) refilled.0 ∙ sym leaves in
    let P : ℕ → Type 0 = λ r. Skips room bytes r (before.pending ++ left) in
    let Q : List ℕ → Type 0 = λ bs. Skips room bytes after.room bs in
    subst Q same_bytes (subst P same_room far)

pub turn-ends : (room : ℕ) (bytes : List ℕ) (before after : Stream) (left rest : List ℕ) →
    Skips room bytes before.room (before.pending ++ left) → Refills before (Ok false) after → LeavesRest (Ok false) after.pending left rest →
    SkipsAll room bytes (after.pending ++ rest)
turn-ends room bytes before after left rest far refilled leaves =
    let nothing : before.pending ++ left ≡ [] = rw (refilled.0, leaves.0) refl in
    let ahead : after.pending ≡ [] = ap (λ (s : Stream). s.pending) refilled.1 ∙ refilled.0 in
    let Q : List ℕ → Type 0 = λ bs. Skips room bytes before.room bs in
    record { most = before.room; skipped = subst Q nothing far; none = rw (ahead, leaves.1) refl }

pub turn-fails : (room : ℕ) (bytes : List ℕ) (before after : Stream) (left rest : List ℕ) (error : TokenError) →
    (0 < length before.pending → before.room ≡ 0) →
    Skips room bytes before.room (before.pending ++ left) → Refills before (Err error) after → LeavesRest (Err error) after.pending left rest →
    SkipsTo (Err error) room bytes after.room (after.pending ++ rest)
turn-fails room bytes before after left rest Failed spent far refilled leaves = tt
turn-fails room bytes before after left rest NoMemory spent far refilled leaves = tt
turn-fails room bytes before after left rest (TooLong token) spent far refilled leaves =
    let same_bytes : before.pending ++ left ≡ after.pending ++ rest =
    ap (λ (s : Stream). s.pending ++ left) (sym refilled.1) ∙ ap (λ xs. after.pending ++ xs) (sym leaves) in
    let P : ℕ → Type 0 = λ r. Skips room bytes r (before.pending ++ left) in
    let Q : List ℕ → Type 0 = λ bs. Skips room bytes 0 bs in
    let long = length-append before.pending left in
    let size = ap length same_bytes in
    let some = refilled.0 in
    (subst Q same_bytes (subst P (spent refilled.0) far), omega arith)

-- the first byte that isn't blank is ahead
pub first-solid : (p : ℕ → Bool) (xs : List ℕ) → position_or_len (λ x. not (p x)) xs < length xs →
    0 < position_or_len p (drop (position_or_len (λ x. not (p x)) xs) xs)
first-solid p [] within = absurd (omega arith)
first-solid p (x ∷ xs) within =
    elim (cases_Bool (p x)) [
      | inl passes ↦
          let next : position_or_len (λ y. not (p y)) (x ∷ xs) ≡ suc (position_or_len (λ y. not (p y)) xs) = rw (passes, one-add) refl in
          let P : ℕ → Type 0 = λ n. 0 < position_or_len p (drop n (x ∷ xs)) in
          let below : position_or_len (λ y. not (p y)) xs < length xs = omega arith in
          subst P (sym next) (first-solid p xs below)
      | inr fails ↦
          let here : position_or_len (λ y. not (p y)) (x ∷ xs) ≡ 0 = rw fails refl in
          let P : ℕ → Type 0 = λ n. 0 < position_or_len p (drop n (x ∷ xs)) in
          subst P (sym here) (rw fails (omega arith))
    ]

usable-dropped : (room count : ℕ) (xs : List ℕ) → take (room - count) (drop count xs) ≡ drop count (take room xs)
usable-dropped room count xs =
    elim (cases_lt room count) [
      | inl past ↦
          let none : room - count ≡ 0 = omega arith in
          let size = length-take room xs in
          rw none (sym (drop_all count (take room xs) (omega arith)))
      | inr within ↦
          let parted : room ≡ count + (room - count) = omega arith in
          sym (drop-take count (room - count) xs) ∙ ap (λ n. drop count (take n xs)) (sym parted)
    ]

pub usable-moved : (before after : Stream) (count : ℕ) → after.room ≡ before.room - count → after.pending ≡ drop count before.pending →
    usable after ≡ drop count (usable before)
usable-moved before after count room ahead = rw (room, ahead) (usable-dropped before.room count before.pending)

pub at-word : (start before after : Stream) → before ≡ record start { word = []; pending = before.pending; room = before.room } →
    SkipsAhead before true after → Countable after.number after.room → IsAtWord start after
at-word start before after is here countable =
    let count : ℕ = position_or_len (λ byte. not (is_blank byte)) (usable before) in
    let found = here.found in
    let within : count < length (usable before) = grind (arith, nat_tests) in
    let P : List ℕ → Type 0 = λ xs. 0 < position_or_len is_blank xs in
    let solid = subst P (sym (usable-moved before after count (ap (λ (s : Stream). s.room) here.is) (ap (λ (s : Stream). s.pending) here.is))) (first-solid is_blank (usable before) within) in
    record {
      is = here.is ∙ ap (λ (s : Stream). passed count s) is ∙
          ap (λ (s : Stream). record start { word = []; pending = s.pending; room = s.room }) (sym here.is);
      solid = solid;
      countable = countable;
    }

-- the stream has a byte less, or more ahead, and is else as it was
pub turn-keeps : (start before skipped after : Stream) (more : Bool) →
    before ≡ record start { word = []; pending = before.pending; room = before.room } → SkipsAhead before more skipped →
    Refills skipped (Ok true) after → after ≡ record start { word = []; pending = after.pending; room = after.room }
turn-keeps start before skipped after more is here refilled =
    let count : ℕ = position_or_len (λ byte. not (is_blank byte)) (usable before) in
    let room : after.room ≡ before.room - count = ap (λ (s : Stream). s.room) refilled.2 ∙ ap (λ (s : Stream). s.room) here.is in
    refilled.2 ∙ ap (λ (s : Stream). record s { pending = after.pending }) (here.is ∙ ap (λ (s : Stream). passed count s) is) ∙
    ap (λ (r : ℕ). record start { word = []; pending = after.pending; room = r }) (sym room)
