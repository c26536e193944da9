-- A shelf over memory, seen through its texts and places.
use Rattle.std.proofs.Common.{◌≡◌, ℕ, ◌+◌, ◌<◌, ◌≤◌, List, [], ◌∷◌, ◌++◌, Option, Some, None, Ok, Err, false, min, arith, ap, sym, drop, length, refl, subst, unwrap_or, ◌∙◌}
use Rattle.std.proofs.lemmas.List.{drop-drop, get_or_append_left, length_push}
use Rattle.gr_io.specs.Places.{left_of, IsPlace, ArePlaces}
use Rattle.gr_io.specs.Slots.{at_slot, map_slots, set_slot}
use Rattle.gr_io.specs.Calls.{CallLog, next_fails, after_call}
use Rattle.gr_io.specs.Counts.{one_more}
use Rattle.gr_io.specs.Texts.{HeldText, MemoryTexts, after_reach, after_read, bytes_at, held_in, left_at, reach_answer, read_count, with_left}
use Rattle.gr_io.specs.declared.memory_shelf.NextByte.{NextByte}
use Rattle.gr_io.specs.declared.shelf.ReachError.TheVariants.{Missing}
use Rattle.gr_io.specs.declared.shelf.Slot.{Slot}
use Rattle.gr_io.specs.declared.slots.Slots.{Slots}
use Rattle.gr_io.proofs.SlotLemmas.{at_slot-map_slots, map_slots-agree, map_slots-set_slot, set_slot-each}

-- a text keeps its bytes where another is added
pub bytes_at-push : (texts : List HeldText) (text : HeldText) (number : ℕ) → number < length texts → bytes_at (texts ++ text ∷ []) number ≡ bytes_at texts number
bytes_at-push texts text number within = ap (λ (t : HeldText). t.bytes) (get_or_append_left texts (text ∷ []) _ number within)

-- what is left from a place on stays where a text is added
pub left_of-push : (texts : List HeldText) (text : HeldText) (place : Option NextByte) → IsPlace texts place → left_of (texts ++ text ∷ []) place ≡ left_of texts place
left_of-push texts text None is = refl
left_of-push texts text (Some place) is = ap (λ (xs : List ℕ). Some (drop place.at xs)) (bytes_at-push texts text place.text is.0)

-- a place stays one where a text is added
pub IsPlace-push : (texts : List HeldText) (text : HeldText) (place : Option NextByte) → IsPlace texts place → IsPlace (texts ++ text ∷ []) place
IsPlace-push texts text None is = is
IsPlace-push texts text (Some place) is =
    let within : place.text < length (texts ++ text ∷ []) = omega (arith, is.0, length_push texts text) in
    (within, subst (λ (xs : List ℕ). place.at ≤ length xs) (sym (bytes_at-push texts text place.text is.0)) is.1)

pub ArePlaces-push : (texts : List HeldText) (text : HeldText) (places : Slots (Option NextByte)) → ArePlaces texts places → ArePlaces (texts ++ text ∷ []) places
ArePlaces-push texts text places are = λ (slot : Slot). IsPlace-push texts text (at_slot places slot) (are slot)

-- what each slot has left stays where a text is added
pub lefts-push : (texts : List HeldText) (text : HeldText) (places : Slots (Option NextByte)) → ArePlaces texts places → map_slots (left_of (texts ++ text ∷ [])) places ≡ map_slots (left_of texts) places
lefts-push texts text places are = map_slots-agree (left_of (texts ++ text ∷ [])) (left_of texts) places (λ (slot : Slot). left_of-push texts text (at_slot places slot) (are slot))

-- a shelf over memory as contracts see it, by its parts
abbrev pub seen : List HeldText → Slots (Option NextByte) → ℕ → ℕ → CallLog → MemoryTexts
seen texts places piece misses log = record { texts = texts; log = log; misses = misses; piece = piece; left = map_slots (left_of texts) places }

-- one more text changes the list of texts alone
pub seen-push : (texts new : List HeldText) (text same : HeldText) (places : Slots (Option NextByte)) (piece misses : ℕ) (log : CallLog) → ArePlaces texts places → new ≡ texts ++ text ∷ [] → text ≡ same → seen new places piece misses log ≡ record (seen texts places piece misses log) { texts = texts ++ same ∷ [] }
seen-push texts new text same places piece misses log are e s =
    ap (λ (xs : List HeldText). seen xs places piece misses log) e
    ∙ ap (λ (l : Slots (Option (List ℕ))). record (seen texts places piece misses log) { texts = texts ++ text ∷ []; left = l }) (lefts-push texts text places are)
    ∙ ap (λ (t : HeldText). record (seen texts places piece misses log) { texts = texts ++ t ∷ [] }) s

-- a look for a name that isn't held
pub seen-missing : (texts : List HeldText) (places : Slots (Option NextByte)) (piece misses more : ℕ) (log next : CallLog) (slot : Slot) (name : List ℕ) → next_fails log ≡ false → held_in texts name ≡ None → next ≡ after_call log → more ≡ one_more misses → seen texts places piece more next ≡ after_reach (seen texts places piece misses log) slot name
seen-missing texts places piece misses more log next slot name f h n m = rw (n, m, f, h)

-- what is left at a slot whose place is known
pub left_at-seen : (texts : List HeldText) (places : Slots (Option NextByte)) (piece misses : ℕ) (log : CallLog) (slot : Slot) (place : NextByte) → at_slot places slot ≡ Some place → left_at (seen texts places piece misses log) slot ≡ drop place.at (bytes_at texts place.text)
left_at-seen texts places piece misses log slot place a =
    ap (λ (o : Option (List ℕ)). unwrap_or o []) (at_slot-map_slots (left_of texts) places slot ∙ ap (left_of texts) a)

-- other places, and nothing else
seen-places : (texts : List HeldText) (places new : Slots (Option NextByte)) (piece misses : ℕ) (log : CallLog) (slot : Slot) (place : NextByte) → new ≡ set_slot places slot (Some place) → seen texts new piece misses log ≡ with_left (seen texts places piece misses log) slot (drop place.at (bytes_at texts place.text))
seen-places texts places new piece misses log slot place p =
    ap (λ (l : Slots (Option (List ℕ))). record (seen texts places piece misses log) { left = l }) (ap (map_slots (left_of texts)) p ∙ map_slots-set_slot (left_of texts) places slot (Some place))

-- a look for a name that is held
pub seen-opened : (texts : List HeldText) (places new : Slots (Option NextByte)) (piece misses : ℕ) (log next : CallLog) (slot : Slot) (name : List ℕ) (number : ℕ) → next_fails log ≡ false → held_in texts name ≡ Some (bytes_at texts number) → next ≡ after_call log → new ≡ set_slot places slot (Some (record { text = number; at = 0 })) → seen texts new piece misses next ≡ after_reach (seen texts places piece misses log) slot name
seen-opened texts places new piece misses log next slot name number f h n p =
    let here = seen-places texts places new piece misses log slot _ p in
    rw (n, f, h) (ap (λ (s : MemoryTexts). record s { log = record log { calls = one_more log.calls } }) here)

-- a read of so many bytes
pub seen-read : (texts : List HeldText) (places new : Slots (Option NextByte)) (piece misses : ℕ) (log next : CallLog) (slot : Slot) (place : NextByte) (room count : ℕ) → next_fails log ≡ false → at_slot places slot ≡ Some place → next ≡ after_call log → count ≡ min room (min piece (length (drop place.at (bytes_at texts place.text)))) → new ≡ set_slot places slot (Some (record { text = place.text; at = place.at + count })) → seen texts new piece misses next ≡ after_read (seen texts places piece misses log) slot room
seen-read texts places new piece misses log next slot place room count f a n m p =
    let before = left_at-seen texts places piece misses log slot place a in
    let rest : drop (place.at + count) (bytes_at texts place.text) ≡ drop (read_count (seen texts places piece misses log) slot room) (left_at (seen texts places piece misses log) slot) =
    sym (drop-drop count place.at (bytes_at texts place.text)) ∙ ap (λ (k : ℕ). drop k (drop place.at (bytes_at texts place.text))) m
    ∙ ap (λ (xs : List ℕ). drop (min room (min piece (length xs))) xs) (sym before) in
    let here = seen-places texts places new piece misses log slot _ p in
    let moved : seen texts new piece misses log ≡ with_left (seen texts places piece misses log) slot (drop (read_count (seen texts places piece misses log) slot room) (left_at (seen texts places piece misses log) slot)) =
    here ∙ ap (λ (xs : List ℕ). with_left (seen texts places piece misses log) slot xs) rest in
    rw (n, f) (ap (λ (s : MemoryTexts). record s { log = record log { calls = one_more log.calls } }) moved)

-- what a `reach` answers where its call isn't to fail
pub answer-missing : (shelf : MemoryTexts) (name : List ℕ) → next_fails shelf.log ≡ false → held_in shelf.texts name ≡ None → Err Missing ≡ reach_answer shelf name
answer-missing shelf name f h = rw (f, h)

pub answer-opened : (shelf : MemoryTexts) (name bytes : List ℕ) → next_fails shelf.log ≡ false → held_in shelf.texts name ≡ Some bytes → Ok tt ≡ reach_answer shelf name
answer-opened shelf name bytes f h = rw (f, h)

-- the places after one was set
pub ArePlaces-set_slot : (texts : List HeldText) (places new : Slots (Option NextByte)) (slot : Slot) (place : Option NextByte) → new ≡ set_slot places slot place → ArePlaces texts places → IsPlace texts place → ArePlaces texts new
ArePlaces-set_slot texts places new slot place e are is =
    subst (λ (ps : Slots (Option NextByte)). ArePlaces texts ps) (sym e) (set_slot-each (λ (at : Slot). IsPlace texts) places slot place are is)
