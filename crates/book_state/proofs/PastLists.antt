-- Pasts in blocks, as lists.
use Rattle.std.proofs.Common.{◌≡◌, ℕ, ◌+◌, ◌-◌, ◌*◌, ◌^◌, ◌<◌, ◌≤◌, List, [], ◌∷◌, ◌++◌, length, take, drop, refl, sym, ap, subst, ◌∙◌, arith, append_assoc, length-append, length-take}
use Rattle.std.specs.Arc.{arc_value}
use Rattle.std.specs.List.{flat_map, AllZip, AppendsClones}
use Rattle.std.proofs.lemmas.Grind.{flat_map-append}
use Rattle.std.proofs.lemmas.List.{take-append-drop, take_rest, take-take, take_at, drop-map, map-append}
use Rattle.std.proofs.lemmas.List.Elements.{All-head, All-tail, All-cons, All-append, All-drop, All-take, length_all_zip}
use Rattle.std.proofs.Math.Seq.{drop-append-add}
use Rattle.book_state.proofs.HistoryLists.{length-entries}
use Rattle.book_state.specs.HistoryStore.{block_size, Held, Block, entries_of, items_of, entries_in, AreFull, seen, Keeps}
use Rattle.book_state.specs.declared.entry.Entry.{Entry}
use Rattle.book_state.specs.declared.history.History.TheInside.{Inside}

-- one hold for another on the same entry, and on the same block
abbrev pub SameHeld : Held → Held → Type 0
SameHeld a b = arc_value b ≡ arc_value a

abbrev pub SameBlock : Block → Block → Type 0
SameBlock a b = arc_value b ≡ arc_value a

same-entries : (xs ys : List Held) → AllZip SameHeld xs ys → entries_of ys ≡ entries_of xs
same-entries [] [] same = refl
same-entries [] (y ∷ ys) same = absurd same
same-entries (x ∷ xs) [] same = absurd same
same-entries (x ∷ xs) (y ∷ ys) same =
    ap (λ (e : Entry). e ∷ entries_of ys) same.0 ∙ ap (λ (es : List Entry). arc_value x ∷ es) (same-entries xs ys same.1)

same-items : (xs ys : List Block) → AllZip SameBlock xs ys → flat_map items_of ys ≡ flat_map items_of xs
same-items [] [] same = refl
same-items [] (y ∷ ys) same = absurd same
same-items (x ∷ xs) [] same = absurd same
same-items (x ∷ xs) (y ∷ ys) same =
    ap (λ v. entries_of v.items ++ flat_map items_of ys) same.0 ∙ ap (λ (es : List Entry). items_of x ++ es) (same-items xs ys same.1)

abbrev is_full : Block → Type 0
is_full block = length (arc_value block).items ≡ block_size

same-full : (xs ys : List Block) → AllZip SameBlock xs ys → AreFull xs → AreFull ys
same-full [] [] same full = full
same-full [] (y ∷ ys) same full = absurd same
same-full (x ∷ xs) [] same full = absurd same
same-full (x ∷ xs) (y ∷ ys) same full =
    All-cons is_full y ys (ap (λ v. length v.items) same.0 ∙ All-head is_full x xs full) (same-full xs ys same.1 (All-tail is_full x xs full))

-- the first part of a list begins with what it begins with
first-part : (front last whole : List Entry) → take (length (front ++ last)) whole ≡ front ++ last → take (length front) whole ≡ front
first-part front last whole part =
    let long = length-append front last in
    sym (take-take (length front) (length (front ++ last)) whole (omega (arith, long)))
    ∙ ap (λ (es : List Entry). take (length front) es) part
    ∙ take_at front last (length front) refl

length-part : (some whole : List Entry) → take (length some) whole ≡ some → length some ≤ length whole
length-part some whole part =
    let long = ap (λ (es : List Entry). length es) part in
    let least = length-take (length some) whole in
    omega (arith, long, least)

length-blocks : (bs : List Block) → AreFull bs → length (flat_map items_of bs) ≡ length bs * 1024
length-blocks bs full =
    let all = length-entries bs [] full in
    let long = length-append (flat_map items_of bs) [] in
    omega (arith, all, long)

-- a past with fewer blocks gains the blocks that it lacks and a new last block
pub gained-blocks : (bs ws nb : List Block) (last wlast nl : List Held) (k : ℕ) → AreFull bs → AreFull ws → k ≡ length bs → k ≤ length ws →
    take (length (entries_in bs last)) (entries_in ws wlast) ≡ entries_in bs last →
    AppendsClones SameBlock bs nb (drop k ws) → AllZip SameHeld wlast nl → entries_in nb nl ≡ entries_in ws wlast
gained-blocks bs ws nb last wlast nl k full_bs full_ws known fewer part gained same =
    let front : List Entry = flat_map items_of bs in
    let kept : take (length front) (entries_in ws wlast) ≡ front = first-part front (entries_of last) (entries_in ws wlast) part in
    let split : flat_map items_of ws ≡ flat_map items_of (take k ws) ++ flat_map items_of (drop k ws) =
    ap (λ (xs : List Block). flat_map items_of xs) (sym (take-append-drop k ws)) ∙ flat_map-append items_of (take k ws) (drop k ws) in
    let there : entries_in ws wlast ≡ flat_map items_of (take k ws) ++ (flat_map items_of (drop k ws) ++ entries_of wlast) =
    ap (λ (es : List Entry). es ++ entries_of wlast) split ∙ append_assoc (flat_map items_of (take k ws)) (flat_map items_of (drop k ws)) (entries_of wlast) in
    let long_front = length-blocks bs full_bs in
    let long_taken = length-blocks (take k ws) (All-take (λ (b : Block). length (arc_value b).items ≡ block_size) k ws full_ws) in
    let least = length-take k ws in
    let same_front : front ≡ flat_map items_of (take k ws) =
    sym kept ∙ ap (λ (es : List Entry). take (length front) es) there
    ∙ take_at (flat_map items_of (take k ws)) (flat_map items_of (drop k ws) ++ entries_of wlast) (length front) (omega (arith, long_front, long_taken, least)) in
    ap (λ (xs : List Block). flat_map items_of xs ++ entries_of nl) gained.1
    ∙ ap (λ (es : List Entry). es ++ entries_of nl) (flat_map-append items_of bs gained.0)
    ∙ ap (λ (es : List Entry). (front ++ flat_map items_of gained.0) ++ es) (same-entries wlast nl same)
    ∙ ap (λ (es : List Entry). (front ++ es) ++ entries_of wlast) (same-items (drop k ws) gained.0 gained.2)
    ∙ ap (λ (es : List Entry). (es ++ flat_map items_of (drop k ws)) ++ entries_of wlast) same_front
    ∙ ap (λ (es : List Entry). es ++ entries_of wlast) (sym split)

pub gained-full : (bs ws nb : List Block) (k : ℕ) → AreFull bs → AreFull ws → AppendsClones SameBlock bs nb (drop k ws) → AreFull nb
gained-full bs ws nb k full_bs full_ws gained =
    let P : Block → Type 0 = λ b. length (arc_value b).items ≡ block_size in
    subst (λ (xs : List Block). AreFull xs) (sym gained.1)
    (All-append P bs gained.0 full_bs (same-full (drop k ws) gained.0 gained.2 (All-drop P k ws full_ws)))

-- how many entries the last block lacks
pub missing-few : (bs ws : List Block) (last wlast : List Held) → AreFull bs → AreFull ws → length ws ≤ length bs →
    take (length (entries_in bs last)) (entries_in ws wlast) ≡ entries_in bs last →
    (length (entries_in bs last) ≤ length (entries_in ws wlast)) × (length (entries_in ws wlast) ≤ length (entries_in bs last) + length wlast)
missing-few bs ws last wlast full_bs full_ws fewer part =
    let long_bs = length-entries bs last full_bs in
    let long_ws = length-entries ws wlast full_ws in
    (length-part (entries_in bs last) (entries_in ws wlast) part, omega (arith, long_bs, long_ws))

-- a past with the same blocks gains the entries that its last block lacks
pub gained-entries : (bs ws : List Block) (last wlast nl : List Held) (from : ℕ) → AreFull bs → AreFull ws → length ws ≤ length bs →
    take (length (entries_in bs last)) (entries_in ws wlast) ≡ entries_in bs last →
    from + length (entries_in ws wlast) ≡ length wlast + length (entries_in bs last) →
    AppendsClones SameHeld last nl (drop from wlast) → entries_in bs nl ≡ entries_in ws wlast
gained-entries bs ws last wlast nl from full_bs full_ws fewer part lacks gained =
    let old : List Entry = entries_in bs last in
    let long_ws = length-entries ws wlast full_ws in
    let long_blocks = length-blocks ws full_ws in
    let place : length old ≡ length (flat_map items_of ws) + from = omega (arith, long_ws, long_blocks, lacks) in
    let rest : drop (length old) (entries_in ws wlast) ≡ entries_of (drop from wlast) =
    ap (λ (n : ℕ). drop n (entries_in ws wlast)) place
    ∙ drop-append-add (flat_map items_of ws) (entries_of wlast) from
    ∙ drop-map (λ (one : Held). arc_value one) from wlast in
    ap (λ (xs : List Held). flat_map items_of bs ++ entries_of xs) gained.1
    ∙ ap (λ (es : List Entry). flat_map items_of bs ++ es) (map-append (λ (one : Held). arc_value one) last gained.0)
    ∙ sym (append_assoc (flat_map items_of bs) (entries_of last) (entries_of gained.0))
    ∙ ap (λ (es : List Entry). old ++ es) (same-entries (drop from wlast) gained.0 gained.2 ∙ sym rest)
    ∙ ap (λ (es : List Entry). es ++ drop (length old) (entries_in ws wlast)) (sym part)
    ∙ take-append-drop (length old) (entries_in ws wlast)

pub gained-short : (bs ws : List Block) (last wlast nl : List Held) (from : ℕ) → AreFull bs → AreFull ws → length ws ≤ length bs →
    entries_in bs nl ≡ entries_in ws wlast → length wlast ≤ block_size → length nl ≤ block_size
gained-short bs ws last wlast nl from full_bs full_ws fewer same few =
    let long_bs = length-entries bs nl full_bs in
    let long_ws = length-entries ws wlast full_ws in
    let long = ap (λ (es : List Entry). length es) same in
    omega (arith, long_bs, long_ws, long)

-- a slice to the end of a list
pub slice-rest : {X : Type 0} → (xs ys : List X) (k : ℕ) → ys ≡ xs → take (length ys - k) (drop k ys) ≡ drop k xs
slice-rest xs ys k same = take_rest ys k ∙ ap (λ zs. drop k zs) same

-- one history begins the other
pub begins : (s w : Inside) (self whole : List Entry) → seen s ≡ self → seen w ≡ whole → take (length self) whole ≡ self → take (length (seen s)) (seen w) ≡ seen s
begins s w self whole is_self is_whole part =
    subst (λ (v : List Entry). take (length v) (seen w) ≡ v) (sym is_self) (subst (λ (v : List Entry). take (length self) v ≡ self) (sym is_whole) part)

-- a history with the entries of another is short enough too
pub few-same : (h whole : List Entry) → h ≡ whole → length whole < 2 ^ 62 → length h < 2 ^ 62
few-same h whole same few = let long = ap (λ (es : List Entry). length es) same in omega (arith, long)

-- a history that grew to the entries of another
pub record HasGrown (w : Inside) (blocks : List Block) (last : List Held) : Type 0 where
  pub same : entries_in blocks last ≡ seen w
  pub full : AreFull blocks
  pub short : length last ≤ block_size
  pub few : length (entries_in blocks last) < 2 ^ 62

-- by the blocks that it lacked, and a new last block
pub grows-by_blocks : (s w : Inside) (self whole : List Entry) (k : ℕ) (raw new : List Block) (held last : List Held) → Keeps s → Keeps w →
    seen s ≡ self → seen w ≡ whole → take (length self) whole ≡ self → k ≡ length s.blocks.items → k ≤ length w.blocks.items → raw ≡ w.blocks.items →
    AppendsClones SameBlock s.blocks.items new (take (length raw - k) (drop k raw)) → held ≡ w.last.items → AllZip SameHeld held last → HasGrown w new last
grows-by_blocks s w self whole k raw new held last keeps keeps_w is_self is_whole part known fewer raw_is cloned held_is zipped =
    let blocks = subst (λ (xs : List Block). AppendsClones SameBlock s.blocks.items new xs) (slice-rest w.blocks.items raw k raw_is) cloned in
    let zip = subst (λ (xs : List Held). AllZip SameHeld xs last) held_is zipped in
    let same = gained-blocks s.blocks.items w.blocks.items new s.last.items w.last.items last k keeps.full keeps_w.full known fewer
    (begins s w self whole is_self is_whole part) blocks zip in
    let long = length_all_zip SameHeld w.last.items last zip in
    let most = keeps_w.last in
    record {
      same = same;
      full = gained-full s.blocks.items w.blocks.items new k keeps.full keeps_w.full blocks;
      short = omega (arith, long, most);
      few = few-same (entries_in new last) (seen w) same keeps_w.few;
    }

-- how many entries of the other's last block it doesn't lack
pub lacks-few : (s w : Inside) (self whole : List Entry) (count count_self count_last : ℕ) → Keeps s → Keeps w →
    seen s ≡ self → seen w ≡ whole → take (length self) whole ≡ self → length w.blocks.items ≤ length s.blocks.items →
    count ≡ length whole → count_self ≡ length self → count_last ≡ length w.last.items →
    (count - count_self ≤ count_last) × ((count_last - (count - count_self)) + length (seen w) ≡ length w.last.items + length (seen s))
lacks-few s w self whole count count_self count_last keeps keeps_w is_self is_whole part fewer counts counts_self counts_last =
    let few = missing-few s.blocks.items w.blocks.items s.last.items w.last.items keeps.full keeps_w.full fewer (begins s w self whole is_self is_whole part) in
    let long_self = ap (λ (es : List Entry). length es) is_self in
    let long_whole = ap (λ (es : List Entry). length es) is_whole in
    (omega (arith, few.0, few.1, long_self, long_whole), omega (arith, few.0, few.1, long_self, long_whole))

-- by the entries that its last block lacked
pub grows-by_entries : (s w : Inside) (self whole : List Entry) (count count_self count_last from : ℕ) (raw new : List Held) → Keeps s → Keeps w →
    seen s ≡ self → seen w ≡ whole → take (length self) whole ≡ self → length w.blocks.items ≤ length s.blocks.items →
    count ≡ length whole → count_self ≡ length self → count_last ≡ length w.last.items → from ≡ count_last - (count - count_self) →
    raw ≡ w.last.items → AppendsClones SameHeld s.last.items new (take (length raw - from) (drop from raw)) → HasGrown w s.blocks.items new
grows-by_entries s w self whole count count_self count_last from raw new keeps keeps_w is_self is_whole part fewer counts counts_self counts_last from_is raw_is cloned =
    let lacks = lacks-few s w self whole count count_self count_last keeps keeps_w is_self is_whole part fewer counts counts_self counts_last in
    let last = subst (λ (xs : List Held). AppendsClones SameHeld s.last.items new xs) (slice-rest w.last.items raw from raw_is) cloned in
    let same = gained-entries s.blocks.items w.blocks.items s.last.items w.last.items new from keeps.full keeps_w.full fewer
    (begins s w self whole is_self is_whole part) (omega (arith, lacks.1, from_is)) last in
    record {
      same = same;
      full = keeps.full;
      short = gained-short s.blocks.items w.blocks.items s.last.items w.last.items new from keeps.full keeps_w.full fewer same keeps_w.last;
      few = few-same (entries_in s.blocks.items new) (seen w) same keeps_w.few;
    }
