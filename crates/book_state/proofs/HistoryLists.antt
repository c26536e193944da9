-- Histories in blocks, as lists.
use Rattle.std.proofs.Common.{◌≡◌, ℕ, suc, zero, ◌+◌, ◌*◌, ◌<◌, List, [], ◌∷◌, ◌++◌, length, Option, Some, slice_get, refl, ap, ◌∙◌, arith, append_assoc, length-append}
use Rattle.std.specs.Arc.{arc_value}
use Rattle.std.specs.List.{flat_map}
use Rattle.std.specs.Option.{option_map}
use Rattle.std.proofs.lemmas.List.{length-map}
use Rattle.std.proofs.lemmas.List.Elements.{All-head, All-tail}
use Rattle.std.proofs.lemmas.Option.{slice_get-map}
use Rattle.book_state.specs.HistoryStore.{block_size, Held, Block, entries_of, items_of, entries_in, AreFull}
use Rattle.book_state.specs.declared.entry.Entry.{Entry}

-- places of two lists, one behind the other
pub slice_get-left : {X : Type 0} → (xs ys : List X) (k : ℕ) → k < length xs → slice_get (xs ++ ys) k ≡ slice_get xs k
slice_get-left [] ys k below = absurd (omega arith)
slice_get-left (x ∷ xs) ys zero below = refl
slice_get-left (x ∷ xs) ys (suc k) below = slice_get-left xs ys k (omega arith)

pub slice_get-right : {X : Type 0} → (xs ys : List X) (k j : ℕ) → k ≡ length xs + j → slice_get (xs ++ ys) k ≡ slice_get ys j
slice_get-right [] ys k j is = let e : k ≡ j = omega arith in ap (λ (n : ℕ). slice_get ys n) e
slice_get-right (x ∷ xs) ys zero j is = absurd (omega arith)
slice_get-right (x ∷ xs) ys (suc k) j is = slice_get-right xs ys k j (omega arith)

abbrev is_full : Block → Type 0
is_full block = length (arc_value block).items ≡ block_size

length-items : (b : Block) → length (arc_value b).items ≡ block_size → length (items_of b) ≡ block_size
length-items b full = length-map (arc_value b).items (λ (one : Held). arc_value one) ∙ full

first-block : (b : Block) (bs : List Block) (last : List Held) → entries_in (b ∷ bs) last ≡ items_of b ++ entries_in bs last
first-block b bs last = append_assoc (items_of b) (flat_map items_of bs) (entries_of last)

-- how many entries there are
pub length-entries : (bs : List Block) (last : List Held) → AreFull bs → length (entries_in bs last) ≡ length bs * 1024 + length last
length-entries [] last full = length-map last (λ (one : Held). arc_value one) ∙ omega arith
length-entries (b ∷ bs) last full =
    let one = length-items b (All-head is_full b bs full) in
    let rest = length-entries bs last (All-tail is_full b bs full) in
    let more : suc (length bs) * 1024 ≡ length bs * 1024 + 1024 = omega arith in
    ap length (first-block b bs last) ∙ length-append (items_of b) (entries_in bs last) ∙ omega (arith, one, rest, more)

-- the entries of a full block
pub get-block : (bs : List Block) (last : List Held) (i j at : ℕ) (b : Block) → AreFull bs → slice_get bs i ≡ Some b → j < 1024 → at ≡ i * 1024 + j →
    slice_get (entries_in bs last) at ≡ slice_get (items_of b) j
get-block [] last i j at b full is small place = absurd (cc)
get-block (x ∷ bs) last zero j at b full is small place =
    let one = length-items x (All-head is_full x bs full) in
    let here : at ≡ j = omega arith in
    ap (λ (es : List Entry). slice_get es at) (first-block x bs last)
    ∙ slice_get-left (items_of x) (entries_in bs last) at (omega (arith, one))
    ∙ ap (λ (n : ℕ). slice_get (items_of x) n) here ∙ same x b is
  where
    same : (x b : Block) → Some x ≡ Some b → slice_get (items_of x) j ≡ slice_get (items_of b) j
    same x b is = let e : x ≡ b = cc in ap (λ (y : Block). slice_get (items_of y) j) e
get-block (x ∷ bs) last (suc i) j at b full is small place =
    let one = length-items x (All-head is_full x bs full) in
    ap (λ (es : List Entry). slice_get es at) (first-block x bs last)
    ∙ slice_get-right (items_of x) (entries_in bs last) at (i * 1024 + j) (omega (arith, one))
    ∙ get-block bs last i j (i * 1024 + j) b (All-tail is_full x bs full) is small refl

-- the entries of the last block
pub get-last : (bs : List Block) (last : List Held) (j at : ℕ) → AreFull bs → at ≡ length bs * 1024 + j → slice_get (entries_in bs last) at ≡ slice_get (entries_of last) j
get-last [] last j at full place = let e : at ≡ j = omega arith in ap (λ (n : ℕ). slice_get (entries_of last) n) e
get-last (x ∷ bs) last j at full place =
    let one = length-items x (All-head is_full x bs full) in
    ap (λ (es : List Entry). slice_get es at) (first-block x bs last)
    ∙ slice_get-right (items_of x) (entries_in bs last) at (length bs * 1024 + j) (omega (arith, one))
    ∙ get-last bs last j (length bs * 1024 + j) (All-tail is_full x bs full) refl

-- what a hold on an entry reads
pub get-held : (held : List Held) (j : ℕ) (one : Held) → slice_get held j ≡ Some one → slice_get (entries_of held) j ≡ Some (arc_value one)
get-held held j one is = slice_get-map (λ (x : Held). arc_value x) held j ∙ ap (λ (o : Option Held). option_map (λ (x : Held). arc_value x) o) is
