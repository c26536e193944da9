-- The lines of a made design are lines of words, and not long together.
use Rattle.std.proofs.Common.{◌≡◌, ℕ, zero, suc, ◌+◌, ◌*◌, ◌%◌, ◌==◌, ◌^◌, ◌<◌, ◌≤◌, Bool, true, false, if◌then◌else◌, IsTrue, List, [], ◌∷◌, ◌++◌, length, map, codes, refl, sym, ap, ◌∙◌, append_assoc, length-append, arith}
use Rattle.std.specs.List.{AllByRecursion, flat_map, range_with_len}
use Rattle.std.specs.Fmt.{decimal}
use Rattle.std.proofs.lemmas.List.{length-map}
use Rattle.std.proofs.lemmas.List.FromFn.{length-map-range_with_len}
use Rattle.gr_text.specs.Tokens.{tokens}
use Rattle.gr_base.specs.Names.{is_token}
use Rattle.solution_text.proofs.TokenLemmas.{name-some, name-is-clear}
use Rattle.design_maker.specs.Draws.{each}
use Rattle.design_maker.specs.Nets.{MadeNet, net}
use Rattle.design_maker.specs.Texts.{alternating, lines_text, layer_lines, last_head_lines, head_lines, pin_line, net_lines, middle_of}
use Rattle.design_maker.specs.declared.made.Made.{Made}
use Rattle.design_maker.specs.declared.nets.Tile.{Tile}
use Rattle.design_maker.proofs.RangeLemmas.{IsInRange}
use Rattle.design_maker.proofs.NetLemmas.{IsOn, IsDrawn, net-drawn}
use Rattle.design_maker.proofs.WordLemmas.{IsWord, AreWords, AreLines, words_of, number-word, named-word, lines-tokens}
use Rattle.design_maker.proofs.LengthLemmas.{lines-short}

literal : (word : List ℕ) → IsTrue (is_token word) → length word ≤ 30 → IsWord word
literal word is short = record { some = name-some word is; clear = name-is-clear word is; short = short }

one-word : IsWord (codes "1")
one-word = literal (codes "1") refl (omega arith)

pub zero-word : IsWord (codes "0")
zero-word = literal (codes "0") refl (omega arith)

ten-word : IsWord (codes "10")
ten-word = literal (codes "10") refl (omega arith)

-- ---- the head

numbers-words : (number : ℕ → ℕ) (first count : ℕ) → ((layer : ℕ) → number layer < 2 ^ 32) → AreWords (map (λ layer. decimal (number layer)) (range_with_len first count))
numbers-words number first zero small = tt
numbers-words number first (suc count) small = (number-word (number first) (small first), numbers-words number (first + 1) count small)

alternating-small : (odd even layer : ℕ) → odd < 2 ^ 32 → even < 2 ^ 32 → alternating odd even layer < 2 ^ 32
alternating-small odd even layer one two = by (layer % 2 == 1)
  where
    by : (b : Bool) → (if b then odd else even) < 2 ^ 32
    by true = one
    by false = two

layers-words : (count : ℕ) → AreLines (layer_lines count)
unfolding layer_lines
layers-words count =
    let capacity = literal (codes "capacity") refl (omega arith) in
    let minimum = literal (codes "minimum") refl (omega arith) in
    let spacing = literal (codes "spacing") refl (omega arith) in
    let vertical = numbers-words (alternating 0 20) 1 count (λ layer. alternating-small 0 20 layer (omega arith) (omega arith)) in
    let horizontal = numbers-words (alternating 20 0) 1 count (λ layer. alternating-small 20 0 layer (omega arith) (omega arith)) in
    let ones = numbers-words (λ _. 1) 1 count (λ layer. omega arith) in (
      (literal (codes "vertical") refl (omega arith), (capacity, vertical)),
      (
        (literal (codes "horizontal") refl (omega arith), (capacity, horizontal)),
        (
          (minimum, (literal (codes "width") refl (omega arith), ones)),
          (
            (minimum, (spacing, ones)),
            (
              (literal (codes "via") refl (omega arith), (spacing, ones)),
              tt,
            ),
          ),
        ),
      ),
    )

all-append : {A : Type 0} (P : A → Type 0) (xs ys : List A) → AllByRecursion P xs → AllByRecursion P ys → AllByRecursion P (xs ++ ys)
all-append P [] ys one two = two
all-append P (x ∷ xs) ys one two = (one.0, all-append P xs ys one.1 two)

last-words : (nets : ℕ) → nets < 2 ^ 32 → AreLines (last_head_lines nets)
unfolding last_head_lines
last-words nets small = (
  (zero-word, (zero-word, (ten-word, (ten-word, tt)))),
  (
    (literal (codes "num") refl (omega arith), (literal (codes "net") refl (omega arith), (number-word nets small, tt))),
    tt,
  ),
)

pub head-words : (made : Made) → IsInRange made → AreLines (head_lines made)
unfolding head_lines
head-words made range =
    let columns = range.few_columns in
    let rows = range.few_rows in
    let layers = range.few_layers in
    let nets = range.few_nets in (
      (literal (codes "grid") refl (omega arith), (number-word made.columns (omega arith), (number-word made.rows (omega arith), (number-word made.layers (omega arith), tt)))),
      all-append AreWords (layer_lines made.layers) (last_head_lines made.nets) (layers-words made.layers) (last-words made.nets (omega arith)),
    )

-- none of the lines has more than 18 words
abbrev AreFew : List (List (List ℕ)) → Type 0
AreFew = AllByRecursion (λ words. length words ≤ 18)

words-few : (lines : List (List (List ℕ))) → AreFew lines → length (words_of lines) ≤ 18 * length lines
words-few [] few = omega arith
words-few (words ∷ lines) few =
    let long = length-append words (words_of lines) in
    let here = few.0 in
    let others = words-few lines few.1 in
    omega arith

head-few : (made : Made) → IsInRange made → AreFew (head_lines made)
unfolding head_lines layer_lines last_head_lines
head-few made range =
    let layers = range.few_layers in
    let vertical = length-map-range_with_len (λ (layer : ℕ). decimal (alternating 0 20 layer)) 1 made.layers in
    let horizontal = length-map-range_with_len (λ (layer : ℕ). decimal (alternating 20 0 layer)) 1 made.layers in
    let ones = length-map-range_with_len (λ (layer : ℕ). decimal 1) 1 made.layers in
    (omega arith, (omega arith, (omega arith, (omega arith, (omega arith, (omega arith, (omega arith, (omega arith, tt))))))))

pub head-short : (made : Made) → IsInRange made → length (lines_text (head_lines made)) ≤ 5000
unfolding head_lines layer_lines last_head_lines
head-short made range =
    let short = lines-short (head_lines made) (head-words made range) in
    let few = words-few (head_lines made) (head-few made range) in
    let lines : length (head_lines made) ≡ 8 = refl in
    omega arith

-- ---- the nets

abbrev pub text_of_nets : List MadeNet → List ℕ
text_of_nets = flat_map (λ n. lines_text (net_lines n))

abbrev pub words_of_nets : List MadeNet → List (List ℕ)
words_of_nets = flat_map (λ n. words_of (net_lines n))

module _ (made : Made) (range : IsInRange made) where
  pub drawn-net : (number state : ℕ) → IsDrawn made (let a = range.some_columns in omega arith) (let a = range.some_rows in omega arith) number (net made number state).0
  drawn-net number state = net-drawn made (let a = range.some_columns in omega arith) (let a = range.some_rows in omega arith) number state

  pins-words : (tiles : List Tile) → AllByRecursion (IsOn made) tiles → AreLines (map pin_line tiles)
  pins-words [] on = tt
  pins-words (tile ∷ tiles) on =
      let column = on.0.column in
      let row = on.0.row in
      let columns = range.few_columns in
      let rows = range.few_rows in
      ((number-word (middle_of tile.column) (omega arith), (number-word (middle_of tile.row) (omega arith), (one-word, tt))), pins-words tiles on.1)

  net-words : (number state : ℕ) → number < 1000000 → AreLines (net_lines (net made number state).0)
  net-words number state small =
      let drawn = (net made number state).0 in
      let known = drawn-net number state in
      let is = known.is in
      let few = known.few in (
        (named-word 110 drawn.number refl (omega arith), (number-word drawn.number (omega arith), (number-word (length drawn.pins) (omega arith), (one-word, tt)))),
        pins-words drawn.pins known.on,
      )

  pins-count : (tiles : List Tile) → length (words_of (map pin_line tiles)) ≡ 3 * length tiles
  pins-count [] = refl
  pins-count (tile ∷ tiles) = let e = pins-count tiles in omega arith

  net-short : (number state : ℕ) → number < 1000000 → length (lines_text (net_lines (net made number state).0)) ≤ 1300
  net-short number state small =
      let drawn = (net made number state).0 in
      let few = (drawn-net number state).few in
      let short = lines-short (net_lines drawn) (net-words number state small) in
      let words = pins-count drawn.pins in
      let lines = length-map drawn.pins pin_line in
      omega arith

  pub nets-short : (first count state : ℕ) → first + count ≤ 1000000 → length (text_of_nets (each (net made) first count state).0) ≤ 1300 * count
  unfolding each
  nets-short first zero state fits = omega arith
  nets-short first (suc count) state fits =
      let one = net made first state in
      let others = (each (net made) (first + 1) count one.1).0 in
      let long = length-append (lines_text (net_lines one.0)) (text_of_nets others) in
      let short = net-short first state (omega arith) in
      let more = nets-short (first + 1) count one.1 (omega arith) in
      omega arith

  pub nets-tokens : (first count state : ℕ) (rest : List ℕ) → first + count ≤ 1000000 →
      tokens (text_of_nets (each (net made) first count state).0 ++ rest) ≡ words_of_nets (each (net made) first count state).0 ++ tokens rest
  unfolding each
  nets-tokens first zero state rest fits = refl
  nets-tokens first (suc count) state rest fits =
      let one = net made first state in
      let others = (each (net made) (first + 1) count one.1).0 in
      ap tokens (append_assoc (lines_text (net_lines one.0)) (text_of_nets others) rest)
      ∙ lines-tokens (net_lines one.0) (text_of_nets others ++ rest) (net-words first state (omega arith))
      ∙ ap (λ (ts : List (List ℕ)). words_of (net_lines one.0) ++ ts) (nets-tokens (first + 1) count one.1 rest (omega arith))
      ∙ sym (append_assoc (words_of (net_lines one.0)) (words_of_nets others) (tokens rest))
