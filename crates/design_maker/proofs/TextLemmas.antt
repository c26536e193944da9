-- The text so far, and what was drawn for it.
use Rattle.std.proofs.Common.{◌≡◌, ℕ, ◌+◌, ◌%◌, ◌^◌, List, [], ◌∷◌, ◌++◌, length, map, sum_by, refl, sym, ap, ◌∙◌, append_assoc, append-nil, arith}
use Rattle.std.specs.List.{flat_map}
use Rattle.std.specs.Fmt.{decimal}
use Rattle.std.proofs.lemmas.List.Concat.{flat_map-append}
use Rattle.std.proofs.lemmas.List.FromFn.{map-range_with_len_more}
use Rattle.std.proofs.lemmas.List.Sums.{sum_by_push}
use Rattle.design_maker.specs.Draws.{each}
use Rattle.design_maker.specs.Nets.{MadeNet, pin, net, nets_of, count_of}
use Rattle.design_maker.specs.Texts.{spaced, layer_words, line, lines_text, head_lines, pin_line, net_lines, last_line, text_of}
use Rattle.design_maker.specs.declared.made.Made.{Made}
use Rattle.design_maker.specs.declared.nets.Tile.{Tile}
use Rattle.design_maker.specs.declared.write.Count.{Count}
use Rattle.design_maker.proofs.DrawLemmas.{each-length, each-more, each-parts}

-- one layer more
pub layers-more : (number : ℕ → ℕ) (count : ℕ) →
    flat_map spaced (layer_words number (count + 1)) ≡ flat_map spaced (layer_words number count) ++ spaced (decimal (number (count + 1)))
layers-more number count =
    let word : ℕ → List ℕ = λ layer. decimal (number layer) in
    let same : 1 + count ≡ count + 1 = omega arith in
    ap (flat_map spaced) (map-range_with_len_more word 1 count (count + 1) same)
    ∙ flat_map-append spaced (layer_words number count) (word (count + 1) ∷ [])
    ∙ ap (λ (t : List ℕ). flat_map spaced (layer_words number count) ++ t) (append-nil (spaced (word (count + 1))))

-- ---- the pins of a net

module _ (made : Made) (start : Tile) (state : ℕ) where
  -- the first pins, and the state behind them
  abbrev pub pins_before : ℕ → List Tile × ℕ
  pins_before count = each (λ _. pin made start) 0 count state

  abbrev pub pins_text : ℕ → List ℕ
  pins_text count = lines_text (map pin_line (pins_before count).0)

  map-append : (xs ys : List Tile) → lines_text (map pin_line (xs ++ ys)) ≡ lines_text (map pin_line xs) ++ lines_text (map pin_line ys)
  map-append [] ys = refl
  map-append (x ∷ xs) ys =
      ap (λ (t : List ℕ). line (pin_line x) ++ t) (map-append xs ys)
      ∙ sym (append_assoc (line (pin_line x)) (lines_text (map pin_line xs)) (lines_text (map pin_line ys)))

  -- one pin more
  pub pins-text : (count : ℕ) (tile : Tile) (now next : ℕ) → now ≡ (pins_before count).1 → (tile, next) ≡ pin made start now →
      pins_text (count + 1) ≡ pins_text count ++ line (pin_line tile)
  pins-text count tile now next is drawn =
      let one : tile ≡ (pin made start (pins_before count).1).0 = ap (λ (p : Tile × ℕ). p.0) drawn ∙ ap (λ (s : ℕ). (pin made start s).0) is in
      ap (λ (p : List Tile × ℕ). lines_text (map pin_line p.0)) (each-more (λ _. pin made start) 0 count state)
      ∙ map-append (pins_before count).0 _
      ∙ ap (λ (t : Tile). pins_text count ++ (line (pin_line t) ++ [])) (sym one)
      ∙ ap (λ (t : List ℕ). pins_text count ++ t) (append-nil (line (pin_line tile)))

  pub pins-state : (count : ℕ) (tile : Tile) (now next : ℕ) → now ≡ (pins_before count).1 → (tile, next) ≡ pin made start now →
      next ≡ (pins_before (count + 1)).1
  pins-state count tile now next is drawn =
      ap (λ (p : Tile × ℕ). p.1) drawn ∙ ap (λ (s : ℕ). (pin made start s).1) is
      ∙ sym (ap (λ (p : List Tile × ℕ). p.1) (each-more (λ _. pin made start) 0 count state))

  -- no pin yet
  pub record AreFirst (before : List ℕ) : Type 0 where
    pub text : before ≡ before ++ pins_text 0
    pub draws : state ≡ (pins_before 0).1

  pub first-pins : (before : List ℕ) → AreFirst before
  unfolding each
  first-pins before = record { text = sym (append-nil before); draws = refl }

-- ---- the nets

module _ (made : Made) where
  -- the first nets, and the state behind them
  abbrev pub nets_before : ℕ → List MadeNet × ℕ
  nets_before count = each (net made) 0 count (made.seed % 2 ^ 31)

  abbrev pub net_text : MadeNet → List ℕ
  net_text n = lines_text (net_lines n)

  -- the text of the first nets
  abbrev pub text_before : ℕ → List ℕ
  text_before count = lines_text (head_lines made) ++ flat_map net_text (nets_before count).0

  more : (count state : ℕ) → state ≡ (nets_before count).1 →
      nets_before (count + 1) ≡ ((nets_before count).0 ++ (net made count state).0 ∷ [], (net made count state).1)
  more count state is =
      let same : 0 + count ≡ count = omega arith in
      each-more (net made) 0 count (made.seed % 2 ^ 31)
      ∙ ap (λ (s : ℕ). ((nets_before count).0 ++ (net made (0 + count) s).0 ∷ [], (net made (0 + count) s).1)) (sym is)
      ∙ ap (λ (n : ℕ). ((nets_before count).0 ++ (net made n state).0 ∷ [], (net made n state).1)) same

  pub text-more : (count state : ℕ) → state ≡ (nets_before count).1 → text_before (count + 1) ≡ text_before count ++ net_text (net made count state).0
  text-more count state is =
      let head = lines_text (head_lines made) in
      let one = (net made count state).0 in
      ap (λ (p : List MadeNet × ℕ). head ++ flat_map net_text p.0) (more count state is)
      ∙ ap (λ (t : List ℕ). head ++ t) (flat_map-append net_text (nets_before count).0 (one ∷ []) ∙ ap (λ (t : List ℕ). flat_map net_text (nets_before count).0 ++ t) (append-nil (net_text one)))
      ∙ sym (append_assoc head (flat_map net_text (nets_before count).0) (net_text one))

  pub state-more : (count state : ℕ) → state ≡ (nets_before count).1 → (net made count state).1 ≡ (nets_before (count + 1)).1
  state-more count state is = sym (ap (λ (p : List MadeNet × ℕ). p.1) (more count state is))

  -- the pins of nets together
  abbrev pub pins_in : List MadeNet → ℕ
  pins_in = sum_by (λ n. length n.pins)

  pub pins-more : (count state : ℕ) → state ≡ (nets_before count).1 →
      pins_in (nets_before (count + 1)).0 ≡ pins_in (nets_before count).0 + length (net made count state).0.pins
  pins-more count state is =
      ap (λ (p : List MadeNet × ℕ). pins_in p.0) (more count state is)
      ∙ sum_by_push (λ (n : MadeNet). length n.pins) (nets_before count).0 (net made count state).0

  -- no net yet
  pub text-none : text_before 0 ≡ lines_text (head_lines made)
  unfolding each
  text-none = append-nil (lines_text (head_lines made))

  pub state-none : (nets_before 0).1 ≡ made.seed % 2 ^ 31
  unfolding each
  state-none = refl

  pub pins-none : pins_in (nets_before 0).0 ≡ 0
  unfolding each
  pins-none = refl

  -- all nets, and the last line
  pub text-whole : text_of made ≡ text_before made.nets ++ line last_line
  unfolding nets_of text_of
  text-whole = refl

  -- what is left of the text behind the first nets
  abbrev pub text_behind : ℕ → ℕ → List ℕ
  text_behind count left = flat_map net_text (each (net made) (0 + count) left (nets_before count).1).0 ++ line last_line

  pub text-parts : (count left : ℕ) → count + left ≡ made.nets → text_of made ≡ text_before count ++ text_behind count left
  text-parts count left all =
      let head = lines_text (head_lines made) in
      let first = (nets_before count).0 in
      let others = (each (net made) (0 + count) left (nets_before count).1).0 in
      text-whole
      ∙ ap (λ (n : ℕ). text_before n ++ line last_line) (sym all)
      ∙ ap (λ (p : List MadeNet × ℕ). (head ++ flat_map net_text p.0) ++ line last_line) (each-parts (net made) 0 count left (made.seed % 2 ^ 31))
      ∙ ap (λ (t : List ℕ). (head ++ t) ++ line last_line) (flat_map-append net_text first others)
      ∙ ap (λ (t : List ℕ). t ++ line last_line) (sym (append_assoc head (flat_map net_text first) (flat_map net_text others)))
      ∙ append_assoc (text_before count) (flat_map net_text others) (line last_line)

  -- the text before the first net, and a net more

  pub text-first : (empty start : List ℕ) → empty ≡ [] → start ≡ empty ++ lines_text (head_lines made) → start ≡ text_before 0
  text-first empty start none put = put ∙ ap (λ (t : List ℕ). t ++ lines_text (head_lines made)) none ∙ sym text-none

  pub text-next : (count state : ℕ) (before after : List ℕ) → state ≡ (nets_before count).1 → before ≡ text_before count →
      after ≡ before ++ net_text (net made count state).0 → after ≡ text_before (count + 1)
  text-next count state before after is so_far put =
      put ∙ ap (λ (t : List ℕ). t ++ net_text (net made count state).0) so_far ∙ sym (text-more count state is)

  pub text-end : (count : ℕ) (before after : List ℕ) → count ≡ made.nets → before ≡ text_before count → after ≡ before ++ line last_line → after ≡ text_of made
  text-end count before after all so_far put =
      put ∙ ap (λ (t : List ℕ). t ++ line last_line) (so_far ∙ ap text_before all) ∙ sym text-whole

  abbrev made_count : ℕ → Count
  made_count pins = record { nets = made.nets; pins = pins }

  -- how many nets and pins there are
  pub count-whole : (count pins : ℕ) → count ≡ made.nets → pins ≡ pins_in (nets_before count).0 → made_count pins ≡ count_of (nets_of made)
  unfolding nets_of
  count-whole count pins all is =
      let nets : made.nets ≡ length (nets_before made.nets).0 = sym (each-length (net made) 0 made.nets (made.seed % 2 ^ 31)) in
      let whole : pins ≡ pins_in (nets_before made.nets).0 = is ∙ ap (λ (n : ℕ). pins_in (nets_before n).0) all in
      ap (λ (n : ℕ). let c : Count = record { nets = n; pins = pins } in c) nets
      ∙ ap (λ (p : ℕ). let c : Count = record { nets = length (nets_before made.nets).0; pins = p } in c) whole
