-- The grammar of designs accepts the made text.
use Rattle.std.proofs.Common.{◌≡◌, ℕ, zero, suc, ◌+◌, ◌%◌, ◌^◌, ◌≤◌, true, nat_le, List, [], ◌∷◌, ◌++◌, length, map, Some, Ok, codes, refl, sym, ap, ◌∙◌, append_assoc, append-nil, length-append, arith}
use Rattle.std.specs.List.{fold}
use Rattle.std.specs.Fmt.{decimal}
use Rattle.std.proofs.lemmas.Bool.Decides.{nat_tests}
use Rattle.std.proofs.lemmas.List.{length-map}
use Rattle.std.proofs.lemmas.List.Concat.{flat_map-append}
use Rattle.gr_base.specs.Limits.{most_bytes}
use Rattle.gr_base.specs.Designs.{DesignView, pins_of}
use Rattle.gr_base.specs.declared.frame.Adjustment.{Adjustment}
use Rattle.gr_base.specs.declared.frame.Frame.{Frame}
use Rattle.gr_base.specs.declared.frame.Net.{Net}
use Rattle.gr_base.specs.declared.grid.Shape.{Shape}
use Rattle.gr_text.specs.Numbers.{number_in, decimal_value}
use Rattle.gr_text.specs.Tokens.{Place, tokens, place_in}
use Rattle.gr_text.specs.Reading.{Reader, and_then, ◌>>=◌, pure, check, token_or_end, several, end, value_of}
use Rattle.ispd_reader.specs.Header.{shape_of, frame}
use Rattle.ispd_reader.specs.Nets as grammar
use Rattle.ispd_reader.specs.Adjustments.{adjustments, counted_adjustments, adjustment_count}
use Rattle.ispd_reader.specs.DesignText.{design, design_of}
use Rattle.ispd_reader.specs.declared.fault.DesignFault.{DesignFault}
use Rattle.ispd_reader.proofs.HeaderLemmas.{shape_of-new}
use Rattle.design_maker.specs.Ranges.{IsMade}
use Rattle.design_maker.specs.Draws.{each}
use Rattle.design_maker.specs.Nets.{MadeNet, net, nets_of, count_of}
use Rattle.design_maker.specs.Designs.{cell_on, frame_on, net_on, design_on, IsAccepted}
use Rattle.design_maker.specs.Texts.{line, lines_text, grid_line, layer_lines, last_head_lines, head_lines, last_line, text_of}
use Rattle.design_maker.specs.declared.made.Made.{Made}
use Rattle.design_maker.specs.declared.write.Count.{Count}
use Rattle.design_maker.proofs.RangeLemmas.{IsInRange, in-range, grid-valid}
use Rattle.design_maker.proofs.WordLemmas.{words_of, line-tokens, lines-tokens}
use Rattle.design_maker.proofs.MadeLineLemmas.{zero-word, head-words, head-short, drawn-net, text_of_nets, words_of_nets, nets-short, nets-tokens}
use Rattle.design_maker.proofs.ReadLemmas.{place, Says, says-then, says-pure, says-value}
use Rattle.design_maker.proofs.GrammarLemmas.{says-grid, says-frame, says-net_count, AreBefore, says-net, before-more}

-- the words before the number of nets
abbrev frame_words : Made → List (List ℕ)
frame_words made = grid_line made ++ (words_of (layer_lines made.layers) ++ (codes "0" ∷ codes "0" ∷ codes "10" ∷ codes "10" ∷ []))

-- the words of the number of nets
abbrev count_words : Made → List (List ℕ)
count_words made = codes "num" ∷ codes "net" ∷ decimal made.nets ∷ []

head-parts : (made : Made) (rest : List (List ℕ)) → words_of (head_lines made) ++ rest ≡ frame_words made ++ (count_words made ++ rest)
unfolding head_lines last_head_lines
head-parts made rest =
    let words = words_of (layer_lines made.layers) in
    let origin = codes "0" ∷ codes "0" ∷ codes "10" ∷ codes "10" ∷ [] in
    let whole : words_of (layer_lines made.layers ++ last_head_lines made.nets) ≡ words ++ (origin ++ count_words made) =
    flat_map-append (λ (ws : List (List ℕ)). ws) (layer_lines made.layers) (last_head_lines made.nets) in
    ap (λ (ws : List (List ℕ)). (grid_line made ++ ws) ++ rest) whole
    ∙ ap (λ (ws : List (List ℕ)). (grid_line made ++ ws) ++ rest) (sym (append_assoc words origin (count_words made)))
    ∙ append_assoc (grid_line made) ((words ++ origin) ++ count_words made) rest
    ∙ ap (λ (ws : List (List ℕ)). grid_line made ++ ws) (append_assoc (words ++ origin) (count_words made) rest)
    ∙ sym (append_assoc (grid_line made) (words ++ origin) (count_words made ++ rest))

-- the last word is the number of adjustments
adjustments-end : (shape : Shape) (number : ℕ) → (after : ℕ) × (adjustments shape (place number last_line) ≡ Ok ([], place after []))
unfolding adjustments token_or_end counted_adjustments adjustment_count number_in decimal_value several end check
adjustments-end shape number = (number + 1, refl)

module _ (made : Made) (range : IsInRange made) where
  abbrev grid_shape : Shape
  grid_shape = record { columns = made.columns; rows = made.rows; layers = made.layers; valid = grid-valid made range }

  shape-is : shape_of made.columns made.rows made.layers ≡ Some grid_shape
  shape-is = sym (shape_of-new made.columns made.rows made.layers (Some grid_shape) ((λ _. grid-valid made range), (λ _. refl)) refl refl refl)

  frame-says : Says frame (frame_words made) (frame_on grid_shape)
  frame-says =
      let a = range.some_columns in
      let b = range.few_columns in
      let c = range.some_rows in
      let d = range.few_rows in
      let e = range.some_layers in
      let f = range.few_layers in
      says-frame made grid_shape (says-grid made grid_shape (omega arith) (omega arith) (omega arith) (omega arith) (omega arith) (omega arith) shape-is) (omega arith)

  all-nets : (first count state : ℕ) (found : List Net) → first + count ≤ 1000000 → AreBefore first found →
      Says (several (grammar.net (frame_on grid_shape)) count found) (words_of_nets (each (net made) first count state).0) (found ++ map (net_on grid_shape) (each (net made) first count state).0)
  unfolding several each
  all-nets first zero state found fits before = says-value (sym (append-nil found)) (says-pure found)
  all-nets first (suc count) state found fits before =
      let b = range.few_columns in
      let d = range.few_rows in
      let e = range.some_layers in
      let one = net made first state in
      let known = drawn-net made range first state in
      says-then _ _
      (says-net made grid_shape refl refl b d (omega arith) first found one.0 (omega arith) before known.is known.some known.few known.on)
      (says-value (append_assoc found (net_on grid_shape one.0 ∷ []) (map (net_on grid_shape) (each (net made) (first + 1) count one.1).0))
      (all-nets (first + 1) count one.1 (found ++ net_on grid_shape one.0 ∷ []) (omega arith)
      (before-more made grid_shape refl refl b d (omega arith) first found one.0 before known.is known.few)))

  nets-say : Says (grammar.nets (frame_on grid_shape)) (count_words made ++ words_of_nets (nets_of made)) (map (net_on grid_shape) (nets_of made))
  unfolding grammar.nets nets_of
  nets-say =
      let few = range.few_nets in
      says-then _ _ (says-net_count made.nets (omega arith))
      (all-nets 0 made.nets (made.seed % 2 ^ 31) [] (omega arith) (record { ids = tt; pins = omega arith }))

  text-tokens : tokens (text_of made) ≡ frame_words made ++ ((count_words made ++ words_of_nets (nets_of made)) ++ last_line)
  unfolding nets_of text_of tokens
  text-tokens =
      let few = range.few_nets in
      let nets = nets_of made in
      let last : tokens (line last_line) ≡ last_line = line-tokens last_line [] (zero-word, tt) in
      ap tokens (append_assoc (lines_text (head_lines made)) (text_of_nets nets) (line last_line))
      ∙ lines-tokens (head_lines made) (text_of_nets nets ++ line last_line) (head-words made range)
      ∙ ap (λ (ts : List (List ℕ)). words_of (head_lines made) ++ ts)
      (nets-tokens made range 0 made.nets (made.seed % 2 ^ 31) (line last_line) (omega arith) ∙ ap (λ (ts : List (List ℕ)). words_of_nets nets ++ ts) last)
      ∙ head-parts made (words_of_nets nets ++ last_line)
      ∙ ap (λ (ts : List (List ℕ)). frame_words made ++ ts) (sym (append_assoc (count_words made) (words_of_nets nets) last_line))

  text-short : length (text_of made) ≤ most_bytes
  unfolding nets_of text_of
  text-short =
      let few = range.few_nets in
      let head = head-short made range in
      let all = nets-short made range 0 made.nets (made.seed % 2 ^ 31) (omega arith) in
      let one = length-append (lines_text (head_lines made)) (text_of_nets (nets_of made)) in
      let two = length-append (lines_text (head_lines made) ++ text_of_nets (nets_of made)) (line last_line) in
      omega arith

  whole-place : place_in most_bytes 0 (text_of made) ≡ place 0 (tokens (text_of made))
  unfolding place_in
  whole-place =
      let short = text-short in
      let test : nat_le (length (text_of made)) most_bytes ≡ true = grind (arith, nat_tests) in
      rw test refl

  design-is : design_of (text_of made) ≡ Ok (design_on grid_shape made)
  unfolding design_of design
  design-is =
      let nets = map (net_on grid_shape) (nets_of made) in
      let one = frame-says.says 0 ((count_words made ++ words_of_nets (nets_of made)) ++ last_line) in
      let two = nets-say.says one.0 last_line in
      let three = adjustments-end grid_shape two.0 in
      let made_of : Frame → List Net → List Adjustment → Reader DesignFault DesignView =
      λ f ns adjusted. pure (record { frame = f; nets = ns; adjustments = adjusted }) in
      let behind_nets : Frame → List Net → Reader DesignFault DesignView = λ f ns. adjustments f.shape >>= made_of f ns in
      ap (λ (p : Place). value_of (design p)) (whole-place ∙ ap (place 0) text-tokens)
      ∙ ap (λ r. value_of (and_then r (λ f. grammar.nets f >>= behind_nets f))) one.1
      ∙ ap (λ r. value_of (and_then r (behind_nets (frame_on grid_shape)))) two.1
      ∙ ap (λ r. value_of (and_then r (made_of (frame_on grid_shape) nets))) three.1

abbrev as_count : (nets pins : ℕ) → Count
as_count nets pins = record { nets = nets; pins = pins }

abbrev counted : List Net → Count
counted nets = as_count (length nets) (pins_of nets)

-- the nets of the design are as many as were drawn, and have as many pins
count-is : (shape : Shape) (drawn : List MadeNet) → counted (map (net_on shape) drawn) ≡ count_of drawn
count-is shape drawn =
    ap (λ (n : ℕ). as_count n (pins_of (map (net_on shape) drawn))) (length-map drawn (net_on shape))
    ∙ ap (λ (n : ℕ). as_count (length drawn) n) (pins 0 drawn)
  where
    pins : (start : ℕ) (ns : List MadeNet) → fold (λ (k : ℕ) (n : Net). k + length n.pins) start (map (net_on shape) ns) ≡ fold (λ (k : ℕ) (n : MadeNet). k + length n.pins) start ns
    pins start [] = refl
    pins start (n ∷ ns) =
        ap (λ (k : ℕ). fold (λ (m : ℕ) (n : Net). m + length n.pins) (start + k) (map (net_on shape) ns)) (length-map n.pins (cell_on shape))
        ∙ pins (start + length n.pins) ns

pub accepted : (made : Made) → IsMade made → IsAccepted made
accepted made is =
    let range = in-range made is in
    record { shape = grid_shape made range; grid = shape-is made range; design = design-is made range; count = count-is (grid_shape made range) (nets_of made) }
