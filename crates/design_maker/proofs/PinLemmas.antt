-- The line of a pin, put one part behind another.
use Rattle.std.proofs.Common.{◌≡◌, ℕ, ◌+◌, ◌<◌, ◌≤◌, List, [], ◌∷◌, ◌++◌, length, get_or, codes, sym, ap, ◌∙◌, append_assoc, arith}
use Rattle.std.specs.Fmt.{decimal}
use Rattle.std.proofs.lemmas.List.FromFn.{get_or-map-range_with_len, length-map-range_with_len, map-range_with_len_more}
use Rattle.design_maker.specs.Texts.{middle_of, written_middles, AreMiddles, line, pin_line}
use Rattle.design_maker.specs.declared.made.Made.{Made}
use Rattle.design_maker.specs.declared.nets.Tile.{Tile}

-- a middle of those that are written
pub middle-at : (middles : List (List ℕ)) (tile : ℕ) (middle : List ℕ) → middles ≡ written_middles (length middles) → tile < length middles →
    middle ≡ get_or middles tile middle → middle ≡ decimal (middle_of tile)
middle-at middles tile middle written below is =
    is ∙ ap (λ (ms : List (List ℕ)). get_or ms tile middle) written
    ∙ get_or-map-range_with_len (λ (t : ℕ). decimal (middle_of t)) 0 (length middles) tile tile middle below (omega arith)

pub pin-put : (tile : Tile) (start a b c end column row : List ℕ) → column ≡ decimal (middle_of tile.column) → row ≡ decimal (middle_of tile.row) →
    a ≡ start ++ column → b ≡ a ++ codes " " → c ≡ b ++ row → end ≡ c ++ codes " 1\n" → end ≡ start ++ line (pin_line tile)
pin-put tile start a b c end column row is_column is_row p q r s =
    let x = decimal (middle_of tile.column) in
    let y = decimal (middle_of tile.row) in
    s ∙ ap (λ (t : List ℕ). t ++ codes " 1\n") (r ∙ ap (λ (t : List ℕ). t ++ row) (q ∙ ap (λ (t : List ℕ). t ++ codes " ") (p ∙ ap (λ (t : List ℕ). start ++ t) is_column)))
    ∙ ap (λ (t : List ℕ). ((start ++ x) ++ codes " ") ++ t ++ codes " 1\n") is_row
    ∙ append_assoc ((start ++ x) ++ codes " ") y (codes " 1\n")
    ∙ append_assoc (start ++ x) (codes " ") (y ++ codes " 1\n")
    ∙ append_assoc start x (codes " " ++ (y ++ codes " 1\n"))
    ∙ ap (λ (t : List ℕ). start ++ (x ++ (codes " " ++ t))) (sym (append_assoc y (codes " 1") (codes "\n")))
    ∙ ap (λ (t : List ℕ). start ++ t) (sym (append_assoc x (codes " " ++ (y ++ codes " 1")) (codes "\n")))

-- one middle more
pub middles-more : (count n : ℕ) (middles more : List (List ℕ)) (empty middle : List ℕ) → middles ≡ written_middles count → empty ≡ [] → n ≡ middle_of count →
    middle ≡ empty ++ decimal n → more ≡ middles ++ middle ∷ [] → more ≡ written_middles (count + 1)
middles-more count n middles more empty middle written none is put pushed =
    let word : middle ≡ decimal (middle_of count) = put ∙ ap (λ (t : List ℕ). t ++ decimal n) none ∙ ap decimal is in
    pushed
    ∙ ap (λ (ms : List (List ℕ)). ms ++ middle ∷ []) written
    ∙ ap (λ (w : List ℕ). written_middles count ++ w ∷ []) word
    ∙ sym (map-range_with_len_more (λ (t : ℕ). decimal (middle_of t)) 0 count count (omega arith))

-- all that a grid has
pub middles-whole : (made : Made) (tiles count : ℕ) (middles : List (List ℕ)) → made.columns ≤ tiles → made.rows ≤ tiles → count ≡ tiles →
    middles ≡ written_middles count → AreMiddles made middles
middles-whole made tiles count middles columns rows all written =
    let long : length middles ≡ count = ap length written ∙ length-map-range_with_len (λ (t : ℕ). decimal (middle_of t)) 0 count in
    record {
      written = written ∙ ap written_middles (sym long);
      columns = omega arith;
      rows = omega arith;
    }
