-- The lines before the nets, put one behind another.
use Rattle.std.proofs.Common.{◌≡◌, ℕ, ◌+◌, ◌%◌, ◌==◌, Bool, true, false, if◌then◌else◌, List, [], ◌++◌, codes, refl, sym, ap, ◌∙◌, append_assoc, append-nil}
use Rattle.std.specs.List.{flat_map}
use Rattle.std.specs.Fmt.{decimal}
use Rattle.std.proofs.Math.Path.{fun_ext}
use Rattle.std.proofs.lemmas.List.Concat.{flat_map-append}
use Rattle.design_maker.specs.Texts.{alternating, layer_words, spaced, line, lines_text, grid_line, layer_lines, last_head_lines, head_lines}
use Rattle.design_maker.specs.declared.made.Made.{Made}
use Rattle.design_maker.proofs.TextLemmas.{layers-more}

-- one layer's number more
pub layer-put : (number : ℕ → ℕ) (count n : ℕ) (before text blank end : List ℕ) → text ≡ before ++ flat_map spaced (layer_words number count) →
    blank ≡ text ++ codes " " → end ≡ blank ++ decimal n → n ≡ number (count + 1) → end ≡ before ++ flat_map spaced (layer_words number (count + 1))
layer-put number count n before text blank end so_far one two is =
    let words = flat_map spaced (layer_words number count) in
    two
    ∙ ap (λ (t : List ℕ). t ++ decimal n) (one ∙ ap (λ (t : List ℕ). t ++ codes " ") so_far)
    ∙ append_assoc (before ++ words) (codes " ") (decimal n)
    ∙ ap (λ (k : ℕ). (before ++ words) ++ spaced (decimal k)) is
    ∙ append_assoc before words (spaced (decimal (number (count + 1))))
    ∙ ap (λ (t : List ℕ). before ++ t) (sym (layers-more number count))

-- one number on all layers
always : (b : Bool) → ◌≡◌ {A = ℕ} (if b then 1 else 1) 1
always true = refl
always false = refl

ones : alternating 1 1 ≡ (λ _. 1)
ones = fun_ext (λ layer. always (layer % 2 == 1))

five : (start a b c d end one two three four last : List ℕ) → a ≡ start ++ one → b ≡ a ++ two → c ≡ b ++ three → d ≡ c ++ four → end ≡ d ++ last →
    end ≡ start ++ (one ++ (two ++ (three ++ (four ++ (last ++ [])))))
five start a b c d end one two three four last p q r s t =
    t ∙ ap (λ (x : List ℕ). x ++ last) (s ∙ ap (λ (x : List ℕ). x ++ four) (r ∙ ap (λ (x : List ℕ). x ++ three) (q ∙ ap (λ (x : List ℕ). x ++ two) p)))
    ∙ ap (λ (x : List ℕ). (((start ++ one) ++ two) ++ three) ++ four ++ x) (sym (append-nil last))
    ∙ append_assoc (((start ++ one) ++ two) ++ three) four (last ++ [])
    ∙ append_assoc ((start ++ one) ++ two) three (four ++ (last ++ []))
    ∙ append_assoc (start ++ one) two (three ++ (four ++ (last ++ [])))
    ∙ append_assoc start one (two ++ (three ++ (four ++ (last ++ []))))

module _ (layers : ℕ) where
  -- a line as it is put
  abbrev pub put_line : (words : List ℕ) → (ℕ → ℕ) → List ℕ
  put_line words number = words ++ flat_map spaced (layer_words number layers) ++ codes "\n"

  pub layers-put : (start a b c d end : List ℕ) →
      a ≡ start ++ put_line (codes "vertical capacity") (alternating 0 20) → b ≡ a ++ put_line (codes "horizontal capacity") (alternating 20 0) →
      c ≡ b ++ put_line (codes "minimum width") (alternating 1 1) → d ≡ c ++ put_line (codes "minimum spacing") (alternating 1 1) →
      end ≡ d ++ put_line (codes "via spacing") (alternating 1 1) → end ≡ start ++ lines_text (layer_lines layers)
  unfolding layer_lines
  layers-put start a b c d end p q r s t =
      five start a b c d end
      (put_line (codes "vertical capacity") (alternating 0 20)) (put_line (codes "horizontal capacity") (alternating 20 0))
      (put_line (codes "minimum width") (λ _. 1)) (put_line (codes "minimum spacing") (λ _. 1)) (put_line (codes "via spacing") (λ _. 1))
      p q
      (r ∙ ap (λ (f : ℕ → ℕ). b ++ put_line (codes "minimum width") f) ones)
      (s ∙ ap (λ (f : ℕ → ℕ). c ++ put_line (codes "minimum spacing") f) ones)
      (t ∙ ap (λ (f : ℕ → ℕ). d ++ put_line (codes "via spacing") f) ones)

pub last-put : (nets : ℕ) (start a b end : List ℕ) → a ≡ start ++ codes "0 0 10 10\nnum net " → b ≡ a ++ decimal nets → end ≡ b ++ codes "\n" →
    end ≡ start ++ lines_text (last_head_lines nets)
unfolding last_head_lines
last-put nets start a b end p q r =
    r ∙ ap (λ (t : List ℕ). t ++ codes "\n") (q ∙ ap (λ (t : List ℕ). t ++ decimal nets) p)
    ∙ append_assoc (start ++ codes "0 0 10 10\nnum net ") (decimal nets) (codes "\n")
    ∙ append_assoc start (codes "0 0 10 10\nnum net ") (decimal nets ++ codes "\n")
    ∙ ap (λ (t : List ℕ). start ++ (codes "0 0 10 10\nnum net " ++ (t ++ codes "\n"))) (sym (append-nil (decimal nets)))
    ∙ ap (λ (t : List ℕ). start ++ (codes "0 0 10 10\nnum net " ++ t)) (sym (append-nil ((decimal nets ++ []) ++ codes "\n")))

pub head-put : (made : Made) (start a b end : List ℕ) → a ≡ start ++ line (grid_line made) → b ≡ a ++ lines_text (layer_lines made.layers) →
    end ≡ b ++ lines_text (last_head_lines made.nets) → end ≡ start ++ lines_text (head_lines made)
unfolding head_lines
head-put made start a b end p q r =
    let grid = line (grid_line made) in
    let layers = lines_text (layer_lines made.layers) in
    let last = lines_text (last_head_lines made.nets) in
    r ∙ ap (λ (t : List ℕ). t ++ last) (q ∙ ap (λ (t : List ℕ). t ++ layers) p)
    ∙ append_assoc (start ++ grid) layers last
    ∙ append_assoc start grid (layers ++ last)
    ∙ ap (λ (t : List ℕ). start ++ (grid ++ t)) (sym (flat_map-append line (layer_lines made.layers) (last_head_lines made.nets)))
