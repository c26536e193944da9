-- Texts of several pieces.
use Rattle.std.proofs.Common.{◌≡◌, ℕ, List, ◌++◌, ap, ◌∙◌, append_assoc}

pub three-pieces : (old a b c first second third : List ℕ) → first ≡ old ++ a → second ≡ first ++ b → third ≡ second ++ c → third ≡ old ++ (a ++ b ++ c)
three-pieces old a b c first second third one two three =
    three ∙ ap (λ (t : List ℕ). t ++ c) (two ∙ ap (λ (t : List ℕ). t ++ b) one ∙ append_assoc old a b) ∙ append_assoc old (a ++ b) c

pub six-pieces : (a b c d e f t1 t2 t3 t4 t5 t6 : List ℕ) → t1 ≡ a → t2 ≡ t1 ++ b → t3 ≡ t2 ++ c → t4 ≡ t3 ++ d → t5 ≡ t4 ++ e → t6 ≡ t5 ++ f →
    t6 ≡ a ++ b ++ c ++ d ++ e ++ f
six-pieces a b c d e f t1 t2 t3 t4 t5 t6 one two three four five six =
    six ∙ ap (λ (t : List ℕ). t ++ f) (five ∙ ap (λ (t : List ℕ). t ++ e)
    (four ∙ ap (λ (t : List ℕ). t ++ d) (three ∙ ap (λ (t : List ℕ). t ++ c) (two ∙ ap (λ (t : List ℕ). t ++ b) one))))
