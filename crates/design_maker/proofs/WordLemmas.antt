-- The tokens of lines are their words.
use Rattle.std.proofs.Common.{◌≡◌, ℕ, ◌^◌, ◌<◌, ◌≤◌, false, List, [], ◌∷◌, ◌++◌, length, codes, refl, sym, ap, ◌∙◌, append_assoc, arith}
use Rattle.std.specs.List.{AllByRecursion, flat_map}
use Rattle.std.specs.Fmt.{decimal}
use Rattle.std.proofs.lemmas.Fmt.{decimal_nonempty, length-decimal-le}
use Rattle.gr_text.specs.Tokens.{is_blank, tokens}
use Rattle.gr_text.proofs.TokenLemmas.{tokens-blanks}
use Rattle.solution_text.proofs.TokenLemmas.{NonePass, token-first}
use Rattle.solution_text.proofs.NumberLemmas.{natural-blank}
use Rattle.design_maker.specs.Texts.{spaced, line, lines_text}

-- a word that can be a token, and isn't long
pub record IsWord (word : List ℕ) : Type 0 where
  pub some : 0 < length word
  pub clear : NonePass is_blank word
  pub short : length word ≤ 30

abbrev pub AreWords : List (List ℕ) → Type 0
AreWords = AllByRecursion IsWord

abbrev pub AreLines : List (List (List ℕ)) → Type 0
AreLines = AllByRecursion AreWords

pub number-word : (n : ℕ) → n < 2 ^ 32 → IsWord (decimal n)
number-word n small = record {
  some = decimal_nonempty n (omega arith);
  clear = natural-blank n (omega arith);
  short = let e = length-decimal-le 20 n (omega arith) (omega arith) (omega arith) in omega arith;
}

-- a word of at most two letters before a number
pub named-word : (letter n : ℕ) → is_blank letter ≡ false → n < 2 ^ 32 → IsWord (letter ∷ decimal n)
named-word letter n clear small = record {
  some = omega arith;
  clear = (clear, natural-blank n (omega arith));
  short = let e = length-decimal-le 20 n (omega arith) (omega arith) (omega arith) in omega arith;
}

-- the words of lines
abbrev pub words_of : List (List (List ℕ)) → List (List ℕ)
words_of = flat_map (λ words. words)

tail-tokens : (word : List ℕ) (words : List (List ℕ)) (rest : List ℕ) → IsWord word → AreWords words →
    tokens (word ++ ((flat_map spaced words ++ codes "\n") ++ rest)) ≡ word ∷ words ++ tokens rest
tail-tokens word [] rest is are = token-first word 10 rest is.some is.clear refl
tail-tokens word (next ∷ words) rest is are =
    let behind = flat_map spaced words in
    let apart : ((next ++ behind) ++ codes "\n") ++ rest ≡ next ++ ((behind ++ codes "\n") ++ rest) =
    ap (λ (t : List ℕ). t ++ rest) (append_assoc next behind (codes "\n")) ∙ append_assoc next (behind ++ codes "\n") rest in
    token-first word 32 (((next ++ behind) ++ codes "\n") ++ rest) is.some is.clear refl
    ∙ ap (λ (t : List ℕ). word ∷ tokens t) apart
    ∙ ap (λ (ts : List (List ℕ)). word ∷ ts) (tail-tokens next words rest are.0 are.1)

pub line-tokens : (words : List (List ℕ)) (rest : List ℕ) → AreWords words → tokens (line words ++ rest) ≡ words ++ tokens rest
line-tokens [] rest are = tokens-blanks (10 ∷ []) rest refl
line-tokens (word ∷ words) rest are =
    ap (λ (t : List ℕ). tokens (t ++ rest)) (append_assoc word (flat_map spaced words) (codes "\n"))
    ∙ ap tokens (append_assoc word (flat_map spaced words ++ codes "\n") rest) ∙ tail-tokens word words rest are.0 are.1

pub lines-tokens : (lines : List (List (List ℕ))) (rest : List ℕ) → AreLines lines →
    tokens (lines_text lines ++ rest) ≡ words_of lines ++ tokens rest
lines-tokens [] rest are = refl
lines-tokens (words ∷ lines) rest are =
    ap tokens (append_assoc (line words) (lines_text lines) rest)
    ∙ line-tokens words (lines_text lines ++ rest) are.0
    ∙ ap (λ (ts : List (List ℕ)). words ++ ts) (lines-tokens lines rest are.1)
    ∙ sym (append_assoc words (words_of lines) (tokens rest))
