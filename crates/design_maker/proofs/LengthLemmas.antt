-- How long the text of a made design is.
use Rattle.std.proofs.Common.{ℕ, ◌+◌, ◌*◌, ◌≤◌, List, [], ◌∷◌, ◌++◌, length, codes, length-append, arith}
use Rattle.std.specs.List.{flat_map}
use Rattle.design_maker.specs.Texts.{spaced, line, lines_text}
use Rattle.design_maker.proofs.WordLemmas.{AreWords, AreLines, words_of}

spaced-short : (words : List (List ℕ)) → AreWords words → length (flat_map spaced words) ≤ 31 * length words
spaced-short [] are = omega arith
spaced-short (word ∷ words) are =
    let long = length-append (spaced word) (flat_map spaced words) in
    let others = spaced-short words are.1 in
    let short = are.0.short in
    omega arith

line-short : (words : List (List ℕ)) → AreWords words → length (line words) ≤ 31 * length words + 1
line-short [] are = omega arith
line-short (word ∷ words) are =
    let long = length-append word (flat_map spaced words) in
    let end = length-append (word ++ flat_map spaced words) (codes "\n") in
    let others = spaced-short words are.1 in
    let short = are.0.short in
    omega arith

-- no more than 31 bytes for each word and one for each line
pub lines-short : (lines : List (List (List ℕ))) → AreLines lines → length (lines_text lines) ≤ 31 * length (words_of lines) + length lines
lines-short [] are = omega arith
lines-short (words ∷ lines) are =
    let long = length-append (line words) (lines_text lines) in
    let all = length-append words (words_of lines) in
    let others = lines-short lines are.1 in
    let short = line-short words are.0 in
    omega arith
