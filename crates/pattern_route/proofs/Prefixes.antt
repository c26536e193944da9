-- Lists that begin others.
use Rattle.std.proofs.Common.{◌≡◌, List, ◌++◌, sym, ap, ◌∙◌, append_assoc}
use mathlib.Core.List.{IsPrefix}

pub prefix-then : {A : Type 0} (xs ys zs : List A) → IsPrefix xs ys → IsPrefix ys zs → IsPrefix xs zs
prefix-then xs ys zs first second =
    (first.0 ++ second.0, sym (append_assoc xs first.0 second.0) ∙ ap (λ (l : List _). l ++ second.0) first.1 ∙ second.1)

-- what begins a list and some cells that follow it begins the list with all that follow
pub prefix-within : {A : Type 0} (xs before part rest all : List A) → IsPrefix xs (before ++ part) → before ++ (part ++ rest) ≡ all → IsPrefix xs all
prefix-within xs before part rest all begins whole = prefix-then xs (before ++ part) all begins (rest, append_assoc before part rest ∙ whole)
