-- Lists that begin others.
use Rattle.std.proofs.Common.{◌≤◌, List, [], ◌++◌, length, refl, sym, ap, ◌∙◌, arith, append_assoc, length-append}
use Rattle.std.proofs.lemmas.List.{append-nil}
use mathlib.Core.List.{IsPrefix}

pub prefix-all : {A : Type 0} (xs : List A) → IsPrefix xs xs
prefix-all xs = ([], append-nil xs)

pub prefix-none : {A : Type 0} (xs : List A) → IsPrefix [] xs
prefix-none xs = (xs, refl)

pub prefix-more : {A : Type 0} (xs ys : List A) → IsPrefix xs (xs ++ ys)
prefix-more xs ys = (ys, refl)

pub prefix-then : {A : Type 0} (xs ys zs : List A) → IsPrefix xs ys → IsPrefix ys zs → IsPrefix xs zs
prefix-then xs ys zs first second =
    (first.0 ++ second.0, sym (append_assoc xs first.0 second.0) ∙ ap (λ (l : List _). l ++ second.0) first.1 ∙ second.1)

pub prefix-length : {A : Type 0} (xs ys : List A) → IsPrefix xs ys → length xs ≤ length ys
prefix-length xs ys begins =
    let whole = length-append xs begins.0 in
    let same = ap length begins.1 in
    omega (arith, whole, same)
