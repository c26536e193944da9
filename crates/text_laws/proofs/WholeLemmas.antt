-- What a whole text says, and its tokens.
use Rattle.std.proofs.Common.{◌≡◌, ℕ, ◌-◌, ◌≤◌, nat_le, true, List, length, take, Ok, Err, refl, sym, ap, ◌∙◌, arith}
use Rattle.std.proofs.lemmas.Bool.Decides.{nat_tests}
use Rattle.gr_base.specs.Limits.{most_bytes}
use Rattle.gr_text.specs.Tokens.{tokens, Place, AtEnd, place_in}
use Rattle.gr_text.specs.Reading.{Read, Reader, value_of}
use Rattle.text_laws.proofs.EarlyLemmas.{Agree, IsEarly}

-- the first place of a text within the limit
abbrev pub whole : List ℕ → Place
whole bytes = record { number = 0; rest = tokens bytes; ending = AtEnd }

pub place_in-whole : (bytes : List ℕ) → length bytes ≤ most_bytes → place_in most_bytes 0 bytes ≡ whole bytes
unfolding place_in
place_in-whole bytes short = let fits : nat_le (length bytes) most_bytes ≡ true = grind (arith, nat_tests) in rw fits refl

-- two texts with the same tokens up to one number
pub Agree-whole : (token : ℕ) (text other : List ℕ) → take token (tokens text) ≡ take token (tokens other) → Agree token (whole text) (whole other)
Agree-whole token text other same =
    let all : token - 0 ≡ token = omega arith in
    record {
      number = refl;
      rest = rw all same;
      ending = refl;
    }

-- two texts with the same tokens
pub same-whole : (text other : List ℕ) → length text ≤ most_bytes → length other ≤ most_bytes → tokens text ≡ tokens other →
    place_in most_bytes 0 text ≡ place_in most_bytes 0 other
same-whole text other short other_short same =
    place_in-whole text short ∙ ap (λ ts. record { number = 0; rest = ts; ending = AtEnd }) same ∙ sym (place_in-whole other other_short)

value_of-err : {F A : Type 0} (read : Read F A) (fault : F × ℕ) → value_of read ≡ Err fault → read ≡ Err fault
value_of-err (Ok x) fault is = cc
value_of-err (Err e) fault is = let same : e ≡ fault = cc in ap Err same

-- the first fault of a text is decided by the tokens up to it
pub early-whole : {F A : Type 0} (reader : Reader F A) → IsEarly reader → (text other : List ℕ) (fault : F) (token : ℕ) →
    length text ≤ most_bytes → length other ≤ most_bytes → take token (tokens text) ≡ take token (tokens other) →
    value_of (reader (place_in most_bytes 0 text)) ≡ Err (fault, token) → value_of (reader (place_in most_bytes 0 other)) ≡ Err (fault, token)
early-whole reader early text other fault token short other_short same is =
    let read : reader (whole text) ≡ Err (fault, token) =
    ap reader (sym (place_in-whole text short)) ∙ value_of-err (reader (place_in most_bytes 0 text)) (fault, token) is in
    ap value_of (ap reader (place_in-whole other other_short) ∙ early.early token (whole text) (whole other) fault (Agree-whole token text other same) read)
