-- What a step from one token to the next gives a reader.
use Rattle.std.proofs.Common.{◌≡◌, ℕ, ◌+◌, Bool, true, false, List, Some, None, Result, Ok, Err, if◌then◌else◌, refl, subst}
use Rattle.gr_text.specs.declared.source.Ends.{Ends}
use Rattle.gr_text.specs.Tokens.{Place, AtEnd, PastLimit}
use Rattle.gr_text.specs.declared.tokens.TokenError.{TokenError}
use Rattle.gr_text.specs.declared.tokens.TokenError.TheVariants.{TooLong}
use Rattle.gr_text.specs.Steps.{IsNext, IsLast, Advances}
use Rattle.gr_text.specs.Reading.{token, token_or_end}

-- a token that is the next is what the grammar's next token is
pub token-next : {F : Type 0} (ends : Ends F) (before : Place) (word : List ℕ) (after : Place) → IsNext before word after →
    token ends before ≡ Ok (word, after)
unfolding token
token-next ends before word after next =
    rw (next.rest, ← next.ending, ← next.number) refl

pub token_or_end-next : {F : Type 0} (ends : Ends F) (before : Place) (word : List ℕ) (after : Place) → IsNext before word after →
    token_or_end ends before ≡ Ok (Some word, after)
unfolding token_or_end
token_or_end-next ends before word after next =
    rw (next.rest, ← next.ending, ← next.number) refl

pub token-ended : {F : Type 0} (ends : Ends F) (before : Place) (number : ℕ) → IsLast before AtEnd → number ≡ before.number + 1 →
    token ends before ≡ Err (ends.ended, number)
unfolding token
token-ended ends before number last is = rw (last.rest, last.behind, is) refl

pub token-too_long : {F : Type 0} (ends : Ends F) (before : Place) (number : ℕ) → IsLast before PastLimit → number ≡ before.number + 1 →
    token ends before ≡ Err (ends.too_long, number)
unfolding token
token-too_long ends before number last is = rw (last.rest, last.behind, is) refl

pub token_or_end-too_long : {F : Type 0} (ends : Ends F) (before : Place) (number : ℕ) → IsLast before PastLimit → number ≡ before.number + 1 →
    token_or_end ends before ≡ Err (ends.too_long, number)
unfolding token_or_end
token_or_end-too_long ends before number last is = rw (last.rest, last.behind, is) refl

pub token_or_end-ended : {F : Type 0} (ends : Ends F) (before after : Place) → IsLast before AtEnd → after ≡ before →
    token_or_end ends before ≡ Ok (None, after)
unfolding token_or_end
token_or_end-ended ends before after last same =
    rw (same, last.rest, last.behind) refl

-- what a step's clause says at each of its answers
pub advanced-next : (before : Place) (result : Result Bool TokenError) (word : List ℕ) (after : Place) →
    result ≡ Ok true → Advances before result word after → IsNext before word after
advanced-next before result word after is step =
    let P : Result Bool TokenError → Type 0 = λ r. Advances before r word after in
    subst P is step

pub advanced-end : (before : Place) (result : Result Bool TokenError) (word : List ℕ) (after : Place) →
    result ≡ Ok false → Advances before result word after → IsLast before AtEnd × (after ≡ before)
advanced-end before result word after is step =
    let P : Result Bool TokenError → Type 0 = λ r. Advances before r word after in
    subst P is step

pub advanced-too_long : (before : Place) (result : Result Bool TokenError) (word : List ℕ) (after : Place) (token : ℕ) →
    result ≡ Err (TooLong token) → Advances before result word after → IsLast before PastLimit × (token ≡ before.number + 1)
advanced-too_long before result word after token is step =
    let P : Result Bool TokenError → Type 0 = λ r. Advances before r word after in
    subst P is step

-- what a step found is what the grammar's next token or end is
pub token_or_end-step : {F : Type 0} (ends : Ends F) (before : Place) (result : Result Bool TokenError) (word : List ℕ) (after : Place) (more : Bool) →
    result ≡ Ok more → Advances before result word after → token_or_end ends before ≡ Ok ((if more then Some word else None), after)
token_or_end-step ends before result word after true is step =
    token_or_end-next ends before word after (advanced-next before result word after is step)
token_or_end-step ends before result word after false is step =
    let end = advanced-end before result word after is step in
    token_or_end-ended ends before after end.0 end.1
