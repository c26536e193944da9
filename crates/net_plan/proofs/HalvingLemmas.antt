-- A number halved net by net, and what is left of it.
use Rattle.std.proofs.Common.{◌≡◌, ℕ, ◌+◌, ◌-◌, ◌*◌, ◌/◌, ◌^◌, ◌<◌, ◌≤◌, inl, inr, min, sym, ap, ◌∙◌, arith}
use Rattle.std.proofs.Math.Nat.{add-mul-div_right, div-eq_of_lt, div-eq_of_lt-le, div-one, pow-le-pow_right}
use Rattle.std.proofs.lemmas.Bool.{cases_lt}
use Rattle.std.proofs.lemmas.Nat.{le-div, shr-shr}
use Rattle.net_plan.specs.Sites.{halved}

-- halved for some of the nets at once, it is to be halved for those that the rest of the room holds
pub halved-shift : (number room need nets : ℕ) → 0 < need → nets * need ≤ room →
    halved (number / 2 ^ nets) (room - nets * need) need ≡ halved number room need
halved-shift number room need nets some fits =
    let whole : room - nets * need + nets * need ≡ room = omega (arith, fits) in
    let parts : (room - nets * need) / need + nets ≡ room / need = sym (add-mul-div_right (room - nets * need) nets some) ∙ ap (λ r. r / need) whole in
    shr-shr number nets ((room - nets * need) / need) ∙ ap (λ k. number / 2 ^ k) (omega (arith, parts))

-- a room that holds none leaves it as it is
pub halved-end : (number room need : ℕ) → room < need → halved number room need ≡ number
halved-end number room need short = ap (λ k. number / 2 ^ k) (div-eq_of_lt short) ∙ div-one number

-- once it is halved to nothing, more room takes nothing
gone : (number room need : ℕ) → 0 < need → number < 2 ^ 31 → 31 * need ≤ room → halved number room need ≡ 0
gone number room need some few far =
    let most : 2 ^ 31 ≤ 2 ^ (room / need) = pow-le-pow_right (omega arith) (le-div 31 room need some far) in
    div-eq_of_lt-le (2 ^ (room / need)) (omega arith) (omega (arith, few, most))

pub halved-enough : (number room need : ℕ) → 0 < need → number < 2 ^ 31 →
    halved number (min room (31 * need)) need ≡ halved number room need
halved-enough number room need some few =
    elim (cases_lt room (31 * need)) [
      | inl near ↦ ap (λ r. halved number r need) (omega (arith, near))
      | inr far ↦
          let same : min room (31 * need) ≡ 31 * need = omega (arith, far) in
          ap (λ r. halved number r need) same
          ∙ gone number (31 * need) need some few (omega arith)
          ∙ sym (gone number room need some few (omega (arith, far)))
    ]
