-- A surplus of costs proves a figure.
use Rattle.std.proofs.Common.{◌≡◌, ℕ, ◌+◌, ◌-◌, ◌*◌, ◌<◌, ◌≤◌, inl, inr, max, Bool, true, false, List, length, slice_index, ap, ◌∙◌, arith}
use Rattle.std.proofs.Math.Nat.{mul-le-mul_right}
use Rattle.std.proofs.lemmas.Bool.{cases_lt}
use Rattle.std.proofs.lemmas.List.{get_or_past}
use Rattle.gr_base.specs.Designs.{DesignView}
use Rattle.gr_base.specs.EdgeSets.{Edges}
use Rattle.gr_base.specs.Sums.{total_over, wirelength, wire_number}
use Rattle.net_prices.specs.PriceTables.{allowed_by, prices_by}
use Rattle.net_prices.specs.declared.rates.Rates.{Rates}
use Rattle.price_bounds.specs.Costs.{AreJoined, IsCostBound}
use Rattle.price_bounds.specs.Figures.{divisor_of, IsFigure, IsRatesOf}
use Rattle.price_bounds.specs.declared.figure.Figure.{Figure}
use Rattle.price_bounds.specs.declared.figure.Figure.TheVariants.{Overflow, Length, Both}
use Rattle.price_laws.specs.Laws.{AreWeightsUpTo, AreWithin}
use Rattle.price_laws.specs.Prices.{Prices, held_price}
use Rattle.price_laws.proofs.PriceLemmas.{costs-law}
use Rattle.wall_laws.specs.Spans.{AreUsable}
use Rattle.wall_laws.specs.Walls.{JoinNets}

module _ (d : DesignView) (rates : Rates) (weights : List ℕ) (most cost surplus : ℕ)
    (low : AreWeightsUpTo most (prices_by rates weights))
    (costs : IsCostBound d (prices_by rates weights) (allowed_by d rates.usable_only) (length d.nets) cost)
    (is : surplus ≡ cost - held_price d (prices_by rates weights) (allowed_by d rates.usable_only)) where
  abbrev p : Prices
  p = prices_by rates weights

  abbrev allowed : Edges
  allowed = allowed_by d rates.usable_only

  surplus-low : (sets : ℕ → Edges) → JoinNets d sets → AreWithin d allowed sets →
      surplus ≤ rates.scale * wirelength d rates.via_cost sets + most * total_over d sets
  surplus-low sets join within =
      let joined : AreJoined d allowed sets = λ net routed. record { inside = join.inside net routed; within = within net routed; joined = join.joined net routed } in
      let low_cost = costs sets joined in
      let high_cost = costs-law d p allowed most low sets within in
      omega (arith, is, low_cost, high_cost)

  any-within : (sets : ℕ → Edges) → rates.usable_only ≡ false → AreWithin d allowed sets
  any-within sets all net routed e among = ap (λ (b : Bool). allowed_by d b e) all

  usable-within : (sets : ℕ → Edges) → rates.usable_only ≡ true → AreUsable d sets → AreWithin d allowed sets
  usable-within sets only along net routed e among = ap (λ (b : Bool). allowed_by d b e) only ∙ along net routed e among

  pub figure-holds : (figure : Figure) (via_cost bound : ℕ) → rates.via_cost ≡ via_cost → IsRatesOf figure rates →
      ((n : ℕ) → surplus ≤ n * divisor_of figure most → bound ≤ n) → IsFigure d via_cost figure bound
  figure-holds Overflow via_cost bound same kind up = λ sets join.
      let v = surplus-low sets join (any-within sets kind.1) in
      let zero : rates.scale * wirelength d rates.via_cost sets ≡ 0 * wirelength d rates.via_cost sets =
      ap (λ (s : ℕ). s * wirelength d rates.via_cost sets) kind.0 in
      up (total_over d sets) (omega (arith, v, zero))
  figure-holds Length via_cost bound same kind up = λ sets join along none.
      let v = surplus-low sets join (usable-within sets kind.1 along) in
      let scaled : rates.scale * wirelength d rates.via_cost sets ≡ 4096 * wirelength d via_cost sets =
      ap (λ (s : ℕ). s * wirelength d rates.via_cost sets) kind.0 ∙ ap (λ (n : ℕ). 4096 * wirelength d n sets) same in
      let nothing : most * total_over d sets ≡ most * 0 = ap (λ (n : ℕ). most * n) none in
      up (wirelength d via_cost sets) (omega (arith, v, scaled, nothing))
  figure-holds Both via_cost bound same kind up = λ sets join along.
      let v = surplus-low sets join (usable-within sets kind.1 along) in
      let scaled : rates.scale * wirelength d rates.via_cost sets ≡ 4096 * wirelength d via_cost sets =
      ap (λ (s : ℕ). s * wirelength d rates.via_cost sets) kind.0 ∙ ap (λ (n : ℕ). 4096 * wirelength d n sets) same in
      let top : ℕ = max most 4096 in
      let wide : 4096 ≤ top = omega arith in
      let high : most ≤ top = omega arith in
      let a = mul-le-mul_right (wirelength d via_cost sets) wide in
      let b = mul-le-mul_right (total_over d sets) high in
      let whole : top * wirelength d via_cost sets + top * total_over d sets ≡ (wirelength d via_cost sets + total_over d sets) * top = omega arith in
      up (wirelength d via_cost sets + total_over d sets) (omega (arith, v, scaled, a, b, whole))

-- a table of weights up to a number
pub weights-up-to : (rates : Rates) (weights : List ℕ) (most : ℕ) → ((n : ℕ) → n < length weights → slice_index weights n ≤ most) →
    AreWeightsUpTo most (prices_by rates weights)
weights-up-to rates weights most each e = by weights (wire_number e) each
  where
    by : (xs : List ℕ) (n : ℕ) → ((k : ℕ) → k < length xs → slice_index xs k ≤ most) → slice_index xs n ≤ most
    by xs n each =
        elim (cases_lt n (length xs)) [
          | inl below ↦ each n below
          | inr past ↦ let zero = get_or_past xs n 0 past in omega (arith, zero)
        ]

-- of two figures the greater is one
pub figure-max : (d : DesignView) (via_cost : ℕ) (figure : Figure) (a b c : ℕ) → c ≡ max a b → IsFigure d via_cost figure a →
    IsFigure d via_cost figure b → IsFigure d via_cost figure c
figure-max d via_cost Overflow a b c is one two = λ sets join. let x = one sets join in let y = two sets join in omega (arith, is, x, y)
figure-max d via_cost Length a b c is one two = λ sets join along none.
    let x = one sets join along none in let y = two sets join along none in omega (arith, is, x, y)
figure-max d via_cost Both a b c is one two = λ sets join along. let x = one sets join along in let y = two sets join along in omega (arith, is, x, y)
