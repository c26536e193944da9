-- The law of prices.
use Rattle.std.proofs.Common.{◌≡◌, ℕ, ◌+◌, ◌-◌, ◌*◌, ◌≤◌, inl, inr, Bool, true, false, cond, List, ◌++◌, All, filter, length, slice_index_or, count_by, sum_by, if◌then◌else◌, IsTrue, refl, sym, ap, subst, ◌∙◌, arith}
use Rattle.std.specs.List.{range_with_len}
use Rattle.std.proofs.Math.Nat.{mul-le-mul_left, mul-le-mul_right}
use Rattle.std.proofs.lemmas.Bool.{cases_Bool, both_ways}
use Rattle.std.proofs.lemmas.List.Elements.{All-weaker}
use Rattle.std.proofs.lemmas.List.Sums.{sum_by-append}
use Rattle.gr_base.specs.Capacities.{capacity, need}
use Rattle.gr_base.specs.Designs.{DesignView, is_routed}
use Rattle.gr_base.specs.EdgeSets.{Edges}
use Rattle.gr_base.specs.Grid.{is_wire, is_wire_way}
use Rattle.gr_base.specs.Sums.{wire_edges, via_edges, sum_routed, demand, overflow, total_over, vias, wirelength}
use Rattle.gr_base.specs.declared.grid.Edge.{Edge}
use Rattle.gr_base.specs.declared.grid.Shape.{Shape}
use Rattle.gr_base.specs.declared.grid.Way.{Way}
use Rattle.gr_base.specs.declared.grid.Way.TheVariants.{Up}
use Rattle.price_laws.specs.Laws.{AreNetBounds, AreWeightsUpTo, AreWithin, PriceLaw}
use Rattle.price_laws.specs.Prices.{Prices, price, all_edges, sum_of, held_price, surplus}
use Rattle.wall_laws.proofs.GridLists.{wires-are-wires, vias-are-vias}
use Rattle.wall_laws.proofs.OverflowLemmas.{all-passing}
use Rattle.wall_laws.proofs.SumLemmas.{sum-plus, sum-zero, sum-times, sum-le, sum-swap}
use Rattle.wall_laws.specs.Walls.{JoinNets}

module _ (d : DesignView) (p : Prices) where
  abbrev wires : List Edge
  wires = wire_edges d.frame.shape

  abbrev ups : List Edge
  ups = via_edges d.frame.shape

  -- what a net takes of an edge by its set
  abbrev taken : (net : ℕ) → (set : Edges) → Edge → ℕ
  taken net set e = if set e then need d net e else 0

  -- what the weights ask for it
  abbrev weighed : (net : ℕ) → (set : Edges) → Edge → ℕ
  weighed net set e = p.weight e * taken net set e

  wire-costs : (net : ℕ) (e : Edge) (b : Bool) → is_wire e ≡ true →
      (if b then price d p net e else 0) ≤ p.scale * cond b 1 0 + p.weight e * (if b then need d net e else 0)
  wire-costs net e false wire = omega arith
  wire-costs net e true wire =
      let is : price d p net e ≡ p.scale + need d net e * p.weight e = rw wire refl in
      let swap : need d net e * p.weight e ≡ p.weight e * need d net e = omega arith in
      omega (arith, is, swap)

  via-costs : (net : ℕ) (e : Edge) (b : Bool) → e.way ≡ Up → (if b then price d p net e else 0) ≤ (p.scale * p.via_cost) * cond b 1 0
  via-costs net e false via = omega arith
  via-costs net e true via =
      let none : is_wire e ≡ false = ap is_wire_way via in
      let is : price d p net e ≡ p.scale * p.via_cost = rw none refl in
      omega (arith, is)

  -- what a net's set costs
  net-costs : (net : ℕ) (set : Edges) → sum_of d.frame.shape set (price d p net) ≤
      (p.scale * count_by set wires + sum_by (weighed net set) wires) + (p.scale * p.via_cost) * count_by set ups
  net-costs net set =
      let f : Edge → ℕ = λ e. if set e then price d p net e else 0 in
      let one : Edge → ℕ = λ e. cond (set e) 1 0 in
      let whole = sum_by-append f wires ups in
      let on_wires =
      sum-le f (λ e. p.scale * one e + weighed net set e) wires
      (All-weaker (λ e. is_wire e ≡ true) (λ e. f e ≤ p.scale * one e + weighed net set e)
      (λ e wire. wire-costs net e (set e) wire) wires (wires-are-wires d.frame.shape)) in
      let split = sum-plus (λ e. p.scale * one e) (weighed net set) wires in
      let counted = sum-times p.scale one wires in
      let on_vias =
      sum-le f (λ e. (p.scale * p.via_cost) * one e) ups
      (All-weaker (λ e. e.way ≡ Up) (λ e. f e ≤ (p.scale * p.via_cost) * one e) (λ e via. via-costs net e (set e) via) ups (vias-are-vias d.frame.shape)) in
      let counted_vias = sum-times (p.scale * p.via_cost) one ups in
      omega (arith, whole, on_wires, split, counted, on_vias, counted_vias)

  module _ (sets : ℕ → Edges) where
    abbrev nets : List ℕ
    nets = filter (is_routed d) (range_with_len 0 (length d.nets))

    -- what all nets' sets cost
    all-cost : sum_by (λ net. sum_of d.frame.shape (sets net) (price d p net)) nets ≤
        p.scale * wirelength d p.via_cost sets + sum_by (λ e. p.weight e * demand d sets e) wires
    all-cost =
        let wire_count : ℕ → ℕ = λ net. count_by (sets net) wires in
        let via_count : ℕ → ℕ = λ net. count_by (sets net) ups in
        let weight_of : ℕ → ℕ = λ net. sum_by (weighed net (sets net)) wires in
        let via_price : ℕ = p.scale * p.via_cost in
        let each =
        sum-le (λ net. sum_of d.frame.shape (sets net) (price d p net)) (λ net. (p.scale * wire_count net + weight_of net) + via_price * via_count net) nets
        (λ k blank below. net-costs (slice_index_or nets k blank) (sets (slice_index_or nets k blank))) in
        let split = sum-plus (λ net. p.scale * wire_count net + weight_of net) (λ net. via_price * via_count net) nets in
        let split' = sum-plus (λ net. p.scale * wire_count net) weight_of nets in
        let counted = sum-times p.scale wire_count nets in
        let counted_vias = sum-times via_price via_count nets in
        let swapped = sum-swap (λ net e. weighed net (sets net) e) nets wires in
        let whole =
        sum-le (λ e. sum_by (λ net. weighed net (sets net) e) nets) (λ e. p.weight e * demand d sets e) wires
        (λ k blank below. at (slice_index_or wires k blank)) in
        let length_is : p.scale * (sum_by wire_count nets + p.via_cost * sum_by via_count nets)
        ≡ p.scale * sum_by wire_count nets + (p.scale * p.via_cost) * sum_by via_count nets = omega arith in
        omega (arith, each, split, split', counted, counted_vias, swapped, whole, length_is)
      where
        at : (e : Edge) → sum_by (λ net. weighed net (sets net) e) nets ≤ p.weight e * demand d sets e
        at e = let is = sum-times (p.weight e) (λ net. taken net (sets net) e) nets in omega (arith, is)

    module _ (allowed : Edges) (most : ℕ) (low : AreWeightsUpTo most p) (within : AreWithin d allowed sets) where
      -- an edge that may not be used has no demand
      unused : (e : Edge) → allowed e ≡ false → demand d sets e ≤ 0
      unused e none =
          let zero_at : (net : ℕ) → IsTrue (is_routed d net) → taken net (sets net) e ≤ 0 = λ net routed. at net routed (sets net e) refl in
          let zeros = sum-le (λ net. taken net (sets net) e) (λ net. 0) nets
          (all-passing (λ net. taken net (sets net) e ≤ 0) (is_routed d) zero_at (range_with_len 0 (length d.nets))) in
          let zero : sum_by (λ (net : ℕ). 0) nets ≡ 0 = sum-zero nets in
          omega (arith, zeros, zero)
        where
          at : (net : ℕ) → IsTrue (is_routed d net) → (b : Bool) → sets net e ≡ b → (if b then need d net e else 0) ≤ 0
          at net routed false is = omega arith
          at net routed true is = absurd (both_ways (allowed e) none (within net routed e is))

      -- what the weights ask for an edge's demand, by what it holds and what is over
      weigh : (e : Edge) (b : Bool) → allowed e ≡ b →
          p.weight e * demand d sets e ≤ most * overflow (demand d sets) (capacity d) e + (if b then p.weight e * capacity d e else 0)
      weigh e true may =
          let over : ℕ = overflow (demand d sets) (capacity d) e in
          let parts : demand d sets e ≤ over + capacity d e = omega arith in
          let times = mul-le-mul_left (p.weight e) parts in
          let split : p.weight e * (over + capacity d e) ≡ p.weight e * over + p.weight e * capacity d e = omega arith in
          let high = mul-le-mul_right over (low e) in
          omega (arith, times, split, high)
      weigh e false may =
          let none = unused e may in
          let times = mul-le-mul_left (p.weight e) none in
          omega (arith, times)

      weighs : sum_by (λ e. p.weight e * demand d sets e) wires ≤ most * total_over d sets + held_price d p allowed
      weighs =
          let over : Edge → ℕ = overflow (demand d sets) (capacity d) in
          let held : Edge → ℕ = λ e. if allowed e then p.weight e * capacity d e else 0 in
          let each =
          sum-le (λ e. p.weight e * demand d sets e) (λ e. most * over e + held e) wires
          (λ k blank below. weigh (slice_index_or wires k blank) (allowed (slice_index_or wires k blank)) refl) in
          let split = sum-plus (λ e. most * over e) held wires in
          let times = sum-times most over wires in
          omega (arith, each, split, times)

-- what all nets' sets cost is at most wirelength at the scale, overflow times the greatest weight, and what is held
pub costs-law : (d : DesignView) (p : Prices) (allowed : Edges) (most : ℕ) → AreWeightsUpTo most p → (sets : ℕ → Edges) → AreWithin d allowed sets →
    sum_routed d (λ net. sum_of d.frame.shape (sets net) (price d p net)) ≤
    (p.scale * wirelength d p.via_cost sets + most * total_over d sets) + held_price d p allowed
costs-law d p allowed most low sets within =
    let costs = all-cost d p sets in
    let weights = weighs d p sets allowed most low within in
    omega (arith, costs, weights)

pub price-law : PriceLaw
price-law d p allowed bounds most bounded low sets join within =
    let nets : List ℕ = filter (is_routed d) (range_with_len 0 (length d.nets)) in
    let cost : ℕ → ℕ = λ net. sum_of d.frame.shape (sets net) (price d p net) in
    let each =
    sum-le bounds cost nets
    (all-passing (λ net. bounds net ≤ cost net) (is_routed d)
    (λ net routed. bounded net routed (sets net) (record { inside = join.inside net routed; within = within net routed; joined = join.joined net routed }))
    (range_with_len 0 (length d.nets))) in
    let costs = costs-law d p allowed most low sets within in
    omega (arith, each, costs)
