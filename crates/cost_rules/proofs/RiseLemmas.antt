-- Costs never fall as demand rises, and tell demands apart only within a formula's reach.
use Rattle.std.proofs.Common.{◌≡◌, ℕ, ◌+◌, ◌-◌, ◌*◌, ◌/◌, ◌^◌, ◌<◌, ◌≤◌, inl, inr, min, max, sym, ap, subst, ◌∙◌, arith}
use Rattle.std.proofs.Math.Nat.{div-mul-le_self, div-eq_of_lt-le, le-min, min-le_left, min-le_right, mul-le-mul_left, pow-le-pow_right}
use Rattle.std.proofs.lemmas.Bool.{cases_lt}
use Rattle.std.proofs.lemmas.Nat.{le-div, pow_pos}
use Rattle.gr_base.specs.Limits.{most_marks}
use Rattle.cost_rules.specs.Formulas.{at_demand, cost_at, free_at, most_cost, overflow_at, reach, scarcity}
use Rattle.cost_rules.specs.declared.site.Formula.{Formula}
use Rattle.cost_rules.specs.declared.site.Formula.TheVariants.{First, Steep, Flat, Near}
use Rattle.cost_rules.specs.declared.site.Site.{Site}

-- the lesser of a bound and a number rises with the number
least-rises : (most a b : ℕ) → a ≤ b → min most a ≤ min most b
least-rises most a b below =
    let low = min-le_left most a in
    let other = min-le_right most a in
    le-min low (omega (arith, other, below))

-- a quotient rises with the number, and falls as the divisor rises
quotient-rises : (a b k : ℕ) → 0 < k → a ≤ b → a / k ≤ b / k
quotient-rises a b k some below = le-div (a / k) b k some (let most = div-mul-le_self a k in omega (arith, most, below))

quotient-falls : (n k m : ℕ) → 0 < k → k ≤ m → n / m ≤ n / k
quotient-falls n k m some up =
    le-div (n / m) n k some (let most = div-mul-le_self n m in let less = mul-le-mul_left (n / m) up in omega (arith, most, less))

scarcer : (marks few many : ℕ) → few ≤ many → scarcity marks many ≤ scarcity marks few
scarcer marks few many up = quotient-falls (4 * (marks + 1)) (2 ^ few) (2 ^ many) (pow_pos few) (pow-le-pow_right (omega arith) up)

-- few marks on an edge that holds so many nets more cost nothing
pub plenty : (nets marks free : ℕ) → 4 * (marks + 1) < 2 ^ nets → nets ≤ free → scarcity marks free ≡ 0
plenty nets marks free few many =
    let big : 2 ^ nets ≤ 2 ^ free = pow-le-pow_right (omega arith) many in
    div-eq_of_lt-le (2 ^ free) (omega arith) (omega (arith, few, big))

-- an edge that costs by its free room costs more as demand rises
near-rises : (s : Site) (d e : ℕ) → d ≤ e → cost_at Near (at_demand s d) ≤ cost_at Near (at_demand s e)
near-rises s d e up =
    let k = max 1 s.need in
    let fewer = quotient-rises (s.capacity - (e + s.need)) (s.capacity - (d + s.need)) k (omega arith) (omega (arith, up)) in
    let scarce = scarcer s.marks (free_at (at_demand s e)) (free_at (at_demand s d)) fewer in
    least-rises most_cost (1 + scarcity s.marks (free_at (at_demand s d)) + 8 * overflow_at (at_demand s d))
    (1 + scarcity s.marks (free_at (at_demand s e)) + 8 * overflow_at (at_demand s e)) (omega (arith, scarce, up))

-- where it holds so many nets more it costs as if it were empty
pub near-calm : (nets : ℕ) (s : Site) → 4 * (s.marks + 1) < 2 ^ nets → s.demand + s.need + nets * max 1 s.need ≤ s.capacity → cost_at Near s ≡ 1
near-calm nets s few calm =
    let k = max 1 s.need in
    let many : nets ≤ free_at s = le-div nets (s.capacity - (s.demand + s.need)) k (omega arith) (omega (arith, calm)) in
    let none = plenty nets s.marks (free_at s) few many in
    omega (arith, none, calm)

-- what a site costs rises with its demand and the formula's reach beyond its capacity
pub cost-rises : (formula : Formula) (s : Site) (d e : ℕ) → s.marks ≤ most_marks →
    d + s.need + reach formula s.need - s.capacity ≤ e + s.need + reach formula s.need - s.capacity →
    cost_at formula (at_demand s d) ≤ cost_at formula (at_demand s e)
cost-rises First s d e few over =
    least-rises most_cost (1 + s.marks + 8 * overflow_at (at_demand s d)) (1 + s.marks + 8 * overflow_at (at_demand s e)) (omega (arith, over))
cost-rises Steep s d e few over =
    let more : overflow_at (at_demand s d) ≤ overflow_at (at_demand s e) = omega (arith, over) in
    let steeper = mul-le-mul_left (8 + s.marks) more in
    least-rises most_cost (1 + s.marks + (8 + s.marks) * overflow_at (at_demand s d)) (1 + s.marks + (8 + s.marks) * overflow_at (at_demand s e)) (omega (arith, steeper))
cost-rises Flat s d e few over =
    least-rises most_cost (1 + overflow_at (at_demand s d)) (1 + overflow_at (at_demand s e)) (omega (arith, over))
cost-rises Near s d e few over =
    elim (cases_lt e d) [
      | inl less ↦
          let one = near-calm 23 (at_demand s d) (omega (arith, few)) (omega (arith, over, less)) in
          let other = near-calm 23 (at_demand s e) (omega (arith, few)) (omega (arith, over, less)) in
          omega (arith, one, other)
      | inr up ↦ near-rises s d e (omega (arith, up))
    ]
