-- The sites of edges, and what an edge costs a net by each formula.
use Rattle.std.specs.Prelude.{ℕ, ◌+◌, ◌-◌, ◌*◌, ◌/◌, ◌^◌, ◌≤◌, min, max}
use Rattle.gr_base.specs.Limits.{most_capacity, most_width, most_marks}
use Rattle.cost_rules.specs.declared.site.Site.{Site}
use Rattle.cost_rules.specs.declared.site.Formula.{Formula}
use Rattle.cost_rules.specs.declared.site.Formula.TheVariants.{First, Steep, Flat, Near}

-- the site's numbers are within the limits of a design
pub record IsInRange (site : Site) : Type 0 where
  pub demand : site.demand ≤ 2 ^ 62
  pub capacity : site.capacity ≤ most_capacity
  pub need : site.need ≤ 2 * most_width
  pub marks : site.marks ≤ most_marks

-- by how much the edge would be over its capacity with the net on it
abbrev pub overflow_at : Site → ℕ
overflow_at site = site.demand + site.need - site.capacity

-- how many further nets of the same need the edge holds with the net on it
abbrev pub free_at : Site → ℕ
free_at site = (site.capacity - (site.demand + site.need)) / max 1 site.need

-- what an edge costs for being nearly full: the less the more nets it still holds
abbrev pub scarcity : (marks free : ℕ) → ℕ
scarcity marks free = 4 * (marks + 1) / 2 ^ free

-- the greatest cost of an edge, and what a via edge costs in plans
abbrev pub most_cost : ℕ
most_cost = 1048576

abbrev pub via_price : ℕ
via_price = 3

-- what the edge costs the net by each formula
abbrev pub cost_at : Formula → Site → ℕ
cost_at First site = min most_cost (1 + site.marks + 8 * overflow_at site)
cost_at Steep site = min most_cost (1 + site.marks + (8 + site.marks) * overflow_at site)
cost_at Flat site = min most_cost (1 + overflow_at site)
cost_at Near site = min most_cost (1 + scarcity site.marks (free_at site) + 8 * overflow_at site)

-- so many free units at least tell a formula nothing more: it gives all sites with them, and as many marks, one cost
abbrev pub reach : Formula → (need : ℕ) → ℕ
reach First need = 0
reach Steep need = 0
reach Flat need = 0
reach Near need = 23 * max 1 need

-- the site with another demand
abbrev pub at_demand : Site → ℕ → Site
at_demand site demand = record { demand = demand; capacity = site.capacity; need = site.need; marks = site.marks }
