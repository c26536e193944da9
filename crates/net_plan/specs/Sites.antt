-- Sites of a net, in numbers that take less room, and when they cost no more than empty edges.
use Rattle.std.specs.Prelude.{ℕ, ◌*◌, ◌/◌, ◌^◌, max}
use Rattle.cost_rules.specs.declared.site.Formula.{Formula}
use Rattle.cost_rules.specs.declared.site.Formula.TheVariants.{First, Steep, Flat, Near}
use Rattle.cost_rules.specs.declared.site.Site.{Site}
use Rattle.net_plan.specs.declared.site_run.SmallSite.{SmallSite}

abbrev pub whole_site : SmallSite → Site
whole_site site = record { demand = site.demand; capacity = site.capacity; need = site.need; marks = site.marks }

-- with so much free room beside the net an edge without marks costs no more than an empty one
abbrev pub calm_room : Formula → (need : ℕ) → ℕ
calm_room First need = 0
calm_room Steep need = 0
calm_room Flat need = 0
calm_room Near need = 3 * max 1 need

-- a number halved for each net of some need that a room holds
abbrev pub halved : (number room need : ℕ) → ℕ
halved number room need = number / 2 ^ (room / need)
