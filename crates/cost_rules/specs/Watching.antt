-- What watches say.
use Rattle.std.specs.Prelude.{◌≡◌, ℕ, ◌^◌, ◌<◌, Option, Some, None, nat_le, if◌then◌else◌}
use Rattle.cost_rules.specs.declared.sight.Going.{Going}
use Rattle.cost_rules.specs.declared.sight.Going.TheVariants.{On, Stop}
use Rattle.cost_rules.specs.declared.sight.Sight.{Sight}
use Rattle.cost_rules.specs.declared.sight.Watch.{Watch}
use Rattle.cost_rules.specs.declared.sight.Watch.TheVariants.{Never, Still, Goal}

-- the sight's numbers are values of their type
pub record IsSight (sight : Sight) : Type 0 where
  pub overflow : sight.overflow < 2 ^ 128
  pub before : (least : ℕ) → sight.before ≡ Some least → least < 2 ^ 128
  pub goal : sight.goal < 2 ^ 128

-- Still stops where overflow is no less than it was before
abbrev pub still_says : Option ℕ → ℕ → Going
still_says None overflow = On
still_says (Some before) overflow = if nat_le before overflow then Stop else On

-- what each watch says
abbrev pub watch_says : Watch → Sight → Going
watch_says Never sight = On
watch_says Still sight = still_says sight.before sight.overflow
watch_says Goal sight = if nat_le sight.overflow sight.goal then Stop else On
