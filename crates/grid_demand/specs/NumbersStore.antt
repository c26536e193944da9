-- What the fields of numbers keep.
use Rattle.std.specs.Prelude.{ℕ, ◌≤◌, List, length}
use Rattle.std.specs.Vec.{vec_capacity}
use Rattle.grid_demand.specs.JoinedLists.{together}
use Rattle.grid_demand.specs.declared.numbers.Numbers.TheInside.{Inside}

-- what the fields say
abbrev pub seen : Inside → List ℕ
seen n = together 65536 n.low.items n.high.items

-- the second list has room for each edge, and is no longer than the first
pub record Keeps (n : Inside) : Type 0 where
  pub room : length n.low.items ≤ vec_capacity n.high
  pub few : length n.high.items ≤ length n.low.items
