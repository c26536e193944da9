-- The ranges of loads, delays and times in RC trees.
use Rattle.std.specs.Prelude.{ℕ, ◌^◌, ◌≤◌, ℤ, pos, ◌+ℤ◌, ◌≤ℤ◌, All, length, IfSome}
use Rattle.gr_base.specs.Limits.{most_cells, most_pins}
use Rattle.rc_library.specs.Libraries.{IsWire, IsKind, IsSinking}
use Rattle.rc_library.specs.Limits.{most_resistance}
use Rattle.elmore_delay.specs.RcTrees.{RcTree, Buffers}
use Rattle.elmore_delay.specs.declared.seen.Seen.{Seen}

-- no load is greater, and no driver, edge or buffer adds more to a delay
abbrev pub most_load : ℕ
most_load = 2 ^ 45

abbrev pub most_step_delay : ℕ
most_step_delay = 2 ^ 66

-- the parts of an RC tree and of its buffers are in the ranges of designs and libraries
pub record IsSmall (t : RcTree) (b : Buffers) : Type 0 where
  pub few_nodes : t.nodes ≤ most_cells
  pub few_sinks : length t.sinks ≤ most_pins
  pub driver : t.driver ≤ most_resistance
  pub wires : (node : ℕ) → IsWire (t.wire node)
  pub kinds : (node : ℕ) → IfSome (b node) IsKind
  pub sinks : All (λ sink. IsSinking (record { c = sink.c; time = sink.time })) t.sinks

-- a time from at most this much below 0 to twice the greatest time of a sink
pub record IsTime (under : ℕ) (at : ℤ) : Type 0 where
  pub low : pos 0 ≤ℤ (at +ℤ pos under)
  pub high : at ≤ℤ pos (2 ^ 51)

-- a load and a time in range
pub record IsSeen (under : ℕ) (s : Seen) : Type 0 where
  pub load : s.load ≤ most_load
  pub time : IfSome s.time (IsTime under)
