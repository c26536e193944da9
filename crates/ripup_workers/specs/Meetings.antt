-- What passes learn where the coordinator meets the workers.
use Rattle.std.specs.Prelude.{◌≡◌, ℕ, ◌<◌, List, length, Some, slice_get}
use mathlib.Core.List.{IsPrefix}
use Rattle.grid_demand.specs.Tables.{CapacityView}
use Rattle.track_book.specs.Passes.{PassView, IsPass, HasLearnt}

-- a pass has seen more of the history, and none of its own entries is new
pub record Learns (c : CapacityView) (old new : PassView) : Type 0 where
  pub learnt : HasLearnt c old new
  pub knew : IsPass c old
  pub knows : IsPass c new

-- a worker has met the coordinator, after the coordinator had seen these entries and before it had seen those
pub record HasMet (c : CapacityView) (coordinator after old new : PassView) : Type 0 where
  pub learns : Learns c old new
  pub from : IsPrefix coordinator.seen new.seen
  pub to : IsPrefix new.seen after.seen

-- the coordinator has met all workers
pub record HaveMet (c : CapacityView) (coordinator after : PassView) (old new : List PassView) : Type 0 where
  pub learns : Learns c coordinator after
  pub count : length new ≡ length old
  pub each : (at : ℕ) (p q : PassView) → slice_get old at ≡ Some p → slice_get new at ≡ Some q →
      HasMet c coordinator after p q

-- the coordinator has met the first worker, and then all of them
pub record HaveMetBehind (c : CapacityView) (coordinator after : PassView) (old new : List PassView) : Type 0 where
  pub met : PassView
  pub between : List PassView
  pub learns : Learns c coordinator met
  pub count : length between ≡ length old
  pub first : (p q : PassView) → slice_get old 0 ≡ Some p → slice_get between 0 ≡ Some q →
      Learns c p q × (met.seen ≡ q.seen)
  pub others : (at : ℕ) → 0 < at → slice_get between at ≡ slice_get old at
  pub all : HaveMet c met after between new
