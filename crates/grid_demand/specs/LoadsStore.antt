-- What the fields of loads keep.
use Rattle.std.specs.Prelude.{◌≡◌, ◌*◌, false, replicate}
use Rattle.gr_base.specs.Grid.{cells_of}
use Rattle.grid_demand.specs.LoadSums.{LoadsView, AreLoads}
use Rattle.grid_demand.specs.Planes.{by_number}
use Rattle.grid_demand.specs.declared.loads.Loads.TheInside.{Inside}

-- what the fields say
abbrev pub seen : Inside → LoadsView
seen l = record {
  shape = l.shape;
  demands = by_number 0 l.demands;
  marks = by_number 0 l.marks;
}

-- the fields make loads, and where they say that there is no mark each is 0
pub record Keeps (l : Inside) : Type 0 where
  pub loads : AreLoads (seen l)
  pub unmarked : l.marked ≡ false → l.marks ≡ replicate (2 * cells_of l.shape) 0
