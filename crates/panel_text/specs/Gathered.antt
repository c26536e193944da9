-- The runs of all routed nets, by way and by the cells in which they begin.
use Rattle.std.specs.Prelude.{ℕ}
use Rattle.gr_base.specs.declared.grid.Way.{Way}
use Rattle.gr_base.specs.declared.grid.Way.TheVariants.{East, North}
use Rattle.gr_base.specs.Designs.{DesignView}
use Rattle.gr_base.specs.EdgeSets.{Edges}
use Rattle.solution_text.specs.Runs.{LieIn}
use Rattle.panel_text.specs.declared.gathered.RunsByWay.{RunsByWay}
use Rattle.panel_text.specs.declared.starts.Starts.{Starts}
use Rattle.panel_text.specs.Chains.{AreInGrid, HaveChains}
use Rattle.panel_text.specs.PanelPieces.{starts_from}

-- the runs that way of the nets from a number on
pub record AreStarts (d : DesignView) (sets : ℕ → Edges) (way : Way) (first : ℕ) (s : Starts) : Type 0 where
  pub within : (net : ℕ) → LieIn d.frame.shape (sets net)
  pub grid : AreInGrid d.frame.shape s
  pub chains : HaveChains (starts_from d sets way first) s

pub record AreGathered (d : DesignView) (sets : ℕ → Edges) (first : ℕ) (g : RunsByWay) : Type 0 where
  pub east : AreStarts d sets East first g.east
  pub north : AreStarts d sets North first g.north

-- the runs that way of some sets of edges
pub record AreOfSome (d : DesignView) (way : Way) (s : Starts) : Type 0 where
  pub sets : ℕ → Edges
  pub are : AreStarts d sets way 0 s
