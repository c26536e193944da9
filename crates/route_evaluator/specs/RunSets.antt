-- The sets and lists in which the straight runs of nets are made.
use Rattle.std.specs.Prelude.{◌≡◌, ◌*◌, All, IsTrue}
use Rattle.gr_base.specs.EdgeSets.{Edges, set_of}
use Rattle.gr_base.specs.Grid.{cells_of, has_edge}
use Rattle.gr_base.specs.declared.grid.Shape.{Shape}
use Rattle.route_evaluator.specs.declared.run_maker.RunMaker.{RunMaker}

-- a set for the edges of a grid, and some of these edges
pub record IsMakerOf (g : Shape) (maker : RunMaker) : Type 0 where
  pub bound : maker.covered.bound ≡ 3 * cells_of g
  pub grid : All (λ e. IsTrue (has_edge g e)) maker.edges.items

-- the edges of the net that was gathered last
abbrev pub gathered : RunMaker → Edges
gathered maker = set_of maker.edges.items
