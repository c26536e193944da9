-- The sets in which the trees of nets are made.
use Rattle.std.specs.Prelude.{◌≡◌, ◌*◌}
use Rattle.gr_base.specs.Grid.{cells_of}
use Rattle.gr_base.specs.declared.grid.Shape.{Shape}
use Rattle.route_evaluator.specs.declared.net_tree.TreeMaker.{TreeMaker}

-- sets for the edges and the cells of a grid
pub record AreSetsOf (g : Shape) (maker : TreeMaker) : Type 0 where
  pub edges : maker.edges.bound ≡ 3 * cells_of g
  pub cells : maker.reached.cells.bound ≡ cells_of g
