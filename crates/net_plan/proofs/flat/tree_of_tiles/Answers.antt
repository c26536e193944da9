use Rattle.std.proofs.Common.{IsTrue, sym, subst}
use Rattle.gr_base.specs.Trees.{holds}
use Rattle.net_plan.specs.FlatTrees.{AreTilesIn, cell_of_tile}
use Rattle.net_plan.proofs.PointLemmas.{topology-in, first-tiles}
use Rattle.net_plan.proofs.flat.tree_of_tiles.Goals as goal

pub tree_of-requires-clause-inside : goal.tree_of-requires-clause-inside
tree_of-requires-clause-inside g c =
    subst (AreTilesIn c.args.shape) (sym c.in_ok-topology.ensures.exact) (topology-in c.args.shape c.args.tiles.now c.requires.inside)

pub returns-clause-tiles : goal.returns-clause-tiles
returns-clause-tiles g c =
    first-tiles (λ tile. IsTrue (holds c.in_ok-tree.tree (cell_of_tile c.args.shape tile))) c.in_ok-topology.topology c.args.tiles.now c.in_ok-topology.ensures.tiles
    c.in_ok-tree.ensures.points
