use Rattle.std.proofs.Common.{◌≡◌, ◌<◌, List, length, All, IsTrue, sym, ap, subst, ◌∙◌}
use Rattle.gr_base.specs.Trees.{holds}
use Rattle.gr_base.specs.declared.frame.Frame.{Frame}
use Rattle.gr_base.specs.declared.grid.Shape.{Shape}
use Rattle.grid_demand.specs.Tables.{CapacityView}
use Rattle.steiner_topology.specs.Tile.{Tile}
use Rattle.steiner_topology.specs.Topology.{topology_of}
use Rattle.layer_assign.specs.Assignments.{IsFlat as IsFlattened}
use Rattle.net_plan.specs.FlatPrices.{flat_price}
use Rattle.net_plan.specs.FlatTrees.{cell_of_tile, tree_of, distinct_tiles}
use Rattle.net_plan.specs.Prices.{price_of}
use Rattle.net_plan.proofs.FlatLemmas.{if-then, if-both, flat-priced_by, flat-tree, flat-tiles, same-flat_price, same-tree}
use Rattle.net_plan.proofs.TileLemmas.{distinct-some}
use Rattle.net_plan.proofs.flat.flat_tree.Goals as goal

pub tree_of_tiles-requires-clause-flat : goal.tree_of_tiles-requires-clause-flat
tree_of_tiles-requires-clause-flat g c =
    let costs = c.new-costs.result.costs.now in
    flat-priced_by c.args.design.now costs.capacity.now costs.loads.now costs.rule.now.formula costs.net c.new-costs.result.shape
    (c.new-costs.ensures.capacity ∙ c.requires.capacity) c.frame.ensures.design.frame c.new-costs.result.flattened

pub tree_of_tiles-requires-clause-some : goal.tree_of_tiles-requires-clause-some
tree_of_tiles-requires-clause-some g c =
    subst (λ (tiles : List Tile). 0 < length tiles) (sym (c.deref.ensures.value ∙ c.in_ok-distinct_tiles.ensures.tiles))
    (distinct-some c.frame.result.now.shape c.args.pins.now c.requires.some)

pub returns-clause-tree : goal.returns-clause-tree
returns-clause-tree g c =
    let costs = c.new-costs.result.costs.now in
    let given = c.args.costs.now in
    let flat = c.new-costs.result.shape in
    let grid = c.args.design.now.frame.shape in
    let shapes = ap (λ (x : CapacityView). x.shape) (c.new-costs.ensures.capacity ∙ c.requires.capacity) in
    let given_shape = ap (λ (x : CapacityView). x.shape) c.requires.capacity in
    let frame_shape = ap (λ (f : Frame). f.shape) c.frame.ensures.frame in
    let tiles = c.deref.ensures.value ∙ c.in_ok-distinct_tiles.ensures.tiles ∙ ap (λ (s : Shape). distinct_tiles s c.args.pins.now) frame_shape in
    let same = same-flat_price costs.capacity.now given.capacity.now costs.loads.now given.loads.now costs.rule.now.formula given.rule.now.formula costs.net given.net
    c.new-costs.ensures.capacity c.new-costs.ensures.loads c.new-costs.ensures.formula c.new-costs.ensures.net in
    let price = price_of given.capacity.now given.loads.now given.rule.now.formula given.net in
    if-both {P = λ t. t ≡ tree_of flat (flat_price costs.capacity.now.shape (price_of costs.capacity.now costs.loads.now costs.rule.now.formula costs.net)) (topology_of c.deref.result.now)}
    {Q = λ t. All (λ tile. IsTrue (holds t (cell_of_tile flat tile))) c.deref.result.now} c.tree_of_tiles.result
    (λ t is _. flat-tree grid flat price c.args.pins.now c.deref.result.now t (subst (λ (s : Shape). IsFlattened s flat) shapes c.new-costs.result.flattened) tiles
    (subst (λ (s : Shape). t ≡ tree_of flat (flat_price s price) (topology_of c.deref.result.now)) given_shape (same-tree flat _ _ (topology_of c.deref.result.now) t same is)))
    c.tree_of_tiles.ensures.tree c.tree_of_tiles.ensures.tiles

pub returns-clause-tiles : goal.returns-clause-tiles
returns-clause-tiles g c =
    let flat = c.new-costs.result.shape in
    let grid = c.args.design.now.frame.shape in
    let shapes = ap (λ (x : CapacityView). x.shape) (c.new-costs.ensures.capacity ∙ c.requires.capacity) in
    let frame_shape = ap (λ (f : Frame). f.shape) c.frame.ensures.frame in
    let tiles = c.deref.ensures.value ∙ c.in_ok-distinct_tiles.ensures.tiles ∙ ap (λ (s : Shape). distinct_tiles s c.args.pins.now) frame_shape in
    if-then {P = λ t. All (λ tile. IsTrue (holds t (cell_of_tile flat tile))) c.deref.result.now} c.tree_of_tiles.result
    (λ t all. flat-tiles grid flat c.args.pins.now c.deref.result.now t (subst (λ (s : Shape). IsFlattened s flat) shapes c.new-costs.result.flattened)
    c.requires.pins tiles all)
    c.tree_of_tiles.ensures.tiles
