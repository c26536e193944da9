use Rattle.std.proofs.Common.{◌≡◌, ◌*◌, ◌<◌, ◌≤◌, Result, Ok, Err, IfOk, List, length, take, sym, subst}
use Rattle.std.specs.declared.alloc.AllocError.{AllocError}
use Rattle.steiner_topology.specs.Tile.{Tile}
use Rattle.steiner_topology.specs.declared.point.Point.{Point}
use Rattle.steiner_topology.specs.Joins.{joins_of}
use Rattle.steiner_topology.specs.Topology.{topology_of, wirelength, tiles_of}
use Rattle.steiner_topology.specs.Spanning.{IsTopology, IsSpanningTree, IsShortest, IsLeast, total_span}
use Rattle.steiner_topology.proofs.LawLemmas.{topology_of-tree, topology_of-tiles, length-topology_of, topology_of-prim, topology_of-shortest}
use Rattle.steiner_topology.proofs.JoinLemmas.{length-joins_of}
use Rattle.steiner_topology.proofs.SpanningLemmas.{joins_of-spans}
use Rattle.steiner_topology.proofs.ThreeLemmas.{topology_of-least}
use Rattle.steiner_topology.proofs.build.topology.Goals as goal

-- what holds of the topology holds of the answer
on_ok : (result : Result (List Point) AllocError) (all : List Point) (P : List Point → Type 0) → IfOk result (λ t. t ≡ all) → P all → IfOk result P
on_ok (Ok t) all P is holds = subst P (sym is) holds
on_ok (Err e) all P is holds = tt

pub returns-clause-tree : goal.returns-clause-tree
returns-clause-tree c =
    let tiles = c.args.tiles.now in
    on_ok c.build.result (topology_of tiles) IsTopology c.build.ensures (topology_of-tree tiles c.requires.some)

pub returns-clause-tiles : goal.returns-clause-tiles
returns-clause-tiles c =
    let tiles = c.args.tiles.now in
    on_ok c.build.result (topology_of tiles) (λ t. take (length tiles) (tiles_of t) ≡ tiles) c.build.ensures (topology_of-tiles tiles c.requires.some)

pub returns-clause-len : goal.returns-clause-len
returns-clause-len c =
    let tiles = c.args.tiles.now in
    on_ok c.build.result (topology_of tiles) (λ t. length t < 2 * length tiles) c.build.ensures (length-topology_of tiles c.requires.some)

pub returns-clause-prim : goal.returns-clause-prim
returns-clause-prim c =
    let tiles = c.args.tiles.now in
    on_ok c.build.result (topology_of tiles) (λ t. wirelength t ≤ total_span tiles (joins_of tiles)) c.build.ensures (topology_of-prim tiles c.requires.some)

pub returns-clause-shortest : goal.returns-clause-shortest
returns-clause-shortest c =
    let tiles = c.args.tiles.now in
    on_ok c.build.result (topology_of tiles) (IsShortest tiles) c.build.ensures (topology_of-shortest tiles c.requires.some)

pub returns-clause-least : goal.returns-clause-least
returns-clause-least c =
    let tiles = c.args.tiles.now in
    λ three. on_ok c.build.result (topology_of tiles) (IsLeast tiles) c.build.ensures (topology_of-least tiles three)

-- Prim's tree spans the tiles
prim : (tiles : List Tile) → 0 < length tiles → IsSpanningTree tiles (joins_of tiles)
prim tiles some = record { spans = joins_of-spans tiles; few = length-joins_of tiles some }

pub returns-in_err-joins_of-clause-prim_tree : goal.returns-in_err-joins_of-clause-prim_tree
returns-in_err-joins_of-clause-prim_tree c = prim c.args.tiles.now c.requires.some

pub returns-clause-prim_tree : goal.returns-clause-prim_tree
returns-clause-prim_tree c = prim c.args.tiles.now c.requires.some
