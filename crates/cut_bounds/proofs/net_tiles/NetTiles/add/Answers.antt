use Rattle.std.proofs.Common.{◌++◌, map, refl, ap, ◌∙◌}
use Rattle.gr_base.specs.Designs.{layers_of}
use Rattle.gr_base.specs.declared.frame.Frame.{Frame}
use Rattle.wall_laws.specs.Walls.{least_on}
use Rattle.cut_bounds.specs.NetTiles.{tile_in}
use Rattle.cut_bounds.proofs.NetLemmas.{net-added}
use Rattle.cut_bounds.proofs.net_tiles.NetTiles.add.Goals as goal

pub returns-clause-placed : goal.returns-clause-placed
returns-clause-placed c =
    let net = c.net-net.result.now in
    (net-added c.args.design.now c.args.number net c.args.self.now.net_needs.items c.push.new.self.items
    c.args.self.now.tiles.items c.push_tiles.new.tiles.items _ c.as_slice-pins.result.now
    c.net-net.ensures.net c.as_slice-pins.ensures c.requires.whole c.in_ok-push.ensures.items
    (c.least_need-need.ensures.least ∙ ap (λ (f : Frame). least_on net.width (layers_of f)) c.frame-frame.ensures.frame)
    refl
    (c.in_ok-push_tiles.ensures ∙ ap (λ (f : Frame). c.args.self.now.tiles.items ++ map (tile_in f.shape) c.as_slice-pins.result.now) c.frame-frame.ensures.frame)).0
