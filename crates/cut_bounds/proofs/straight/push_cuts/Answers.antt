use Rattle.std.proofs.Common.{◌≡◌, ◌+◌, ◌<◌, ap, ◌∙◌, arith}
use Rattle.gr_base.specs.declared.frame.Frame.{Frame}
use Rattle.cut_bounds.proofs.StraightLemmas.{cut-more}
use Rattle.cut_bounds.specs.Cuts.{line_needs, line_holds, lines_of}
use Rattle.std.proofs.lemmas.Grind.{get_or_default_zero}
use Rattle.cut_bounds.specs.NetTiles.{placed_nets}
use Rattle.cut_bounds.proofs.straight.push_cuts.Goals as goal

pub loop-line-preserved : goal.loop-line-preserved
loop-line-preserved c =
    let d = c.args.design.now in
    let axis = c.args.axis in
    let l = c.loop-line in
    let below = c.loop-line-test.true in
    let count : c.lines-count.result ≡ lines_of d.frame.shape axis =
    c.lines-count.ensures ∙ ap (λ (f : Frame). lines_of f.shape axis) c.frame.ensures.frame in
    let inside : l.line + 1 < lines_of d.frame.shape axis = omega (arith, below, count, c.saturating_sub-line-end.ensures) in
    let end = c.saturating_sub-line-end.ensures in
    let need : c.index.result.now ≡ line_needs axis l.line (placed_nets d) =
    let known = c.in_ok-needs.ensures.needs l.line (omega (arith, below, end)) in
    let same = get_or_default_zero c.in_ok-needs.needs.items l.line c.index.result.now (omega (arith, below, end, c.in_ok-needs.ensures.long)) in
    let nets = ap (line_needs axis l.line) c.requires.nets in
    omega (arith, known, nets, same, c.index.ensures) in
    let hold : c.index-in-loop-line.result.now ≡ line_holds d.frame.shape axis l.line c.args.wires.now =
    let known = c.in_ok-holds.ensures.holds l.line (omega (arith, inside)) in
    let same =
    get_or_default_zero c.in_ok-holds.holds.items l.line c.index-in-loop-line.result.now (omega (arith, inside, c.in_ok-holds.ensures.long)) in
    let shape = ap (λ (f : Frame). line_holds f.shape axis l.line c.args.wires.now) c.frame.ensures.frame in
    omega (arith, known, shape, same, c.index-in-loop-line.ensures) in
    cut-more d axis l.line c.args.wires.now c.wall_behind.result c.index.result.now c.index-in-loop-line.result.now c.args.walls.now.items
    l.walls.items c.push.new.self.items c.requires.wires inside c.wall_behind.ensures need hold l.invariant c.in_ok-push.ensures.items
