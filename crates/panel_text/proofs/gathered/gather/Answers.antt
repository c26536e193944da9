use Rattle.std.proofs.Common.{◌≡◌, ℕ, ◌+◌, ◌-◌, ◌<◌, ◌≤◌, length, ap, sym, subst, ◌∙◌, arith}
use Rattle.gr_base.specs.Grid.{cells_of}
use Rattle.gr_base.specs.declared.frame.Frame.{Frame}
use Rattle.gr_base.specs.declared.grid.Shape.{Shape}
use Rattle.gr_base.specs.declared.grid.Way.TheVariants.{East, North}
use Rattle.route_evaluator.specs.RunSets.{IsMakerOf}
use Rattle.route_reader.specs.Solutions.{edges_by}
use Rattle.panel_text.specs.Gathered.{AreStarts}
use Rattle.panel_text.proofs.StartLemmas.{none-yet, net-passed, solution-within}
use Rattle.panel_text.proofs.gathered.gather.Goals as goal

pub loop-net-init : goal.loop-net-init
loop-net-init c =
    let d = c.args.design.now in
    let sets = edges_by c.args.solution.now in
    let same = ap (λ (f : Frame). f.shape) c.frame.ensures.frame in
    let within = solution-within d c.args.solution.now c.requires in
    let all = c.nets-net.ensures.nets in
    record {
      some = omega (arith, all);
      maker = subst (λ (g : Shape). IsMakerOf g c.in_ok-maker.maker) same c.in_ok-maker.ensures;
      runs = record {
        east = none-yet d sets East c.frame.result.now.shape c.nets-net.result c.in_ok-new.field-0 same all within c.in_ok-new.ensures.grid c.in_ok-new.ensures.chains;
        north = none-yet d sets North c.frame.result.now.shape c.nets-net.result c.in_ok-new-2.field-0 same all within c.in_ok-new-2.ensures.grid c.in_ok-new-2.ensures.chains;
      };
    }

pub loop-net-preserved-then-not-routed : goal.loop-net-preserved-then-not-routed
loop-net-preserved-then-not-routed c =
    let d = c.args.design.now in
    let sets = edges_by c.args.solution.now in
    let was = c.loop-net.invariant in
    let net = c.loop-net.net - 1 in
    let next : c.loop-net.net ≡ net + 1 = omega (arith, c.loop-net-test.true) in
    let inside : net < length d.nets = omega (arith, c.loop-net-test.true, was.some) in
    let off = sym c.routed.ensures ∙ c.if-not-routed.true in
    record {
      some = omega (arith, was.some);
      maker = was.maker;
      runs = record {
        east = net-passed d sets East net c.loop-net.runs.east inside off (subst (λ (n : ℕ). AreStarts d sets East n c.loop-net.runs.east) next was.runs.east);
        north = net-passed d sets North net c.loop-net.runs.north inside off (subst (λ (n : ℕ). AreStarts d sets North n c.loop-net.runs.north) next was.runs.north);
      };
    }
