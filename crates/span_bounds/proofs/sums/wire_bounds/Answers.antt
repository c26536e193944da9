use Rattle.std.proofs.Common.{sym, ◌∙◌, arith}
use Rattle.gr_base.specs.Designs.{is_routed}
use Rattle.wall_laws.specs.Spans.{least_length, least_usable_length}
use Rattle.span_bounds.proofs.RoutedSums.{routed-next, routed-skip}
use Rattle.span_bounds.proofs.sums.wire_bounds.Goals as goal

pub loop-net-preserved-then-not-routed : goal.loop-net-preserved-then-not-routed
loop-net-preserved-then-not-routed c =
    let d = c.args.design.now in
    let l = c.loop-net in
    let skipped = sym c.routed.ensures ∙ c.if-not-routed.true in
    let fits = l.invariant.fits in
    let usable_fits = l.invariant.usable_fits in
    record {
      wirelength = routed-skip (least_length d c.args.via_cost) (is_routed d) l.net l.bounds.wirelength skipped l.invariant.wirelength;
      usable = routed-skip (least_usable_length d c.args.via_cost) (is_routed d) l.net l.bounds.usable skipped l.invariant.usable;
      fits = omega (arith, fits);
      usable_fits = omega (arith, usable_fits);
    }

pub loop-net-preserved : goal.loop-net-preserved
loop-net-preserved c =
    let d = c.args.design.now in
    let l = c.loop-net in
    let routed = sym c.routed.ensures ∙ c.if-not-routed.false in
    let fits = l.invariant.fits in
    let usable_fits = l.invariant.usable_fits in
    let more = c.in_ok-one.ensures.fits in
    record {
      wirelength =
          routed-next (least_length d c.args.via_cost) (is_routed d) l.net l.bounds.wirelength c.from.result routed l.invariant.wirelength
          (c.from.ensures ∙ c.in_ok-one.ensures.wirelength);
      usable =
          routed-next (least_usable_length d c.args.via_cost) (is_routed d) l.net l.bounds.usable c.from-in-loop-net.result routed l.invariant.usable
          (c.from-in-loop-net.ensures ∙ c.in_ok-one.ensures.usable);
      fits = let one = more.0 in omega (arith, fits, one, c.from.ensures);
      usable_fits = let one = more.1 in omega (arith, usable_fits, one, c.from-in-loop-net.ensures);
    }
