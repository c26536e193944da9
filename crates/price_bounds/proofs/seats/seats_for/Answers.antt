use Rattle.std.proofs.Common.{Ok, ap, ◌∙◌}
use Rattle.gr_base.specs.declared.frame.Frame.{Frame}
use Rattle.price_bounds.proofs.SeatLemmas.{seats-more}
use Rattle.price_bounds.proofs.seats.seats_for.Goals as goal

pub loop-preserved : goal.loop-preserved
loop-preserved c = record {
  first = c.share_end-last.ensures.last;
  seats = seats-more c.args.design.now c.loop.seats.items c.push.new.self.items
      (record { pricer = c.in_ok-pricer.pricer; first = c.loop.first; last = c.share_end-last.result; cost = Ok 0 }) c.in_ok-push.ensures.items c.loop.invariant.seats
      (record { shape = c.in_ok-pricer.ensures ∙ ap (λ (f : Frame). f.shape) c.frame.ensures.frame; order = c.share_end-last.ensures.first; inside = c.share_end-last.ensures.last });
}
