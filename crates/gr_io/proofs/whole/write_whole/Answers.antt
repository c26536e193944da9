use Rattle.std.proofs.Common.{◌∙◌, arith}
use Rattle.gr_io.proofs.Standing.{Standing-nonempty, Standing-step}
use Rattle.gr_io.proofs.whole.write_whole.Goals as goal

pub loop-rest-preserved : goal.loop-rest-preserved
loop-rest-preserved g c = record {
  quiet = c.in_ok-count.ensures.quiet ∙ c.loop-rest.invariant.quiet;
  standing = Standing-step c.in_ok-count.count _ c.loop-rest.invariant.standing c.in_ok-count.ensures.appended;
  same = λ e. absurd (Standing-nonempty c.loop-rest.invariant.standing (omega (arith, c.in_ok-count.ensures.some, c.in_ok-count.ensures.within)) e);
}
