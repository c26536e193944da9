use Rattle.report_text.proofs.BufferLemmas.{all-planned}
use Rattle.report_text.proofs.buffer_text.buffers.Goals as goal

pub polar_text-requires : goal.polar_text-requires
polar_text-requires c = record {
  plans = all-planned c.args.design.now c.args.library.now c.args.routes.now c.args.plans.now c.requires.plans;
}
