use Rattle.std.proofs.Common.{sym, ◌∙◌}
use Rattle.gr_base.specs.Limits.{most_rounds}
use Rattle.word_reader.proofs.NumberLemmas.{natural-most}
use Rattle.word_reader.proofs.order.options_of.Goals as goal

pub returns-clause-range : goal.returns-clause-range
returns-clause-range c = record {
  rounds = natural-most 20 most_rounds c.as_bytes.result.now c.in_ok-rounds.rounds (sym c.natural_of.ensures ∙ c.in_ok-rounds.was);
  worker = c.in_ok-workers.ensures.range.0;
  workers = c.in_ok-workers.ensures.range.1;
  via_cost = c.in_ok-via_cost.ensures.range.1;
  batch = c.in_ok-batch.ensures.range;
}
