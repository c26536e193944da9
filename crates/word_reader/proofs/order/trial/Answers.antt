use Rattle.word_reader.proofs.order.trial.Goals as goal

pub returns-clause-range : goal.returns-clause-range
returns-clause-range c = (c.in_ok-made.ensures.range, c.in_ok-options.ensures.range)
