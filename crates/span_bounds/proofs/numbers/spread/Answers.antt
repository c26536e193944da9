use Rattle.std.proofs.Common.{arith}
use Rattle.span_bounds.proofs.SortedLemmas.{least-most}
use Rattle.span_bounds.proofs.numbers.spread.Goals as goal

pub overflow_sub-result : goal.overflow_sub-result
overflow_sub-result c = let le = least-most c.args.numbers.now in omega (arith, le, c.least_of.ensures, c.most_of.ensures)
