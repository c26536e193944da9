use Rattle.std.proofs.Common.{eqb, arith}
use Rattle.std.proofs.lemmas.List.Filters.{dedup_is}
use Rattle.span_bounds.proofs.SortedLemmas.{sorted-different}
use Rattle.span_bounds.proofs.numbers.different.Goals as goal

pub returns-clause-number : goal.returns-clause-number
returns-clause-number c =
    let is =
    sorted-different c.args.numbers.now.items c.sort_unstable.new.self.items c.dedup.new.self.items c.sort_unstable.ensures.permutation
    c.sort_unstable.ensures.sorted (dedup_is eqb c.sort_unstable.new.self.items c.dedup.new.self.items c.dedup.ensures.filtered) in
    omega (arith, is, c.len.ensures, c.dedup.new.self.ok.0)
