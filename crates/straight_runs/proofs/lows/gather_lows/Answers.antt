use Rattle.std.proofs.Common.{eqb}
use Rattle.std.proofs.lemmas.List.Filters.{dedup_is}
use Rattle.gr_base.specs.EdgeSets.{set_of}
use Rattle.straight_runs.proofs.LowLemmas.{gathered}
use Rattle.straight_runs.proofs.lows.gather_lows.Goals as goal

pub returns : goal.returns
returns c = λ cells within.
    gathered c.push_lows.new.lows.items c.sort_unstable.new.self.items c.dedup.new.self.items cells (set_of c.args.edges.now) c.args.way
    c.sort_unstable.ensures.permutation c.sort_unstable.ensures.sorted
    (dedup_is eqb c.sort_unstable.new.self.items c.dedup.new.self.items c.dedup.ensures.filtered)
    c.in_ok-push_lows.ensures.members (c.in_ok-push_lows.ensures.within cells within)
