use Rattle.std.proofs.Common.{◌∙◌}
use Rattle.std.proofs.lemmas.List.Sorted.{searched}
use Rattle.straight_runs.proofs.MemberLemmas.{rises, found}
use Rattle.straight_runs.proofs.lows.has_low.Goals as goal

pub returns : goal.returns
returns c =
    c.is_ok.ensures.value
    ∙ found c.args.lows.now c.args.cell c.binary_search.result
    (searched c.args.lows.now c.args.cell c.binary_search.result c.binary_search.ensures.position (rises c.args.lows.now c.requires))
