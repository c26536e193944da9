use Rattle.std.proofs.Common.{List, Option, sym, ap, ◌∙◌}
use Rattle.ginneken_lists.specs.Candidates.{all_joined}
use Rattle.ginneken_lists.specs.Pairs.{candidates}
use Rattle.ginneken_lists.specs.declared.pair.Pair.{Pair}
use Rattle.polar_lists.specs.BothLists.{all_in}
use Rattle.polar_lists.proofs.BothJoined.{joined-none}
use Rattle.polar_lists.proofs.side.joined.Goals as goal

pub returns-in_default-upper-clause-joined : goal.returns-in_default-upper-clause-joined
returns-in_default-upper-clause-joined g c =
    let own = candidates c.args.trail.now (all_in c.args.own) in
    sym (ap (λ (o : Option (List Pair)). all_joined own (candidates c.args.trail.now (all_in o))) c.in_default-upper.is ∙ joined-none own)
