use Rattle.std.proofs.Common.{List, Option, sym, ap, ◌∙◌}
use Rattle.ginneken_lists.specs.Candidates.{Candidate, all_joined}
use Rattle.ginneken_lists.specs.Pairs.{candidate_of, candidates}
use Rattle.ginneken_lists.specs.declared.pair.Pair.{Pair}
use Rattle.ginneken_lists.proofs.Serving.{rising-map}
use Rattle.ginneken_lists.proofs.ThinnedAgain.{joined-leaf}
use Rattle.buffer_plan.specs.Gathered.{pairs_in}
use Rattle.buffer_plan.proofs.hanging.join.Goals as goal

pub returns-in-None-clause-joined : goal.returns-in-None-clause-joined
returns-in-None-clause-joined g c =
    sym (ap (λ (own : Option (List Pair)). all_joined (candidates c.args.trail.now (pairs_in own)) (candidates c.args.trail.now c.args.upper)) c.in-None.is
    ∙ joined-leaf (candidates c.args.trail.now c.args.upper)
    (rising-map (candidate_of c.args.trail.now) (λ (o : Candidate). o.seen) c.args.upper c.requires.list.rising))
