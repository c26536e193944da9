use Rattle.std.proofs.Common.{ap, rules}
use Rattle.gr_io.specs.declared.shelf.Slot.TheVariants as slot
use Rattle.gr_base.specs.Limits.{most_bytes}
use Rattle.gr_text.specs.Origins.{Origin}
use Rattle.gr_text.specs.Reads.{Says}
use Rattle.gr_text.proofs.SaysLemmas.{from-start}
use Rattle.solution_text.specs.Grammar.{start}
use Rattle.route_reader.specs.SolutionText.{solution_at, solution_of}
use Rattle.route_reader.proofs.CoverLemmas.{read-covers}
use Rattle.gr_text.proofs.UnreadLemmas.{fault-unread}
use Rattle.route_reader.proofs.read.read_solution.Goals as goal

pub returns-clause-says : goal.returns-clause-says
unfolding solution_of
returns-clause-says g c tells =
    from-start slot.Solution most_bytes c.in_ok-tokens.tokens (g.S.Shelf.left c.args.shelf.now) c.in_ok-tokens.ensures
    (λ place. Says (solution_at c.args.design.now start place) c.solution.result) (c.solution.ensures.says tells)

pub returns-clause-covers : goal.returns-clause-covers
unfolding solution_of
returns-clause-covers g c =
    read-covers c.args.design.now g.S.Shelf.tells (g.S.Shelf.left c.args.shelf.now slot.Solution) c.solution.result (λ tells.
    from-start slot.Solution most_bytes c.in_ok-tokens.tokens (g.S.Shelf.left c.args.shelf.now) c.in_ok-tokens.ensures
    (λ place. Says (solution_at c.args.design.now start place) c.solution.result) (c.solution.ensures.says tells))

pub returns-clause-rest_unread : goal.returns-clause-rest_unread
returns-clause-rest_unread g c =
    let behind = fault-unread g.S.Shelf.tells c.solution.result c.in_ok-tokens.tokens c.solution.new.source.tokens.now (g.S.Shelf.left c.args.shelf.now)
    (g.S.Shelf.left c.solution.new.source.shelf.now) _ _ c.in_ok-tokens.ensures (ap (λ (o : Origin). o.slot) c.solution.ensures.moves.same) c.solution.ensures.moves.onward in
    search rules
