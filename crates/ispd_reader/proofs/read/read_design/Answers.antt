use Rattle.std.proofs.Common.{ap, rules}
use Rattle.gr_io.specs.declared.shelf.Slot.TheVariants as slot
use Rattle.gr_base.specs.Limits.{most_bytes}
use Rattle.gr_text.specs.Origins.{Origin}
use Rattle.gr_text.specs.Reading.{value_of}
use Rattle.gr_text.specs.Reads.{Says}
use Rattle.gr_text.proofs.SaysLemmas.{from-start, says-value}
use Rattle.ispd_reader.specs.DesignText.{design, design_of}
use Rattle.gr_text.proofs.UnreadLemmas.{fault-unread}
use Rattle.ispd_reader.proofs.read.read_design.Goals as goal

pub returns-clause-says : goal.returns-clause-says
unfolding design_of
returns-clause-says g c tells =
    from-start slot.Design most_bytes c.in_ok-tokens.tokens (g.S.Shelf.left c.args.shelf.now) c.in_ok-tokens.ensures
    (λ place. Says (value_of (design place)) c.design.result) (says-value _ c.design.result _ (c.design.ensures.reads tells))

pub returns-clause-rest_unread : goal.returns-clause-rest_unread
returns-clause-rest_unread g c =
    let behind = fault-unread g.S.Shelf.tells c.design.result c.in_ok-tokens.tokens c.design.new.source.tokens.now (g.S.Shelf.left c.args.shelf.now)
    (g.S.Shelf.left c.design.new.source.shelf.now) _ _ c.in_ok-tokens.ensures (ap (λ (o : Origin). o.slot) c.design.ensures.moves.same) c.design.ensures.moves.onward in
    search rules
