use Rattle.std.proofs.Common.{ap, rules}
use Rattle.gr_io.specs.declared.shelf.Slot.TheVariants as slot
use Rattle.gr_base.specs.Limits.{most_bytes}
use Rattle.gr_text.specs.Origins.{Origin}
use Rattle.gr_text.specs.Reading.{value_of}
use Rattle.gr_text.specs.Reads.{Says}
use Rattle.gr_text.proofs.SaysLemmas.{from-start, says-value}
use Rattle.rc_library.specs.LibraryText.{library, library_of}
use Rattle.gr_text.proofs.UnreadLemmas.{fault-unread}
use Rattle.rc_library.proofs.read.read_library.Goals as goal

pub returns-clause-says : goal.returns-clause-says
unfolding library_of
returns-clause-says g c tells =
    from-start slot.Library most_bytes c.in_ok-tokens.tokens (g.S.Shelf.left c.args.shelf.now) c.in_ok-tokens.ensures
    (λ place. Says (value_of (library c.args.design.now place)) c.library.result) (says-value _ c.library.result _ (c.library.ensures.reads tells))

pub returns-clause-rest_unread : goal.returns-clause-rest_unread
returns-clause-rest_unread g c =
    let behind = fault-unread g.S.Shelf.tells c.library.result c.in_ok-tokens.tokens c.library.new.source.tokens.now (g.S.Shelf.left c.args.shelf.now)
    (g.S.Shelf.left c.library.new.source.shelf.now) _ _ c.in_ok-tokens.ensures (ap (λ (o : Origin). o.slot) c.library.ensures.moves.same) c.library.ensures.moves.onward in
    search rules
