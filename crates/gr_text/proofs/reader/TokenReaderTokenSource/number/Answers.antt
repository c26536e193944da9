use Rattle.std.proofs.Common.{sym, ◌∙◌, ◌++◌}
use Rattle.gr_text.proofs.TokenLemmas.{place-number}
use Rattle.gr_text.proofs.UnreadLemmas.{read-here, read-due}
use Rattle.gr_text.proofs.reader.TokenReaderTokenSource.number.Goals as goal

pub returns-clause-number : goal.returns-clause-number
returns-clause-number g c =
    λ told. let r = c.args.self.now in
    c.number.ensures.number ∙
    sym (place-number r.tokens.now.room r.tokens.now.number (r.tokens.now.pending ++ g.S.Shelf.left r.shelf.now r.tokens.now.slot))

pub returns-clause-here : goal.returns-clause-here
returns-clause-here g c = λ bytes read told. rw c.number.ensures.number (read-here bytes _ _ _ (read told))

pub returns-clause-due : goal.returns-clause-due
returns-clause-due g c = λ bytes read told. rw c.number.ensures.number (read-due bytes _ _ _ (read told))
