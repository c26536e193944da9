use Rattle.gr_text.proofs.UnreadLemmas.{steps-onward}
use Rattle.gr_text.proofs.reader.TokenReaderTokenSource.advance.Goals as goal

pub returns-clause-onward : goal.returns-clause-onward
returns-clause-onward g c =
    λ bytes read. steps-onward c.args.self.now.tokens.now c.advance.new.self (g.S.Shelf.left c.args.self.now.shelf.now)
    (g.S.Shelf.left c.advance.new.shelf) c.advance.ensures.slot g.S.Shelf.tells bytes c.advance.result c.advance.ensures.token c.advance.ensures.little
    c.advance.ensures.on c.advance.ensures.word read
