use Rattle.gr_text.proofs.PieceLemmas.{taken-more, ahead-more}
use Rattle.gr_text.proofs.piece.Piece.take.Goals as goal

pub returns-clause-taken : goal.returns-clause-taken
returns-clause-taken c =
    let within = rw (← c.self.view_is) at c.requires in
    rw (← c.self.view_is) (taken-more c.self.inside.bytes.items c.self.inside.at c.args.count c.self.inside.filled within)

pub returns-clause-ahead : goal.returns-clause-ahead
returns-clause-ahead c =
    let within = rw (← c.self.view_is) at c.requires in
    rw (← c.self.view_is) (ahead-more c.self.inside.bytes.items c.self.inside.at c.args.count c.self.inside.filled within)
