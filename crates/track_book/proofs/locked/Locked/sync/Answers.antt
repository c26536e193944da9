use Rattle.std.proofs.Common.{◌∙◌, ap, length, List}
use Rattle.book_state.specs.declared.entry.Entry.{Entry}
use Rattle.track_book.proofs.PassSteps.{has-learnt}
use Rattle.track_book.proofs.locked.Locked.sync.Goals as goal

pub returns-clause-learnt : goal.returns-clause-learnt
returns-clause-learnt g c =
    let l = c.learn.ensures in
    let long = c.len-pass-inside.ensures.len ∙ ap (λ (h : List Entry). length h) c.history-2.ensures.history in
    has-learnt _ _ _ _ c.pass.inside.seat c.learn.new.seat _ _ _ _ _ c.pass.view_is l.begins l.seen l.mine c.self.invariant.seen long c.self.invariant.legal
