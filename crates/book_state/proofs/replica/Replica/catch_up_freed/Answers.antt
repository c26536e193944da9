use Rattle.std.proofs.Common.{◌≡◌, [], ◌∷◌, ◌++◌, ◌+◌, ◌-◌, List, length, take, subst, arith}
use Rattle.std.proofs.lemmas.Bool.Decides.{nat_tests}
use Rattle.book_state.specs.declared.entry.Entry.{Entry}
use Rattle.book_state.specs.Still.{StaysBest}
use Rattle.book_state.proofs.LiftSteps.{last-freed}
use Rattle.book_state.proofs.replica.Replica.catch_up_freed.Goals as goal

pub returns-then-still-clause-still : goal.returns-then-still-clause-still
returns-then-still-clause-still c = λ freed e freeing.
    let history = c.entries-history.result.now in
    let last = c.len-last.result - 1 in
    let more = c.if-len-front.false in
    let long = c.len-last.ensures.len in
    let first = c.len.ensures.len in
    let all : length history ≡ last + 1 = grind (arith, nat_tests, more, long, first) in
    subst (λ (h : List Entry). StaysBest c.args.capacity.now c.args.sought.now.formula c.args.sought.now.net c.args.sought.now.window c.args.sought.now.tree.now (take c.args.self.now.front h ++ e ∷ []) h) c.entries-history.ensures
    (last-freed c.args.capacity.now c.args.sought.now.window c.args.sought.now.tree.now (take c.args.self.now.front history) history last c.args.sought.now.net c.entry.result.now c.requires.net
    all c.entry.ensures.entry (c.in_ok-still.ensures.still c.if-still.true) (c.frees.ensures freed) e freeing)
