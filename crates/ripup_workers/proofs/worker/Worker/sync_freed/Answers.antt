use Rattle.std.proofs.Common.{◌≡◌, ℕ, List, [], ◌∷◌, ◌++◌, take, sym, subst, ◌∙◌, arith}
use Rattle.std.proofs.lemmas.List.{take_all}
use Rattle.std.proofs.lemmas.Bool.Decides.{nat_tests}
use Rattle.grid_demand.specs.Tables.{CapacityView}
use Rattle.book_state.specs.Still.{StaysBest}
use Rattle.book_state.specs.declared.entry.Entry.{Entry}
use Rattle.ripup_workers.proofs.worker.Worker.sync_freed.Goals as goal

pub returns-then-still-clause-still : goal.returns-then-still-clause-still
returns-then-still-clause-still g c = λ same e freeing.
    let sought = c.args.sought.now in
    let seen = c.hold.new.self.pass.seen in
    let past = c.past-past.result.now in
    let read : c.front-read.result ≡ c.args.front = grind (arith, nat_tests) in
    let front = sym c.front-read.ensures ∙ read in
    let held = c.in_ok-hold.ensures.held in
    let whole : past ≡ seen = c.past-past.ensures.past ∙ take_all c.hold.new.self.pass.held seen (omega (arith, held)) in
    subst (λ (h : List Entry). StaysBest g.N.BookName.capacity sought.formula sought.net sought.window sought.tree.now (take c.args.front h ++ e ∷ []) h) whole
    (subst (λ (n : ℕ). StaysBest g.N.BookName.capacity sought.formula sought.net sought.window sought.tree.now (take n past ++ e ∷ []) past) front
    (subst (λ (k : CapacityView). StaysBest k sought.formula sought.net sought.window sought.tree.now (take c.hold.new.self.replica.front past ++ e ∷ []) past) c.capacity.ensures
    (c.in_ok-still.ensures.still c.if-still.true e freeing)))
