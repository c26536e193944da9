use Rattle.std.proofs.Common.{◌≡◌, ◌<◌, [], ℕ, List, All, length, arith, sym, ap, subst, ◌∙◌}
use Rattle.std.proofs.lemmas.List.{nil_from_length}
use Rattle.std.specs.Vec.Iter.{into_iter_items}
use Rattle.book_state.specs.declared.entry.Entry.{Entry}
use Rattle.book_front.specs.Seats.{word_of}
use Rattle.book_front.specs.declared.seat.PassSeat.{PassSeat}
use Rattle.book_front.proofs.Dealing.{IsEnding, ending-first, ending-more, next-pass, all-in}
use Rattle.book_front.proofs.Looking.{keeper-looks}
use Rattle.book_front.proofs.seat.Front.finish.Goals as goal

pub loop-seat-init : goal.loop-seat-init
loop-seat-init c = subst (λ (rest : List PassSeat). IsEnding (word_of c.args.self) c.args.keeper c.args.keeper c.args.seats.items rest) (sym c.into_iter-rest.ensures.rest) (ending-first _ _ _ c.requires.keeper)

pub end-requires-clause-keeper : goal.end-requires-clause-keeper
end-requires-clause-keeper c = c.loop-seat.invariant.keeper_is

pub end-requires-clause-pass : goal.end-requires-clause-pass
end-requires-clause-pass c =
    let ending = subst (λ (rest : List PassSeat). IsEnding (word_of c.args.self) c.args.keeper c.loop-seat.keeper c.args.seats.items rest) c.in-Some.ensures.items c.loop-seat.invariant in
    next-pass _ _ _ _ _ _ _ c.requires.seats ending

pub loop-seat-preserved : goal.loop-seat-preserved
loop-seat-preserved c =
    let ending = subst (λ (rest : List PassSeat). IsEnding (word_of c.args.self) c.args.keeper c.loop-seat.keeper c.args.seats.items rest) c.in-Some.ensures.items c.loop-seat.invariant in
    ending-more _ _ _ _ _ _ _ ending c.end.ensures.word c.end.ensures.keeper

pub load-requires : goal.load-requires
load-requires c =
    let one = c.args.self.one_word in
    let keeper = c.loop-seat.invariant.keeper_is in
    (keeper.word_is, omega (arith, one), keeper-looks _ _ _ keeper.keeps)

pub returns-clause-count : goal.returns-clause-count
returns-clause-count c = c.load.ensures.2.all ∙ ap (λ (h : List Entry). length h) c.loop-seat.invariant.seen

pub returns-clause-passes : goal.returns-clause-passes
returns-clause-passes c =
    let count = c.loop-seat.rest.rest.ok.0 in
    let none = c.in_default.ensures.cases.0 in
    let empty : into_iter_items c.loop-seat.rest ≡ [] = nil_from_length (into_iter_items c.loop-seat.rest) (omega (arith, count, none)) in
    let ending = subst (λ (rest : List PassSeat). IsEnding (word_of c.args.self) c.args.keeper c.loop-seat.keeper c.args.seats.items rest) empty c.loop-seat.invariant in
    all-in _ _ _ _ _ c.requires.seats ending c.load.ensures.2.gone

pub returns-clause-numbers : goal.returns-clause-numbers
returns-clause-numbers c =
    let ending = c.loop-seat.invariant in
    let numbers = c.load.ensures.2.numbers in
    let made = ending.made ∙ sym c.requires.seats.count in
    subst (λ (x : List Entry × ℕ). All (λ (e : Entry). e.number < x.1) x.0) (λ i. (ending.seen i, made i)) numbers
