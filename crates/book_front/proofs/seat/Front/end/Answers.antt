use Rattle.std.proofs.Common.{arith}
use Rattle.book_front.proofs.EndSteps.{joins-ended}
use Rattle.book_front.proofs.seat.Front.end.Goals as goal

pub join_seat-requires : goal.join_seat-requires
join_seat-requires c =
    let one = c.args.self.now.one_word in
    let k = c.requires.keeper in
    let pass = c.requires.pass in
    (k.word_is, pass.word_is, c.args.seat.no_slot, omega (arith, one), joins-ended _ _ _ _ k.keeps k.unnumbered pass.numbered)
