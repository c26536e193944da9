use Rattle.std.proofs.Common.{arith}
use Rattle.book_front.proofs.Looking.{pass-looks}
use Rattle.book_front.proofs.seat.Front.count.Goals as goal

pub load-requires : goal.load-requires
load-requires c =
    let one = c.args.self.now.one_word in
    (c.requires.word_is, omega (arith, one), pass-looks _ _ _ c.requires.numbered)
