use Rattle.std.proofs.Common.{arith}
use Rattle.book_front.proofs.NumberSteps.{splits-pass}
use Rattle.book_front.proofs.seat.Front.split.Goals as goal

pub split_seat-requires : goal.split_seat-requires
split_seat-requires c =
    let one = c.args.self.now.one_word in
    (c.requires.word_is, omega (arith, one), splits-pass _ _ c.requires.keeps)
