use Rattle.std.proofs.Common.{arith}
use Rattle.book_front.proofs.RoleSteps.{splits-role}
use Rattle.book_front.proofs.seat.Front.give_role.Goals as goal

pub split_seat-requires : goal.split_seat-requires
split_seat-requires c =
    let one = c.args.self.now.one_word in
    (c.requires.pass.word_is, omega (arith, one), splits-role _ _ c.requires.role)
