use Rattle.std.proofs.Common.{arith}
use Rattle.book_front.proofs.RoleSteps.{joins-role}
use Rattle.book_front.proofs.seat.Front.take_role.Goals as goal

pub join_seat-requires : goal.join_seat-requires
join_seat-requires c =
    let one = c.args.self.now.one_word in
    let k = c.requires.keeper in
    (c.requires.pass.word_is, k.word_is, c.args.keeper.no_slot, omega (arith, one), joins-role _ _ _ _ c.requires.pass.numbered k.keeps k.unnumbered)
