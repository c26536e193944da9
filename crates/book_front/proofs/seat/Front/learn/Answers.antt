use Rattle.std.proofs.Common.{arith, ap, ◌∙◌}
use Rattle.book_front.specs.declared.view.View.{View}
use Rattle.book_front.proofs.Looking.{pass-looks}
use Rattle.book_front.proofs.seat.Front.learn.Goals as goal

pub load-requires : goal.load-requires
load-requires c =
    let one = c.args.self.now.one_word in
    let role = c.take_role.ensures.role in
    (c.take_role.ensures.word, omega (arith, one), pass-looks _ _ _ (ap (λ (v : View). v.numbered) role ∙ c.requires.pass.numbered))
