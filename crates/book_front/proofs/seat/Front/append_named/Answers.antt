use Rattle.std.proofs.Common.{arith, length, List, sym, ap, ◌∙◌, subst, ◌<◌, ◌^◌}
use Rattle.book_state.specs.declared.entry.Entry.{Entry}
use Rattle.book_front.specs.declared.view.View.{View}
use Rattle.book_front.proofs.EntrySteps.{pass-appends}
use Rattle.book_front.proofs.seat.Front.append_named.Goals as goal

pub fetch_add-requires : goal.fetch_add-requires
fetch_add-requires g c =
    let one = c.args.self.now.one_word in
    let role = c.take_role.ensures.role in
    let own = ap (λ (e : Entry). e.number) (sym c.requires.entry) ∙ c.requires.number ∙ sym (ap (λ (v : View). v.number) role) in
    let few = subst (λ (h : List Entry). length h < 2 ^ 62) (sym (ap (λ (v : View). v.seen) role)) c.requires.few in
    (c.take_role.ensures.word, omega (arith, one), pass-appends _ _ _ _ (ap (λ (v : View). v.keeps) role) (ap (λ (v : View). v.numbered) role ∙ c.requires.pass.numbered) own few)
