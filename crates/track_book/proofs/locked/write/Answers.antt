use Rattle.std.proofs.Common.{arith, ◌++◌, ◌∷◌, [], List, length, take, drop, refl, ap, subst, ◌∙◌}
use Rattle.std.proofs.lemmas.List.{take_all}
use mathlib.Core.List.{IsPrefix}
use Rattle.atomic_table.specs.Seated.{TableId}
use Rattle.book_front.proofs.Prefixes.{prefix-then, prefix-more}
use Rattle.book_state.specs.declared.entry.Entry.{Entry}
use Rattle.track_book.specs.Passes.{PassView}
use Rattle.track_book.specs.SeatOptions.{view_in, HasPass}
use Rattle.track_book.proofs.PassSteps.{pass-begins, last-entry, with-last, after-drop, kept-wrote}
use Rattle.track_book.proofs.locked.write.Goals as goal

pub invariant_of-pass : goal.invariant_of-pass
invariant_of-pass g c =
    let h = c.args.history.now in
    let a = c.append.ensures in
    let next = c.requires.next in
    let last = last-entry _ _ _ _ c.entry.result.now next c.len-known.ensures.len c.entry.ensures.entry in
    let whole = a.seen ∙ with-last _ _ _ _ next last in
    let begins = subst (λ (l : List Entry). IsPrefix (view_in c.pass.inside.seat).seen l) (with-last _ _ _ _ next last) (prefix-then _ _ _ a.begins (prefix-more (view_in c.args.keeper.now).seen (c.entry.result.now ∷ []))) in
    let pass = subst (λ (word : TableId). HasPass word c.append.new.seat) c.requires.front a.pass in
    kept-wrote _ _ _ _ _ c.pass.inside.seat c.append.new.seat _ h c.pass.invariant pass a.number begins whole a.calls c.len-known.ensures.len c.requires.legal

pub returns-clause-list : goal.returns-clause-list
returns-clause-list g c =
    let next = c.requires.next in
    let last = last-entry _ _ _ _ c.entry.result.now next c.len-known.ensures.len c.entry.ensures.entry in
    c.append.ensures.list ∙ c.append.ensures.seen ∙ with-last _ _ _ _ next last

pub returns-clause-begins : goal.returns-clause-begins
returns-clause-begins g c = pass-begins _ _ c.pass.inside.seat _ _ _ _ c.pass.view_is c.append.ensures.begins refl

pub returns-clause-seen : goal.returns-clause-seen
returns-clause-seen g c =
    let next = c.requires.next in
    let last = last-entry _ _ _ _ c.entry.result.now next c.len-known.ensures.len c.entry.ensures.entry in
    let long = c.len-known.ensures.len in
    ap (λ (l : List Entry). take c.len-known.result l) (c.append.ensures.seen ∙ with-last _ _ _ _ next last) ∙ take_all c.len-known.result c.args.history.now (omega (arith, long))

pub returns-clause-mine : goal.returns-clause-mine
returns-clause-mine g c =
    let next = c.requires.next in
    let last = last-entry _ _ _ _ c.entry.result.now next c.len-known.ensures.len c.entry.ensures.entry in
    c.append.ensures.mine
    ∙ ap (λ (l : List Entry). (view_in c.pass.inside.seat).mine ++ l) (after-drop _ _ _ _ next last)
    ∙ ap (λ (p : PassView). p.mine ++ drop (length (view_in c.args.keeper.now).seen) c.args.history.now) c.pass.view_is
