use Rattle.std.proofs.Common.{◌≡◌, ◌/◌, ◌%◌, List, Some, length, slice_get, Vec, Global, refl, subst, sym, ap, ◌∙◌, arith}
use Rattle.std.proofs.lemmas.Option.{slice_get_read}
use Rattle.std.specs.Arc.{arc_value}
use Rattle.book_state.specs.HistoryStore.{Held, Block}
use Rattle.book_state.specs.declared.entry.Entry.{Entry}
use Rattle.book_state.proofs.HistoryLists.{length-entries, get-block, get-last, get-held}
use Rattle.book_state.proofs.history.History.entry.Goals as goal

pub index-requires-else-block-len : goal.index-requires-else-block-len
index-requires-else-block-len c =
    let long = length-entries c.self.inside.blocks.items c.self.inside.last.items c.self.invariant.full in
    let same = ap (λ (h : List Entry). length h) c.self.view_is in
    omega (arith, long, same, c.self.inside.blocks.ok.0, c.self.inside.last.ok.0, c.self.invariant.last)

pub returns-then-block-len-clause-entry : goal.returns-then-block-len-clause-entry
returns-then-block-len-clause-entry c =
    let s = c.self.inside in
    let at = c.args.at in
    let b : Block = c.index.result.now in
    let block : slice_get s.blocks.items (at / 1024) ≡ Some b =
    slice_get_read s.blocks.items (length s.blocks.items) (at / 1024) b refl (omega (arith, s.blocks.ok.0)) c.index.ensures in
    let full : length (arc_value b).items ≡ 1024 =
    subst (λ (x : Block). length (arc_value x).items ≡ 1024) (sym c.index.ensures) (c.self.invariant.full (at / 1024) b (omega (arith, s.blocks.ok.0))) in
    let long = ap (λ (v : Vec Held Global). length v.items) c.deref.ensures ∙ full in
    let held : slice_get c.deref.result.now.items (at % 1024) ≡ Some c.index-then-block-len.result.now =
    slice_get_read c.deref.result.now.items (length c.deref.result.now.items) (at % 1024) c.index-then-block-len.result.now refl (omega (arith, long)) c.index-then-block-len.ensures in
    let there = ap (λ (v : Vec Held Global). slice_get v.items (at % 1024)) (sym c.deref.ensures) ∙ held in
    subst (λ (h : List Entry). slice_get h at ≡ Some c.deref-then-block-len.result.now) c.self.view_is
    (get-block s.blocks.items s.last.items (at / 1024) (at % 1024) at b c.self.invariant.full block (omega arith) (omega arith)
    ∙ get-held (arc_value b).items (at % 1024) c.index-then-block-len.result.now there
    ∙ ap (λ (e : Entry). Some e) (sym c.deref-then-block-len.ensures))

pub returns-else-block-len-clause-entry : goal.returns-else-block-len-clause-entry
returns-else-block-len-clause-entry c =
    let s = c.self.inside in
    let at = c.args.at in
    let one : Held = c.index-else-block-len.result.now in
    let long = length-entries s.blocks.items s.last.items c.self.invariant.full in
    let same = ap (λ (h : List Entry). length h) c.self.view_is in
    let held : slice_get s.last.items (at % 1024) ≡ Some one =
    slice_get_read s.last.items (length s.last.items) (at % 1024) one refl
    (omega (arith, long, same, s.blocks.ok.0, s.last.ok.0, c.self.invariant.last)) c.index-else-block-len.ensures in
    subst (λ (h : List Entry). slice_get h at ≡ Some c.deref-else-block-len.result.now) c.self.view_is
    (get-last s.blocks.items s.last.items (at % 1024) at c.self.invariant.full (omega (arith, long, same, s.blocks.ok.0, s.last.ok.0, c.self.invariant.last))
    ∙ get-held s.last.items (at % 1024) one held
    ∙ ap (λ (e : Entry). Some e) (sym c.deref-else-block-len.ensures))
