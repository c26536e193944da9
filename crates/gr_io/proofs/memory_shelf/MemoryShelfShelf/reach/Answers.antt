use Rattle.std.proofs.Common.{◌≡◌, List, ℕ, Err, Ok, Option, Some, None, ap, arith, sym, ◌∙◌, subst}
use Rattle.gr_io.specs.Texts.{MemoryTexts, after_reach, held_in, left_at, reach_answer}
use Rattle.gr_io.specs.Slots.{at_slot}
use Rattle.gr_io.specs.declared.memory_shelf.NextByte.{NextByte}
use Rattle.gr_io.specs.declared.slots.Slots.{Slots}
use Rattle.gr_io.specs.declared.shelf.ReachError.TheVariants.{Missing}
use Rattle.gr_io.proofs.HeldLemmas.{found_in, missing_in}
use Rattle.gr_io.proofs.PlaceLemmas.{ArePlaces-set_slot, answer-missing, answer-opened, left_at-seen, seen, seen-missing, seen-opened}
use Rattle.gr_io.proofs.SlotLemmas.{at_slot-set_slot}
use Rattle.gr_io.proofs.memory_shelf.MemoryShelfShelf.reach.Goals as goal

pub returns-in_default-clause-not_held : goal.returns-in_default-clause-not_held
returns-in_default-clause-not_held c = λ _.
    subst (λ (now : MemoryTexts). held_in now.texts c.args.name.now ≡ None) c.self.view_is
    (missing_in _ c.self.inside.texts.items c.args.name.now _ c.deref.ensures.value c.number_of.ensures c.in_default.is)

pub returns-in_default-clause-answer : goal.returns-in_default-clause-answer
returns-in_default-clause-answer c =
    let held = missing_in _ c.self.inside.texts.items c.args.name.now _ c.deref.ensures.value c.number_of.ensures c.in_default.is in
    subst (λ (now : MemoryTexts). Err Missing ≡ reach_answer now c.args.name.now) c.self.view_is
    (answer-missing (seen c.self.inside.texts.items c.self.inside.places c.self.inside.piece c.self.inside.misses c.self.inside.calls) c.args.name.now (sym c.begin.ensures.failed ∙ sym c.is_err.ensures.value ∙ c.if-is_err.false) held)

pub returns-in_default-clause-state : goal.returns-in_default-clause-state
returns-in_default-clause-state c =
    let inside = c.self.inside in
    let held = missing_in _ inside.texts.items c.args.name.now _ c.deref.ensures.value c.number_of.ensures c.in_default.is in
    subst (λ (now : MemoryTexts). seen inside.texts.items inside.places inside.piece c.saturating_add-self-inside.result c.begin.new.self ≡ after_reach now c.args.slot c.args.name.now) c.self.view_is
    (seen-missing inside.texts.items inside.places inside.piece inside.misses _ inside.calls c.begin.new.self c.args.slot c.args.name.now
    (sym c.begin.ensures.failed ∙ sym c.is_err.ensures.value ∙ c.if-is_err.false) held c.begin.ensures.log c.saturating_add-self-inside.ensures)

pub invariant_of-self-2 : goal.invariant_of-self-2
invariant_of-self-2 c =
    let found = found_in _ c.self.inside.texts.items c.args.name.now _ c.in-Some.text c.deref.ensures.value c.number_of.ensures c.in-Some.is in
    (c.self.invariant.0, ArePlaces-set_slot c.self.inside.texts.items c.self.inside.places c.set.new.self c.args.slot _ c.set.ensures c.self.invariant.1 (found.0, omega arith))

pub returns-clause-opened : goal.returns-clause-opened
returns-clause-opened c =
    let inside = c.self.inside in
    let found = found_in _ inside.texts.items c.args.name.now _ c.in-Some.text c.deref.ensures.value c.number_of.ensures c.in-Some.is in
    let at = ap (λ (ps : Slots (Option NextByte)). at_slot ps c.args.slot) c.set.ensures ∙ at_slot-set_slot inside.places c.args.slot _ in
    subst (λ (now : MemoryTexts). held_in now.texts c.args.name.now ≡ Some (left_at (seen inside.texts.items c.set.new.self inside.piece inside.misses c.begin.new.self) c.args.slot)) c.self.view_is
    (found.1 ∙ ap (λ (xs : List ℕ). Some xs) (sym (left_at-seen inside.texts.items c.set.new.self inside.piece inside.misses c.begin.new.self c.args.slot _ at)))

pub returns-clause-answer : goal.returns-clause-answer
returns-clause-answer c =
    let found = found_in _ c.self.inside.texts.items c.args.name.now _ c.in-Some.text c.deref.ensures.value c.number_of.ensures c.in-Some.is in
    subst (λ (now : MemoryTexts). Ok tt ≡ reach_answer now c.args.name.now) c.self.view_is
    (answer-opened (seen c.self.inside.texts.items c.self.inside.places c.self.inside.piece c.self.inside.misses c.self.inside.calls) c.args.name.now _ (sym c.begin.ensures.failed ∙ sym c.is_err.ensures.value ∙ c.if-is_err.false) found.1)

pub returns-clause-state : goal.returns-clause-state
returns-clause-state c =
    let inside = c.self.inside in
    let found = found_in _ inside.texts.items c.args.name.now _ c.in-Some.text c.deref.ensures.value c.number_of.ensures c.in-Some.is in
    subst (λ (now : MemoryTexts). seen inside.texts.items c.set.new.self inside.piece inside.misses c.begin.new.self ≡ after_reach now c.args.slot c.args.name.now) c.self.view_is
    (seen-opened inside.texts.items inside.places c.set.new.self inside.piece inside.misses inside.calls c.begin.new.self c.args.slot c.args.name.now c.in-Some.text
    (sym c.begin.ensures.failed ∙ sym c.is_err.ensures.value ∙ c.if-is_err.false) found.1 c.begin.ensures.log c.set.ensures)
