use Rattle.std.proofs.Common.{◌≡◌, ◌-◌, ◌++◌, ℕ, List, Option, Some, ap, drop, length, min, subst, sym, take, ◌∙◌}
use Rattle.std.proofs.lemmas.List.{take_rest}
use Rattle.gr_io.specs.Slots.{at_slot}
use Rattle.gr_io.specs.Sure.{IsWithin, SureTexts, rest_of}
use Rattle.gr_io.specs.declared.slots.Slots.{Slots}
use Rattle.gr_io.proofs.ReadLemmas.{at-read, read-append-left}
use Rattle.gr_io.proofs.SlotLemmas.{at_slot-set_slot}
use Rattle.gr_io.proofs.SureLemmas.{AreWithin-set_slot, rest_of-seen, seen}
use Rattle.gr_io.proofs.sure.SureShelfShelf.read.Goals as goal

-- what is known where the bytes were copied
record Reading (c : goal.After-set) : Type 0 where
  at : at_slot c.self.inside.places c.args.slot ≡ Some c.unwrap-at.result
  is : IsWithin (at_slot c.self.inside.texts c.args.slot) (Some c.unwrap-at.result)
  from : take (length c.bytes-bytes.result.now - c.unwrap-at.result) (drop c.unwrap-at.result c.bytes-bytes.result.now) ≡ drop c.unwrap-at.result (at_slot c.self.inside.texts c.args.slot)
  count : c.copy_start-count.result ≡ min (length c.args.buf.now) (min (length c.args.buf.now) (length (drop c.unwrap-at.result (at_slot c.self.inside.texts c.args.slot))))

reading : (c : goal.After-set) → Reading c
reading c =
    let at = sym c.get.ensures ∙ c.unwrap-at.ensures in
    let from = take_rest c.bytes-bytes.result.now c.unwrap-at.result ∙ ap (λ (xs : List ℕ). drop c.unwrap-at.result xs) (c.bytes-bytes.ensures ∙ c.get-2.ensures) in
    record {
      at = at;
      is = subst (λ (o : Option ℕ). IsWithin (at_slot c.self.inside.texts c.args.slot) o) at (c.self.invariant c.args.slot);
      from = from;
      count = c.copy_start-count.ensures.count ∙ ap (λ (xs : List ℕ). min (length c.args.buf.now) (min (length c.args.buf.now) (length xs))) from;
    }

pub invariant_of-self : goal.invariant_of-self
invariant_of-self c =
    let r = reading c in
    AreWithin-set_slot c.self.inside.texts c.self.inside.places c.set.new.self c.args.slot _ c.set.ensures c.self.invariant
    (at-read (at_slot c.self.inside.texts c.args.slot) c.unwrap-at.result c.copy_start-count.result (length c.args.buf.now) (length c.args.buf.now) r.is r.count)

pub returns-clause-bytes : goal.returns-clause-bytes
returns-clause-bytes c =
    let r = reading c in
    let inside = c.self.inside in
    let at = ap (λ (ps : Slots (Option ℕ)). at_slot ps c.args.slot) c.set.ensures ∙ at_slot-set_slot inside.places c.args.slot _ in
    subst (λ (now : SureTexts). take c.copy_start-count.result c.copy_start-count.new.to ++ rest_of (seen inside.texts c.set.new.self) c.args.slot ≡ rest_of now c.args.slot) c.self.view_is
    (ap (λ (xs : List ℕ). take c.copy_start-count.result c.copy_start-count.new.to ++ xs) (rest_of-seen inside.texts c.set.new.self c.args.slot _ at)
    ∙ read-append-left (at_slot inside.texts c.args.slot) _ c.copy_start-count.new.to c.unwrap-at.result c.copy_start-count.result r.from c.copy_start-count.ensures.copied
    ∙ sym (rest_of-seen inside.texts inside.places c.args.slot _ r.at))
