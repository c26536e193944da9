use Rattle.std.proofs.Common.{◌≡◌, ◌-◌, ◌↔◌, ◌++◌, ℕ, List, [], Option, Some, false, ap, drop, length, min, subst, sym, take, ◌∙◌}
use Rattle.std.proofs.lemmas.List.{get_or_read, take_rest}
use Rattle.gr_io.specs.Calls.{next_fails}
use Rattle.gr_io.specs.Places.{IsPlace}
use Rattle.gr_io.specs.Slots.{at_slot}
use Rattle.gr_io.specs.Texts.{HeldText, MemoryTexts, after_read, bytes_at, left_at}
use Rattle.gr_io.specs.declared.memory_shelf.NextByte.{NextByte}
use Rattle.gr_io.specs.declared.slots.Slots.{Slots}
use Rattle.gr_io.proofs.PlaceLemmas.{ArePlaces-set_slot, left_at-seen, seen, seen-read}
use Rattle.gr_io.proofs.ReadLemmas.{at-read, read-append-left, read-end}
use Rattle.gr_io.proofs.SlotLemmas.{at_slot-set_slot}
use Rattle.gr_io.proofs.memory_shelf.MemoryShelfShelf.read.Goals as goal

-- what is known where the bytes were copied
record Reading (c : goal.After-set) : Type 0 where
  at : at_slot c.self.inside.places c.args.slot ≡ Some c.unwrap-place.result
  is : IsPlace c.self.inside.texts.items (Some c.unwrap-place.result)
  from : take (length c.bytes.result.now - c.unwrap-place.result.at) (drop c.unwrap-place.result.at c.bytes.result.now) ≡ drop c.unwrap-place.result.at (bytes_at c.self.inside.texts.items c.unwrap-place.result.text)
  count : c.copy_start-count.result ≡ min (length c.args.buf.now) (min c.self.inside.piece (length (drop c.unwrap-place.result.at (bytes_at c.self.inside.texts.items c.unwrap-place.result.text))))
  runs : next_fails c.self.inside.calls ≡ false

reading : (c : goal.After-set) → Reading c
reading c =
    let inside = c.self.inside in
    let place = c.unwrap-place.result in
    let at = sym c.get.ensures ∙ c.unwrap-place.ensures in
    let is = subst (λ (o : Option NextByte). IsPlace inside.texts.items o) at (c.self.invariant.1 c.args.slot) in
    let text = get_or_read inside.texts.items place.text c.index-text.result.now is.0 c.index-text.ensures (record { name = []; bytes = [] }) in
    let from = take_rest c.bytes.result.now place.at ∙ ap (λ (xs : List ℕ). drop place.at xs) (c.bytes.ensures ∙ ap (λ (t : HeldText). t.bytes) text) in
    record {
      at = at;
      is = is;
      from = from;
      count = c.copy_start-count.ensures.count ∙ ap (λ (xs : List ℕ). min (length c.args.buf.now) (min inside.piece (length xs))) from;
      runs = sym c.in_ok-begin.ensures.failed;
    }

pub invariant_of-self-2 : goal.invariant_of-self-2
invariant_of-self-2 c =
    let r = reading c in
    let place = c.unwrap-place.result in (
      c.self.invariant.0,
      ArePlaces-set_slot c.self.inside.texts.items c.self.inside.places c.set.new.self c.args.slot _ c.set.ensures c.self.invariant.1
          (r.is.0, at-read (bytes_at c.self.inside.texts.items place.text) place.at c.copy_start-count.result (length c.args.buf.now) c.self.inside.piece r.is.1 r.count),
    )

pub returns-clause-bytes : goal.returns-clause-bytes
returns-clause-bytes c =
    let r = reading c in
    let inside = c.self.inside in
    let place = c.unwrap-place.result in
    let bytes = bytes_at inside.texts.items place.text in
    let at = ap (λ (ps : Slots (Option NextByte)). at_slot ps c.args.slot) c.set.ensures ∙ at_slot-set_slot inside.places c.args.slot _ in
    subst (λ (now : MemoryTexts). take c.copy_start-count.result c.copy_start-count.new.to ++ left_at (seen inside.texts.items c.set.new.self inside.piece inside.misses c.begin.new.self) c.args.slot ≡ left_at now c.args.slot) c.self.view_is
    (ap (λ (xs : List ℕ). take c.copy_start-count.result c.copy_start-count.new.to ++ xs) (left_at-seen inside.texts.items c.set.new.self inside.piece inside.misses c.begin.new.self c.args.slot _ at)
    ∙ read-append-left bytes _ c.copy_start-count.new.to place.at c.copy_start-count.result r.from c.copy_start-count.ensures.copied
    ∙ sym (left_at-seen inside.texts.items inside.places inside.piece inside.misses inside.calls c.args.slot _ r.at))

pub returns-clause-end : goal.returns-clause-end
returns-clause-end c =
    let r = reading c in
    let inside = c.self.inside in
    let place = c.unwrap-place.result in
    subst (λ (now : MemoryTexts). (c.copy_start-count.result ≡ 0) ↔ (left_at now c.args.slot ≡ [])) c.self.view_is
    (subst (λ (xs : List ℕ). (c.copy_start-count.result ≡ 0) ↔ (xs ≡ [])) (sym (left_at-seen inside.texts.items inside.places inside.piece inside.misses inside.calls c.args.slot _ r.at))
    (read-end (drop place.at (bytes_at inside.texts.items place.text)) c.copy_start-count.result (length c.args.buf.now) inside.piece c.requires.room c.self.invariant.0 r.count))

pub returns-clause-state : goal.returns-clause-state
returns-clause-state c =
    let r = reading c in
    let inside = c.self.inside in
    subst (λ (now : MemoryTexts). seen inside.texts.items c.set.new.self inside.piece inside.misses c.begin.new.self ≡ after_read now c.args.slot (length c.args.buf.now)) c.self.view_is
    (seen-read inside.texts.items inside.places c.set.new.self inside.piece inside.misses inside.calls c.begin.new.self c.args.slot c.unwrap-place.result (length c.args.buf.now) c.copy_start-count.result r.runs r.at c.begin.ensures.log r.count c.set.ensures)
