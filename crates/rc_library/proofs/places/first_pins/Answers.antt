use Rattle.std.proofs.Common.{◌≡◌, ℕ, ◌+◌, ◌≤◌, List, length, map, take, sym, ap, ◌∙◌, arith}
use Rattle.std.specs.List.{range_with_len}
use Rattle.gr_base.specs.Limits.{most_pins}
use Rattle.gr_base.specs.Designs.{pins_of}
use Rattle.rc_library.proofs.LibraryLemmas.{pins-more, pins-within, firsts-more}
use Rattle.rc_library.proofs.places.first_pins.Goals as goal

pub overflow_cast-pins : goal.overflow_cast-pins
overflow_cast-pins c =
    let within = pins-within c.args.design.now.nets c.loop-net.net c.net.result.now c.net.ensures.net in
    let few : pins_of c.args.design.now.nets ≤ most_pins = c.net.ensures.design.few_pins in
    let count = ap length c.as_slice.ensures in
    omega arith

pub overflow_add-pins : goal.overflow_add-pins
overflow_add-pins c =
    let within = pins-within c.args.design.now.nets c.loop-net.net c.net.result.now c.net.ensures.net in
    let few : pins_of c.args.design.now.nets ≤ most_pins = c.net.ensures.design.few_pins in
    let count = ap length c.as_slice.ensures in
    let pins = c.loop-net.invariant.pins in
    omega arith

pub loop-net-preserved : goal.loop-net-preserved
loop-net-preserved c = record {
  firsts =
      c.in_ok-push.ensures.items
      ∙ firsts-more c.args.design.now.nets c.loop-net.net c.loop-net.pins c.loop-net.firsts.items c.loop-net.invariant.firsts c.loop-net.invariant.pins;
  pins =
      ap (λ (n : ℕ). n + length c.as_slice.result.now) c.loop-net.invariant.pins
      ∙ ap (λ (pins : List ℕ). pins_of (take c.loop-net.net c.args.design.now.nets) + length pins) c.as_slice.ensures
      ∙ sym (pins-more c.args.design.now.nets c.loop-net.net c.net.result.now c.net.ensures.net);
}

pub returns : goal.returns
returns c =
    let all : c.loop-net.net ≡ length c.args.design.now.nets =
    let bound = c.loop-net.auto.net-end in let done = c.loop-net-test.false in let nets = c.nets-net-end.ensures.nets in omega arith in
    c.in_ok-push-2.ensures.items
    ∙ firsts-more c.args.design.now.nets c.loop-net.net c.loop-net.pins c.loop-net.firsts.items c.loop-net.invariant.firsts c.loop-net.invariant.pins
    ∙ ap (λ (n : ℕ). map (λ (k : ℕ). pins_of (take k c.args.design.now.nets)) (range_with_len 0 (n + 1))) all
