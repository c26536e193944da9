use Rattle.std.proofs.Common.{List, ℕ, ◌++◌, sym, ap, ◌∙◌, append_assoc}
use Rattle.design_maker.specs.Texts.{line, pin_line}
use Rattle.design_maker.proofs.TextLemmas.{pins_text, pins-text, pins-state, first-pins}
use Rattle.design_maker.proofs.nets.put_pins.Goals as goal

pub loop-init : goal.loop-init
loop-init c =
    let first = first-pins c.args.made c.args.start c.args.draws.now.state c.args.text.now in
    record { text = first.text; draws = first.draws }

pub loop-preserved : goal.loop-preserved
loop-preserved c =
    let made = c.args.made in
    let start = c.args.start in
    let state = c.args.draws.now.state in
    let count = c.loop.counter in
    let tile = c.draw_pin-tile.result in
    let next = c.draw_pin-tile.new.draws.state in
    record {
      text =
          c.in_ok-put_pin.ensures
          ∙ ap (λ (t : List ℕ). t ++ line (pin_line tile)) c.loop.invariant.text
          ∙ append_assoc c.args.text.now (pins_text made start state count) (line (pin_line tile))
          ∙ ap (λ (t : List ℕ). c.args.text.now ++ t) (sym (pins-text made start state count tile c.loop.draws.state next c.loop.invariant.draws c.draw_pin-tile.ensures.drawn));
      draws = pins-state made start state count tile c.loop.draws.state next c.loop.invariant.draws c.draw_pin-tile.ensures.drawn;
    }
