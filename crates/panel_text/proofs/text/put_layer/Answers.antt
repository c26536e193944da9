use Rattle.std.proofs.Common.{◌≡◌, ℕ, ◌+◌, ◌<◌, ◌≤◌, ◌^◌, List, map, ap, sym, subst, ◌∙◌, arith}
use Rattle.std.specs.List.{range_with_len}
use Rattle.gr_base.specs.declared.frame.Frame.{Frame}
use Rattle.panel_text.specs.declared.place.PanelPlace.{PanelPlace}
use Rattle.panel_text.specs.Places.{lines_along}
use Rattle.panel_text.specs.Told.{IsWithin, Tell}
use Rattle.panel_text.proofs.PieceLemmas.{few-lines}
use Rattle.panel_text.proofs.TextLemmas.{layer-more, more-within}
use Rattle.panel_text.proofs.text.put_layer.Goals as goal

pub put_panel-requires-clause-room : goal.put_panel-requires-clause-room
put_panel-requires-clause-room c =
    let few = few-lines c.frame.result.now.shape c.args.way in
    more-within (2 ^ 29 + c.loop-line.line) (2 ^ 30) c.loop-line.told (omega (arith, c.loop-line-test.true, c.lines-line-end.ensures, few))
    (c.loop-line.invariant.room (2 ^ 29) c.requires.room)

pub loop-line-preserved : goal.loop-line-preserved
loop-line-preserved c =
    let was = c.loop-line.invariant in
    let f : ℕ → PanelPlace = λ line. record { way = c.args.way; layer = c.args.layer; line = line } in
    record {
      told = layer-more c.args.design.now c.args.way c.args.starts.now f c.loop-line.line c.args.told.now c.loop-line.told c.put_panel.new.told was.told c.in_ok-put_panel.ensures.told;
      room = λ count is. subst (λ (n : ℕ). IsWithin n c.put_panel.new.told) (omega arith) (c.in_ok-put_panel.ensures.room (count + c.loop-line.line) (was.room count is));
    }

pub returns-clause-told : goal.returns-clause-told
returns-clause-told c =
    let f : ℕ → PanelPlace = λ line. record { way = c.args.way; layer = c.args.layer; line = line } in
    let same = ap (λ (g : Frame). lines_along g.shape c.args.way) c.frame.ensures.frame in
    let all : c.loop-line.line ≡ lines_along c.args.design.now.frame.shape c.args.way =
    omega (arith, c.loop-line.auto.line-end, c.loop-line-test.false, c.lines-line-end.ensures, same) in
    subst (λ (n : ℕ). Tell c.args.design.now c.args.way c.args.starts.now (map f (range_with_len 0 n)) c.args.told.now c.loop-line.told) all c.loop-line.invariant.told

pub returns-clause-room : goal.returns-clause-room
returns-clause-room c count is =
    let few = few-lines c.frame.result.now.shape c.args.way in
    more-within (count + c.loop-line.line) (count + 2 ^ 23) c.loop-line.told (omega (arith, c.loop-line.auto.line-end, c.lines-line-end.ensures, few))
    (c.loop-line.invariant.room count is)
