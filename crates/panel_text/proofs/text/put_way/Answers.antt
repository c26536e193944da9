use Rattle.std.proofs.Common.{◌≡◌, ℕ, ◌+◌, ◌*◌, ◌<◌, ◌≤◌, ◌^◌, List, ap, sym, subst, ◌∙◌, arith}
use Rattle.std.specs.List.{flat_map, range_with_len}
use Rattle.gr_base.specs.declared.frame.Frame.{Frame}
use Rattle.panel_text.specs.declared.place.PanelPlace.{PanelPlace}
use Rattle.panel_text.specs.Places.{places_on}
use Rattle.panel_text.specs.Told.{IsWithin, Tell}
use Rattle.panel_text.proofs.TextLemmas.{way-more, more-within}
use Rattle.panel_text.proofs.text.put_way.Goals as goal

pub put_layer-requires-clause-room : goal.put_layer-requires-clause-room
put_layer-requires-clause-room c =
    more-within (2 ^ 28 + c.loop-layer.layer * 2 ^ 23) (2 ^ 29) c.loop-layer.told (omega (arith, c.loop-layer-test.true, c.layers-layer-end.ensures.most))
    (c.loop-layer.invariant.room (2 ^ 28) c.requires.room)

pub loop-layer-preserved : goal.loop-layer-preserved
loop-layer-preserved c =
    let was = c.loop-layer.invariant in
    record {
      told = way-more c.args.design.now c.args.way c.args.starts.now (places_on c.args.design.now.frame.shape c.args.way) c.loop-layer.layer c.args.told.now
          c.loop-layer.told c.put_layer.new.told was.told c.in_ok-put_layer.ensures.told;
      room = λ count is. subst (λ (n : ℕ). IsWithin n c.put_layer.new.told) (omega arith) (c.in_ok-put_layer.ensures.room (count + c.loop-layer.layer * 2 ^ 23) (was.room count is));
    }

pub returns-clause-told : goal.returns-clause-told
returns-clause-told c =
    let same = ap (λ (g : Frame). g.shape.layers) c.frame.ensures.frame in
    let all : c.loop-layer.layer ≡ c.args.design.now.frame.shape.layers =
    omega (arith, c.loop-layer.auto.layer-end, c.loop-layer-test.false, c.layers-layer-end.ensures.layers, same) in
    subst (λ (n : ℕ). Tell c.args.design.now c.args.way c.args.starts.now (flat_map (places_on c.args.design.now.frame.shape c.args.way) (range_with_len 0 n)) c.args.told.now c.loop-layer.told)
    all c.loop-layer.invariant.told

pub returns-clause-room : goal.returns-clause-room
returns-clause-room c count is =
    more-within (count + c.loop-layer.layer * 2 ^ 23) (count + 16 * 2 ^ 23) c.loop-layer.told (omega (arith, c.loop-layer.auto.layer-end, c.layers-layer-end.ensures.most))
    (c.loop-layer.invariant.room count is)
