use Rattle.std.proofs.Common.{◌≡◌, ℕ, List, length, get_or, sym, ap, subst, ◌∙◌, arith}
use Rattle.gr_base.specs.Designs.{IsDesign, pins_of}
use Rattle.gr_base.specs.declared.frame.Frame.{Frame}
use Rattle.rc_library.specs.Gathered.{ArePlaces}
use Rattle.rc_library.proofs.LibraryLemmas.{length-firsts}
use Rattle.rc_library.proofs.PlacesLemmas.{ArePlaces-none, all-pins, no_places-is}
use Rattle.rc_library.proofs.places.PlaceNotes.new.Goals as goal

pub index-pins-requires : goal.index-pins-requires
index-pins-requires c =
    let count = ap length c.in_ok-firsts.ensures ∙ length-firsts c.args.design.now.nets in
    let nets = c.nets-nets.ensures.nets in
    let len = c.in_ok-firsts.firsts.ok.0 in
    omega arith

pub returns : goal.returns
returns c =
    let pins : c.index-pins.result.now ≡ pins_of c.args.design.now.nets =
    c.index-pins.ensures ∙ ap (λ (firsts : List ℕ). get_or firsts c.nets-nets.result c.index-pins.result.now) c.in_ok-firsts.ensures
    ∙ all-pins c.args.design.now.nets c.nets-nets.result c.index-pins.result.now c.nets-nets.ensures.nets in
    no_places-is c.args.design.now c.columns-columns.result c.rows-rows.result c.nets-nets.result c.index-pins.result.now c.in_ok-firsts.firsts.items
    c.new.result c.new-4.result c.new-2.result c.new-3.result
    (c.columns-columns.ensures.columns ∙ ap (λ (f : Frame). f.shape.columns) c.frame.ensures.frame)
    (c.rows-rows.ensures.rows ∙ ap (λ (f : Frame). f.shape.rows) c.frame.ensures.frame)
    c.nets-nets.ensures.nets pins c.in_ok-firsts.ensures c.new.ensures c.new-2.ensures c.new-3.ensures c.new-4.ensures

pub invariant_of-result : goal.invariant_of-result
invariant_of-result c =
    let design : IsDesign c.args.design.now = c.nets-nets.ensures.design in
    subst ArePlaces (sym (returns c)) (ArePlaces-none c.args.design.now design)
