use Rattle.std.proofs.Common.{◌≡◌, ℕ, ◌+◌, ◌<◌, ◌≤◌, ◌^◌, ◌++◌, List, length, All, get_or, refl, sym, ap, subst, ◌∙◌, arith}
use Rattle.std.proofs.lemmas.Bool.Decides.{nat_tests}
use Rattle.std.proofs.lemmas.List.Elements.{Contains-get_or}
use Rattle.std.specs.List.{flat_map, zip}
use Rattle.gr_base.specs.declared.frame.Frame.{Frame}
use Rattle.track_panels.specs.declared.piece.Piece.{Piece}
use Rattle.track_panels.specs.Numberings.{IsPanel}
use Rattle.track_panels.specs.Pieces.{ArePieces}
use Rattle.panel_text.specs.PanelPieces.{pieces_of}
use Rattle.panel_text.specs.Texts.{panel_line, piece_line}
use Rattle.panel_text.proofs.PieceLemmas.{pieces-along, pieces-are, pieces-nets}
use Rattle.panel_text.proofs.TextLemmas.{few-tracks, told-none, told-some}
use Rattle.panel_text.proofs.text.put_panel.Goals as goal

pub returns-then-is_empty-clause-told : goal.returns-then-is_empty-clause-told
returns-then-is_empty-clause-told c sets are =
    let d = c.args.design.now in
    let pieces = c.gather_pieces.new.pieces in
    let is = pieces-along d sets c.args.place c.args.starts.now pieces.items c.frame.result.now.shape (ap (λ (f : Frame). f.shape) c.frame.ensures.frame) c.in_ok-gather_pieces.ensures are in
    let none : length pieces.items ≡ 0 = grind (arith, nat_tests, pieces.ok.0, c.is_empty.ensures, c.if-is_empty.true) in
    told-none d c.args.place (pieces_of d sets c.args.place) c.args.told.now (sym (ap (λ (ps : List Piece). length ps) is) ∙ none)

pub panel-requires : goal.panel-requires
panel-requires c =
    let d = c.args.design.now in
    let some = c.requires.starts in
    let pieces = c.gather_pieces.new.pieces in
    let is = pieces-along d some.sets c.args.place c.args.starts.now pieces.items c.frame.result.now.shape (ap (λ (f : Frame). f.shape) c.frame.ensures.frame) c.in_ok-gather_pieces.ensures some.are in
    let size = ap (λ (ps : List Piece). length ps) is in
    let there : 0 < length pieces.items = grind (arith, nat_tests, pieces.ok.0, c.is_empty.ensures, c.if-is_empty.false) in
    let few : length pieces.items < 2 ^ 31 = grind (arith, pieces.ok.0, c.len.ensures, c.if-len-gt-MOST_PIECES.false) in
    subst (λ (ps : List Piece). ArePieces ps) (sym (c.deref.ensures.value ∙ is))
    (pieces-are d some.sets some.are.within c.args.place c.requires.place (omega (arith, there, size)) (omega (arith, few, size)))

pub put_pieces-requires-clause-nets : goal.put_pieces-requires-clause-nets
put_pieces-requires-clause-nets c =
    let d = c.args.design.now in
    let some = c.requires.starts in
    let is = pieces-along d some.sets c.args.place c.args.starts.now c.gather_pieces.new.pieces.items c.frame.result.now.shape (ap (λ (f : Frame). f.shape) c.frame.ensures.frame) c.in_ok-gather_pieces.ensures some.are in
    subst (λ (ps : List Piece). All (λ p. p.net < length d.nets) ps) (sym (c.deref-2.ensures.value ∙ is))
    (pieces-nets d some.sets some.are.within c.args.place c.requires.place)

pub put_pieces-requires-clause-tracks : goal.put_pieces-requires-clause-tracks
put_pieces-requires-clause-tracks c k e inside =
    let panel = c.in_ok-panel.panel in
    let is = c.in_ok-panel.ensures in
    let pieces = c.gather_pieces.new.pieces in
    let below = (is.used (get_or panel.numbers k e)).0 (Contains-get_or panel.numbers k e inside) in
    let few = few-tracks c.deref.result.now panel is in
    let size = ap (λ (ps : List Piece). length ps) c.deref.ensures.value in
    let most : length pieces.items < 2 ^ 31 = grind (arith, pieces.ok.0, c.len.ensures, c.if-len-gt-MOST_PIECES.false) in
    omega (arith, below, few, size, most)

pub returns-clause-told : goal.returns-clause-told
returns-clause-told c sets are =
    let d = c.args.design.now in
    let place = c.args.place in
    let old = c.args.told.now in
    let panel = c.in_ok-panel.panel in
    let pieces = c.gather_pieces.new.pieces in
    let is = pieces-along d sets place c.args.starts.now pieces.items c.frame.result.now.shape (ap (λ (f : Frame). f.shape) c.frame.ensures.frame) c.in_ok-gather_pieces.ensures are in
    let there : 0 < length pieces.items = grind (arith, nat_tests, pieces.ok.0, c.is_empty.ensures, c.if-is_empty.false) in
    let size = ap (λ (ps : List Piece). length ps) is in
    told-some d place (pieces_of d sets place) panel old _ c.put_panel_line.new.text (omega (arith, there, size))
    (subst (λ (ps : List Piece). IsPanel ps panel) (c.deref.ensures.value ∙ is) c.in_ok-panel.ensures)
    (c.in_ok-put_panel_line.ensures
    ∙ ap (λ (n : ℕ). old.lines ++ panel_line place n c.point.result) c.tracks.ensures ∙ ap (λ (n : ℕ). old.lines ++ panel_line place panel.tracks n) c.point.ensures)
    (c.in_ok-put_pieces.ensures
    ∙ ap (λ (ps : List Piece). c.put_panel_line.new.text ++ flat_map (piece_line d) (zip ps panel.numbers)) (c.deref-2.ensures.value ∙ is))
    refl
    (ap (λ (n : ℕ). old.tracks + n) (c.from.ensures ∙ c.tracks-2.ensures))
