use Rattle.std.proofs.Common.{◌≡◌, ℕ, ◌≤◌, ◌++◌, List, take, length, ap, ◌∙◌, arith}
use Rattle.std.proofs.lemmas.List.{take_all}
use Rattle.std.specs.List.{flat_map, zip}
use Rattle.track_panels.specs.declared.piece.Piece.{Piece}
use Rattle.panel_text.specs.Texts.{piece_line}
use Rattle.panel_text.proofs.TextLemmas.{pieces-more}
use Rattle.panel_text.proofs.lines.put_pieces.Goals as goal

pub loop-at-preserved : goal.loop-at-preserved
loop-at-preserved c =
    c.in_ok-put_piece.ensures
    ∙ pieces-more c.args.design.now c.args.pieces.now c.args.panel.now.numbers c.loop-at.text c.args.text.now c.loop-at.at c.track.result
    (record { net = 0; low = 0; high = 0 }) c.loop-at-test.true c.requires.numbers c.track.ensures c.loop-at.invariant

pub returns : goal.returns
returns c =
    let at = c.loop-at.at in
    let all = take_all at c.args.pieces.now c.loop-at-test.false in
    let all' = take_all at c.args.panel.now.numbers (omega (arith, c.loop-at-test.false, c.requires.numbers)) in
    c.loop-at.invariant
    ∙ ap (λ (ps : List Piece). c.args.text.now ++ flat_map (piece_line c.args.design.now) (zip ps (take at c.args.panel.now.numbers))) all
    ∙ ap (λ (ns : List ℕ). c.args.text.now ++ flat_map (piece_line c.args.design.now) (zip c.args.pieces.now ns)) all'
