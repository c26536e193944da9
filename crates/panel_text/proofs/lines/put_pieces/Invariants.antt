use Rattle.std.proofs.Common.{◌≡◌, ◌++◌, take}
use Rattle.std.specs.List.{flat_map, zip}
use Rattle.panel_text.specs.Texts.{piece_line}
use Rattle.panel_text.proofs.lines.put_pieces.Given as goal

abbrev pub invariant-loop-at : goal.invariant-loop-at
invariant-loop-at l = l.text ≡ l.fn.text ++ flat_map (piece_line l.design) (zip (take l.at l.pieces) (take l.at l.panel.numbers))
