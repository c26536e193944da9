use Rattle.std.proofs.Common.{◌≡◌, ◌==◌, ℕ, false, List, get_or, map, sym, ◌∙◌, arith}
use Rattle.std.proofs.lemmas.Bool.Decides.{nat_tests}
use Rattle.std.proofs.lemmas.List.{get_or-map, length-map}
use Rattle.std.proofs.lemmas.List.Folds.{list_all_at}
use Rattle.cut_bounds.specs.Boxes.{box_number}
use Rattle.cut_bounds.proofs.boxes.Boxes.hold_in_one.Goals as goal

pub returns-then-number-first : goal.returns-then-number-first
returns-then-number-first c =
    let f = box_number c.args.self.shape c.args.self.level in
    let tiles = c.args.tiles.now in
    let numbers : List ℕ = map f tiles in
    let first : c.number-first.result ≡ get_or numbers 0 0 = c.number-first.ensures.number ∙ sym (get_or-map f tiles 0 record { x = 0; y = 0 } 0 c.requires.some) in
    let at : c.number.result ≡ get_or numbers c.loop-tile.tile-index 0 =
    c.number.ensures.number ∙ sym (get_or-map f tiles c.loop-tile.tile-index record { x = 0; y = 0 } 0 c.loop-tile-test.true) in
    let off : (get_or numbers c.loop-tile.tile-index 0 == get_or numbers 0 0) ≡ false = grind (arith, nat_tests, at, first, c.if-number-first.true) in
    sym (list_all_at (λ number. number == get_or numbers 0 0) numbers c.loop-tile.tile-index 0 (omega (arith, c.loop-tile-test.true, length-map tiles f)) off)
