use Rattle.std.proofs.Common.{◌≡◌, ℕ, ◌+◌, ◌++◌, ◌∷◌, [], List, map, take, sym, ap, subst, ◌∙◌}
use Rattle.std.proofs.lemmas.List.{map_more, take_all}
use Rattle.cut_bounds.specs.Boxes.{box_number, AreMarked}
use Rattle.cut_bounds.specs.declared.axis.Tile.{Tile}
use Rattle.cut_bounds.proofs.BoxLemmas.{marked-parted}
use Rattle.cut_bounds.proofs.box_needs.BoxNeeds.add_net.Goals as goal

pub loop-tile-preserved : goal.loop-tile-preserved
loop-tile-preserved c =
    let f = box_number c.args.boxes.shape c.args.boxes.level in
    let tiles = c.args.tiles.now in
    let numbers : List ℕ = map f (take c.loop-tile.tile-index tiles) in
    let is : numbers ++ c.number.result ∷ [] ≡ map f (take (c.loop-tile.tile-index + 1) tiles) =
    ap (λ (k : ℕ). numbers ++ k ∷ []) c.number.ensures.number ∙ sym (map_more f tiles c.loop-tile.tile-index record { x = 0; y = 0 } c.loop-tile-test.true) in
    subst (λ (ks : List ℕ). AreMarked ks c.args.self.now.needs.items c.args.need c.args.mark c.add_once.new.self.needs.items c.add_once.new.self.marks.items) is
    (c.add_once.ensures.marks numbers c.args.self.now.needs.items c.loop-tile.invariant)

pub returns-clause-needs : goal.returns-clause-needs
returns-clause-needs c n lower =
    let f = box_number c.args.boxes.shape c.args.boxes.level in
    let numbers : List ℕ = map f c.args.tiles.now in
    let all = ap (λ (ts : List Tile). map f ts) (take_all c.loop-tile.tile-index c.args.tiles.now c.loop-tile-test.false) in
    marked-parted numbers c.args.self.now.needs.items c.loop-tile.self.needs.items c.loop-tile.self.marks.items c.args.need c.args.mark n
    c.requires.parted
    (subst (λ (ks : List ℕ). AreMarked ks c.args.self.now.needs.items c.args.need c.args.mark c.loop-tile.self.needs.items c.loop-tile.self.marks.items) all c.loop-tile.invariant)
