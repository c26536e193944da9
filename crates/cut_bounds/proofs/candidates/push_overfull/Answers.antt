use Rattle.std.proofs.Common.{◌≡◌, ℕ, ◌*◌, ◌<◌, ◌^◌, ◌++◌, length, ap, sym, subst, ◌∙◌, arith}
use Rattle.std.proofs.lemmas.List.{append-nil}
use Rattle.std.proofs.lemmas.Nat.{pow_pos}
use Rattle.std.proofs.Math.Nat.{div-le_self}
use Rattle.gr_base.specs.declared.grid.Shape.{Shape}
use Rattle.cut_bounds.specs.Boxes.{across_of, boxes_on, IsOnChip}
use Rattle.cut_bounds.specs.Cuts.{tile_at}
use Rattle.cut_bounds.specs.declared.axis.Tile.{Tile}
use Rattle.cut_bounds.specs.declared.wall.TileBox.{TileBox}
use Rattle.cut_bounds.proofs.BoxLemmas.{count-most}
use Rattle.cut_bounds.proofs.CandidateLemmas.{area-is, boxes-same, candidate-more, candidate-passed, candidates_to, corner-on, end-on, test-is, wall-is}
use Rattle.cut_bounds.proofs.CutLemmas.{tile-first}
use Rattle.cut_bounds.proofs.candidates.push_overfull.Goals as goal

place-on : (g : Shape) (level across n m : ℕ) (place : Tile) → across ≡ across_of g level → place ≡ tile_at across n → n < m → m ≡ boxes_on g level →
    IsOnChip g (record { x = place.x * 2 ^ level; y = place.y * 2 ^ level })
place-on g level across n m place wide at inside all =
    subst (λ (t : Tile). IsOnChip g (record { x = t.x * 2 ^ level; y = t.y * 2 ^ level })) (sym (at ∙ ap (λ (a : ℕ). tile_at a n) wide))
    (corner-on g level n (omega (arith, inside, all)))

pub loop-number-init : goal.loop-number-init
loop-number-init c = record {
  place = sym (tile-first c.args.boxes.across (omega (arith, c.args.boxes.wide)));
  found = λ d same are. sym (append-nil c.args.found.now.items);
}

pub area-area-requires : goal.area-area-requires
area-area-requires c =
    place-on c.args.boxes.shape c.args.boxes.level c.args.boxes.across c.loop-number.number (length c.args.needs.now) c.loop-number.place c.args.boxes.wide c.loop-number.invariant.place c.loop-number-test.true c.requires.needs

pub next-place-requires-clause-y : goal.next-place-requires-clause-y
next-place-requires-clause-y c =
    let y = ap (λ (t : Tile). t.y) c.loop-number.invariant.place in
    let most = count-most c.args.boxes.shape c.args.boxes.level in
    let low = div-le_self c.loop-number.number c.args.boxes.across in
    omega (arith, y, most, low, c.loop-number-test.true, c.requires.needs)

pub has_candidate-requires-clause-first : goal.has_candidate-requires-clause-first
has_candidate-requires-clause-first c =
    subst (λ (b : TileBox). IsOnChip c.args.boxes.shape (record { x = b.x0; y = b.y0 })) (sym c.area-area.ensures)
    (place-on c.args.boxes.shape c.args.boxes.level c.args.boxes.across c.loop-number.number (length c.args.needs.now) c.loop-number.place c.args.boxes.wide c.loop-number.invariant.place c.loop-number-test.true c.requires.needs)

pub has_candidate-requires-clause-last : goal.has_candidate-requires-clause-last
has_candidate-requires-clause-last c =
    subst (λ (b : TileBox). IsOnChip c.args.boxes.shape (record { x = b.x1; y = b.y1 })) (sym c.area-area.ensures)
    (end-on c.args.boxes.shape (2 ^ c.args.boxes.level) (c.loop-number.place.x * 2 ^ c.args.boxes.level) (c.loop-number.place.y * 2 ^ c.args.boxes.level) (pow_pos c.args.boxes.level)
    (place-on c.args.boxes.shape c.args.boxes.level c.args.boxes.across c.loop-number.number (length c.args.needs.now) c.loop-number.place c.args.boxes.wide c.loop-number.invariant.place c.loop-number-test.true c.requires.needs))

pub loop-number-preserved-then-not-has_candidate : goal.loop-number-preserved-then-not-has_candidate
loop-number-preserved-then-not-has_candidate c = record {
  place = c.next-place.ensures c.loop-number.number c.loop-number.invariant.place;
  found = λ d same are.
      let each = are.each c.loop-number.number (boxes-same d c.args.boxes.shape c.args.boxes.level c.loop-number.number (length c.args.needs.now) same c.loop-number-test.true c.requires.needs) in
      let area = area-is c.args.boxes.shape c.args.boxes.level c.args.boxes.across c.loop-number.number c.loop-number.place c.area-area.result c.args.boxes.wide c.loop-number.invariant.place c.area-area.ensures in
      candidate-passed d c.args.boxes.level c.loop-number.number c.args.found.now.items c.loop-number.found.items
      (test-is d c.args.boxes.shape c.args.boxes.level c.loop-number.number _ _ c.area-area.result c.has_candidate.result same area each.0 each.1 c.has_candidate.ensures ∙ c.if-not-has_candidate.true)
      (c.loop-number.invariant.found d same are);
}

pub loop-number-preserved : goal.loop-number-preserved
loop-number-preserved c = record {
  place = c.next-place.ensures c.loop-number.number c.loop-number.invariant.place;
  found = λ d same are.
      let each = are.each c.loop-number.number (boxes-same d c.args.boxes.shape c.args.boxes.level c.loop-number.number (length c.args.needs.now) same c.loop-number-test.true c.requires.needs) in
      let area = area-is c.args.boxes.shape c.args.boxes.level c.args.boxes.across c.loop-number.number c.loop-number.place c.area-area.result c.args.boxes.wide c.loop-number.invariant.place c.area-area.ensures in
      candidate-more d c.args.boxes.level c.loop-number.number c.args.found.now.items c.loop-number.found.items c.push.new.self.items _
      (test-is d c.args.boxes.shape c.args.boxes.level c.loop-number.number _ _ c.area-area.result c.has_candidate.result same area each.0 each.1 c.has_candidate.ensures ∙ c.if-not-has_candidate.false)
      (c.loop-number.invariant.found d same are) c.in_ok-push.ensures.items
      (wall-is d c.args.boxes.shape c.args.boxes.level c.loop-number.number _ _ c.area-area.result same area each.0 each.1);
}

pub returns : goal.returns
returns c d same are =
    let long : c.loop-number.number ≡ boxes_on c.args.boxes.shape c.args.boxes.level = omega (arith, c.loop-number-test.false, c.loop-number.auto.number-end, c.requires.needs) in
    let all : c.loop-number.number ≡ boxes_on d.frame.shape c.args.boxes.level = long ∙ ap (λ (s : Shape). boxes_on s c.args.boxes.level) (sym same) in
    c.loop-number.invariant.found d same are ∙ ap (λ (n : ℕ). c.args.found.now.items ++ candidates_to d c.args.boxes.level n) all
