use Rattle.std.proofs.Common.{ℕ, List, All, length, sym, ap, subst, ◌∙◌, arith}
use Rattle.gr_base.specs.declared.grid.Shape.{Shape}
use Rattle.cut_bounds.specs.Boxes.{IsOnChip}
use Rattle.cut_bounds.specs.Candidates.{AreMeasured}
use Rattle.cut_bounds.specs.NetTiles.{Placed, placed_in}
use Rattle.cut_bounds.specs.TileWires.{tiles_of}
use Rattle.cut_bounds.proofs.DesignLemmas.{boxes-measured, code-wires}
use Rattle.cut_bounds.proofs.boxes_of.push_side.Goals as goal

pub needs_by_box-requires-clause-within : goal.needs_by_box-requires-clause-within
needs_by_box-requires-clause-within c =
    subst (λ (s : Shape). All (λ (net : Placed). All (IsOnChip s) net.tiles) (placed_in c.args.nets.now)) (sym c.requires.shape) c.requires.left.within

pub needs_by_box-requires-clause-few : goal.needs_by_box-requires-clause-few
needs_by_box-requires-clause-few c = c.requires.left.few

pub needs_by_box-requires-clause-few_nets : goal.needs_by_box-requires-clause-few_nets
needs_by_box-requires-clause-few_nets c = c.requires.left.few_nets

pub holds_by_box-requires-clause-east : goal.holds_by_box-requires-clause-east
holds_by_box-requires-clause-east c = c.requires.wires.east ∙ sym (ap (λ (s : Shape). tiles_of s) c.requires.shape)

pub holds_by_box-requires-clause-north : goal.holds_by_box-requires-clause-north
holds_by_box-requires-clause-north c = c.requires.wires.north ∙ sym (ap (λ (s : Shape). tiles_of s) c.requires.shape)

pub holds_by_box-requires-clause-few : goal.holds_by_box-requires-clause-few
holds_by_box-requires-clause-few c = code-wires c.args.design.now c.args.boxes.shape c.args.wires.now c.requires.design c.requires.shape c.requires.wires

pub push_overfull-requires-clause-needs : goal.push_overfull-requires-clause-needs
push_overfull-requires-clause-needs c = ap (λ (xs : List ℕ). length xs) c.deref.ensures.value ∙ c.in_ok-needs.ensures.long

pub push_overfull-requires-clause-holds : goal.push_overfull-requires-clause-holds
push_overfull-requires-clause-holds c = ap (λ (xs : List ℕ). length xs) c.deref-2.ensures.value ∙ c.in_ok-holds.ensures.long

pub returns : goal.returns
returns c =
    let d = c.args.design.now in
    let level = c.args.boxes.level in
    let are = boxes-measured d c.args.boxes.shape level (placed_in c.args.nets.now) c.args.wires.now c.in_ok-needs.needs.items c.in_ok-holds.holds.items
    c.requires.shape (λ n. c.requires.left.same level n (omega arith)) c.requires.design c.requires.wires c.in_ok-needs.ensures.needs c.in_ok-holds.ensures.holds in
    let read : AreMeasured d level c.deref.result.now c.deref-2.result.now =
    subst (λ (xs : List ℕ). AreMeasured d level xs c.deref-2.result.now) (sym c.deref.ensures.value)
    (subst (λ (ys : List ℕ). AreMeasured d level c.in_ok-needs.needs.items ys) (sym c.deref-2.ensures.value) are) in
    c.in_ok-push_overfull.ensures d (sym c.requires.shape) read
