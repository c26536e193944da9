use Rattle.std.proofs.Common.{arith}
use Rattle.layer_assign.proofs.FlatLemmas.{few_layers}
use Rattle.layer_assign.proofs.TableLemmas.{number-within, place-small}
use Rattle.layer_assign.proofs.tiles.choice_at.Goals as goal

pub offset_bounds-choices-place_in : goal.offset_bounds-choices-place_in
offset_bounds-choices-place_in c =
    let small = place-small c.args.shape.layers c.args.node c.args.span (few_layers c.args.shape) c.requires.node c.requires.span in
    omega (arith, small, c.place_in.ensures)

pub bounds-choices-place_in : goal.bounds-choices-place_in
bounds-choices-place_in c =
    let number = number-within c.args.shape.layers c.args.span c.requires.span in
    let row = c.requires.row in
    omega (arith, number, row, c.place_in.ensures)
