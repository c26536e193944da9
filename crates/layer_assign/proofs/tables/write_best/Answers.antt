use Rattle.std.proofs.Common.{arith}
use Rattle.layer_assign.proofs.TableLemmas.{number-within}
use Rattle.layer_assign.proofs.tables.write_best.Goals as goal

pub index_mut-requires : goal.index_mut-requires
index_mut-requires c =
    let number = number-within c.args.shape.layers c.args.span c.requires.span in
    let row = c.requires.row in
    omega (arith, number, row, c.place_in.ensures, c.args.least.now.ok.0)

pub index_mut-requires-2 : goal.index_mut-requires-2
index_mut-requires-2 c =
    let number = number-within c.args.shape.layers c.args.span c.requires.span in
    let row = c.requires.own in
    omega (arith, number, row, c.place_in-2.ensures, c.args.choices.now.ok.0)
