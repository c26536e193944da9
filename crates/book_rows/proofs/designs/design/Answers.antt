use Rattle.std.proofs.Common.{◌≡◌, ℕ, subst, arith}
use Rattle.book_rows.specs.Rows.{HasNets}
use Rattle.book_rows.proofs.Lines.{is-played}
use Rattle.book_rows.proofs.designs.design.Goals as goal

pub returns : goal.returns
returns c =
    let row = c.args.row in
    let all : c.loop-id.id ≡ row.nets = omega (arith, c.loop-id-test.false, c.loop-id.auto.id-end) in
    let has = subst (λ (n : ℕ). HasNets row.tiles n c.loop-id.design) all c.loop-id.invariant in
    is-played row.tiles row.nets row.room c.loop-id.design row.in_range has
