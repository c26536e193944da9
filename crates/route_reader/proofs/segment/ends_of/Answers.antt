use Rattle.std.specs.Prelude.{[], codes}
use Rattle.route_reader.proofs.FormLemmas.{of-none, of-point, with-lead, with-other, with-rest, with-numbers}
use Rattle.route_reader.proofs.segment.ends_of.Goals as goal
use Rattle.route_reader.proofs.segment.ends_of.Goals.{then-not-is_empty-via-then-not-is_empty, then-not-is_empty-via-else-not-is_empty+then-ne, then-not-is_empty-via-else-not-is_empty+else-ne+then-not-is_empty-2}

pub returns-in_err-from : goal.returns-in_err-from
returns-in_err-from c frame =
    rw (c.from_residual.ensures) (of-none frame c.args.token.now (rw (c.in_err-from.was) at (c.point.ensures (codes "(,,)"))))

pub returns-in_err-to : goal.returns-in_err-to
returns-in_err-to c frame =
    rw (c.from_residual-in_err-to.ensures) (of-point frame c.args.token.now c.in_ok-from.from c.in_ok-from.ensures (rw (c.in_err-to.was) at (c.point-2.ensures [])))

pub returns-then-not-is_empty : goal.returns-then-not-is_empty
returns-then-not-is_empty c frame =
    elim c.then-not-is_empty.branch [
      | then-not-is_empty-via-then-not-is_empty w ↦
          with-lead frame c.args.token.now c.in_ok-from.from c.in_ok-to.to c.in_ok-from.ensures c.in_ok-to.ensures w.if-not-is_empty.ensures
      | then-not-is_empty-via-else-not-is_empty+then-ne w ↦
          with-other frame c.args.token.now c.in_ok-from.from c.in_ok-to.to c.in_ok-from.ensures c.in_ok-to.ensures (rw (w.as_slice.ensures) at w.if-ne.ensures)
      | then-not-is_empty-via-else-not-is_empty+else-ne+then-not-is_empty-2 w ↦
          with-rest frame c.args.token.now c.in_ok-from.from c.in_ok-to.to c.in_ok-from.ensures c.in_ok-to.ensures w.if-not-is_empty-2.ensures
    ]

pub returns : goal.returns
returns c frame =
    with-numbers frame c.args.token.now c.in_ok-from.from c.in_ok-to.to c.in_ok-from.ensures c.in_ok-to.ensures
    c.if-not-is_empty.ensures (rw (c.as_slice.ensures) at c.if-ne.ensures) c.if-not-is_empty-2.ensures
