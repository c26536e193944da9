use Rattle.std.proofs.Common.{◌+◌, length, sym, ap, subst}
use Rattle.book_rows.specs.Rows.{HasNets}
use Rattle.book_rows.proofs.Lines.{nets-next}
use Rattle.book_rows.proofs.designs.push.Goals as goal

pub returns : goal.returns
returns c =
    let net = c.in_ok-net.field-0 in
    let is = c.in_ok-net.ensures in
    let next = nets-next (c.args.last + 1) c.args.id net c.args.design.now is.id (ap length is.pins) c.requires.design in
    subst (HasNets (c.args.last + 1) (c.args.id + 1)) (sym c.in-Ok.ensures.ok) next
