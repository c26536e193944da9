use Rattle.std.proofs.Common.{ap, Option}
use Rattle.book_front.proofs.Prefixes.{prefix-all}
use Rattle.book_front.specs.declared.seat.PassSeat.{PassSeat}
use Rattle.track_book.specs.SeatOptions.{view_in}
use Rattle.track_book.proofs.PassSteps.{pass-begins}
use Rattle.track_book.proofs.pass.Pass.into_seat.Goals as goal

pub returns-clause-begins : goal.returns-clause-begins
returns-clause-begins g c = pass-begins _ _ c.self.inside.seat _ _ _ _ c.self.view_is (prefix-all (view_in c.self.inside.seat).seen) (ap (λ (o : Option PassSeat). (view_in o).seen) c.in-Some.is)
