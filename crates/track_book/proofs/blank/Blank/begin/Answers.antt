use Rattle.std.proofs.Common.{subst, ap, ◌∙◌}
use Rattle.atomic_table.specs.Seated.{TableId}
use Rattle.track_book.specs.Passes.{BlankView}
use Rattle.track_book.specs.SeatOptions.{AreNewSeats}
use Rattle.track_book.proofs.blank.Blank.begin.Goals as goal

pub passes_of-requires-clause-each : goal.passes_of-requires-clause-each
passes_of-requires-clause-each g c =
    let word = ap (λ (b : BlankView). b.word) c.self.view_is ∙ c.requires.word in
    subst (λ (w : TableId). AreNewSeats w c.self.inside.seats.items) word c.self.invariant.seats_are.each
