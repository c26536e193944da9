-- What a run hands back: the book of its rounds, and which entries are whose.
use Rattle.std.specs.Prelude.{Option, Vec}
use Rattle.std.specs.Global.{Global}
use Rattle.std.specs.Option.{option_map}
use Rattle.run_histories.specs.declared.hands.HandLog.{HandLog}
use Rattle.track_book.specs.declared.closed.ClosedBook.{ClosedBook}
use Rattle.router_top.specs.declared.kept.Kept.{Kept}

-- a book that is handed back, with the logs beside it
abbrev pub handed_back : Option ClosedBook → Vec HandLog Global → Option Kept
handed_back book hands = option_map (λ (b : ClosedBook). record { book = b; hands = hands }) book
