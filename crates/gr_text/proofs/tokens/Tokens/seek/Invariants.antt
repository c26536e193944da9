use Rattle.std.proofs.Common.{◌≡◌, ◌+◌, ◌-◌, [], ◌++◌, length, IsTrue}
use Rattle.gr_io.specs.Shelves.{KeepsShelf}
use Rattle.gr_text.specs.Steps.{Skips}
use Rattle.gr_text.proofs.tokens.Tokens.seek.Given as goal

abbrev pub invariant-blanks : goal.invariant-blanks
invariant-blanks g l =
    record {
      is : l.self ≡ record l.fn.self { word = []; pending = l.self.pending; room = l.self.room };
      skipped : IsTrue g.S.Shelf.tells → Skips l.fn.self.room (l.fn.self.pending ++ g.S.Shelf.left l.fn.shelf l.fn.self.slot)
          l.self.room (l.self.pending ++ g.S.Shelf.left l.shelf l.fn.self.slot);
      faults : g.S.Shelf.faults l.shelf ≡ g.S.Shelf.faults l.fn.shelf;
      shelf : KeepsShelf g.S.Shelf.misses g.S.Shelf.reached g.S.Shelf.held l.fn.shelf l.shelf;
    }

abbrev pub decreases-blanks : goal.decreases-blanks
decreases-blanks g l = l.self.room + l.self.room + (1 - length l.self.pending)
