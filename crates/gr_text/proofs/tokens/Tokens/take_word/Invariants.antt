use Rattle.std.proofs.Common.{◌≡◌, ◌+◌, ◌-◌, ◌<◌, ◌++◌, length, IsTrue}
use Rattle.std.specs.List.{position_or_len}
use Rattle.gr_io.specs.Shelves.{KeepsShelf}
use Rattle.gr_text.specs.Tokens.{is_blank}
use Rattle.gr_text.specs.Streams.{usable}
use Rattle.gr_text.proofs.TakeLemmas.{IsPart}
use Rattle.gr_text.proofs.tokens.Tokens.take_word.Given as goal

abbrev pub invariant-parts : goal.invariant-parts
invariant-parts g l =
    record {
      is : l.self ≡ record l.fn.self { word = l.self.word; pending = l.self.pending; room = l.self.room };
      part : IsPart l.fn.self.room l.self;
      some : 0 < length l.self.word + position_or_len is_blank (usable l.self);
      bytes : IsTrue g.S.Shelf.tells → l.fn.self.pending ++ g.S.Shelf.left l.fn.shelf l.fn.self.slot ≡
          l.self.word ++ (l.self.pending ++ g.S.Shelf.left l.shelf l.fn.self.slot);
      faults : g.S.Shelf.faults l.shelf ≡ g.S.Shelf.faults l.fn.shelf;
      shelf : KeepsShelf g.S.Shelf.misses g.S.Shelf.reached g.S.Shelf.held l.fn.shelf l.shelf;
    }

abbrev pub decreases-parts : goal.decreases-parts
decreases-parts g l = l.self.room + l.self.room + (1 - length l.self.pending)
