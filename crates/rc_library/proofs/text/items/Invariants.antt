use Rattle.std.proofs.Common.{◌≡◌, ◌-◌, IsTrue, ℕ, List}
use Rattle.gr_base.specs.Limits.{most_bytes}
use Rattle.rc_library.specs.Gathered.{IsLike}
use Rattle.rc_library.specs.LibraryText.{items}
use Rattle.rc_library.proofs.text.items.Given as goal

abbrev pub invariant-loop : goal.invariant-loop
invariant-loop g l = record {
  reads : IsTrue g.S.TokenSource.tells → items (most_bytes - l.counter) l.design l.gathered (g.S.TokenSource.place l.source)
      ≡ items most_bytes l.design l.fn.gathered (g.S.TokenSource.place l.fn.source);
  faults : g.S.TokenSource.faults l.source ≡ g.S.TokenSource.faults l.fn.source;
  origin : g.S.TokenSource.origin l.source ≡ g.S.TokenSource.origin l.fn.source;
  onward : (bytes : List ℕ) → g.S.TokenSource.reaches l.fn.source bytes → g.S.TokenSource.reaches l.source bytes;
  like : IsLike l.fn.gathered l.gathered;
}
