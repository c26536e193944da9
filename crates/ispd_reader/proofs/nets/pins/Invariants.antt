use Rattle.std.proofs.Common.{◌≡◌, ◌-◌, ◌<◌, All, length, [], IsTrue, ℕ, List}
use Rattle.gr_base.specs.Grid.{cells_of}
use Rattle.gr_text.specs.Reading.{several}
use Rattle.ispd_reader.specs.Nets.{pin}
use Rattle.ispd_reader.proofs.nets.pins.Given as goal

abbrev pub invariant-loop : goal.invariant-loop
invariant-loop g l = record {
  reads : IsTrue g.S.TokenSource.tells →
      several (λ _. pin l.design.frame) (l.count - l.counter) l.pins (g.S.TokenSource.place l.source)
      ≡ several (λ _. pin l.design.frame) l.count [] (g.S.TokenSource.place l.fn.source);
  faults : g.S.TokenSource.faults l.source ≡ g.S.TokenSource.faults l.fn.source;
  origin : g.S.TokenSource.origin l.source ≡ g.S.TokenSource.origin l.fn.source;
  onward : (bytes : List ℕ) → g.S.TokenSource.reaches l.fn.source bytes → g.S.TokenSource.reaches l.source bytes;
  count : length l.pins ≡ l.counter;
  cells : All (λ pin. pin < cells_of l.design.frame.shape) l.pins;
}
