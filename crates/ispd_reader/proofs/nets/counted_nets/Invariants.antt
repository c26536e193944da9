use Rattle.std.proofs.Common.{◌≡◌, ◌-◌, ◌≤◌, length, [], IsTrue, ℕ, List}
use Rattle.gr_base.specs.Limits.{most_pins}
use Rattle.gr_base.specs.Designs.{pins_of}
use Rattle.gr_text.specs.Reading.{several}
use Rattle.ispd_reader.specs.Nets.{net}
use Rattle.ispd_reader.proofs.nets.counted_nets.Given as goal

abbrev pub invariant-loop : goal.invariant-loop
invariant-loop g l = record {
  reads : IsTrue g.S.TokenSource.tells →
      several (net l.fn.design.frame) (l.count - l.counter) l.design.nets (g.S.TokenSource.place l.source)
      ≡ several (net l.fn.design.frame) l.count [] (g.S.TokenSource.place l.fn.source);
  faults : g.S.TokenSource.faults l.source ≡ g.S.TokenSource.faults l.fn.source;
  origin : g.S.TokenSource.origin l.source ≡ g.S.TokenSource.origin l.fn.source;
  onward : (bytes : List ℕ) → g.S.TokenSource.reaches l.fn.source bytes → g.S.TokenSource.reaches l.source bytes;
  frame : l.design.frame ≡ l.fn.design.frame;
  adjustments : l.design.adjustments ≡ l.fn.design.adjustments;
  count : length l.design.nets ≡ l.counter;
  pins : l.pins ≡ pins_of l.design.nets;
  most : l.pins ≤ most_pins;
}
