use Rattle.std.proofs.Common.{◌≡◌, ◌-◌, length, [], IsTrue, ℕ, List}
use Rattle.gr_text.specs.Reading.{several}
use Rattle.ispd_reader.specs.Adjustments.{adjustment}
use Rattle.ispd_reader.proofs.adjustments.several_adjustments.Given as goal

abbrev pub invariant-loop : goal.invariant-loop
invariant-loop g l = record {
  reads : IsTrue g.S.TokenSource.tells →
      several (λ _. adjustment l.fn.design.frame.shape) (l.count - l.counter) l.design.adjustments (g.S.TokenSource.place l.source)
      ≡ several (λ _. adjustment l.fn.design.frame.shape) l.count [] (g.S.TokenSource.place l.fn.source);
  faults : g.S.TokenSource.faults l.source ≡ g.S.TokenSource.faults l.fn.source;
  origin : g.S.TokenSource.origin l.source ≡ g.S.TokenSource.origin l.fn.source;
  onward : (bytes : List ℕ) → g.S.TokenSource.reaches l.fn.source bytes → g.S.TokenSource.reaches l.source bytes;
  frame : l.design.frame ≡ l.fn.design.frame;
  nets : l.design.nets ≡ l.fn.design.nets;
  count : length l.design.adjustments ≡ l.counter;
}
