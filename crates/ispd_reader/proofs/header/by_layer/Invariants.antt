use Rattle.std.proofs.Common.{◌≡◌, ◌-◌, ◌≤◌, All, replicate, length, take, drop, [], IsTrue, ℕ, List}
use Rattle.gr_text.specs.Reading.{natural, several}
use Rattle.ispd_reader.specs.Faults.{ends}
use Rattle.ispd_reader.specs.declared.fault.DesignFault.TheVariants.{Number}
use Rattle.ispd_reader.proofs.header.by_layer.Given as goal

abbrev pub invariant-loop-layer : goal.invariant-loop-layer
invariant-loop-layer g l = record {
  count : length l.numbers ≡ 16;
  reads : IsTrue g.S.TokenSource.tells →
      several (λ _. natural ends Number l.most) (l.layers - l.layer) (take l.layer l.numbers) (g.S.TokenSource.place l.source)
      ≡ several (λ _. natural ends Number l.most) l.layers [] (g.S.TokenSource.place l.fn.source);
  faults : g.S.TokenSource.faults l.source ≡ g.S.TokenSource.faults l.fn.source;
  origin : g.S.TokenSource.origin l.source ≡ g.S.TokenSource.origin l.fn.source;
  onward : (bytes : List ℕ) → g.S.TokenSource.reaches l.fn.source bytes → g.S.TokenSource.reaches l.source bytes;
  most : All (λ n. n ≤ l.most) l.numbers;
  others : drop l.layer l.numbers ≡ replicate (16 - l.layer) 0;
}
