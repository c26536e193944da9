-- The number of all pins, with one net more.
use Rattle.std.proofs.Common.{◌≡◌, ◌+◌, List, [], ◌∷◌, ◌++◌, length, arith}
use Rattle.std.proofs.lemmas.List.Sums.{sum_by-append}
use Rattle.gr_base.specs.declared.frame.Net.{Net}
use Rattle.gr_base.specs.Designs.{pins_of}

-- one more net has its pins besides
pub pins_of-push : (nets : List Net) (net : Net) → pins_of (nets ++ net ∷ []) ≡ pins_of nets + length net.pins
pins_of-push nets net = let sum = sum_by-append (λ (n : Net). length n.pins) nets (net ∷ []) in omega (arith, sum)
