-- Copies of the booked trees.
use Rattle.std.proofs.Common.{◌≡◌, ℕ, ◌<◌, ◌≤◌, List, map, length, get_or, Option, None, arith}
use Rattle.std.specs.List.{range_with_len}
use Rattle.std.proofs.lemmas.List.FromFn.{fill_by_all}
use Rattle.gr_base.specs.Trees.{TreeView}

-- of so many trees those before one net are set
pub record AreCopied (f : ℕ → Option TreeView) (net nets : ℕ) (trees : List (Option TreeView)) : Type 0 where
  pub long : length trees ≡ nets
  pub before : (k : ℕ) → k < net → k < nets → get_or trees k None ≡ f k
  pub after : (k : ℕ) → net ≤ k → k < nets → get_or trees k None ≡ None

pub copied-all : (f : ℕ → Option TreeView) (net nets : ℕ) (trees : List (Option TreeView)) → nets ≤ net → AreCopied f net nets trees → trees ≡ map f (range_with_len 0 nets)
copied-all f net nets trees all are = fill_by_all f trees nets None are.long (λ k below. are.before k (omega arith) below)
