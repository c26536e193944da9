-- Chains of runs by the cells in which they begin.
use Rattle.std.specs.Prelude.{◌≡◌, ℕ, ◌<◌, ◌==◌, List, [], ◌∷◌, length, fold, All, Option, Some, None, slice_get, slice_index_or, IfSome, IsSomeAnd, if◌then◌else◌}
use Rattle.gr_base.specs.Grid.{cells_of}
use Rattle.gr_base.specs.declared.grid.Shape.{Shape}
use Rattle.solution_text.specs.declared.run.Run.{Run}
use Rattle.panel_text.specs.declared.starts.Start.{Start}
use Rattle.panel_text.specs.declared.starts.Starts.{Starts}

-- the nets of a chain's runs, each with the cell in which the run ends, from the chain's head on
abbrev pub IsChain : List Start → (head : Option ℕ) → List (ℕ × ℕ) → Type 0
IsChain runs head [] = head ≡ None
IsChain runs head (start ∷ starts) =
    IsSomeAnd head (λ number. IsSomeAnd (slice_get runs number) (λ run.
    (run.net ≡ start.0) × (run.to ≡ start.1) × IsChain runs run.next starts))

-- the first run of a cell
abbrev pub first_at : List (Option ℕ) → (cell : ℕ) → Option ℕ
first_at firsts cell = slice_index_or firsts cell None

-- the number is that of one of so many runs, if there is one
abbrev pub IsBelow : ℕ → Option ℕ → Type 0
IsBelow count number = IfSome number (λ n. n < count)

-- each run ends in a cell of the grid, and the next of its chain came before it
pub record AreInGrid (g : Shape) (s : Starts) : Type 0 where
  pub cells : length s.firsts.items ≡ cells_of g
  pub firsts : All (IsBelow (length s.runs.items)) s.firsts.items
  pub ends : All (λ run. run.to < cells_of g) s.runs.items
  pub back : (number : ℕ) → (run : Start) → slice_get s.runs.items number ≡ Some run → IsBelow number run.next

-- each cell's chain
abbrev pub HaveChains : (chains : ℕ → List (ℕ × ℕ)) → Starts → Type 0
HaveChains chains s = (cell : ℕ) → cell < length s.firsts.items →
    IsChain s.runs.items (first_at s.firsts.items cell) (chains cell)

-- the chains with one more run, and with more
abbrev pub with_run : (net : ℕ) → Run → (ℕ → List (ℕ × ℕ)) → ℕ → List (ℕ × ℕ)
with_run net run chains cell = if run.from == cell then (net, run.to) ∷ chains cell else chains cell

abbrev pub with_runs : (net : ℕ) → List Run → (ℕ → List (ℕ × ℕ)) → ℕ → List (ℕ × ℕ)
with_runs net runs chains = fold (λ so_far run. with_run net run so_far) chains runs
