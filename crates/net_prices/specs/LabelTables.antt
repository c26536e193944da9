-- Labels of cells.
use Rattle.std.specs.Prelude.{◌≡◌, ℕ, ◌<◌, false, List, length, slice_index, All, IsTrue}
use Rattle.gr_base.specs.Trees.{is_among}
use Rattle.net_prices.specs.Arcs.{nothing}

-- the label of each cell, and the cells that have one
pub record LabelsView : Type 0 where
  pub table : List ℕ
  pub cells : List ℕ

-- each cell with a label is listed
pub record AreLabels (l : LabelsView) : Type 0 where
  pub below : All (λ cell. cell < length l.table) l.cells
  pub listed : (cell : ℕ) → cell < length l.table → slice_index l.table cell < nothing → IsTrue (is_among l.cells cell)

-- these cells have no label any more, and no other cell gained one
abbrev pub IsUnlabelled : (old new cells : List ℕ) → Type 0
IsUnlabelled old new cells =
    (cell : ℕ) → slice_index new cell < nothing → (slice_index old cell < nothing) × (is_among cells cell ≡ false)
