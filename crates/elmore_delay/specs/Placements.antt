-- Placements of buffers at the nodes of a tree.
use Rattle.std.specs.Prelude.{◌≡◌, ℕ, ◌<◌, List, All, length, Option, None, IfSome, option_and_then, slice_index_or}
use Rattle.rc_library.specs.Libraries.{LibraryView, kind_of}
use Rattle.elmore_delay.specs.RcTrees.{Buffers}

-- the kind at a node, or none
abbrev pub placed_at : List (Option ℕ) → ℕ → Option ℕ
placed_at kinds node = slice_index_or kinds node None

-- node 0 holds no buffer
abbrev pub IsPlacement : List (Option ℕ) → Type 0
IsPlacement kinds = placed_at kinds 0 ≡ None

-- each kind is one of the library's
abbrev pub NamesKinds : LibraryView → List (Option ℕ) → Type 0
NamesKinds lib kinds = All (λ kind. IfSome kind (λ number. number < length lib.kinds)) kinds

-- the buffers of a placement
abbrev pub buffers_of : LibraryView → List (Option ℕ) → Buffers
buffers_of lib kinds node = option_and_then (kind_of lib) (placed_at kinds node)
