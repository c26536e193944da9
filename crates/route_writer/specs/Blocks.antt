-- Texts of blocks of nets, which are put side by side.
use Rattle.std.specs.Prelude.{◌≡◌, ℕ, ◌+◌, ◌<◌, List, [], ◌∷◌, ◌++◌, length, Option, slice_index_or, if◌then◌else◌, IsTrue}
use Rattle.beside_calls.specs.Blocks.{block_start}
use Rattle.gr_base.specs.Designs.{DesignView}
use Rattle.gr_base.specs.Trees.{TreeView}
use Rattle.route_writer.specs.RouteTexts.{nets_text}
use Rattle.route_writer.specs.declared.blocks.BlockRecords.{BlockRecords}

-- a block that is whole has the records of these nets
abbrev pub IsPut : DesignView → List (Option TreeView) → (first last : ℕ) → BlockRecords → Type 0
IsPut d trees first last b = IsTrue b.whole → b.draft.text ≡ nets_text d trees first last

-- each block that is whole has the records of its nets
abbrev pub ArePut : DesignView → List (Option TreeView) → (from size : ℕ) → List BlockRecords → Type 0
ArePut d trees from size blocks =
    (at : ℕ) → (b : BlockRecords) → at < length blocks →
    IsPut d trees (block_start (length d.nets) from size at) (block_start (length d.nets) from size (at + 1)) (slice_index_or blocks at b)

-- the texts of the blocks, up to the first that isn't whole
abbrev pub texts_of : List BlockRecords → List ℕ
texts_of [] = []
texts_of (b ∷ bs) = if b.whole then b.draft.text ++ texts_of bs else []
