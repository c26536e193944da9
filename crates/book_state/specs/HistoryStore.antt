-- What the blocks of a history keep.
use Rattle.std.specs.Prelude.{◌≡◌, ℕ, ◌^◌, ◌<◌, ◌≤◌, List, ◌++◌, All, map, length, Vec}
use Rattle.std.specs.Global.{Global}
use Rattle.std.specs.Arc.{arc_value}
use Rattle.std.specs.List.{flat_map}
use Rattle.std.specs.declared.sync.Arc.{Arc}
use Rattle.book_state.specs.declared.entry.Entry.{Entry}
use Rattle.book_state.specs.declared.history.History.TheInside.{Inside}

-- how many entries a block has that is full
abbrev pub block_size : ℕ
block_size = 1024

-- a hold on an entry, and a block of them
abbrev pub Held : Type 0
Held = Arc Entry Global

abbrev pub Block : Type 0
Block = Arc (Vec Held Global) Global

abbrev pub entries_of : List Held → List Entry
entries_of held = map (λ (one : Held). arc_value one) held

abbrev pub items_of : Block → List Entry
items_of block = entries_of (arc_value block).items

-- the entries of full blocks and of the last block
abbrev pub entries_in : List Block → List Held → List Entry
entries_in blocks last = flat_map items_of blocks ++ entries_of last

abbrev pub AreFull : List Block → Type 0
AreFull blocks = All (λ (block : Block). length (arc_value block).items ≡ block_size) blocks

abbrev pub seen : Inside → List Entry
seen h = entries_in h.blocks.items h.last.items

-- blocks are full but for the last, and there are fewer than 2^62 entries
pub record Keeps (h : Inside) : Type 0 where
  pub full : AreFull h.blocks.items
  pub last : length h.last.items ≤ block_size
  pub few : length (seen h) < 2 ^ 62
