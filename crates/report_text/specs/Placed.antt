-- Buffers that are gathered from a tree's nodes.
use Rattle.std.specs.Prelude.{ℕ, List, length, map, Option, unwrap_or}
use Rattle.std.specs.List.{filter_map, range_with_len}
use Rattle.std.specs.Option.{option_map}
use Rattle.gr_base.specs.Trees.{TreeView, cell_at}
use Rattle.elmore_delay.specs.Placements.{placed_at}
use Rattle.report_text.specs.BufferTexts.{kind_on, buffered_cells}
use Rattle.report_text.specs.declared.buffer_text.Buffered.{Buffered}

-- the buffer at a node, with the node's cell
abbrev pub buffered_at : TreeView → List (Option ℕ) → ℕ → Option Buffered
buffered_at t kinds node =
    option_map (λ kind. record { cell = unwrap_or (cell_at t.nodes node) 0; kind = kind }) (placed_at kinds node)

-- the buffers of a tree, by its nodes below a number
abbrev pub buffered_before : TreeView → List (Option ℕ) → ℕ → List Buffered
buffered_before t kinds n = filter_map (buffered_at t kinds) (range_with_len 0 n)

-- the buffers of a tree, by its nodes
abbrev pub buffered_nodes : TreeView → List (Option ℕ) → List Buffered
buffered_nodes t kinds = buffered_before t kinds (length t.nodes)

-- the buffers of a tree, rising by their cells
abbrev pub rising_buffers : TreeView → List (Option ℕ) → List Buffered
rising_buffers t kinds =
    map (λ cell. record { cell = cell; kind = unwrap_or (kind_on t kinds cell) 0 }) (buffered_cells t kinds)
