-- The nodes of the tree that is raised from an assignment, in the order in which they are hung.
use Rattle.std.specs.Prelude.{ℕ, zero, suc, ◌+◌, ◌-◌, List, [], ◌∷◌, length, unwrap_or, slice_index, if◌then◌else◌}
use Rattle.gr_base.specs.Trees.{TreeView, attached, holds, node_of, node_with}
use Rattle.gr_base.specs.declared.grid.Shape.{Shape}
use Rattle.layer_assign.specs.declared.span.Span.{Span}
use Rattle.layer_assign.specs.Spans.{span_of}
use Rattle.layer_assign.specs.Assignments.{cell_on, tile_of, level_of, tile_at, parent_of, met}

-- the tree with one cell hung on a neighbour
abbrev pub hung_on : TreeView → ℕ → ℕ → TreeView
hung_on t cell on = attached t (cell ∷ on ∷ [])

-- the tree with the next cells of a tile hung above the one on a layer, so many
abbrev pub rising : Shape → ℕ → ℕ → ℕ → TreeView → TreeView
rising g tile layer zero t = t
rising g tile layer (suc n) t = rising g tile (layer + 1) n (hung_on t (cell_on g tile (layer + 1)) (cell_on g tile layer))

-- the tree with so many cells of a tile hung one below another, down to a layer
abbrev pub sinking : Shape → ℕ → ℕ → ℕ → TreeView → TreeView
sinking g tile low zero t = t
sinking g tile low (suc n) t = sinking g tile low n (hung_on t (cell_on g tile (low + n)) (cell_on g tile (low + n + 1)))

-- the tree with the other cells of a tile's span hung on the one on a layer, first those above it
abbrev pub spreading : Shape → ℕ → ℕ → Span → TreeView → TreeView
spreading g tile layer s t = sinking g tile s.low (layer - s.low) (rising g tile layer (s.high - layer) t)

-- the tree with a tile, from the cell that a wire edge on a layer leads to from another tile
abbrev pub entering : Shape → ℕ → ℕ → ℕ → Span → TreeView → TreeView
entering g from tile layer s t = spreading g tile layer s (hung_on t (cell_on g tile layer) (cell_on g from layer))

-- the tree with the tile of a node, by the wire edge of a node, from the node at the other end
abbrev pub visiting : Shape → TreeView → (ℕ → ℕ) → (ℕ → Span) → ℕ → ℕ → ℕ → TreeView → TreeView
visiting g flat a spans edge from to t = entering g (tile_at flat from) (tile_at flat to) (a edge) (spans to) t

-- the tree with the tiles of a node's ancestors, the nearest first; there are at most as many as its number
abbrev pub climbing : Shape → TreeView → (ℕ → ℕ) → (ℕ → Span) → ℕ → ℕ → TreeView → TreeView
climbing g flat a spans zero node t = t
climbing g flat a spans (suc most) zero t = t
climbing g flat a spans (suc most) (suc below) t =
    let up = parent_of flat (suc below) in
    climbing g flat a spans most up (visiting g flat a spans (suc below) (suc below) up t)

-- the tree with the tile of a node, where it isn't in, from its parent
abbrev pub filled : Shape → TreeView → (ℕ → ℕ) → (ℕ → Span) → ℕ → TreeView → TreeView
filled g flat a spans node t =
    if holds t (cell_on g (tile_at flat node) (spans node).low) then t
    else visiting g flat a spans node (parent_of flat node) node t

-- the same for so many nodes from one on
abbrev pub filling : Shape → TreeView → (ℕ → ℕ) → (ℕ → Span) → ℕ → ℕ → TreeView → TreeView
filling g flat a spans zero node t = t
filling g flat a spans (suc n) node t = filling g flat a spans n (node + 1) (filled g flat a spans node t)

-- the tree of the cells of a span in a cell's tile, from the cell on
abbrev pub planted : Shape → ℕ → Span → TreeView
planted g cell s = spreading g (tile_of g cell) (level_of g cell) s (record { shape = g; nodes = node_of cell 0 ∷ [] })

-- the tree from a cell on: first the cell's tile, then those of its node's ancestors, then the others
abbrev pub raised_from : Shape → TreeView → (ℕ → ℕ) → (ℕ → Span) → ℕ → TreeView
raised_from g flat a spans cell =
    let start = unwrap_or (node_with flat.nodes (tile_of g cell)) 0 in
    filling g flat a spans (length flat.nodes - 1) 1 (climbing g flat a spans start start (planted g cell (spans start)))

-- the span of the layers that meet in a node's tile
abbrev pub met_span : Shape → TreeView → List ℕ → (ℕ → ℕ) → ℕ → Span
met_span g flat pins a node = unwrap_or (span_of (met g flat pins a node)) (record { low = 0; high = 0 })

-- the tree that is raised from an assignment, from the first pin's cell on
abbrev pub raised_tree : Shape → TreeView → List ℕ → (ℕ → ℕ) → TreeView
raised_tree g flat pins a = raised_from g flat a (met_span g flat pins a) (slice_index pins 0)
