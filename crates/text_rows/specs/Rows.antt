-- Worked examples of the text that is written and of the edges that a text covers, on a design of one net on 3 by 2 tiles and
-- two layers.
use Rattle.std.specs.Prelude.{◌≡◌, ℕ, pos, List, [], ◌∷◌, map, replicate, refl, codes}
use Rattle.std.specs.List.{flat_map, range_with_len}
use Rattle.gr_base.specs.declared.frame.Frame.{Frame}
use Rattle.gr_base.specs.declared.frame.Layer.{Layer}
use Rattle.gr_base.specs.declared.grid.Edge.{Edge}
use Rattle.gr_base.specs.declared.grid.Shape.{Shape}
use Rattle.gr_base.specs.declared.grid.Way.TheVariants.{East, North, Up}
use Rattle.gr_base.specs.Grid.{cells_of, edge_at}
use Rattle.gr_base.specs.Designs.{DesignView}
use Rattle.gr_base.specs.EdgeSets.{set_of}
use Rattle.solution_text.specs.Cover.{cover}
use Rattle.solution_text.specs.WrittenText.{written_text}

abbrev pub small_grid : Shape
small_grid = record { columns = 3; rows = 2; layers = 2; valid = refl }

abbrev pub plain_layer : Layer
plain_layer = record { vertical = 4; horizontal = 4; width = 1; spacing = 1; via = 1 }

abbrev pub small_frame : Frame
small_frame = record { shape = small_grid; layers = replicate 16 plain_layer; lower_x = pos 0; lower_y = pos 0; tile_width = 10; tile_height = 10 }

-- the design whose one net has pins on these cells
abbrev pub small_design : List ℕ → DesignView
small_design pins = record { frame = small_frame; nets = record { name = codes "a"; id = 0; width = 1; pins = pins } ∷ []; adjustments = [] }

-- a route along the first row, up, and to the next row
abbrev pub long_route : List Edge
long_route = edge_at 0 East ∷ edge_at 1 East ∷ edge_at 2 Up ∷ edge_at 8 North ∷ edge_at 5 Up ∷ []

abbrev pub every_edge : List Edge
every_edge = flat_map (λ cell. edge_at cell East ∷ edge_at cell North ∷ edge_at cell Up ∷ []) (range_with_len 0 (cells_of small_grid))

abbrev pub WritesLongRoute : Type 0
WritesLongRoute =
    written_text (small_design (0 ∷ 5 ∷ [])) (λ net. set_of long_route)
    ≡ codes "a 0\n(5,5,1)-(25,5,1)\n(25,5,2)-(25,15,2)\n(25,5,1)-(25,5,2)\n(25,15,1)-(25,15,2)\n!\n"

abbrev pub WritesNoEdge : Type 0
WritesNoEdge = written_text (small_design (0 ∷ 0 ∷ [])) (λ net. set_of []) ≡ codes "a 0\n!\n"

abbrev pub WritesOneVia : Type 0
WritesOneVia = written_text (small_design (0 ∷ 6 ∷ [])) (λ net. set_of (edge_at 0 Up ∷ [])) ≡ codes "a 0\n(5,5,1)-(5,5,2)\n!\n"

-- a number behind the id, segments that overlap, one inside a tile, and one that goes backward
abbrev pub CoversLongRoute : Type 0
CoversLongRoute =
    map (cover (small_design (0 ∷ 5 ∷ []))
    (codes "a 0 4\n(5,5,1)-(25,5,1)\n(15,5,1)-(25,5,1)\n(1,1,1)-(9,9,1)\n(25,5,1)-(25,5,2)\n(25,5,2)-(25,15,2)\n(25,15,2)-(25,15,1)\n!\n") 0) every_edge
    ≡ map (set_of long_route) every_edge
