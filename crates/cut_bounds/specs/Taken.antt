-- Which walls are taken, so that no two of them share an edge.
use Rattle.std.specs.Prelude.{◌≡◌, ℕ, ◌-◌, ◌*◌, ◌<◌, Bool, false, nat_lt, List, [], ◌∷◌, ◌++◌}
use Rattle.std.specs.Prelude.{filter, fold, length, slice_index_or, if◌then◌else◌}
use Rattle.std.specs.List.{list_any}
use Rattle.gr_base.specs.Designs.{DesignView}
use Rattle.gr_base.specs.declared.grid.Shape.{Shape}
use Rattle.wall_laws.specs.Walls.{share_edge}
use Rattle.cut_bounds.specs.Candidates.{candidates, straight_cuts}
use Rattle.cut_bounds.specs.Measured.{is_overfull, ranked, tiles_in}
use Rattle.cut_bounds.specs.Places.{is_walled}
use Rattle.cut_bounds.specs.TileWires.{tiles_of}
use Rattle.cut_bounds.specs.declared.wall.MeasuredWall.{MeasuredWall}

-- by how much the nets need more than a wall holds
abbrev pub excess_of : MeasuredWall → ℕ
excess_of m = m.needs - m.holds

-- more is needed beyond what the first holds than beyond what the second does
abbrev pub has_more : MeasuredWall → MeasuredWall → Bool
has_more a b = nat_lt (excess_of b) (excess_of a)

-- a wall shares an edge with one of those that are taken
abbrev pub is_blocked_by : Shape → List MeasuredWall → MeasuredWall → Bool
is_blocked_by g taken m = list_any (λ other. share_edge g (tiles_in other.wall) (tiles_in m.wall)) taken

-- the walls with one more, if it shares no edge with one of them
abbrev pub take_apart : Shape → List MeasuredWall → MeasuredWall → List MeasuredWall
take_apart g taken m = if is_blocked_by g taken m then taken else taken ++ m ∷ []

-- the overfull straight cuts, and then the overfull boxes by falling excess
abbrev pub order_of : DesignView → List MeasuredWall
order_of d = filter is_overfull (straight_cuts d) ++ ranked has_more (candidates d)

-- those of them that share no edge with one that is taken before
abbrev pub taken_walls : DesignView → List MeasuredWall
taken_walls d = fold (take_apart d.frame.shape) [] (order_of d)

-- the wires of these walls are marked, by place
pub record AreMarks (g : Shape) (walls : List MeasuredWall) (marks : List Bool) : Type 0 where
  pub long : length marks ≡ 2 * tiles_of g
  pub each : (place : ℕ) → place < 2 * tiles_of g →
      slice_index_or marks place false ≡ list_any (λ m. is_walled g m.wall place) walls
