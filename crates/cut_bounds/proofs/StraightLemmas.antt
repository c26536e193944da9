-- The straight cuts, line by line.
use Rattle.std.proofs.Common.{◌≡◌, ℕ, ◌+◌, ◌<◌, List, [], ◌∷◌, ◌++◌, map, append_assoc, sym, ap, ◌∙◌, arith}
use Rattle.std.specs.List.{range_with_len}
use Rattle.std.proofs.lemmas.List.{map-append}
use Rattle.gr_base.proofs.General.{range-more}
use Rattle.gr_base.specs.Designs.{DesignView}
use Rattle.wall_laws.specs.Walls.{needs, holds}
use Rattle.cut_bounds.proofs.MeaningLemmas.{column-needs, row-needs, column-holds, row-holds}
use Rattle.cut_bounds.specs.Cuts.{lines_of, line_needs, line_holds}
use Rattle.cut_bounds.specs.Measured.{measured, tiles_in}
use Rattle.cut_bounds.specs.NetTiles.{placed_nets}
use Rattle.cut_bounds.specs.Straight.{first_cuts, wall_behind}
use Rattle.cut_bounds.specs.TileWires.{AreTileWires}
use Rattle.cut_bounds.specs.declared.axis.Axis.{Axis}
use Rattle.cut_bounds.specs.declared.axis.Axis.TheVariants.{Columns, Rows}
use Rattle.cut_bounds.specs.declared.tile_wires.TileWires.{TileWires}
use Rattle.cut_bounds.specs.declared.wall.MeasuredWall.{MeasuredWall}
use Rattle.cut_bounds.specs.declared.wall.Wall.{Wall}

cut-needs : (d : DesignView) (axis : Axis) (line : ℕ) → needs d (tiles_in (wall_behind axis line)) ≡ line_needs axis line (placed_nets d)
cut-needs d Columns line = column-needs d line
cut-needs d Rows line = row-needs d line

cut-holds : (d : DesignView) (axis : Axis) (line : ℕ) (wires : TileWires) → AreTileWires d wires → line + 1 < lines_of d.frame.shape axis →
    holds d (tiles_in (wall_behind axis line)) ≡ line_holds d.frame.shape axis line wires
cut-holds d Columns line wires are inside = column-holds d line wires are inside
cut-holds d Rows line wires are inside = row-holds d line wires are inside

abbrev wall_with : Wall → ℕ → ℕ → MeasuredWall
wall_with w n h = record { wall = w; needs = n; holds = h }

-- one cut more
pub cut-more : (d : DesignView) (axis : Axis) (line : ℕ) (wires : TileWires) (wall : Wall) (need hold : ℕ) (start before after : List MeasuredWall) →
    AreTileWires d wires → line + 1 < lines_of d.frame.shape axis → wall ≡ wall_behind axis line → need ≡ line_needs axis line (placed_nets d) →
    hold ≡ line_holds d.frame.shape axis line wires → before ≡ start ++ first_cuts d axis line →
    after ≡ before ++ record { wall = wall; needs = need; holds = hold } ∷ [] → after ≡ start ++ first_cuts d axis (line + 1)
cut-more d axis line wires wall need hold start before after are inside behind needed held was is =
    let one : MeasuredWall = record { wall = wall; needs = need; holds = hold } in
    let same : one ≡ measured d (wall_behind axis line) =
    ap (λ (w : Wall). wall_with w need hold) behind ∙ ap (λ (n : ℕ). wall_with (wall_behind axis line) n hold) (needed ∙ sym (cut-needs d axis line))
    ∙ ap (λ (n : ℕ). wall_with (wall_behind axis line) (needs d (tiles_in (wall_behind axis line))) n) (held ∙ sym (cut-holds d axis line wires are inside)) in
    let e : 0 + line ≡ line = omega arith in
    let more : first_cuts d axis (line + 1) ≡ first_cuts d axis line ++ measured d (wall_behind axis line) ∷ [] =
    ap (λ (ns : List ℕ). map (measured d) (map (wall_behind axis) ns)) (range-more 0 line ∙ ap (λ (n : ℕ). range_with_len 0 line ++ n ∷ []) e)
    ∙ ap (map (measured d)) (map-append (wall_behind axis) (range_with_len 0 line) (line ∷ []))
    ∙ map-append (measured d) (map (wall_behind axis) (range_with_len 0 line)) (wall_behind axis line ∷ []) in
    is ∙ ap (λ (ws : List MeasuredWall). ws ++ one ∷ []) was ∙ append_assoc start (first_cuts d axis line) (one ∷ [])
    ∙ ap (λ (m : MeasuredWall). start ++ (first_cuts d axis line ++ m ∷ [])) same ∙ ap (λ (ws : List MeasuredWall). start ++ ws) (sym more)
