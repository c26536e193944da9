-- The figures that walls and pins give are bounds.
use Rattle.std.proofs.Common.{◌≡◌, ℕ, ◌+◌, ◌-◌, ◌≤◌, List, [], ◌∷◌, All, sum_by, refl, arith}
use Rattle.std.proofs.lemmas.List.Elements.{All-head, All-tail}
use Rattle.std.proofs.lemmas.List.Sums.{sum_by-cons}
use Rattle.gr_base.specs.Designs.{DesignView, IsDesign}
use Rattle.wall_laws.proofs.LengthLemmas.{wirelength-law, usable-wirelength-law}
use Rattle.wall_laws.proofs.OverflowLemmas.{walls-need}
use Rattle.wall_laws.specs.Laws.{AreBounds}
use Rattle.wall_laws.specs.Spans.{least_wirelength, least_usable_wirelength}
use Rattle.wall_laws.specs.Walls.{Tiles, needs, holds, ShareNoEdge}

-- where no wall holds more than is needed, what is needed is what the walls hold and what is needed more
excesses : (d : DesignView) (walls : List Tiles) → All (λ wall. holds d wall ≤ needs d wall) walls →
    sum_by (λ wall. needs d wall - holds d wall) walls + sum_by (holds d) walls ≡ sum_by (needs d) walls
excesses d [] each = refl
excesses d (wall ∷ walls) each =
    let P : Tiles → Type 0 = λ w. holds d w ≤ needs d w in
    let first = All-head P wall walls each in
    let rest = excesses d walls (All-tail P wall walls each) in
    omega (arith, first, rest, sum_by-cons (λ w. needs d w - holds d w) wall walls, sum_by-cons (holds d) wall walls, sum_by-cons (needs d) wall walls)

pub are-bounds : (d : DesignView) → IsDesign d → (via_cost : ℕ) → (walls : List Tiles) → ShareNoEdge d.frame.shape walls →
    All (λ wall. holds d wall ≤ needs d wall) walls →
    AreBounds d via_cost (sum_by (λ wall. needs d wall - holds d wall) walls) (least_wirelength d via_cost) (least_usable_wirelength d via_cost)
are-bounds d design via_cost walls apart over = record {
  overflow = λ sets join.
      let bound = walls-need d sets walls design apart join in
      let sums = excesses d walls over in
      omega (arith, bound, sums);
  any_way = λ sets join. wirelength-law d design via_cost sets join;
  along_usable = λ sets join usable. usable-wirelength-law d design via_cost sets join usable;
}
