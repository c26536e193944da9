-- The boxes of a side one after another, and which of them are overfull.
use Rattle.std.proofs.Common.{◌≡◌, ℕ, ◌+◌, ◌-◌, ◌*◌, ◌/◌, ◌%◌, ◌<◌, ◌≤◌, ◌^◌, Bool, true, false, ◌&&◌, nat_lt, List, [], ◌∷◌, ◌++◌, map, filter, refl, sym, ap, subst, ◌∙◌, arith}
use Rattle.std.specs.List.{range_with_len}
use Rattle.std.proofs.lemmas.List.{append_assoc, map-append}
use Rattle.std.proofs.lemmas.Nat.{div-add-mod', div_below, mod_below, mul-le, one_shl, pow_below}
use Rattle.std.proofs.Math.Nat.{mul_comm}
use Rattle.gr_base.proofs.GridLemmas.{some_columns, some_rows}
use Rattle.gr_base.specs.Designs.{DesignView}
use Rattle.gr_base.specs.declared.grid.Shape.{Shape}
use Rattle.grid_demand.proofs.RangeFilters.{filter-fails, filter-passes}
use Rattle.cut_bounds.specs.Boxes.{across_of, up_of, boxes_on, IsOnChip}
use Rattle.cut_bounds.specs.Candidates.{box_at, box_from, counts, is_candidate}
use Rattle.cut_bounds.specs.Cuts.{tile_at}
use Rattle.cut_bounds.specs.Measured.{measured}
use Rattle.cut_bounds.specs.declared.axis.Tile.{Tile}
use Rattle.cut_bounds.specs.declared.wall.MeasuredWall.{MeasuredWall}
use Rattle.cut_bounds.specs.declared.wall.TileBox.{TileBox}
use Rattle.cut_bounds.specs.declared.wall.Wall.TheVariants.{Box}

pub side-small : (level : ℕ) → level < 24 → 1 * 2 ^ level % 2 ^ 32 ≤ 16777216
side-small level few = let e = one_shl level 32 (omega (arith, few)) in let p = pow_below level 24 few in omega (arith, e, p)

-- the first tile of a box lies on the chip
times-below : (q n s : ℕ) → q ≤ n / s → q * s ≤ n
times-below q n s low = let e = mul-le q s (n / s) s low (omega arith) in omega (arith, e, div-add-mod' n s)

pub corner-on : (g : Shape) (level n : ℕ) → n < boxes_on g level →
    IsOnChip g (record { x = (tile_at (across_of g level) n).x * 2 ^ level; y = (tile_at (across_of g level) n).y * 2 ^ level })
corner-on g level n inside =
    let a : ℕ = across_of g level in
    let x : n % a < a = mod_below n a (omega arith) in
    let y : n / a < up_of g level = div_below n a (up_of g level) (omega arith) (omega (arith, inside, mul_comm a (up_of g level))) in
    let low = times-below (n % a) (g.columns - 1) (2 ^ level) (omega (arith, x)) in
    let low' = times-below (n / a) (g.rows - 1) (2 ^ level) (omega (arith, y)) in
    record {
      column = omega (arith, low, some_columns g);
      row = omega (arith, low', some_rows g);
    }

-- and so does its last
pub end-on : (g : Shape) (side x0 y0 : ℕ) → 0 < side → IsOnChip g (record { x = x0; y = y0 }) →
    IsOnChip g (record { x = (box_from g side x0 y0).x1; y = (box_from g side x0 y0).y1 })
end-on g side x0 y0 some on = record {
  column = let c = some_columns g in omega (arith, c, on.column);
  row = let r = some_rows g in omega (arith, r, on.row);
}

-- ---- box by box

-- the overfull ones of the first boxes
abbrev pub candidates_to : DesignView → (level n : ℕ) → List MeasuredWall
candidates_to d level n =
    map (λ number. measured d (Box (box_at d.frame.shape level number))) (filter (is_candidate d level) (range_with_len 0 n))

pub candidate-more : (d : DesignView) (level n : ℕ) (first found new : List MeasuredWall) (m : MeasuredWall) → is_candidate d level n ≡ true →
    found ≡ first ++ candidates_to d level n → new ≡ found ++ m ∷ [] → m ≡ measured d (Box (box_at d.frame.shape level n)) →
    new ≡ first ++ candidates_to d level (n + 1)
candidate-more d level n first found new m on was is same =
    let f : ℕ → MeasuredWall = λ number. measured d (Box (box_at d.frame.shape level number)) in
    let ns : List ℕ = filter (is_candidate d level) (range_with_len 0 n) in
    let more = filter-passes (is_candidate d level) n ns (ns ++ n ∷ []) refl on refl in
    is ∙ ap (λ (ms : List MeasuredWall). ms ++ m ∷ []) was ∙ append_assoc first (map f ns) (m ∷ [])
    ∙ ap (λ (k : MeasuredWall). first ++ (map f ns ++ k ∷ [])) same
    ∙ ap (λ (ms : List MeasuredWall). first ++ ms) (sym (map-append f ns (n ∷ [])) ∙ ap (λ (ks : List ℕ). map f ks) more)

pub candidate-passed : (d : DesignView) (level n : ℕ) (first found : List MeasuredWall) → is_candidate d level n ≡ false →
    found ≡ first ++ candidates_to d level n → found ≡ first ++ candidates_to d level (n + 1)
candidate-passed d level n first found off was =
    let f : ℕ → MeasuredWall = λ number. measured d (Box (box_at d.frame.shape level number)) in
    let ns : List ℕ = filter (is_candidate d level) (range_with_len 0 n) in
    was ∙ ap (λ (ks : List ℕ). first ++ map f ks) (filter-fails (is_candidate d level) n ns refl off)

-- a box as the code makes it
pub area-is : (g : Shape) (level across n : ℕ) (place : Tile) (area : TileBox) → across ≡ across_of g level → place ≡ tile_at across n →
    area ≡ box_from g (2 ^ level) (place.x * 2 ^ level) (place.y * 2 ^ level) → area ≡ box_at g level n
area-is g level across n place area wide at is =
    is ∙ ap (λ (t : Tile). box_from g (2 ^ level) (t.x * 2 ^ level) (t.y * 2 ^ level)) (at ∙ ap (λ (a : ℕ). tile_at a n) wide)

-- what the code tests
pub test-is : (d : DesignView) (g : Shape) (level n needed held : ℕ) (area : TileBox) (result : Bool) → d.frame.shape ≡ g → area ≡ box_at g level n →
    needed ≡ (measured d (Box (box_at d.frame.shape level n))).needs → held ≡ (measured d (Box (box_at d.frame.shape level n))).holds →
    result ≡ (counts g level area && nat_lt held needed) → is_candidate d level n ≡ result
test-is d g level n needed held area result same is need hold answer =
    let here : area ≡ box_at d.frame.shape level n = is ∙ ap (λ (s : Shape). box_at s level n) (sym same) in
    sym (answer ∙ ap (λ (s : Shape). counts s level area && nat_lt held needed) (sym same)
    ∙ ap (λ (b : TileBox). counts d.frame.shape level b && nat_lt held needed) here
    ∙ ap (λ (k : ℕ). counts d.frame.shape level (box_at d.frame.shape level n) && nat_lt k needed) hold
    ∙ ap (λ (k : ℕ). counts d.frame.shape level (box_at d.frame.shape level n) && nat_lt (measured d (Box (box_at d.frame.shape level n))).holds k) need)

-- what the code puts behind the others
pub wall-is : (d : DesignView) (g : Shape) (level n needed held : ℕ) (area : TileBox) → d.frame.shape ≡ g → area ≡ box_at g level n →
    needed ≡ (measured d (Box (box_at d.frame.shape level n))).needs → held ≡ (measured d (Box (box_at d.frame.shape level n))).holds →
    record { wall = Box area; needs = needed; holds = held } ≡ measured d (Box (box_at d.frame.shape level n))
wall-is d g level n needed held area same is need hold =
    let here : area ≡ box_at d.frame.shape level n = is ∙ ap (λ (s : Shape). box_at s level n) (sym same) in
    ap (λ (b : TileBox). record { wall = Box b; needs = needed; holds = held }) here
    ∙ ap (λ (k : ℕ). record { wall = Box (box_at d.frame.shape level n); needs = k; holds = held }) need
    ∙ ap (λ (k : ℕ). record { wall = Box (box_at d.frame.shape level n); needs = (measured d (Box (box_at d.frame.shape level n))).needs; holds = k }) hold

pub boxes-same : (d : DesignView) (g : Shape) (level n m : ℕ) → d.frame.shape ≡ g → n < m → m ≡ boxes_on g level → n < boxes_on d.frame.shape level
boxes-same d g level n m same inside all = subst (λ (s : Shape). n < boxes_on s level) (sym same) (omega (arith, inside, all))
