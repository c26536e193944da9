-- Tables of the tiles in which overfull edges begin.
use Rattle.std.proofs.Common.{◌≡◌, ℕ, suc, zero, ◌+◌, ◌*◌, ◌/◌, ◌%◌, ◌<◌, ◌≤◌, inl, inr, Bool, true, false, ◌&&◌, List, [], ◌∷◌, ◌++◌, length, slice_get, slice_index_or, slice_set, Some, IsTrue, refl, sym, ap, ◌∙◌, arith}
use Rattle.std.proofs.lemmas.Bool.{cases_Bool, cases_eq, both_ways}
use Rattle.std.proofs.lemmas.Bool.Decides.{nat_tests}
use Rattle.std.proofs.lemmas.List.{get_or-set_same, get_or_push, get_or_append_left, length_push}
use Rattle.std.proofs.lemmas.Option.{same_Some}
use Rattle.std.proofs.lemmas.Nat.{div-add-mod', div-mul-add, mod-mul-add, mul-add-lt, mod_below}
use Rattle.gr_base.proofs.GridLemmas.{place-inside}
use Rattle.gr_base.specs.Grid.{cells_of, number_of, place_at, has_edge, is_wire}
use Rattle.gr_base.specs.declared.grid.Edge.{Edge}
use Rattle.gr_base.specs.declared.grid.Shape.{Shape}
use Rattle.grid_demand.proofs.ToldEdges.{told-found}
use Rattle.grid_demand.proofs.WireLemmas.{number-below}
use Rattle.grid_demand.specs.LoadSums.{LoadsView}
use Rattle.grid_demand.specs.Overfull.{is_told, told_edges}
use Rattle.grid_demand.specs.Tables.{CapacityView}
use Rattle.maze_route.specs.Windows.{IsWindow}
use Rattle.maze_route.specs.declared.window.Window.{Window}
use Rattle.book_state.specs.Crowds.{is_overfull, tile_of, AreTiles, AreColumns, IsCalm, AreCrowds}
use Rattle.book_state.specs.declared.crowds.Crowds.{Crowds}

-- the number of a tile is that of its cell on the first layer
pub tile-number : (g : Shape) (x y : ℕ) → number_of g (record { x = x; y = y; layer = 0 }) ≡ y * g.columns + x
tile-number g x y = let first : 0 * g.rows + y ≡ y = omega arith in ap (λ (n : ℕ). n * g.columns + x) first

pub tile-below : (g : Shape) (x y : ℕ) → x < g.columns → y < g.rows → y * g.columns + x < g.columns * g.rows
tile-below g x y column row = mul-add-lt y g.columns x g.rows row column

pub inside-of : (g : Shape) (e : Edge) → IsTrue (has_edge g e) → e.low < cells_of g
inside-of g e edge = grind (arith, nat_tests)

-- a table in which a tile is noted
noted-still : (tiles : List Bool) (at tile : ℕ) → slice_index_or tiles tile false ≡ true → slice_index_or (slice_set tiles at true) tile false ≡ true
noted-still [] at tile is = is
noted-still (x ∷ xs) zero zero is = refl
noted-still (x ∷ xs) zero (suc tile) is = is
noted-still (x ∷ xs) (suc at) zero is = is
noted-still (x ∷ xs) (suc at) (suc tile) is = noted-still xs at tile is

-- the tiles in which the first of the listed edges begin are noted
abbrev pub AreNoted : Shape → List Bool → ℕ → List Bool → Type 0
AreNoted g over edges tiles =
    (k : ℕ) (e : Edge) → k < edges → slice_get (told_edges over) k ≡ Some e → slice_index_or tiles (tile_of g e.low) false ≡ true

pub noted-more : (g : Shape) (over tiles : List Bool) (at tile : ℕ) (e : Edge) → AreNoted g over at tiles → slice_get (told_edges over) at ≡ Some e →
    tile ≡ tile_of g e.low → tile < length tiles → AreNoted g over (at + 1) (slice_set tiles tile true)
noted-more g over tiles at tile e are listed is within = λ k f below there.
    elim (cases_eq k at) [
      | inl same ↦
          let one : f ≡ e = same_Some f e (sym there ∙ ap (slice_get (told_edges over)) same ∙ listed) in
          let here : tile_of g f.low ≡ tile = ap (λ (x : Edge). tile_of g x.low) one ∙ sym is in
          ap (λ (n : ℕ). slice_index_or (slice_set tiles tile true) n false) here ∙ get_or-set_same tiles tile true false within
      | inr apart ↦ noted-still tiles tile (tile_of g f.low) (are k f (omega (arith, below, apart)) there)
    ]

both : (a b : Bool) → (a && b) ≡ true → (a ≡ true) × (b ≡ true)
both true b is = (refl, is)
both false b is = absurd (both_ways false refl is)

pub noted-all : (g : Shape) (over tiles : List Bool) (edges : ℕ) → length over ≡ 2 * cells_of g → length (told_edges over) ≤ edges → AreNoted g over edges tiles →
    AreTiles g over tiles
noted-all g over tiles edges long all are = λ e edge over_it.
    let is = both (is_wire e) (is_told over e) over_it in
    let found = told-found over (cells_of g) e long is.0 (number-below g e edge) is.1 in
    let within = found.1 in
    are found.0 e (omega (arith, within, all)) found.2

-- the number for a tile is above the column of each noted tile at or before it in its row
abbrev pub IsColumn : (columns : ℕ) → List Bool → ℕ → ℕ → Type 0
IsColumn columns tiles to told =
    (from : ℕ) → from / columns ≡ to / columns → from ≤ to → slice_index_or tiles from false ≡ true → from % columns < told

pub columns-more : (columns : ℕ) (tiles : List Bool) (last : List ℕ) (told : ℕ) → AreColumns columns tiles last → IsColumn columns tiles (length last) told →
    AreColumns columns tiles (last ++ told ∷ [])
columns-more columns tiles last told are is = λ from to row low below noted.
    elim (cases_eq to (length last)) [
      | inl same ↦
          let here : slice_index_or (last ++ told ∷ []) to 0 ≡ told = get_or_push last told 0 to (sym same) in
          let less : from % columns < told = is from (row ∙ ap (λ (n : ℕ). n / columns) same) (omega (arith, low, same)) noted in
          omega (arith, here, less)
      | inr apart ↦
          let long = length_push last told in
          let within : to < length last = omega (arith, long, below, apart) in
          let here = get_or_append_left last (told ∷ []) 0 to within in
          let less = are from to row low within noted in
          omega (arith, here, less)
    ]

-- two tiles of one row
one-row : (columns from to : ℕ) → from / columns ≡ to / columns → (from + to % columns ≡ to + from % columns)
one-row columns from to row =
    let first = div-add-mod' from columns in
    let second = div-add-mod' to columns in
    let same : from / columns * columns ≡ to / columns * columns = ap (λ (n : ℕ). n * columns) row in
    omega (arith, first, second, same)

-- a noted tile
pub column-here : (columns : ℕ) (tiles : List Bool) (to : ℕ) → IsColumn columns tiles to (to % columns + 1)
column-here columns tiles to = λ from row low noted. let one = one-row columns from to row in omega (arith, one, low)

-- and a number above the column of each noted tile before it in its row
abbrev pub IsBefore : (columns : ℕ) → List Bool → ℕ → ℕ → Type 0
IsBefore columns tiles to told =
    (from : ℕ) → from / columns ≡ to / columns → from < to → slice_index_or tiles from false ≡ true → from % columns < told

pub column-past : (columns : ℕ) (tiles : List Bool) (to told : ℕ) → slice_index_or tiles to false ≡ false → IsBefore columns tiles to told → IsColumn columns tiles to told
column-past columns tiles to told none before = λ from row low noted.
    elim (cases_eq from to) [
      | inl same ↦ absurd (both_ways (slice_index_or tiles to false) none (ap (λ (n : ℕ). slice_index_or tiles n false) (sym same) ∙ noted))
      | inr apart ↦ before from row (omega (arith, low, apart)) noted
    ]

-- the tile after it is the first of a row, or in the same
pub before-row : (columns : ℕ) (tiles : List Bool) (to told column : ℕ) → 0 < columns → column ≡ to % columns → column + 1 ≡ columns →
    (0 ≡ (to + 1) % columns) × IsBefore columns tiles (to + 1) told
before-row columns tiles to told column some is last =
    let whole = div-add-mod' to columns in
    let next : to + 1 ≡ (to / columns + 1) * columns + 0 =
    let more : (to / columns + 1) * columns ≡ to / columns * columns + columns = grind arith in omega (arith, whole, more, is, last) in
    let first = mod-mul-add (to / columns + 1) columns 0 some in
    let row = div-mul-add (to / columns + 1) columns 0 some in (
      sym (ap (λ (n : ℕ). n % columns) next ∙ first),
      λ from same low noted.
          let there : from / columns ≡ to / columns + 1 = same ∙ ap (λ (n : ℕ). n / columns) next ∙ row in
          let back = div-add-mod' from columns in
          let at : from / columns * columns ≡ (to / columns + 1) * columns = ap (λ (n : ℕ). n * columns) there in
          absurd (omega (arith, back, at, next, low)),
    )

pub before-next : (columns : ℕ) (tiles : List Bool) (to told column : ℕ) → 0 < columns → column ≡ to % columns → (column + 1 ≡ columns → ⊥) → IsColumn columns tiles to told →
    (column + 1 ≡ (to + 1) % columns) × IsBefore columns tiles (to + 1) told
before-next columns tiles to told column some is inner above =
    let whole = div-add-mod' to columns in
    let less = mod_below to columns some in
    let inside : to % columns + 1 < columns = omega (arith, less, is, inner) in
    let next : to + 1 ≡ to / columns * columns + (to % columns + 1) = omega (arith, whole) in
    let column_is = mod-mul-add (to / columns) columns (to % columns + 1) inside in
    let row = div-mul-add (to / columns) columns (to % columns + 1) inside in (
      ap (λ (n : ℕ). n + 1) is ∙ sym (ap (λ (n : ℕ). n % columns) next ∙ column_is),
      λ from same low noted. above from (same ∙ ap (λ (n : ℕ). n / columns) next ∙ row) (omega (arith, low)) noted,
    )

-- a box in whose rows the last columns lie before it is calm
pub calm-box : (c : CapacityView) (l : LoadsView) (k : Crowds) (w : Window) → AreCrowds c l k → IsWindow k.shape w →
    ((y : ℕ) → w.y0 ≤ y → y ≤ w.y1 → slice_index_or k.last.items (y * k.shape.columns + w.x1) 0 ≤ w.x0) → IsCalm k.shape k.over.table w
calm-box c l k w are fits rows = λ e edge within.
    let g = k.shape in
    let p = place_at g e.low in
    let inside = place-inside g e.low (inside-of g e edge) in
    let left : w.x0 ≤ p.x = grind (arith, nat_tests, within) in
    let right : p.x ≤ w.x1 = grind (arith, nat_tests, within) in
    let bottom : w.y0 ≤ p.y = grind (arith, nat_tests, within) in
    let top : p.y ≤ w.y1 = grind (arith, nat_tests, within) in
    elim (cases_Bool (is_overfull k.over.table e)) [
      | inl over_it ↦
          let from = p.y * g.columns + p.x in
          let to = p.y * g.columns + w.x1 in
          let first = div-mul-add p.y g.columns p.x inside.column in
          let second = div-mul-add p.y g.columns w.x1 fits.last_column in
          let column = mod-mul-add p.y g.columns p.x inside.column in
          let long = are.long in
          let below = tile-below g w.x1 p.y fits.last_column inside.row in
          let less = are.columns from to (first ∙ sym second) (omega (arith, right)) (omega (arith, below, long)) (are.told e edge over_it) in
          let most = rows p.y bottom top in
          absurd (omega (arith, less, most, column, left))
      | inr none ↦ none
    ]
