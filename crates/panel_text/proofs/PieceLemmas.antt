-- The pieces of a panel are in its tiles, and rise by their low ends.
use Rattle.std.proofs.Common.{◌≡◌, ℕ, zero, suc, ◌+◌, ◌-◌, ◌*◌, ◌/◌, ◌%◌, ◌<◌, ◌≤◌, ◌^◌, inl, inr, Bool, true, false, ◌&&◌, not, List, [], ◌∷◌, ◌++◌, map, length, get_or, All, refl, sym, ap, subst, ◌∙◌, mul-le-mul_left, arith}
use Rattle.std.specs.List.{AllPairs, filter, flat_map, range_with_len}
use Rattle.std.proofs.lemmas.Bool.{cases_eq, and_parts, false≢true}
use Rattle.std.proofs.lemmas.List.Elements.{All-nil, All-map, All-append, All-filter, All-weaker, All-head, All-tail, filter_passes}
use Rattle.std.proofs.lemmas.List.FromFn.{get_or-range_with_len, length-range_with_len}
use Rattle.std.proofs.lemmas.List.Kept.{AllPairs-cons}
use Rattle.std.proofs.lemmas.Nat.{mod_below}
use Rattle.gr_base.specs.Designs.{DesignView, is_routed}
use Rattle.gr_base.specs.EdgeSets.{Edges}
use Rattle.gr_base.specs.Grid.{IsInside, cells_of, edge_at, number_of, place_at, stride}
use Rattle.gr_base.specs.Limits.{most_cells}
use Rattle.gr_base.specs.declared.grid.Cell.{Cell}
use Rattle.gr_base.specs.declared.grid.Shape.{Shape}
use Rattle.gr_base.specs.declared.grid.Way.{Way}
use Rattle.gr_base.specs.declared.grid.Way.TheVariants.{East, North, Up}
use Rattle.gr_base.proofs.GridLemmas.{few_cells, number-below, place-number, some_columns, some_layers, some_rows}
use Rattle.solution_text.specs.Runs.{LieIn, begins, reach, run_from}
use Rattle.solution_text.proofs.RunLemmas.{moved, reach-is, trail-place}
use Rattle.track_panels.specs.declared.piece.Piece.{Piece}
use Rattle.track_panels.specs.Pieces.{AreInOrder, ArePieces}
use Rattle.panel_text.specs.declared.place.PanelPlace.{PanelPlace}
use Rattle.panel_text.specs.declared.starts.Starts.{Starts}
use Rattle.panel_text.specs.Chains.{HaveChains}
use Rattle.panel_text.specs.Gathered.{AreStarts}
use Rattle.panel_text.specs.PanelPieces.{piece_at, pieces_along, pieces_of, starts_from}
use Rattle.panel_text.specs.Places.{IsPlace, cell_along, cell_in, lines_along, tile_of_cell, tiles_along}

-- ---- lists by tiles

all-tiles : (P : Piece → Type 0) (f : ℕ → List Piece) (a n : ℕ) → ((t : ℕ) → a ≤ t → t < a + n → All P (f t)) → All P (flat_map f (range_with_len a n))
all-tiles P f a zero each = All-nil P
all-tiles P f a (suc n) each =
    All-append P (f a) (flat_map f (range_with_len (a + 1) n)) (each a (omega arith) (omega arith))
    (all-tiles P f (a + 1) n (λ t low high. each t (omega (arith, low)) (omega (arith, high))))

-- pieces that begin at one tile, before others that don't begin below it
level : (tile : ℕ) (pieces more : List Piece) → All (λ p. p.low ≡ tile) pieces → All (λ p. tile ≤ p.low) more →
    AllPairs (λ a b. a.low ≤ b.low) more → AllPairs (λ a b. a.low ≤ b.low) (pieces ++ more)
level tile [] more here above rising = rising
level tile (p ∷ ps) more here above rising =
    let P : Piece → Type 0 = λ q. q.low ≡ tile in
    let first = All-head P p ps here in
    let rest = All-tail P p ps here in
    AllPairs-cons (λ (a b : Piece). a.low ≤ b.low) p (ps ++ more)
    (All-append (λ (q : Piece). p.low ≤ q.low) ps more
    (All-weaker P (λ q. p.low ≤ q.low) (λ q h. omega (arith, first, h)) ps rest)
    (All-weaker (λ (q : Piece). tile ≤ q.low) (λ q. p.low ≤ q.low) (λ q h. omega (arith, first, h)) more above))
    (level tile ps more rest above rising)

rising-tiles : (f : ℕ → List Piece) (a n : ℕ) → ((t : ℕ) → a ≤ t → t < a + n → All (λ p. p.low ≡ t) (f t)) →
    AllPairs (λ a b. a.low ≤ b.low) (flat_map f (range_with_len a n))
rising-tiles f a zero each = λ i j d before inside. absurd (omega (arith, inside))
rising-tiles f a (suc n) each =
    level a (f a) (flat_map f (range_with_len (a + 1) n)) (each a (omega arith) (omega arith))
    (all-tiles (λ p. a ≤ p.low) f (a + 1) n
    (λ t low high. All-weaker (λ (p : Piece). p.low ≡ t) (λ p. a ≤ p.low) (λ p h. omega (arith, h, low)) (f t) (each t (omega (arith, low)) (omega (arith, high)))))
    (rising-tiles f (a + 1) n (λ t low high. each t (omega (arith, low)) (omega (arith, high))))

-- ---- the tiles of cells

tile-moved : (cell : Cell) (way : Way) (m : ℕ) → tile_of_cell way (moved cell way m) ≡ tile_of_cell way cell + m
tile-moved cell East m = refl
tile-moved cell North m = refl
tile-moved cell Up m = refl

tile-along : (way : Way) (layer line tile : ℕ) → tile_of_cell way (cell_along way layer line tile) ≡ tile
tile-along East layer line tile = refl
tile-along North layer line tile = refl
tile-along Up layer line tile = refl

pub along-inside : (g : Shape) (way : Way) (layer line tile : ℕ) → layer < g.layers → line < lines_along g way → tile < tiles_along g way →
    IsInside g (cell_along way layer line tile)
along-inside g East layer line tile on in' at = record { column = at; row = in'; layer = on }
along-inside g North layer line tile on in' at = record { column = in'; row = at; layer = on }
along-inside g Up layer line tile on in' at = absurd (omega (arith, in'))

few-columns : (g : Shape) → g.columns ≤ most_cells
few-columns g =
    let rows = some_rows g in
    let layers = some_layers g in
    let a : g.columns * 1 ≤ g.columns * g.rows = mul-le-mul_left g.columns (omega (arith, rows)) in
    let b : g.columns * g.rows * 1 ≤ g.columns * g.rows * g.layers = mul-le-mul_left (g.columns * g.rows) (omega (arith, layers)) in
    omega (arith, a, b, few_cells g)

few-rows : (g : Shape) → g.rows ≤ most_cells
few-rows g =
    let columns = some_columns g in
    let layers = some_layers g in
    let a : g.rows * 1 ≤ g.rows * g.columns = mul-le-mul_left g.rows (omega (arith, columns)) in
    let b : g.columns * g.rows * 1 ≤ g.columns * g.rows * g.layers = mul-le-mul_left (g.columns * g.rows) (omega (arith, layers)) in
    omega (arith, a, b, few_cells g)

-- a panel's tiles are few
tile-few : (g : Shape) (way : Way) (line cell : ℕ) → line < lines_along g way → tile_of_cell way (place_at g cell) < most_cells
tile-few g East line cell in' = let h = mod_below cell g.columns (some_columns g) in omega (arith, h, few-columns g)
tile-few g North line cell in' = let h = mod_below (cell / g.columns) g.rows (some_rows g) in omega (arith, h, few-rows g)
tile-few g Up line cell in' = absurd (omega (arith, in'))

-- ---- the pieces

-- those that begin at a tile
abbrev pieces_at : DesignView → (ℕ → Edges) → PanelPlace → (tile : ℕ) → List Piece
pieces_at d sets place tile = map (piece_at d.frame.shape place.way tile) (starts_from d sets place.way 0 (cell_in d.frame.shape place tile))

record IsPieceAt (d : DesignView) (tile : ℕ) (piece : Piece) : Type 0 where
  low : piece.low ≡ tile
  long : tile < piece.high
  within : piece.high < most_cells
  net : piece.net < length d.nets

module _ (d : DesignView) (sets : ℕ → Edges) (within : (net : ℕ) → LieIn d.frame.shape (sets net)) (place : PanelPlace) (is : IsPlace d.frame.shape place) where
  is-piece : (tile net : ℕ) → tile < tiles_along d.frame.shape place.way → net < length d.nets →
      begins d.frame.shape (sets net) place.way (cell_in d.frame.shape place tile) ≡ true →
      IsPieceAt d tile (piece_at d.frame.shape place.way tile (net, (run_from d.frame.shape (sets net) place.way (cell_in d.frame.shape place tile)).to))
  is-piece tile net at in' on =
      let g = d.frame.shape in
      let set = sets net in
      let way = place.way in
      let cell = cell_in g place tile in
      let spot = cell_along way place.layer place.line tile in
      let inside = along-inside g way place.layer place.line tile is.layer is.line at in
      let r = reach-is g set way (cells_of g) cell in
      let edge = (and_parts (set (edge_at cell way)) _ on).0 in
      let far : 0 < r.steps = elim (cases_eq r.steps 0) [
        | inl none ↦
            let off = r.ends (omega (arith, none, number-below g spot inside)) in
            let same : cell + r.steps * stride g way ≡ cell = ap (λ (n : ℕ). cell + n * stride g way) none ∙ omega arith in
            absurd (false≢true (sym (subst (λ (c : ℕ). set (edge_at c way) ≡ false) same off) ∙ edge))
        | inr some ↦ grind (arith, some)
      ] in
      let end : place_at g (reach g set way (cells_of g) cell) ≡ moved spot way r.steps =
      ap (place_at g) r.is ∙ trail-place g set (within net) way cell r.steps r.trail ∙ ap (λ (c : Cell). moved c way r.steps) (place-number g spot inside) in
      let high : tile_of_cell way (place_at g (reach g set way (cells_of g) cell)) ≡ tile + r.steps =
      ap (tile_of_cell way) end ∙ tile-moved spot way r.steps ∙ ap (λ (n : ℕ). n + r.steps) (tile-along way place.layer place.line tile) in
      record {
        low = refl;
        long = omega (arith, high, far);
        within = tile-few g way place.line (reach g set way (cells_of g) cell) is.line;
        net = in';
      }

  each-piece : (tile : ℕ) → tile < tiles_along d.frame.shape place.way → All (IsPieceAt d tile) (pieces_at d sets place tile)
  each-piece tile at =
      let g = d.frame.shape in
      let cell = cell_in g place tile in
      let p : ℕ → Bool = λ net. is_routed d net && begins g (sets net) place.way cell in
      let f : ℕ → ℕ × ℕ = λ net. (net, (run_from g (sets net) place.way cell).to) in
      let nets = range_with_len 0 (length d.nets - 0) in
      let count = length-range_with_len 0 (length d.nets - 0) in
      let known = All-filter p (λ net. net < length d.nets) nets
      (λ k e inside. let is' = get_or-range_with_len 0 (length d.nets - 0) k e (omega (arith, inside, count)) in omega (arith, is', inside, count)) in
      let pass = filter_passes p nets in
      All-map (IsPieceAt d tile) (piece_at g place.way tile) (map f (filter p nets))
      (All-map (λ start. IsPieceAt d tile (piece_at g place.way tile start)) f (filter p nets)
      (λ k e inside. is-piece tile (get_or (filter p nets) k e) at (known k e inside) (and_parts (is_routed d (get_or (filter p nets) k e)) _ (pass k e inside)).1))

  all-pieces : (P : Piece → Type 0) → ((tile : ℕ) → (piece : Piece) → IsPieceAt d tile piece → P piece) → All P (pieces_of d sets place)
  all-pieces P weaker =
      all-tiles P (pieces_at d sets place) 0 (tiles_along d.frame.shape place.way)
      (λ t low high. All-weaker (IsPieceAt d t) P (weaker t) (pieces_at d sets place t) (each-piece t (omega (arith, high))))

  pub pieces-nets : All (λ piece. piece.net < length d.nets) (pieces_of d sets place)
  pieces-nets = all-pieces (λ piece. piece.net < length d.nets) (λ tile piece h. h.net)

  pub pieces-ordered : AreInOrder (pieces_of d sets place)
  pieces-ordered = record {
    long = all-pieces (λ piece. piece.low < piece.high) (λ tile piece h. let l = h.long in let e = h.low in omega (arith, l, e));
    within = all-pieces (λ piece. piece.high < most_cells) (λ tile piece h. h.within);
    rising = rising-tiles (pieces_at d sets place) 0 (tiles_along d.frame.shape place.way)
        (λ t low high. All-weaker (IsPieceAt d t) (λ p. p.low ≡ t) (λ p h. h.low) (pieces_at d sets place t) (each-piece t (omega (arith, high))));
  }

  pub pieces-are : 0 < length (pieces_of d sets place) → length (pieces_of d sets place) < 2 ^ 31 → ArePieces (pieces_of d sets place)
  pieces-are some few = record { some = some; few = few; order = pieces-ordered }

-- the pieces along a panel where the runs are those of sets of edges
pub pieces-along : (d : DesignView) (sets : ℕ → Edges) (place : PanelPlace) (s : Starts) (pieces : List Piece) (g : Shape) → g ≡ d.frame.shape →
    ((chains : ℕ → List (ℕ × ℕ)) → HaveChains chains s → pieces ≡ pieces_along g place chains) → AreStarts d sets place.way 0 s → pieces ≡ pieces_of d sets place
pieces-along d sets place s pieces g same by are =
    by (starts_from d sets place.way 0) are.chains ∙ ap (λ (h : Shape). pieces_along h place (starts_from d sets place.way 0)) same

-- a layer has few rows and columns
pub few-lines : (g : Shape) (way : Way) → lines_along g way ≤ most_cells
few-lines g East = few-rows g
few-lines g North = few-columns g
few-lines g Up = omega arith
