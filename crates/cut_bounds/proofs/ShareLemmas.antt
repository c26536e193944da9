-- Walls that share an edge, by the places of their wires, and walls of which no two do.
use Rattle.std.proofs.Common.{◌≡◌, ℕ, suc, zero, ◌+◌, ◌-◌, ◌*◌, ◌/◌, ◌%◌, ◌<◌, ◌≤◌, ◌⊎◌, inl, inr, Bool, true, false, ◌&&◌, ◌||◌, ◌==◌, nat_lt, List, [], ◌∷◌, ◌++◌, All, map, filter, fold, length, get_or, refl, sym, ap, subst, ◌∙◌, arith}
use Rattle.std.specs.List.{list_any}
use Rattle.std.proofs.lemmas.Bool.{and_parts, and_from, cases_Bool, cases_lt}
use Rattle.std.proofs.lemmas.Bool.Decides.{nat_tests}
use Rattle.std.proofs.lemmas.List.Elements.{All-push}
use Rattle.std.proofs.lemmas.List.FromFn.{get_or-map-range_with_len, length-map-range_with_len}
use Rattle.std.proofs.lemmas.List.{map-append}
use Rattle.std.proofs.lemmas.List.Folds.{Any-from_list_any, list_any-append, list_any_at}
use Rattle.std.proofs.lemmas.Nat.{mod-mul-add, mod_below}
use Rattle.std.proofs.Math.Nat.{le-mul_of_pos_right, mul-pos}
use Rattle.gr_base.proofs.General.{same-truth}
use Rattle.gr_base.proofs.GridLemmas.{some_columns, some_layers, some_rows}
use Rattle.gr_base.specs.Grid.{cells_of, edge_at, has_edge, is_wire, is_wire_way}
use Rattle.gr_base.specs.Sums.{wire_at, wire_edges, wires_from_cells}
use Rattle.gr_base.specs.declared.grid.Edge.{Edge}
use Rattle.gr_base.specs.declared.grid.Shape.{Shape}
use Rattle.gr_base.specs.declared.grid.Way.{Way}
use Rattle.gr_base.specs.declared.grid.Way.TheVariants.{East, North, Up}
use Rattle.grid_demand.proofs.WireLemmas.{wire_at-east, wire_at-north}
use Rattle.wall_laws.proofs.GridLists.{wires-are-wires, wires-in-grid}
use Rattle.wall_laws.specs.Spans.{tile_number}
use Rattle.wall_laws.specs.Walls.{ShareNoEdge, Tiles, crosses, share_edge}
use Rattle.cut_bounds.specs.Crossings.{has_tile, leads_out}
use Rattle.cut_bounds.specs.Cuts.{tile_at}
use Rattle.cut_bounds.specs.Measured.{tiles_in}
use Rattle.cut_bounds.specs.Places.{is_walled, places_of, IsWallOf}
use Rattle.cut_bounds.specs.Taken.{AreMarks, is_blocked_by, take_apart}
use Rattle.cut_bounds.specs.TileWires.{tiles_of}
use Rattle.cut_bounds.specs.declared.wall.MeasuredWall.{MeasuredWall}
use Rattle.cut_bounds.specs.declared.wall.Wall.{Wall}
use Rattle.cut_bounds.specs.declared.axis.Axis.TheVariants.{Rows}
use Rattle.cut_bounds.proofs.CutLemmas.{line-inside}
use Rattle.cut_bounds.proofs.MeaningLemmas.{edge-out}
use Rattle.cut_bounds.proofs.WallPlaces.{walled-places}

-- ---- an edge and its place

-- what is so of the place of an edge: a wall has its wires where the edge leads through it
pub record HasPlace (g : Shape) (e : Edge) : Type 0 where
  pub place : ℕ
  pub small : place < 2 * tiles_of g
  pub same : (wall : Wall) → crosses g (tiles_in wall) e ≡ is_walled g wall place

some-tiles : (g : Shape) → 0 < tiles_of g
some-tiles g = mul-pos (some_columns g) (some_rows g)

edge-place : (g : Shape) (e : Edge) → has_edge g e ≡ true → is_wire e ≡ true → HasPlace g e
edge-place g e edge wire = by e.way refl wire where
  low : tile_number g e.low < tiles_of g
  low = mod_below e.low (tiles_of g) (some-tiles g)

  by : (way : Way) → e.way ≡ way → is_wire_way way ≡ true → HasPlace g e
  by East is wire' = record {
    place = tile_number g e.low;
    small = omega (arith, low);
    same = λ wall.
        let on : nat_lt (tile_number g e.low) (tiles_of g) ≡ true = grind (arith, nat_tests, low) in
        edge-out g (tiles_in wall) (has_tile (tiles_in wall)) e edge wire (λ tile on-chip. refl)
        ∙ ap (λ (w : Way). leads_out g (has_tile (tiles_in wall)) w (tile_at g.columns (tile_number g e.low))) is ∙ sym (rw on refl);
  }
  by North is wire' = record {
    place = tiles_of g + tile_number g e.low;
    small = omega (arith, low);
    same = λ wall.
        let off : nat_lt (tiles_of g + tile_number g e.low) (tiles_of g) ≡ false = grind (arith, nat_tests) in
        let back : (tiles_of g + tile_number g e.low) - tiles_of g ≡ tile_number g e.low = omega arith in
        edge-out g (tiles_in wall) (has_tile (tiles_in wall)) e edge wire (λ tile on-chip. refl)
        ∙ ap (λ (w : Way). leads_out g (has_tile (tiles_in wall)) w (tile_at g.columns (tile_number g e.low))) is
        ∙ ap (λ (n : ℕ). leads_out g (has_tile (tiles_in wall)) North (tile_at g.columns n)) (sym back) ∙ sym (rw off refl);
  }
  by Up is wire' = absurd (never wire') where
    never : false ≡ true → ⊥
    never h = cc

-- a place of wires that lead out of a wall is an edge's
pub record HasEdgeAt (g : Shape) (place : ℕ) : Type 0 where
  pub number : ℕ
  pub inside : number < 2 * cells_of g
  pub edge : has_edge g (wire_at number) ≡ true
  pub same : (wall : Wall) → crosses g (tiles_in wall) (wire_at number) ≡ is_walled g wall place

tiles-cells : (g : Shape) → tiles_of g ≤ cells_of g
tiles-cells g = le-mul_of_pos_right (tiles_of g) (some_layers g)

small-mod : (n m : ℕ) → n < m → n % m ≡ n
small-mod n m low =
    let none : n ≡ 0 * m + n = omega arith in ap (λ (k : ℕ). k % m) none ∙ mod-mul-add 0 m n low

place-edge : (g : Shape) (wall : Wall) (place : ℕ) → place < 2 * tiles_of g → is_walled g wall place ≡ true → HasEdgeAt g place
place-edge g wall place small walled = elim (cases_lt place (tiles_of g)) [
  | inl low ↦
      let on : nat_lt place (tiles_of g) ≡ true = grind (arith, nat_tests, low) in
      let out : leads_out g (has_tile (tiles_in wall)) East (tile_at g.columns place) ≡ true = sym (rw on refl) ∙ walled in
      let room : nat_lt (place % g.columns + 1) g.columns ≡ true = (and_parts (nat_lt (place % g.columns + 1) g.columns) _ out).0 in
      let cell : nat_lt place (cells_of g) ≡ true = let t = tiles-cells g in grind (arith, nat_tests, low, t) in
      let edge : has_edge g (edge_at place East) ≡ true = and_from (nat_lt place (cells_of g)) (nat_lt (place % g.columns + 1) g.columns) cell room in
      let number : tile_number g place ≡ place = small-mod place (tiles_of g) low in
      record {
        number = 2 * place;
        inside = omega (arith, low, tiles-cells g);
        edge = ap (λ (e : Edge). has_edge g e) (wire_at-east place) ∙ edge;
        same = λ other.
            ap (λ (e : Edge). crosses g (tiles_in other) e) (wire_at-east place)
            ∙ edge-out g (tiles_in other) (has_tile (tiles_in other)) (edge_at place East) edge refl (λ tile on-chip. refl)
            ∙ ap (λ (n : ℕ). leads_out g (has_tile (tiles_in other)) East (tile_at g.columns n)) number ∙ sym (rw on refl);
      }
  | inr past ↦
      let at : ℕ = place - tiles_of g in
      let low : at < tiles_of g = omega (arith, past, small) in
      let off : nat_lt place (tiles_of g) ≡ false = grind (arith, nat_tests, past) in
      let out : leads_out g (has_tile (tiles_in wall)) North (tile_at g.columns at) ≡ true = sym (rw off refl) ∙ walled in
      let open' : nat_lt (at / g.columns + 1) g.rows ≡ true = (and_parts (nat_lt (at / g.columns + 1) g.rows) _ out).0 in
      let row : at / g.columns % g.rows ≡ at / g.columns = small-mod (at / g.columns) g.rows (line-inside g Rows at low) in
      let room : nat_lt (at / g.columns % g.rows + 1) g.rows ≡ true = ap (λ (n : ℕ). nat_lt (n + 1) g.rows) row ∙ open' in
      let cell : nat_lt at (cells_of g) ≡ true = let t = tiles-cells g in grind (arith, nat_tests, low, t) in
      let edge : has_edge g (edge_at at North) ≡ true = and_from (nat_lt at (cells_of g)) (nat_lt (at / g.columns % g.rows + 1) g.rows) cell room in
      let number : tile_number g at ≡ at = small-mod at (tiles_of g) low in
      record {
        number = 2 * at + 1;
        inside = omega (arith, low, tiles-cells g);
        edge = ap (λ (e : Edge). has_edge g e) (wire_at-north at) ∙ edge;
        same = λ other.
            ap (λ (e : Edge). crosses g (tiles_in other) e) (wire_at-north at)
            ∙ edge-out g (tiles_in other) (has_tile (tiles_in other)) (edge_at at North) edge refl (λ tile on-chip. refl)
            ∙ ap (λ (n : ℕ). leads_out g (has_tile (tiles_in other)) North (tile_at g.columns n)) number ∙ sym (rw off refl);
      }
]

-- ---- walls that share an edge

-- both walls have wires at a place
pub record Meet (g : Shape) (a b : Wall) : Type 0 where
  pub place : ℕ
  pub small : place < 2 * tiles_of g
  pub first : is_walled g a place ≡ true
  pub second : is_walled g b place ≡ true

pub share-meet : (g : Shape) (a b : Wall) → share_edge g (tiles_in a) (tiles_in b) ≡ true → Meet g a b
share-meet g a b share =
    let some = Any-from_list_any (λ e. crosses g (tiles_in a) e && crosses g (tiles_in b) e) (wire_edges g) share in
    let e : Edge = some.1 in
    let edge : has_edge g e ≡ true = subst (λ (x : Edge). has_edge g x ≡ true) some.3 (wires-in-grid g some.0 e some.2) in
    let wire : is_wire e ≡ true = subst (λ (x : Edge). is_wire x ≡ true) some.3 (wires-are-wires g some.0 e some.2) in
    let parts = and_parts (crosses g (tiles_in a) e) (crosses g (tiles_in b) e) some.4 in
    let at = edge-place g e edge wire in
    record { place = at.place; small = at.small; first = sym (at.same a) ∙ parts.0; second = sym (at.same b) ∙ parts.1 }

in-filter : {X : Type 0} (p q : X → Bool) (xs : List X) (k : ℕ) (d : X) → k < length xs → p (get_or xs k d) ≡ true → q (get_or xs k d) ≡ true →
    list_any q (filter p xs) ≡ true
in-filter p q [] k d inside yes' has = absurd (omega (arith, inside))
in-filter p q (x ∷ xs) zero d inside yes' has = rw yes' (rw has refl)
in-filter p q (x ∷ xs) (suc k) d inside yes' has = here (cases_Bool (p x)) (in-filter p q xs k d (omega (arith, inside)) yes' has) where
  here : (p x ≡ true) ⊎ (p x ≡ false) → list_any q (filter p xs) ≡ true → list_any q (filter p (x ∷ xs)) ≡ true
  here (inl on) rest = rw on (rw rest (or-yes (q x)))
    where
      or-yes : (b : Bool) → (b || true) ≡ true
      or-yes true = refl
      or-yes false = refl
  here (inr off) rest = rw off rest

pub meet-share : (g : Shape) (a b : Wall) → Meet g a b → share_edge g (tiles_in a) (tiles_in b) ≡ true
meet-share g a b meet =
    let at = place-edge g a meet.place meet.small meet.first in
    let both : (crosses g (tiles_in a) (wire_at at.number) && crosses g (tiles_in b) (wire_at at.number)) ≡ true =
    and_from (crosses g (tiles_in a) (wire_at at.number)) (crosses g (tiles_in b) (wire_at at.number)) (at.same a ∙ meet.first) (at.same b ∙ meet.second) in
    let there : get_or (wires_from_cells g) at.number (wire_at at.number) ≡ wire_at at.number =
    get_or-map-range_with_len wire_at 0 (2 * cells_of g) at.number at.number (wire_at at.number) at.inside (omega arith) in
    in-filter (has_edge g) (λ e. crosses g (tiles_in a) e && crosses g (tiles_in b) e) (wires_from_cells g) at.number (wire_at at.number)
    (omega (arith, at.inside, length-map-range_with_len wire_at 0 (2 * cells_of g)))
    (ap (λ (e : Edge). has_edge g e) there ∙ at.edge)
    (ap (λ (e : Edge). crosses g (tiles_in a) e && crosses g (tiles_in b) e) there ∙ both)

-- ---- marks

-- a place of a wall's list is one of its places
pub places-walled : (g : Shape) (wall : Wall) (k d : ℕ) → IsWallOf g wall → k < length (places_of g wall) →
    get_or (places_of g wall) k d < 2 * tiles_of g → is_walled g wall (get_or (places_of g wall) k d) ≡ true
places-walled g wall k d is inside small =
    sym (walled-places g wall (get_or (places_of g wall) k d) is small)
    ∙ list_any_at (λ p. p == get_or (places_of g wall) k d) (places_of g wall) k d inside (grind (arith, nat_tests))

pub blocked-is : (g : Shape) (walls : List MeasuredWall) (marks : List Bool) (m : MeasuredWall) → AreMarks g walls marks → IsWallOf g m.wall →
    All (λ p. p < 2 * tiles_of g) (places_of g m.wall) →
    list_any (λ p. get_or marks p false) (places_of g m.wall) ≡ is_blocked_by g walls m
blocked-is g walls marks m are is small =
    same-truth (list_any (λ p. get_or marks p false) (places_of g m.wall)) (is_blocked_by g walls m)
    (λ marked.
    let some = Any-from_list_any (λ p. get_or marks p false) (places_of g m.wall) marked in
    let low : some.1 < 2 * tiles_of g = subst (λ (p : ℕ). p < 2 * tiles_of g) some.3 (small some.0 some.1 some.2) in
    let mine : is_walled g m.wall some.1 ≡ true = subst (λ (p : ℕ). is_walled g m.wall p ≡ true) some.3
    (places-walled g m.wall some.0 some.1 is some.2 (small some.0 some.1 some.2)) in
    let other = Any-from_list_any (λ (o : MeasuredWall). is_walled g o.wall some.1) walls (sym (are.each some.1 low) ∙ some.4) in
    list_any_at (λ (o : MeasuredWall). share_edge g (tiles_in o.wall) (tiles_in m.wall)) walls other.0 other.1 other.2
    (ap (λ (o : MeasuredWall). share_edge g (tiles_in o.wall) (tiles_in m.wall)) other.3
    ∙ meet-share g other.1.wall m.wall (record { place = some.1; small = low; first = other.4; second = mine })))
    (λ blocked.
    let other = Any-from_list_any (λ (o : MeasuredWall). share_edge g (tiles_in o.wall) (tiles_in m.wall)) walls blocked in
    let meet = share-meet g other.1.wall m.wall other.4 in
    let marked : get_or marks meet.place false ≡ true = are.each meet.place meet.small
    ∙ list_any_at (λ (o : MeasuredWall). is_walled g o.wall meet.place) walls other.0 other.1 other.2
    (ap (λ (o : MeasuredWall). is_walled g o.wall meet.place) other.3 ∙ meet.first) in
    let mine = Any-from_list_any (λ p. p == meet.place) (places_of g m.wall) (walled-places g m.wall meet.place is meet.small ∙ meet.second) in
    let same : mine.1 ≡ meet.place = let e = mine.4 in grind (arith, nat_tests, e) in
    list_any_at (λ p. get_or marks p false) (places_of g m.wall) mine.0 mine.1 mine.2
    (ap (λ (p : ℕ). get_or marks p false) (mine.3 ∙ same) ∙ marked))

pub marks-more : (g : Shape) (walls new : List MeasuredWall) (marks marks' : List Bool) (m : MeasuredWall) → AreMarks g walls marks → IsWallOf g m.wall →
    new ≡ walls ++ m ∷ [] → length marks' ≡ length marks →
    ((n : ℕ) → get_or marks' n false ≡ (list_any (λ p. p == n) (places_of g m.wall) || get_or marks n false)) → AreMarks g new marks'
marks-more g walls new marks marks' m are is added long each = record {
  long = long ∙ are.long;
  each = λ place low.
      each place
      ∙ ap (λ (b : Bool). b || get_or marks place false) (walled-places g m.wall place is low)
      ∙ ap (λ (b : Bool). is_walled g m.wall place || b) (are.each place low)
      ∙ turn (is_walled g m.wall place) (list_any (λ (o : MeasuredWall). is_walled g o.wall place) walls)
      ∙ sym (ap (λ (ws : List MeasuredWall). list_any (λ (o : MeasuredWall). is_walled g o.wall place) ws) added
      ∙ list_any-append (λ (o : MeasuredWall). is_walled g o.wall place) walls (m ∷ []));
} where
  turn : (a b : Bool) → (a || b) ≡ (b || (a || false))
  turn true true = refl
  turn true false = refl
  turn false true = refl
  turn false false = refl

-- ---- no two share an edge

abbrev pub tiles_list : List MeasuredWall → List Tiles
tiles_list walls = map (λ (m : MeasuredWall). tiles_in m.wall) walls

apart-push : (g : Shape) (walls : List MeasuredWall) (m : MeasuredWall) → ShareNoEdge g (tiles_list walls) → is_blocked_by g walls m ≡ false →
    ShareNoEdge g (tiles_list (walls ++ m ∷ []))
apart-push g [] m apart free = ((λ k d inside. absurd (omega (arith, inside))), tt)
apart-push g (w ∷ walls) m (first, rest) free =
    let parts = or-false (share_edge g (tiles_in w.wall) (tiles_in m.wall)) (is_blocked_by g walls m) free in (
      subst (λ (ts : List Tiles). All (λ other. share_edge g (tiles_in w.wall) other ≡ false) ts) (sym (map-append (λ (o : MeasuredWall). tiles_in o.wall) walls (m ∷ [])))
          (All-push (λ other. share_edge g (tiles_in w.wall) other ≡ false) (tiles_list walls) (tiles_in m.wall) first parts.0),
      apart-push g walls m rest parts.1,
    )
  where
    or-false : (a b : Bool) → (a || b) ≡ false → (a ≡ false) × (b ≡ false)
    or-false true b h = absurd (let e : true ≡ false = h in never e) where
      never : true ≡ false → ⊥
      never e = cc
    or-false false b h = (refl, h)

apart-step : (g : Shape) (walls : List MeasuredWall) (m : MeasuredWall) → ShareNoEdge g (tiles_list walls) → ShareNoEdge g (tiles_list (take_apart g walls m))
apart-step g walls m apart = by (cases_Bool (is_blocked_by g walls m)) where
  by : (is_blocked_by g walls m ≡ true) ⊎ (is_blocked_by g walls m ≡ false) → ShareNoEdge g (tiles_list (take_apart g walls m))
  by (inl on) = rw on apart
  by (inr off) = rw off (apart-push g walls m apart off)

pub apart-all : (g : Shape) (walls order : List MeasuredWall) → ShareNoEdge g (tiles_list walls) → ShareNoEdge g (tiles_list (fold (take_apart g) walls order))
apart-all g walls [] apart = apart
apart-all g walls (m ∷ order) apart = apart-all g (take_apart g walls m) order (apart-step g walls m apart)
