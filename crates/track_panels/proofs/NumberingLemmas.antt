-- A left-edge numbering is valid, uses just the tracks below their number, and is fewest.
use Rattle.std.proofs.Common.{◌≡◌, ℕ, ◌+◌, ◌-◌, ◌<◌, ◌≤◌, inl, inr, Bool, true, ◌==◌, ◌||◌, ◌&&◌, cond, List, [], ◌∷◌, ◌++◌, map, filter, length, get_or, take, All, Any, Contains, count_by, IsTrue, refl, sym, ap, subst, ◌∙◌, arith}
use Rattle.std.specs.List.{IsDistinct, list_any, position_or_len, range_with_len, zip}
use Rattle.std.specs.Set.{unique_keys}
use Rattle.std.proofs.lemmas.Bool.{cases_Bool, or_cases, or_left, or_right}
use Rattle.std.proofs.lemmas.Bool.Decides.{Decides-eqb, nat_tests}
use Rattle.std.proofs.lemmas.Cmp.{nat_eq_equiv}
use Rattle.std.proofs.lemmas.List.{length-map, get_or-map, get_or-take, length-take, take_more}
use Rattle.std.proofs.lemmas.List.Elements.{All-map, All-filter, All-weaker, All-contains, filter_passes}
use Rattle.std.proofs.lemmas.List.Folds.{list_any-from_Any}
use Rattle.std.proofs.lemmas.List.FromFn.{length-range_with_len}
use Rattle.std.proofs.lemmas.List.Kept.{AllPairs-filter}
use Rattle.std.proofs.lemmas.List.Sums.{length-filter, sum_by-cons}
use Rattle.std.proofs.lemmas.Map.Made.{length-le_from_is_member, length-from_keys, IsDistinct-from_AllPairs}
use Rattle.std.proofs.lemmas.Map.Steps.{length-le_from_distinct_below}
use Rattle.std.proofs.lemmas.Option.{slice_get-get_or}
use Rattle.gr_base.proofs.General.{same-truth}
use Rattle.gr_base.specs.Limits.{most_cells}
use Rattle.track_panels.specs.declared.piece.Piece.{Piece}
use Rattle.track_panels.specs.Pieces.{covers, meet, covering}
use Rattle.track_panels.specs.Numberings.{Placed, IsValid, IsLeftEdge, IsFewest, IsPanel, left_edge, tracks_used, tracks_of, point_of}
use Rattle.track_panels.specs.OpenTracks.{AreTracks}
use Rattle.track_panels.proofs.LeftEdgeLemmas.{each-of, range-distinct, range-below, range-has, position-first, tracks-are}

-- ---- numberings beside pieces

pub first-zip : (pieces : List Piece) (numbers : List ℕ) → length numbers ≡ length pieces → map (λ p. p.0) (zip pieces numbers) ≡ pieces
first-zip [] numbers same = refl
first-zip (p ∷ ps) [] same = absurd (omega (arith, same))
first-zip (p ∷ ps) (n ∷ ns) same = ap (λ (qs : List Piece). p ∷ qs) (first-zip ps ns (omega (arith, same)))

pub second-zip : (pieces : List Piece) (numbers : List ℕ) → length numbers ≡ length pieces → map (λ p. p.1) (zip pieces numbers) ≡ numbers
second-zip [] [] same = refl
second-zip [] (n ∷ ns) same = absurd (omega (arith, same))
second-zip (p ∷ ps) [] same = absurd (omega (arith, same))
second-zip (p ∷ ps) (n ∷ ns) same = ap (λ (ms : List ℕ). n ∷ ms) (second-zip ps ns (omega (arith, same)))

pub zip-push : (pieces : List Piece) (numbers : List ℕ) (p : Piece) (n : ℕ) → length numbers ≡ length pieces →
    zip (pieces ++ p ∷ []) (numbers ++ n ∷ []) ≡ zip pieces numbers ++ (p, n) ∷ []
zip-push [] [] p n same = refl
zip-push [] (m ∷ ms) p n same = absurd (omega (arith, same))
zip-push (q ∷ qs) [] p n same = absurd (omega (arith, same))
zip-push (q ∷ qs) (m ∷ ms) p n same = ap (λ (ps : Placed). (q, m) ∷ ps) (zip-push qs ms p n (omega (arith, same)))

covering-zip : (tile : ℕ) (pieces : List Piece) (numbers : List ℕ) → length numbers ≡ length pieces →
    count_by (λ p. covers tile p.0) (zip pieces numbers) ≡ covering tile pieces
covering-zip tile [] numbers same = refl
covering-zip tile (p ∷ ps) [] same = absurd (omega (arith, same))
covering-zip tile (p ∷ ps) (n ∷ ns) same =
    let a = sum_by-cons (λ (q : Piece × ℕ). cond (covers tile q.0) 1 0) (p, n) (zip ps ns) in
    let b = sum_by-cons (λ (q : Piece). cond (covers tile q) 1 0) p ps in
    a ∙ ap (λ (k : ℕ). cond (covers tile p) 1 0 + k) (covering-zip tile ps ns (omega (arith, same))) ∙ sym b

pub zip-more : (pieces : List Piece) (numbers more : List ℕ) (at : ℕ) (d : Piece) (track : ℕ) → at < length pieces → length numbers ≡ at →
    more ≡ numbers ++ track ∷ [] → zip (take (at + 1) pieces) more ≡ zip (take at pieces) numbers ++ (get_or pieces at d, track) ∷ []
zip-more pieces numbers more at d track inside long grown =
    let short : length numbers ≡ length (take at pieces) = omega (arith, long, length-take at pieces, inside) in
    ap (λ (ns : List ℕ). zip (take (at + 1) pieces) ns) grown
    ∙ ap (λ (ps : List Piece). zip ps (numbers ++ track ∷ [])) (take_more pieces at d inside)
    ∙ zip-push (take at pieces) numbers (get_or pieces at d) track short

-- ---- it is valid

pub left_edge-valid : (placed : Placed) → IsLeftEdge placed → IsValid placed
left_edge-valid placed edge i j d before inside meets same =
    let at = slice_get-get_or placed j d inside in
    let clear = (edge j (get_or placed j d) at).clear in
    let short = length-take j placed in
    let p = clear i d (omega (arith, short, before, inside)) in
    let is = get_or-take j placed i d before in
    let below = subst (λ (q : Piece × ℕ). q.1 ≡ (get_or placed j d).1 → q.0.high < (get_or placed j d).0.low) is p same in
    grind (arith, nat_tests, below, meets)

-- ---- the tracks at a tile

abbrev on-tile : ℕ → Piece × ℕ → Bool
on-tile tile p = covers tile p.0

abbrev here : ℕ → Placed → List ℕ
here tile placed = map (λ p. p.1) (filter (on-tile tile) placed)

here-length : (tile : ℕ) (pieces : List Piece) (numbers : List ℕ) → length numbers ≡ length pieces →
    length (here tile (zip pieces numbers)) ≡ covering tile pieces
here-length tile pieces numbers same =
    length-map (filter (on-tile tile) (zip pieces numbers)) (λ p. p.1) ∙ length-filter (on-tile tile) (zip pieces numbers) ∙ covering-zip tile pieces numbers same

here-distinct : (tile : ℕ) (placed : Placed) → IsValid placed → IsDistinct (λ a b. a == b) (here tile placed)
here-distinct tile placed valid =
    let kept = filter (on-tile tile) placed in
    let pairs = AllPairs-filter (λ (a b : Piece × ℕ). IsTrue (meet a.0 b.0) → (a.1 ≡ b.1 → ⊥)) (on-tile tile) placed valid in
    let pass = filter_passes (on-tile tile) placed in
    IsDistinct-from_AllPairs Decides-eqb (map (λ p. p.1) kept) (λ i j d before inside.
    let long = length-map kept (λ (p : Piece × ℕ). p.1) in
    let e : Piece × ℕ = (record { net = 0; low = 0; high = 0 }, 0) in
    let a = get_or kept i e in
    let b = get_or kept j e in
    let at_a = get_or-map (λ (p : Piece × ℕ). p.1) kept i e d (omega (arith, before, inside, long)) in
    let at_b = get_or-map (λ (p : Piece × ℕ). p.1) kept j e d (omega (arith, inside, long)) in
    let on_a = pass i e (omega (arith, before, inside, long)) in
    let on_b = pass j e (omega (arith, inside, long)) in
    let meets : IsTrue (meet a.0 b.0) = common tile a.0 b.0 on_a on_b in
    λ same. pairs i j e before (omega (arith, inside, long)) meets (sym at_a ∙ same ∙ at_b))
  where
    common : (tile : ℕ) (a b : Piece) → covers tile a ≡ true → covers tile b ≡ true → IsTrue (meet a b)
    common tile a b on_a on_b = grind (arith, nat_tests, on_a, on_b)

here-all : (P : ℕ → Type 0) (tile : ℕ) (placed : Placed) → All (λ p. covers tile p.0 ≡ true → P p.1) placed → All P (here tile placed)
here-all P tile placed all =
    let kept = filter (on-tile tile) placed in
    let pass = filter_passes (on-tile tile) placed in
    let allowed = All-filter (on-tile tile) (λ (p : Piece × ℕ). covers tile p.0 ≡ true → P p.1) placed all in
    All-map P (λ (p : Piece × ℕ). p.1) kept (λ k d inside. allowed k d inside (pass k d inside))

here-any : (q tile : ℕ) (placed : Placed) → list_any (λ t. q == t) (here tile placed) ≡ list_any (λ p. on-tile tile p && (q == p.1)) placed
here-any q tile [] = refl
here-any q tile (p ∷ ps) =
    elim (cases_Bool (on-tile tile p)) [
      | inl on ↦ rw on (ap (λ (b : Bool). (q == p.1) || b) (here-any q tile ps))
      | inr off ↦ rw off (here-any q tile ps)
    ]

here-has : (q tile : ℕ) (placed : Placed) → Any (λ p. (p.1 ≡ q) × IsTrue (covers tile p.0)) placed → list_any (λ t. q == t) (here tile placed) ≡ true
here-has q tile placed some =
    here-any q tile placed
    ∙ list_any-from_Any (λ p. on-tile tile p && (q == p.1)) placed (some.0, some.1, some.2, some.3, grind (arith, nat_tests, some.4.0, some.4.1))

-- ---- different tracks

unique-has : (q : ℕ) (xs : List ℕ) → list_any (λ x. q == x) xs ≡ true → list_any (λ x. q == x) (unique_keys (λ a b. a == b) xs) ≡ true
unique-has q [] is = is
unique-has q (x ∷ xs) is =
    elim (cases_Bool (list_any (λ y. x == y) xs)) [
      | inl again ↦ rw again (elim (or_cases (q == x) (list_any (λ y. q == y) xs) is) [
        | inl same ↦ let e : x ≡ q = grind (arith, nat_tests, same) in unique-has q xs (subst (λ (z : ℕ). list_any (λ y. z == y) xs ≡ true) e again)
        | inr later ↦ unique-has q xs later
      ])
      | inr new ↦ rw new (elim (or_cases (q == x) (list_any (λ y. q == y) xs) is) [
        | inl same ↦ or_left (q == x) (list_any (λ y. q == y) (unique_keys (λ a b. a == b) xs)) same
        | inr later ↦ or_right (q == x) (list_any (λ y. q == y) (unique_keys (λ a b. a == b) xs)) (unique-has q xs later)
      ])
    ]

-- ---- what follows

module _ (pieces : List Piece) (numbers : List ℕ) (tile opened point : ℕ) (filled : 0 < length pieces) (on-chip : All (λ piece. piece.high < most_cells) pieces) (long : length numbers ≡ length pieces)
    (tracks : AreTracks (zip pieces numbers) tile opened point) where
  placed : Placed
  placed = zip pieces numbers

  valid : IsValid (zip pieces numbers)
  valid = left_edge-valid (zip pieces numbers) tracks.left_edge

  below-all : All (λ n. n < opened) numbers
  below-all = subst (λ (ns : List ℕ). All (λ n. n < opened) ns) (second-zip pieces numbers long)
      (All-map (λ (n : ℕ). n < opened) (λ (p : Piece × ℕ). p.1) (zip pieces numbers) tracks.below)

  used-there : (track : ℕ) → track < opened → Contains numbers track
  used-there track in' =
      let some = tracks.covered track in' in
      let at = get_or-map (λ (p : Piece × ℕ). p.1) (zip pieces numbers) some.0 some.1 track some.2 in
      let P : List ℕ → Type 0 = λ ns. get_or ns some.0 track ≡ track in
      let size = length-map (zip pieces numbers) (λ (p : Piece × ℕ). p.1) in
      let same = second-zip pieces numbers long in
      let size' = ap (λ (ns : List ℕ). length ns) same in
      (some.0, omega (arith, some.2, size, size'), subst P same (at ∙ ap (λ (p : Piece × ℕ). p.1) some.3 ∙ some.4.0))

  some-open : 0 < opened
  some-open =
      let some = filled in
      let few = length-map (zip pieces numbers) (λ (p : Piece × ℕ). p.0) in
      let size = ap (λ (ps : List Piece). length ps) (first-zip pieces numbers long) in
      let e : Piece × ℕ = (record { net = 0; low = 0; high = 0 }, 0) in
      let first = tracks.below 0 e (omega (arith, some, few, size)) in
      omega (arith, first)

  at-most : (other : ℕ) → covering other pieces ≤ opened
  at-most other =
      let few = length-le_from_distinct_below (here other (zip pieces numbers)) opened (here-distinct other (zip pieces numbers) valid)
      (λ q is. each-of (λ n. n < opened) (here other (zip pieces numbers)) q is
      (here-all (λ n. n < opened) other (zip pieces numbers) (All-weaker (λ (p : Piece × ℕ). p.1 < opened) (λ p. covers other p.0 ≡ true → p.1 < opened) (λ p h on. h) (zip pieces numbers) tracks.below))) in
      omega (arith, few, here-length other pieces numbers long)

  at-least : opened ≤ covering point pieces
  at-least =
      let many = length-le_from_is_member nat_eq_equiv (range_with_len 0 opened) (here point (zip pieces numbers)) (range-distinct opened)
      (λ q is. here-has q point (zip pieces numbers) (tracks.covered q (range-below opened q is))) in
      omega (arith, many, length-range_with_len 0 opened, here-length point pieces numbers long)

  before-point : (other : ℕ) → other < point → covering other pieces < opened
  before-point other before =
      let few = length-le_from_distinct_below (here other (zip pieces numbers)) (opened - 1) (here-distinct other (zip pieces numbers) valid)
      (λ q is. each-of (λ n. n < opened - 1) (here other (zip pieces numbers)) q is
      (here-all (λ n. n < opened - 1) other (zip pieces numbers)
      (All-weaker (λ (p : Piece × ℕ). p.0.low < point → p.1 + 1 < opened) (λ p. covers other p.0 ≡ true → p.1 < opened - 1)
      (λ p h on. let low : p.0.low ≤ other = grind (arith, nat_tests, on) in let l = h (omega (arith, low, before)) in omega (arith, l)) (zip pieces numbers) tracks.early))) in
      omega (arith, few, here-length other pieces numbers long, some-open)

  at-point : covering point pieces ≡ opened
  at-point = omega (arith, at-most point, at-least)

  just-used : tracks_used numbers ≡ opened
  just-used =
      let same : (q : ℕ) → list_any (λ x. q == x) (range_with_len 0 opened) ≡ list_any (λ x. q == x) numbers = λ q.
      same-truth (list_any (λ x. q == x) (range_with_len 0 opened)) (list_any (λ x. q == x) numbers)
      (λ is. let at = used-there q (range-below opened q is) in list_any-from_Any (λ x. q == x) numbers (at.0, q, at.1, at.2, grind (arith, nat_tests)))
      (λ is. range-has opened q (each-of (λ n. n < opened) numbers q is below-all)) in
      sym (length-from_keys nat_eq_equiv (range_with_len 0 opened) numbers (range-distinct opened) same) ∙ length-range_with_len 0 opened

  in-chip : point < most_cells
  in-chip =
      let some = tracks.covered 0 some-open in
      let at = get_or-map (λ (p : Piece × ℕ). p.0) (zip pieces numbers) some.0 some.1 some.1.0 some.2 in
      let size = length-map (zip pieces numbers) (λ (p : Piece × ℕ). p.0) in
      let same = first-zip pieces numbers long in
      let size' = ap (λ (ps : List Piece). length ps) same in
      let is : get_or pieces some.0 some.1.0 ≡ some.1.0 = subst (λ (ps : List Piece). get_or ps some.0 some.1.0 ≡ some.1.0) same (at ∙ ap (λ (p : Piece × ℕ). p.0) some.3) in
      let high = subst (λ (p : Piece). p.high < most_cells) is (on-chip some.0 some.1.0 (omega (arith, some.2, size, size'))) in
      let covered : point ≤ some.1.0.high = grind (arith, nat_tests, some.4.1) in
      omega (arith, high, covered)

  same-numbers : numbers ≡ left_edge pieces
  unfolding left_edge
  same-numbers = sym (tracks-are [] pieces numbers long tracks.left_edge)

  same-tracks : opened ≡ tracks_of pieces
  unfolding tracks_of
  same-tracks = sym just-used ∙ ap (λ (ns : List ℕ). tracks_used ns) same-numbers

  same-point : point ≡ point_of pieces
  unfolding point_of
  same-point =
      let at : (opened' : ℕ) → opened ≡ opened' → position_or_len (λ t. covering t pieces == opened') (range_with_len 0 most_cells) ≡ point = λ opened' is.
      position-first (λ t. covering t pieces == opened') most_cells point (omega (arith, in-chip))
      (λ inside. let e = at-point in grind (arith, nat_tests, e, is))
      (λ other before. let l = before-point other before in grind (arith, nat_tests, l, is)) in
      sym (at (tracks_of pieces) same-tracks)

  fewest : IsFewest pieces numbers
  fewest others size valid' =
      let many = length-le_from_is_member nat_eq_equiv (here point (zip pieces others)) (unique_keys (λ a b. a == b) others) (here-distinct point (zip pieces others) valid')
      (λ q is. unique-has q others (each-of (λ n. list_any (λ x. n == x) others ≡ true) (here point (zip pieces others)) q is
      (here-all (λ n. list_any (λ x. n == x) others ≡ true) point (zip pieces others) (all-there others size)))) in
      omega (arith, many, here-length point pieces others size, at-point, just-used)
    where
      all-there : (others : List ℕ) → length others ≡ length pieces → All (λ p. covers point p.0 ≡ true → list_any (λ x. p.1 == x) others ≡ true) (zip pieces others)
      all-there others size k d inside =
          let p = get_or (zip pieces others) k d in
          let at = get_or-map (λ (q : Piece × ℕ). q.1) (zip pieces others) k d p.1 inside in
          let long' = length-map (zip pieces others) (λ (q : Piece × ℕ). q.1) in
          let same = second-zip pieces others size in
          let there : get_or others k p.1 ≡ p.1 = subst (λ (ns : List ℕ). get_or ns k p.1 ≡ p.1) same at in
          let few = ap (λ (ns : List ℕ). length ns) same in
          λ on. list_any-from_Any (λ x. p.1 == x) others (k, p.1, omega (arith, inside, few, long'), there, grind (arith, nat_tests))

  pub numbered : IsPanel pieces (record { numbers = numbers; tracks = opened; point = point })
  numbered = record {
    numbers = same-numbers;
    tracks = same-tracks;
    point = same-point;
    each = long;
    least = tracks.left_edge;
    valid = valid;
    used = λ track. (λ there. All-contains (λ n. n < opened) numbers track below-all there, used-there track);
    fullest = record { covered = at-point; least = before-point; most = at-most };
    fewest = fewest;
  }
