-- The walls in their order are walls of the grid, and the bounds that they show hold.
use Rattle.std.proofs.Common.{◌≡◌, ℕ, ◌+◌, ◌-◌, ◌*◌, ◌<◌, ◌≤◌, ◌^◌, ◌⊎◌, inl, inr, Bool, true, false, List, [], ◌∷◌, ◌++◌, All, map, filter, fold, get_or, count_by, sum_by, refl, sym, ap, subst, ◌∙◌, arith}
use Rattle.std.specs.List.{flat_map, range_with_len}
use Rattle.std.proofs.lemmas.Bool.{and_parts, cases_Bool}
use Rattle.std.proofs.lemmas.Bool.Decides.{nat_tests}
use Rattle.std.proofs.lemmas.List.Elements.{All-append, All-cons, All-filter, All-head, All-map, All-nil, All-push, All-tail, filter_passes}
use Rattle.std.proofs.lemmas.List.FromFn.{get_or-range_with_len, length-range_with_len}
use Rattle.std.proofs.lemmas.List.Sums.{sum_by-cons}
use Rattle.std.proofs.lemmas.Nat.{pow_pos}
use Rattle.gr_base.specs.Designs.{DesignView, IsDesign}
use Rattle.gr_base.specs.declared.grid.Shape.{Shape}
use Rattle.wall_laws.proofs.BoundLemmas.{are-bounds}
use Rattle.wall_laws.specs.Laws.{AreBounds}
use Rattle.wall_laws.specs.Spans.{least_wirelength, least_usable_wirelength}
use Rattle.wall_laws.specs.Walls.{holds, needs}
use Rattle.cut_bounds.specs.Bounds.{BoundsView}
use Rattle.cut_bounds.specs.BoundsOf.{bounds_by, bounds_of, is_box, is_column, is_row}
use Rattle.cut_bounds.specs.Fullest.{fullest_of}
use Rattle.cut_bounds.specs.Boxes.{boxes_on}
use Rattle.cut_bounds.specs.Candidates.{box_at, candidates, candidates_on, column_walls, counts, is_candidate, levels_of, row_walls, straight_cuts}
use Rattle.cut_bounds.specs.Cuts.{tile_at}
use Rattle.cut_bounds.specs.Boxes.{across_of}
use Rattle.cut_bounds.specs.Measured.{is_overfull, measured, ranked, ranked_with, tiles_in}
use Rattle.cut_bounds.specs.Places.{IsBoxOf, IsWallOf}
use Rattle.cut_bounds.specs.Taken.{excess_of, has_more, is_blocked_by, order_of, take_apart, taken_walls}
use Rattle.cut_bounds.specs.declared.wall.MeasuredWall.{MeasuredWall}
use Rattle.cut_bounds.specs.declared.wall.Wall.TheVariants.{Column, Row, Box}
use Rattle.cut_bounds.proofs.CandidateLemmas.{corner-on, end-on}
use Rattle.cut_bounds.proofs.ShareLemmas.{apart-all, tiles_list}

-- ---- lists

ranked-with-all : {X : Type 0} (P : X → Type 0) (lt : X → X → Bool) (x : X) (ys : List X) → P x → All P ys → All P (ranked_with lt x ys)
ranked-with-all P lt x [] here all = All-cons P x [] here (All-nil P)
ranked-with-all P lt x (y ∷ ys) here all = by (cases_Bool (lt x y)) (ranked-with-all P lt x ys here (All-tail P y ys all)) where
  by : (lt x y ≡ true) ⊎ (lt x y ≡ false) → All P (ranked_with lt x ys) → All P (ranked_with lt x (y ∷ ys))
  by (inl on) rest = rw on (All-cons P x (y ∷ ys) here all)
  by (inr off) rest = rw off (All-cons P y (ranked_with lt x ys) (All-head P y ys all) rest)

ranked-from : {X : Type 0} (P : X → Type 0) (lt : X → X → Bool) (so-far xs : List X) → All P so-far → All P xs →
    All P (fold (λ ranks x. ranked_with lt x ranks) so-far xs)
ranked-from P lt so-far [] was all = was
ranked-from P lt so-far (x ∷ xs) was all =
    ranked-from P lt (ranked_with lt x so-far) xs (ranked-with-all P lt x so-far (All-head P x xs all) was) (All-tail P x xs all)

pub ranked-all : {X : Type 0} (P : X → Type 0) (lt : X → X → Bool) (xs : List X) → All P xs → All P (ranked lt xs)
ranked-all P lt xs all = ranked-from P lt [] xs (All-nil P) all

range-all : (P : ℕ → Type 0) (n : ℕ) → ((k : ℕ) → k < n → P k) → All P (range_with_len 0 n)
range-all P n each k d inside =
    let lower : k < n = omega (arith, inside, length-range_with_len 0 n) in
    let at : get_or (range_with_len 0 n) k d ≡ k = get_or-range_with_len 0 n k d lower ∙ omega arith in
    subst P (sym at) (each k lower)

flat-all : {X : Type 0} (P : X → Type 0) (f : ℕ → List X) (ns : List ℕ) → ((n : ℕ) → All P (f n)) → All P (flat_map f ns)
flat-all P f [] each = All-nil P
flat-all P f (n ∷ ns) each = All-append P (f n) (flat_map f ns) (each n) (flat-all P f ns each)

-- ---- walls of the grid

pub straight-walls : (d : DesignView) → All (λ (m : MeasuredWall). IsWallOf d.frame.shape m.wall) (straight_cuts d)
straight-walls d =
    let P : MeasuredWall → Type 0 = λ m. IsWallOf d.frame.shape m.wall in
    All-append P (map (measured d) (column_walls d.frame.shape)) (map (measured d) (row_walls d.frame.shape))
    (All-map P (measured d) (column_walls d.frame.shape) (All-map (λ wall. P (measured d wall)) (λ x. Column x) (range_with_len 0 (d.frame.shape.columns - 1)) (range-all (λ x. x + 1 < d.frame.shape.columns) (d.frame.shape.columns - 1) (λ k lower. omega (arith, lower)))))
    (All-map P (measured d) (row_walls d.frame.shape) (All-map (λ wall. P (measured d wall)) (λ y. Row y) (range_with_len 0 (d.frame.shape.rows - 1)) (range-all (λ y. y + 1 < d.frame.shape.rows) (d.frame.shape.rows - 1) (λ k lower. omega (arith, lower)))))

box-is-wall : (g : Shape) (level n : ℕ) → n < boxes_on g level → IsBoxOf g (box_at g level n)
box-is-wall g level n inside =
    let on = corner-on g level n inside in
    let some = pow_pos level in
    let end = end-on g (2 ^ level) ((tile_at (across_of g level) n).x * 2 ^ level) ((tile_at (across_of g level) n).y * 2 ^ level) some on in
    record {
      columns = let c = on.column in omega (arith, c, some);
      rows = let r = on.row in omega (arith, r, some);
      right = end.column;
      top = end.row;
    }

pub candidate-walls : (d : DesignView) → All (λ (m : MeasuredWall). IsWallOf d.frame.shape m.wall) (candidates d)
candidate-walls d =
    let P : MeasuredWall → Type 0 = λ m. IsWallOf d.frame.shape m.wall in
    flat-all P (candidates_on d) (levels_of d.frame.shape)
    (λ level. All-map P (λ number. measured d (Box (box_at d.frame.shape level number))) (filter (is_candidate d level) (range_with_len 0 (boxes_on d.frame.shape level)))
    (All-filter (is_candidate d level) (λ number. IsBoxOf d.frame.shape (box_at d.frame.shape level number)) (range_with_len 0 (boxes_on d.frame.shape level))
    (range-all (λ number. IsBoxOf d.frame.shape (box_at d.frame.shape level number)) (boxes_on d.frame.shape level) (λ k lower. box-is-wall d.frame.shape level k lower))))

-- as the code holds them
pub order-walls : (g : Shape) (straight boxes cuts ranks order : List MeasuredWall) → All (λ (m : MeasuredWall). IsWallOf g m.wall) straight →
    All (λ (m : MeasuredWall). IsWallOf g m.wall) boxes → cuts ≡ filter is_overfull straight → ranks ≡ ranked has_more boxes → order ≡ cuts ++ ranks →
    All (λ (m : MeasuredWall). IsWallOf g m.wall) order
order-walls g straight boxes cuts ranks order are are' is is' joined =
    let P : MeasuredWall → Type 0 = λ m. IsWallOf g m.wall in
    subst (λ (ms : List MeasuredWall). All P ms) (sym joined)
    (All-append P cuts ranks
    (subst (λ (ms : List MeasuredWall). All P ms) (sym is) (All-filter is_overfull P straight are))
    (subst (λ (ms : List MeasuredWall). All P ms) (sym is') (ranked-all P has_more boxes are')))

-- ---- what is taken is measured, and more is needed of it than it holds

pub record IsExcess (d : DesignView) (m : MeasuredWall) : Type 0 where
  pub needed : m.needs ≡ needs d (tiles_in m.wall)
  pub held : m.holds ≡ holds d (tiles_in m.wall)
  pub over : m.holds < m.needs

overfull-all : (d : DesignView) (ms : List MeasuredWall) → All (λ (m : MeasuredWall). m ≡ measured d m.wall) ms → All (IsExcess d) (filter is_overfull ms)
overfull-all d ms all k e inside =
    let m : MeasuredWall = get_or (filter is_overfull ms) k e in
    let same : m ≡ measured d m.wall = All-filter is_overfull (λ (o : MeasuredWall). o ≡ measured d o.wall) ms all k e inside in
    let more : is_overfull m ≡ true = filter_passes is_overfull ms k e inside in
    record {
      needed = ap (λ (o : MeasuredWall). o.needs) same;
      held = ap (λ (o : MeasuredWall). o.holds) same;
      over = grind (arith, nat_tests, more);
    }

straight-measured : (d : DesignView) → All (λ (m : MeasuredWall). m ≡ measured d m.wall) (straight_cuts d)
straight-measured d =
    let P : MeasuredWall → Type 0 = λ m. m ≡ measured d m.wall in
    All-append P (map (measured d) (column_walls d.frame.shape)) (map (measured d) (row_walls d.frame.shape))
    (All-map P (measured d) (column_walls d.frame.shape) (λ k e inside. refl)) (All-map P (measured d) (row_walls d.frame.shape) (λ k e inside. refl))

candidates-excess : (d : DesignView) → All (IsExcess d) (candidates d)
candidates-excess d =
    flat-all (IsExcess d) (candidates_on d) (levels_of d.frame.shape)
    (λ level. All-map (IsExcess d) (λ number. measured d (Box (box_at d.frame.shape level number))) (filter (is_candidate d level) (range_with_len 0 (boxes_on d.frame.shape level)))
    (λ k e inside.
    let n : ℕ = get_or (filter (is_candidate d level) (range_with_len 0 (boxes_on d.frame.shape level))) k e in
    let is : is_candidate d level n ≡ true = filter_passes (is_candidate d level) (range_with_len 0 (boxes_on d.frame.shape level)) k e inside in
    let more = (and_parts (counts d.frame.shape level (box_at d.frame.shape level n)) (is_overfull (measured d (Box (box_at d.frame.shape level n)))) is).1 in
    record { needed = refl; held = refl; over = grind (arith, nat_tests, more) }))

take-keeps : (P : MeasuredWall → Type 0) (g : Shape) (walls order : List MeasuredWall) → All P walls → All P order → All P (fold (take_apart g) walls order)
take-keeps P g walls [] all more = all
take-keeps P g walls (m ∷ order) all more =
    take-keeps P g (take_apart g walls m) order (by (cases_Bool (is_blocked_by g walls m))) (All-tail P m order more)
  where
    by : (is_blocked_by g walls m ≡ true) ⊎ (is_blocked_by g walls m ≡ false) → All P (take_apart g walls m)
    by (inl on) = rw on all
    by (inr off) = rw off (All-push P walls m all (All-head P m order more))

taken-excess : (d : DesignView) → All (IsExcess d) (taken_walls d)
taken-excess d =
    take-keeps (IsExcess d) d.frame.shape [] (order_of d) (All-nil (IsExcess d))
    (All-append (IsExcess d) (filter is_overfull (straight_cuts d)) (ranked has_more (candidates d))
    (overfull-all d (straight_cuts d) (straight-measured d)) (ranked-all (IsExcess d) has_more (candidates d) (candidates-excess d)))

excess-sum : (d : DesignView) (ms : List MeasuredWall) → All (IsExcess d) ms →
    sum_by (λ wall. needs d wall - holds d wall) (tiles_list ms) ≡ sum_by excess_of ms
excess-sum d [] all = refl
excess-sum d (m ∷ ms) all =
    let first = All-head (IsExcess d) m ms all in
    let rest = excess-sum d ms (All-tail (IsExcess d) m ms all) in
    let a = first.needed in
    let b = first.held in
    omega (arith, a, b, rest, sum_by-cons (λ wall. needs d wall - holds d wall) (tiles_in m.wall) (tiles_list ms), sum_by-cons excess_of m ms)

-- no edge sets are below the bounds of a design
pub bounds-hold : (d : DesignView) (via_cost : ℕ) → IsDesign d →
    AreBounds d via_cost (bounds_of d via_cost).overflow (bounds_of d via_cost).wirelength (bounds_of d via_cost).usable_wirelength
bounds-hold d via_cost is =
    subst (λ (n : ℕ). AreBounds d via_cost n (least_wirelength d via_cost) (least_usable_wirelength d via_cost)) (excess-sum d (taken_walls d) (taken-excess d))
    (are-bounds d is via_cost (tiles_list (taken_walls d)) (apart-all d.frame.shape [] (order_of d) tt)
    (All-map (λ wall. holds d wall ≤ needs d wall) (λ (m : MeasuredWall). tiles_in m.wall) (taken_walls d)
    (λ k e inside.
    let x = taken-excess d k e inside in
    let a = x.needed in
    let b = x.held in
    let o = x.over in
    omega (arith, a, b, o))))

-- what the code takes
pub taken-is : (g : Shape) (straight boxes cuts ranks read order read' taken : List MeasuredWall) → cuts ≡ filter is_overfull straight → ranks ≡ ranked has_more boxes →
    read ≡ ranks → order ≡ cuts ++ read → read' ≡ order → taken ≡ fold (take_apart g) [] read' →
    taken ≡ fold (take_apart g) [] (filter is_overfull straight ++ ranked has_more boxes)
taken-is g straight boxes cuts ranks read order read' taken is is' reads joined reads' took =
    took ∙ ap (λ (ms : List MeasuredWall). fold (take_apart g) [] ms)
    (reads' ∙ joined ∙ ap (λ (ms : List MeasuredWall). cuts ++ ms) (reads ∙ is') ∙ ap (λ (ms : List MeasuredWall). ms ++ ranked has_more boxes) is)

pub order-read : (g : Shape) (straight boxes cuts ranks read order read' : List MeasuredWall) → All (λ (m : MeasuredWall). IsWallOf g m.wall) straight →
    All (λ (m : MeasuredWall). IsWallOf g m.wall) boxes → cuts ≡ filter is_overfull straight → ranks ≡ ranked has_more boxes → read ≡ ranks → order ≡ cuts ++ read → read' ≡ order →
    All (λ (m : MeasuredWall). IsWallOf g m.wall) read'
order-read g straight boxes cuts ranks read order read' are are' is is' reads joined reads' =
    order-walls g straight boxes cuts ranks read' are are' is is' (reads' ∙ joined ∙ ap (λ (ms : List MeasuredWall). cuts ++ ms) reads)

-- all that is taken of a design
pub walls-taken : (d : DesignView) (g : Shape) (straight read boxes taken : List MeasuredWall) → g ≡ d.frame.shape → straight ≡ straight_cuts d → read ≡ straight → boxes ≡ candidates d →
    taken ≡ fold (take_apart g) [] (filter is_overfull read ++ ranked has_more boxes) → taken ≡ taken_walls d
walls-taken d g straight read boxes taken same is reads is' took =
    took ∙ ap (λ (s : Shape). fold (take_apart s) [] (filter is_overfull read ++ ranked has_more boxes)) same
    ∙ ap (λ (ms : List MeasuredWall). fold (take_apart d.frame.shape) [] (filter is_overfull ms ++ ranked has_more boxes)) (reads ∙ is)
    ∙ ap (λ (ms : List MeasuredWall). fold (take_apart d.frame.shape) [] (filter is_overfull (straight_cuts d) ++ ranked has_more ms)) is'

pub walls-read : (d : DesignView) (g : Shape) (walls read : List MeasuredWall) → g ≡ d.frame.shape → All (λ (m : MeasuredWall). IsWallOf d.frame.shape m.wall) walls → read ≡ walls →
    All (λ (m : MeasuredWall). IsWallOf g m.wall) read
walls-read d g walls read same are reads =
    subst (λ (s : Shape). All (λ (m : MeasuredWall). IsWallOf s m.wall) read) (sym same)
    (subst (λ (ms : List MeasuredWall). All (λ (m : MeasuredWall). IsWallOf d.frame.shape m.wall) ms) (sym reads) are)

abbrev pub bounds-view : (o w u c r b : ℕ) → List MeasuredWall → BoundsView
bounds-view o w u c r b f = record { overflow = o; wirelength = w; usable_wirelength = u; columns = c; rows = r; boxes = b; fullest = f }

-- the figures that the code gives are those that the walls show
pub figures-are : (wirelength usable : ℕ) (straight taken told read fullest : List MeasuredWall) (overflow columns rows boxes : ℕ) →
    overflow ≡ sum_by excess_of taken → columns ≡ count_by is_column taken → rows ≡ count_by is_row taken → boxes ≡ count_by is_box taken →
    told ≡ straight ++ filter is_box taken → read ≡ told → fullest ≡ fullest_of read →
    bounds-view overflow wirelength usable columns rows boxes fullest ≡ bounds_by wirelength usable straight taken
figures-are w u straight taken told read fullest overflow columns rows boxes over cs rs bs tells reads full =
    same over cs rs bs (full ∙ ap (λ (ms : List MeasuredWall). fullest_of ms) (reads ∙ tells))
  where
    same : {o o' c c' r r' b b' : ℕ} {f f' : List MeasuredWall} → o ≡ o' → c ≡ c' → r ≡ r' → b ≡ b' → f ≡ f' →
        bounds-view o w u c r b f ≡ bounds-view o' w u c' r' b' f'
    same {o' = o'} {c = c} {c' = c'} {r = r} {r' = r'} {b = b} {b' = b'} {f = f} eo ec er eb ef =
        ap (λ (n : ℕ). bounds-view n w u c r b f) eo ∙ ap (λ (n : ℕ). bounds-view o' w u n r b f) ec ∙ ap (λ (n : ℕ). bounds-view o' w u c' n b f) er
        ∙ ap (λ (n : ℕ). bounds-view o' w u c' r' n f) eb ∙ ap (λ (ms : List MeasuredWall). bounds-view o' w u c' r' b' ms) ef

-- where all of it is the design's, they are its bounds
pub bounds-are : (d : DesignView) (via_cost wirelength usable : ℕ) (straight taken : List MeasuredWall) (b : BoundsView) →
    wirelength ≡ least_wirelength d via_cost → usable ≡ least_usable_wirelength d via_cost → straight ≡ straight_cuts d → taken ≡ taken_walls d →
    b ≡ bounds_by wirelength usable straight taken → b ≡ bounds_of d via_cost
bounds-are d via_cost wirelength usable straight taken b wire wire' is is' shown =
    shown ∙ ap (λ (n : ℕ). bounds_by n usable straight taken) wire
    ∙ ap (λ (n : ℕ). bounds_by (least_wirelength d via_cost) n straight taken) wire'
    ∙ ap (λ (ms : List MeasuredWall). bounds_by (least_wirelength d via_cost) (least_usable_wirelength d via_cost) ms taken) is
    ∙ ap (λ (ms : List MeasuredWall). bounds_by (least_wirelength d via_cost) (least_usable_wirelength d via_cost) (straight_cuts d) ms) is'

pub law-is : (d : DesignView) (via_cost : ℕ) (b : BoundsView) → IsDesign d → b ≡ bounds_of d via_cost → AreBounds d via_cost b.overflow b.wirelength b.usable_wirelength
law-is d via_cost b is same =
    subst (λ (v : BoundsView). AreBounds d via_cost v.overflow v.wirelength v.usable_wirelength) (sym same) (bounds-hold d via_cost is)
