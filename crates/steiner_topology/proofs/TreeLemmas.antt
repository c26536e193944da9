-- A branch makes a tree of a tree, and saves what it is to save.
use Rattle.std.proofs.Common.{◌≡◌, ℕ, zero, suc, ◌+◌, ◌<◌, ◌≤◌, ◌⊎◌, inl, inr, Bool, true, false, not, ◌&&◌, ◌||◌, ◌==◌, nat_lt, Option, Some, None, IfSome, List, [], ◌∷◌, length, filter, fold, get_or, All, sum_by, refl, sym, ap, subst, ◌∙◌, arith}
use Rattle.std.specs.List.{range_with_len}
use Rattle.std.proofs.lemmas.Bool.{cases_lt, cases_eq, cases_Bool}
use Rattle.std.proofs.lemmas.Bool.Decides.{nat_tests}
use Rattle.std.proofs.lemmas.List.{length-set, length_push, get_or_push, get_or_append_left, get_or-set_same, get_or-set_other}
use Rattle.std.proofs.lemmas.List.Elements.{All-get_or, All-head, All-tail, All-set, All-push, All-weaker}
use Rattle.std.proofs.lemmas.List.Sums.{sum_by-cons, sum_by-set, sum_by_push}
use Rattle.steiner_topology.specs.declared.point.Join.{Join}
use Rattle.steiner_topology.specs.declared.point.Point.{Point}
use Rattle.steiner_topology.specs.Tile.{Tile, distance}
use Rattle.steiner_topology.specs.Topology.{point, place_of, parent_of, hung, is_neighbour, meeting, saving, better, best_neighbour, with_branch, branched, branched_if, handled, wirelength}
use Rattle.steiner_topology.specs.Spanning.{LeadsUp, root, over, IsTopology}
use Rattle.steiner_topology.proofs.TopologyLemmas.{branched_if-yes, branched_if-no}
use Rattle.steiner_topology.proofs.MedianLemmas.{meets, distance-sym}

-- the default of a read
abbrev none : Point
none = point (0, 0) 0

-- points hung elsewhere
pub place_of-hung : (points : List Point) (v b u : ℕ) → v < length points → place_of (hung points v b) u ≡ place_of points u
place_of-hung points v b u below = elim (cases_eq u v) [
  | inl same ↦
      ap (λ (n : ℕ). place_of (hung points v b) n) same ∙
      ap (λ (p : Point). p.tile) (get_or-set_same points v (point (place_of points v) b) none below) ∙
      ap (λ (n : ℕ). place_of points n) (sym same)
  | inr other ↦ ap (λ (p : Point). p.tile) (get_or-set_other points v u (point (place_of points v) b) none other)
]

pub parent_of-hung_same : (points : List Point) (v b : ℕ) → v < length points → parent_of (hung points v b) v ≡ b
parent_of-hung_same points v b below = ap (λ (p : Point). p.parent) (get_or-set_same points v (point (place_of points v) b) none below)

pub parent_of-hung_other : (points : List Point) (v b u : ℕ) → (u ≡ v → ⊥) → parent_of (hung points v b) u ≡ parent_of points u
parent_of-hung_other points v b u other = ap (λ (p : Point). p.parent) (get_or-set_other points v u (point (place_of points v) b) none other)

pub length-hung : (points : List Point) (v b : ℕ) → length (hung points v b) ≡ length points
length-hung points v b = length-set points v (point (place_of points v) b)

-- sums of what is equal at each element
pub sum_by-same : (f g : Point → ℕ) (xs : List Point) → All (λ x. f x ≡ g x) xs → sum_by f xs ≡ sum_by g xs
sum_by-same f g [] same = refl
sum_by-same f g (x ∷ xs) same =
    let here = All-head (λ y. f y ≡ g y) x xs same in
    let rest = sum_by-same f g xs (All-tail (λ y. f y ≡ g y) x xs same) in
    let left = sum_by-cons f x xs in
    let right = sum_by-cons g x xs in
    omega arith

-- the length of a point's wire, with the tiles of its parents at hand
abbrev pub wire_of : (ℕ → Tile) → Point → ℕ
wire_of at p = distance p.tile (at p.parent)

-- one point hung elsewhere, on tiles that stay
pub sum-hung : (at : ℕ → Tile) (points : List Point) (v b : ℕ) → v < length points →
    sum_by (wire_of at) (hung points v b) + distance (place_of points v) (at (parent_of points v)) ≡
    sum_by (wire_of at) points + distance (place_of points v) (at b)
sum-hung at points v b below = sum_by-set (wire_of at) points v (point (place_of points v) b) none below

-- what a new point changes
pub record Branches (points : List Point) (tile : Tile) (upper lower j : ℕ) (new : List Point) : Type 0 where
  pub size : length new ≡ length points + 1
  pub places : (u : ℕ) → u < length points → place_of new u ≡ place_of points u
  pub place : place_of new (length points) ≡ tile
  pub parent : parent_of new (length points) ≡ upper
  pub lower_parent : parent_of new lower ≡ length points
  pub j_parent : parent_of new j ≡ length points
  pub others : (u : ℕ) → u < length points → (u ≡ lower → ⊥) → (u ≡ j → ⊥) → parent_of new u ≡ parent_of points u
  pub inside : All (λ p. p.parent < length new) new
  pub wires : wirelength new + distance (place_of points lower) (place_of points (parent_of points lower)) +
      distance (place_of points j) (place_of points (parent_of points j)) ≡
      wirelength points + distance (place_of points lower) tile + distance (place_of points j) tile + distance tile (place_of points upper)

pub with_branch-branches : (points : List Point) (tile : Tile) (upper lower j : ℕ) → upper < length points → lower < length points → j < length points →
    (j ≡ lower → ⊥) → All (λ p. p.parent < length points) points → Branches points tile upper lower j (with_branch points tile upper lower j)
with_branch-branches points tile upper lower j upper_in lower_in j_in apart inside =
    let n = length points in
    let once = hung points lower n in
    let twice = hung once j n in
    let new = with_branch points tile upper lower j in
    let once_size : length once ≡ n = length-hung points lower n in
    let j_once : j < length once = omega arith in
    let twice_size : length twice ≡ n = length-hung once j n ∙ once_size in
    let size : length new ≡ n + 1 = length_push twice (point tile upper) ∙ omega arith in
    let at : ℕ → Tile = place_of new in
    let places : (u : ℕ) → u < n → place_of new u ≡ place_of points u = λ u below.
    ap (λ (p : Point). p.tile) (get_or_append_left twice (point tile upper ∷ []) none u (omega arith)) ∙
    place_of-hung once j n u j_once ∙ place_of-hung points lower n u lower_in in
    let parents : (u : ℕ) → u < n → parent_of new u ≡ parent_of twice u = λ u below.
    ap (λ (p : Point). p.parent) (get_or_append_left twice (point tile upper ∷ []) none u (omega arith)) in
    let last : get_or new n none ≡ point tile upper = get_or_push twice (point tile upper) none n twice_size in
    let place : place_of new n ≡ tile = ap (λ (p : Point). p.tile) last in
    let old : sum_by (wire_of at) points ≡ wirelength points =
    sum_by-same (wire_of at) (wire_of (place_of points)) points
    (All-weaker (λ p. p.parent < n) (λ p. wire_of at p ≡ wire_of (place_of points) p) (λ p below. ap (distance p.tile) (places p.parent below)) points inside) in
    let first = sum-hung at points lower n lower_in in
    let second = sum-hung at once j n j_once in
    let third : wirelength new ≡ sum_by (wire_of at) twice + distance tile (place_of new upper) = sum_by_push (wire_of at) twice (point tile upper) in
    let j_parent_once : parent_of once j ≡ parent_of points j = parent_of-hung_other points lower n j apart in
    let lower_below : parent_of points lower < n = All-get_or (λ p. p.parent < n) points lower none lower_in inside in
    let j_below : parent_of points j < n = All-get_or (λ p. p.parent < n) points j none j_in inside in
    let first_old : distance (place_of points lower) (at (parent_of points lower)) ≡ distance (place_of points lower) (place_of points (parent_of points lower)) =
    ap (distance (place_of points lower)) (places (parent_of points lower) lower_below) in
    let first_new : distance (place_of points lower) (at n) ≡ distance (place_of points lower) tile = ap (distance (place_of points lower)) place in
    let j_place : place_of once j ≡ place_of points j = place_of-hung points lower n j lower_in in
    let second_old : distance (place_of once j) (at (parent_of once j)) ≡ distance (place_of points j) (place_of points (parent_of points j)) =
    ap (λ (t : Tile). distance t (at (parent_of once j))) j_place ∙
    ap (λ (v : ℕ). distance (place_of points j) (at v)) j_parent_once ∙
    ap (distance (place_of points j)) (places (parent_of points j) j_below) in
    let second_new : distance (place_of once j) (at n) ≡ distance (place_of points j) tile =
    ap (λ (t : Tile). distance t (at n)) j_place ∙ ap (distance (place_of points j)) place in
    let top : distance tile (place_of new upper) ≡ distance tile (place_of points upper) = ap (distance tile) (places upper upper_in) in
    let wide : (p : Point) → p.parent < n → p.parent < length new = λ p below. omega arith in
    record {
      size = size;
      places = places;
      place = place;
      parent = ap (λ (p : Point). p.parent) last;
      lower_parent = parents lower lower_in ∙ parent_of-hung_other once j n lower (λ same. apart (sym same)) ∙ parent_of-hung_same points lower n lower_in;
      j_parent = parents j j_in ∙ parent_of-hung_same once j n j_once;
      others = λ u below not_lower not_j. parents u below ∙ parent_of-hung_other once j n u not_j ∙ parent_of-hung_other points lower n u not_lower;
      inside =
          let P : Point → Type 0 = λ p. p.parent < length new in
          let was = All-weaker (λ p. p.parent < n) P wide points inside in
          let here : n < length new = omega arith in
          All-push P twice (point tile upper)
          (All-set P once j (point (place_of once j) n) here (All-set P points lower (point (place_of points lower) n) here was)) (omega arith);
      wires = omega (arith, first, second, third, first_old, first_new, second_old, second_new, top, old);
    }

-- a walk up to point 0 goes over the parent
leads-up : (points : List Point) (v : ℕ) → LeadsUp points v → 0 < v → LeadsUp points (parent_of points v)
leads-up points _ root above = absurd (omega arith)
leads-up points _ (over v rest) above = rest

-- what is over point 0 isn't its own parent
leads-apart : (points : List Point) (v : ℕ) → LeadsUp points v → 0 < v → parent_of points v ≡ v → ⊥
leads-apart points _ root above same = absurd (omega arith)
leads-apart points _ (over v rest) above same =
    leads-apart points (parent_of points v) rest (omega arith) (ap (parent_of points) same)

-- where the new point's ends hang
pub record Hangs (points : List Point) (upper lower j : ℕ) : Type 0 where
  pub upper_in : upper < length points
  pub lower_in : lower < length points
  pub j_in : j < length points
  pub lower_above : 0 < lower
  pub j_above : 0 < j
  pub apart : j ≡ lower → ⊥
  pub lower_hangs : parent_of points lower ≡ upper
  pub j_hangs : (parent_of points j ≡ upper) ⊎ (parent_of points j ≡ lower)

-- who led to point 0 still does
leads-branch : (points new : List Point) (tile : Tile) (upper lower j : ℕ) → Hangs points upper lower j → Branches points tile upper lower j new →
    All (λ p. p.parent < length points) points → (v : ℕ) → LeadsUp points v → v < length points → LeadsUp new v
leads-branch points new tile upper lower j hangs branch inside _ root below = root
leads-branch points new tile upper lower j hangs branch inside _ (over v rest) below =
    let parent_below : parent_of points v < length points = All-get_or (λ p. p.parent < length points) points v none below inside in
    let led : LeadsUp new (parent_of points v) = leads-branch points new tile upper lower j hangs branch inside (parent_of points v) rest parent_below in
    let L : ℕ → Type 0 = λ n. LeadsUp new n in
    let over_upper : LeadsUp new upper → LeadsUp new (length points) = λ h. over (length points) (subst L (sym branch.parent) h) in
    let over_lower : LeadsUp new lower → LeadsUp new (length points) = λ h. subst L branch.lower_parent (leads-up new lower h hangs.lower_above) in
    elim (cases_eq v lower) [
      | inl is ↦
          let at_branch = over_upper (subst L (ap (parent_of points) is ∙ hangs.lower_hangs) led) in
          over v (subst L (sym (ap (parent_of new) is ∙ branch.lower_parent)) at_branch)
      | inr not_lower ↦ elim (cases_eq v j) [
        | inl is ↦
            let led_j : LeadsUp new (parent_of points j) = subst L (ap (parent_of points) is) led in
            let at_branch : LeadsUp new (length points) = elim hangs.j_hangs [
              | inl on_upper ↦ over_upper (subst L on_upper led_j)
              | inr on_lower ↦ over_lower (subst L on_lower led_j)
            ] in
            over v (subst L (sym (ap (parent_of new) is ∙ branch.j_parent)) at_branch)
        | inr not_j ↦ over v (subst L (sym (branch.others v below not_lower not_j)) led)
      ]
    ]

-- a tree with a new point is a tree
tree-branch : (points new : List Point) (tile : Tile) (upper lower j : ℕ) → Hangs points upper lower j → Branches points tile upper lower j new →
    IsTopology points → IsTopology new
tree-branch points new tile upper lower j hangs branch tree =
    let size = branch.size in
    let some = tree.some in
    let L : ℕ → Type 0 = λ n. LeadsUp new n in
    let above = hangs.lower_above in
    let above_j = hangs.j_above in
    let old : (v : ℕ) → v < length points → LeadsUp new v =
    λ v below. leads-branch points new tile upper lower j hangs branch tree.parents v (tree.leads v below) below in
    record {
      some = omega arith;
      top = branch.others 0 some (λ is. absurd (omega arith)) (λ is. absurd (omega arith)) ∙ tree.top;
      parents = branch.inside;
      leads = λ v below. elim (cases_lt v (length points)) [
        | inl was ↦ old v was
        | inr past ↦
            let is : v ≡ length points = omega arith in
            over v (subst L (sym (ap (parent_of new) is ∙ branch.parent)) (old upper hangs.upper_in))
      ];
    }

-- what a neighbour is in numbers
pub record Rival (points : List Point) (j q : ℕ) : Type 0 where
  pub other : q ≡ j → ⊥
  pub apart : parent_of points j ≡ q → ⊥
  pub joined : (parent_of points (parent_of points j) ≡ q) ⊎ (parent_of points q ≡ parent_of points j)

numbers_of : (i q j parent back : ℕ) → (not (q == j) && (not (i == q) && (parent == q || back == i))) ≡ true →
    (q ≡ j → ⊥) × (i ≡ q → ⊥) × ((parent ≡ q) ⊎ (back ≡ i))
numbers_of i q j parent back is = (
  λ same. grind (arith, nat_tests),
  λ same. grind (arith, nat_tests),
  elim (cases_eq parent q) [
    | inl is_q ↦ inl is_q
    | inr other ↦ inr (grind (arith, nat_tests))
  ],
)

pub rival : (points : List Point) (j q : ℕ) → is_neighbour points j q ≡ true → Rival points j q
rival points j q is =
    let i = parent_of points j in
    let parent = parent_of points i in
    let back = parent_of points q in
    let found = numbers_of i q j parent back is in
    record { other = found.0; apart = found.1; joined = found.2 }

-- a branch at a neighbour
pub hangs-branched : (points : List Point) (j q : ℕ) → IsTopology points → j < length points → 0 < j → q < length points → Rival points j q →
    (upper : ℕ) × (lower : ℕ) × Hangs points upper lower j × (branched points j q ≡ with_branch points (meeting points j q) upper lower j) ×
    (((upper ≡ q) × (lower ≡ parent_of points j)) ⊎ ((upper ≡ parent_of points j) × (lower ≡ q)))
hangs-branched points j q tree j_in j_above q_in rival_q =
    let i = parent_of points j in
    let i_in : i < length points = All-get_or (λ p. p.parent < length points) points j none j_in tree.parents in
    let away : j ≡ i → ⊥ = λ same. leads-apart points j (tree.leads j j_in) j_above (sym same) in
    let top = tree.top in
    elim (cases_eq (parent_of points i) q) [
      | inl on_q ↦
          let test : (parent_of points i == q) ≡ true = grind (arith, nat_tests) in
          let i_above : 0 < i = elim (cases_eq i 0) [
            | inl zero_i ↦ absurd (rival_q.apart (zero_i ∙ sym top ∙ ap (parent_of points) (sym zero_i) ∙ on_q))
            | inr some ↦ omega arith
          ] in (
            q,
            i,
            record {
              upper_in = q_in;
              lower_in = i_in;
              j_in = j_in;
              lower_above = i_above;
              j_above = j_above;
              apart = away;
              lower_hangs = on_q;
              j_hangs = inr refl;
            },
            rw test refl,
            inl (refl, refl),
          )
      | inr not_on_q ↦
          let test : (parent_of points i == q) ≡ false = grind (arith, nat_tests) in
          let on_i : parent_of points q ≡ i = elim rival_q.joined [ inl on_q ↦ absurd (not_on_q on_q) | inr is ↦ is ] in
          let q_above : 0 < q = elim (cases_eq q 0) [
            | inl zero_q ↦ absurd (rival_q.apart (sym on_i ∙ ap (parent_of points) zero_q ∙ top ∙ sym zero_q))
            | inr some ↦ omega arith
          ] in (
            i,
            q,
            record {
              upper_in = i_in;
              lower_in = q_in;
              j_in = j_in;
              lower_above = q_above;
              j_above = j_above;
              apart = λ same. rival_q.other (sym same);
              lower_hangs = on_i;
              j_hangs = inl refl;
            },
            rw test refl,
            inr (refl, refl),
          )
    ]

-- two points that are two others lie where those do
same_ends : (points : List Point) (m : Tile) (lower upper a b : ℕ) → lower ≡ a → upper ≡ b →
    (distance (place_of points lower) (place_of points upper) ≡ distance (place_of points a) (place_of points b)) ×
    (distance (place_of points lower) m ≡ distance (place_of points a) m) ×
    (distance m (place_of points upper) ≡ distance m (place_of points b))
same_ends points m lower upper a b is_a is_b = (
  ap (λ (v : ℕ). distance (place_of points v) (place_of points upper)) is_a ∙
      ap (λ (v : ℕ). distance (place_of points a) (place_of points v)) is_b,
  ap (λ (v : ℕ). distance (place_of points v) m) is_a,
  ap (λ (v : ℕ). distance m (place_of points v)) is_b,
)

-- a branch makes a tree of a tree, and saves what it is to save
pub record Saves (points : List Point) (j q : ℕ) (new : List Point) : Type 0 where
  pub tree : IsTopology new
  pub size : length new ≡ length points + 1
  pub places : (u : ℕ) → u < length points → place_of new u ≡ place_of points u
  pub wires : wirelength new + saving points j q ≡ wirelength points

pub branched-saves : (points : List Point) (j q : ℕ) → IsTopology points → j < length points → 0 < j → q < length points → Rival points j q →
    Saves points j q (branched points j q)
branched-saves points j q tree j_in j_above q_in rival_q =
    let found = hangs-branched points j q tree j_in j_above q_in rival_q in
    let upper = found.0 in
    let lower = found.1 in
    let hangs = found.2 in
    let i = parent_of points j in
    let m = meeting points j q in
    let made = with_branch points m upper lower j in
    let branch = with_branch-branches points m upper lower j hangs.upper_in hangs.lower_in hangs.j_in hangs.apart tree.parents in
    let P : List Point → Type 0 = λ xs. Saves points j q xs in
    let meet = meets (place_of points j) (place_of points i) (place_of points q) in
    let left = meet.left in
    let right = meet.right in
    let swap_i = distance-sym (place_of points i) m in
    let swap_q = distance-sym (place_of points q) m in
    let swap_iq = distance-sym (place_of points i) (place_of points q) in
    let wires : wirelength made + distance (place_of points lower) (place_of points upper) + distance (place_of points j) (place_of points i) ≡
    wirelength points + distance (place_of points lower) m + distance (place_of points j) m + distance m (place_of points upper) =
    ap (λ (v : ℕ). wirelength made + distance (place_of points lower) (place_of points v) + distance (place_of points j) (place_of points i)) (sym hangs.lower_hangs) ∙ branch.wires in
    let saved : wirelength made + saving points j q ≡ wirelength points = elim found.4 [
      | inl ends ↦
          let same = same_ends points m lower upper i q ends.1 ends.0 in
          omega (arith, wires, same.0, same.1, same.2, left, right, swap_i, swap_q, swap_iq)
      | inr ends ↦
          let same = same_ends points m lower upper q i ends.1 ends.0 in
          omega (arith, wires, same.0, same.1, same.2, left, right, swap_i, swap_q, swap_iq)
    ] in
    subst P (sym found.3) (record {
      tree = tree-branch points made m upper lower j hangs branch tree;
      size = branch.size;
      places = branch.places;
      wires = saved;
    })

-- what the best neighbour so far saves
abbrev saved : List Point → ℕ → Option ℕ → ℕ
saved points j None = 0
saved points j (Some q) = saving points j q

better-some : (points : List Point) (j : ℕ) (a : Option ℕ) (q : ℕ) (P : ℕ → Type 0) → IfSome a P → P q → IfSome (better points j a q) P
better-some points j None q P has holds = holds
better-some points j (Some kept) q P has holds = elim (cases_Bool (nat_lt (saving points j kept) (saving points j q))) [
  | inl more ↦ let Q : Option ℕ → Type 0 = λ o. IfSome o P in
      let e : better points j (Some kept) q ≡ Some q = rw more refl in subst Q (sym e) holds
  | inr less ↦ let Q : Option ℕ → Type 0 = λ o. IfSome o P in
      let e : better points j (Some kept) q ≡ Some kept = rw less refl in subst Q (sym e) has
]

better-saves : (points : List Point) (j : ℕ) (a : Option ℕ) (q : ℕ) →
    (saved points j a ≤ saved points j (better points j a q)) × (saving points j q ≤ saved points j (better points j a q))
better-saves points j None q = (omega arith, omega arith)
better-saves points j (Some kept) q = elim (cases_Bool (nat_lt (saving points j kept) (saving points j q))) [
  | inl more ↦
      let e : saved points j (better points j (Some kept) q) ≡ saving points j q = rw more refl in
      let less : saving points j kept < saving points j q = grind (arith, nat_tests) in
      (omega arith, omega arith)
  | inr less ↦
      let e : saved points j (better points j (Some kept) q) ≡ saving points j kept = rw less refl in
      let most : saving points j q ≤ saving points j kept = grind (arith, nat_tests) in
      (omega arith, omega arith)
]

-- the best of the numbers from b on that pass a test
abbrev best_from : List Point → ℕ → (ℕ → Bool) → Option ℕ → ℕ → ℕ → Option ℕ
best_from points j p a b n = fold (better points j) a (filter p (range_with_len b n))

best_from-yes : (points : List Point) (j : ℕ) (p : ℕ → Bool) (a : Option ℕ) (b n : ℕ) → p b ≡ true →
    best_from points j p a b (suc n) ≡ best_from points j p (better points j a b) (b + 1) n
best_from-yes points j p a b n passes = rw passes refl

best_from-no : (points : List Point) (j : ℕ) (p : ℕ → Bool) (a : Option ℕ) (b n : ℕ) → p b ≡ false →
    best_from points j p a b (suc n) ≡ best_from points j p a (b + 1) n
best_from-no points j p a b n fails = rw fails refl

best_from-some : (points : List Point) (j : ℕ) (p : ℕ → Bool) (P : ℕ → Type 0) (n b : ℕ) (a : Option ℕ) →
    ((v : ℕ) → v < b + n → p v ≡ true → P v) → IfSome a P → IfSome (best_from points j p a b n) P
best_from-some points j p P zero b a each has = has
best_from-some points j p P (suc n) b a each has =
    let Q : Option ℕ → Type 0 = λ o. IfSome o P in
    let rest : (v : ℕ) → v < b + 1 + n → p v ≡ true → P v = λ v below. each v (omega arith) in
    elim (cases_Bool (p b)) [
      | inl passes ↦
          subst Q (sym (best_from-yes points j p a b n passes))
          (best_from-some points j p P n (b + 1) (better points j a b) rest (better-some points j a b P has (each b (omega arith) passes)))
      | inr fails ↦ subst Q (sym (best_from-no points j p a b n fails)) (best_from-some points j p P n (b + 1) a rest has)
    ]

best_from-grows : (points : List Point) (j : ℕ) (p : ℕ → Bool) (n b : ℕ) (a : Option ℕ) → saved points j a ≤ saved points j (best_from points j p a b n)
best_from-grows points j p zero b a = omega arith
best_from-grows points j p (suc n) b a = elim (cases_Bool (p b)) [
  | inl passes ↦
      let e = ap (saved points j) (best_from-yes points j p a b n passes) in
      let one = better-saves points j a b in
      let rest = best_from-grows points j p n (b + 1) (better points j a b) in
      omega (arith, e, one.0, rest)
  | inr fails ↦
      let e = ap (saved points j) (best_from-no points j p a b n fails) in
      let rest = best_from-grows points j p n (b + 1) a in
      omega (arith, e, rest)
]

best_from-most : (points : List Point) (j : ℕ) (p : ℕ → Bool) (n b : ℕ) (a : Option ℕ) (v : ℕ) → b ≤ v → v < b + n → p v ≡ true →
    saving points j v ≤ saved points j (best_from points j p a b n)
best_from-most points j p zero b a v low high passes = absurd (omega arith)
best_from-most points j p (suc n) b a v low high passes = elim (cases_eq v b) [
  | inl is ↦
      let here : p b ≡ true = ap p (sym is) ∙ passes in
      let e = ap (saved points j) (best_from-yes points j p a b n here) in
      let one = better-saves points j a b in
      let rest = best_from-grows points j p n (b + 1) (better points j a b) in
      let same = ap (saving points j) is in
      omega (arith, e, one.1, rest, same)
  | inr other ↦ elim (cases_Bool (p b)) [
    | inl too ↦
        let e = ap (saved points j) (best_from-yes points j p a b n too) in
        let rest = best_from-most points j p n (b + 1) (better points j a b) v (omega arith) (omega arith) passes in
        omega (arith, e, rest)
    | inr fails ↦
        let e = ap (saved points j) (best_from-no points j p a b n fails) in
        let rest = best_from-most points j p n (b + 1) a v (omega arith) (omega arith) passes in
        omega (arith, e, rest)
  ]
]

-- what the handling of a point leaves
pub record Handled (points : List Point) (j : ℕ) (new : List Point) : Type 0 where
  pub tree : IsTopology new
  pub many : length points ≤ length new
  pub few : length new ≤ length points + 1
  pub places : (u : ℕ) → u < length points → place_of new u ≡ place_of points u
  pub shorter : wirelength new ≤ wirelength points
  pub saves : (q : ℕ) → q < length points → is_neighbour points j q ≡ true → wirelength new + saving points j q ≤ wirelength points

handled-none : (points : List Point) (j : ℕ) → IsTopology points → ((q : ℕ) → q < length points → is_neighbour points j q ≡ true → saving points j q ≤ 0) →
    Handled points j points
handled-none points j tree none_saves = record {
  tree = tree;
  many = omega arith;
  few = omega arith;
  places = λ u below. refl;
  shorter = omega arith;
  saves = λ q below is. let least = none_saves q below is in omega arith;
}

handled-cases : (points : List Point) (j : ℕ) (o : Option ℕ) → IsTopology points → j < length points → 0 < j →
    IfSome o (λ q. (q < length points) × (is_neighbour points j q ≡ true)) →
    ((q : ℕ) → q < length points → is_neighbour points j q ≡ true → saving points j q ≤ saved points j o) →
    Handled points j (branched_if points j o)
handled-cases points j None tree j_in j_above found most = handled-none points j tree most
handled-cases points j (Some q) tree j_in j_above found most =
    let P : List Point → Type 0 = λ xs. Handled points j xs in
    elim (cases_eq (saving points j q) 0) [
      | inl nothing ↦
          subst P (sym (branched_if-no points j q nothing))
          (handled-none points j tree (λ v below is. let least = most v below is in omega arith))
      | inr some ↦
          let saves = branched-saves points j q tree j_in j_above found.0 (rival points j q found.1) in
          let size = saves.size in
          let wires = saves.wires in
          subst P (sym (branched_if-yes points j q some))
          (record {
            tree = saves.tree;
            many = omega arith;
            few = omega arith;
            places = saves.places;
            shorter = omega arith;
            saves = λ v below is. let least = most v below is in omega arith;
          })
    ]

pub handled-tree : (points : List Point) (p : Join) → IsTopology points → p.point < length points → 0 < p.point →
    Handled points p.point (handled points p)
handled-tree points p tree j_in j_above =
    let j = p.point in
    let test : ℕ → Bool = λ q. is_neighbour points j q in
    handled-cases points j (best_neighbour points j) tree j_in j_above
    (best_from-some points j test (λ q. (q < length points) × (is_neighbour points j q ≡ true)) (length points) 0 None (λ v below passes. (omega arith, passes)) tt)
    (λ q below is. best_from-most points j test (length points) 0 None q (omega arith) (omega arith) is)

-- what the handling of several points leaves
pub record Grown (points : List Point) (n : ℕ) (new : List Point) : Type 0 where
  pub tree : IsTopology new
  pub many : length points ≤ length new
  pub few : length new ≤ length points + n
  pub places : (u : ℕ) → u < length points → place_of new u ≡ place_of points u
  pub shorter : wirelength new ≤ wirelength points

-- a point, and not point 0
abbrev pub IsHandled : ℕ → Join → Type 0
IsHandled k p = (p.point < k) × (0 < p.point)

pub fold-grown : (points : List Point) (joins : List Join) → IsTopology points → All (IsHandled (length points)) joins →
    Grown points (length joins) (fold handled points joins)
fold-grown points [] tree all = record {
  tree = tree;
  many = omega arith;
  few = omega arith;
  places = λ u below. refl;
  shorter = omega arith;
}
fold-grown points (p ∷ joins) tree all =
    let head = All-head (IsHandled (length points)) p joins all in
    let first = handled-tree points p tree head.0 head.1 in
    let many = first.many in
    let few = first.few in
    let shorter = first.shorter in
    let wider : (q : Join) → IsHandled (length points) q → IsHandled (length (handled points p)) q = λ q is. (let below = is.0 in omega arith, is.1) in
    let rest = fold-grown (handled points p) joins first.tree
    (All-weaker (IsHandled (length points)) (IsHandled (length (handled points p))) wider joins (All-tail (IsHandled (length points)) p joins all)) in
    let rest_many = rest.many in
    let rest_few = rest.few in
    let rest_shorter = rest.shorter in
    record {
      tree = rest.tree;
      many = omega arith;
      few = omega arith;
      places = λ u below. rest.places u (omega arith) ∙ first.places u below;
      shorter = omega arith;
    }
