-- The lists of children, while a branch is added.
use Rattle.std.proofs.Common.{◌≡◌, ℕ, ◌+◌, ◌<◌, inl, inr, Bool, true, false, not, ◌&&◌, ◌||◌, ◌==◌, nat_lt, List, [], ◌∷◌, ◌++◌, length, filter, get_or, set, cond, replicate, All, sym, ap, subst, ◌∙◌, arith}
use Rattle.std.specs.List.Retain.{RetainsInTurn}
use Rattle.std.proofs.lemmas.Bool.{cases_eq, cases_lt, cases_order}
use Rattle.std.proofs.lemmas.Bool.Decides.{nat_tests}
use Rattle.std.proofs.lemmas.List.{map-set, get_or-map, length-replicate, get_or-replicate, length-set, length_push, length-map, get_or_push, get_or_append_left, get_or-set_same, get_or-set_other}
use Rattle.std.proofs.lemmas.List.Elements.{All-from_get_or, All-get_or}
use Rattle.std.proofs.lemmas.List.Folds.{list_any-append, list_any_at}
use Rattle.gr_base.specs.Trees.{is_among}
use Rattle.smallvec.specs.SmallVec.{SmallVec}
use Rattle.steiner_topology.specs.declared.point.Point.{Point}
use Rattle.steiner_topology.specs.Tile.{Tile}
use Rattle.steiner_topology.specs.Topology.{point, parent_of, is_neighbour}
use Rattle.steiner_topology.specs.Children.{is_child, lists_of, list_at, AreChildren, without, unlisted, listed, branch_listed}
use Rattle.steiner_topology.proofs.BestLemmas.{is_among-without}
use Rattle.steiner_topology.proofs.TopologyLemmas.{read_parent}
use Rattle.steiner_topology.proofs.TreeLemmas.{Branches, rival}

-- a write to one of the lists
pub lists-written : (vectors : List (SmallVec ℕ)) (at : ℕ) (old new : SmallVec ℕ) (f : List ℕ → List ℕ) → at < length vectors →
    old ≡ get_or vectors at old → new.items ≡ f old.items →
    lists_of (set vectors at new) ≡ set (lists_of vectors) at (f (list_at (lists_of vectors) at))
lists-written vectors at old new f below old_is new_is =
    let items : SmallVec ℕ → List ℕ = λ v. v.items in
    let here : old.items ≡ list_at (lists_of vectors) at = ap items old_is ∙ sym (get_or-map items vectors at old [] below) in
    map-set items vectors at new ∙ ap (set (lists_of vectors) at) (new_is ∙ ap f here)

is_among-push : (list : List ℕ) (x v : ℕ) → is_among (list ++ x ∷ []) v ≡ (is_among list v || x == v)
is_among-push list x v = list_any-append (λ y. y == v) list (x ∷ []) ∙ grind (arith, nat_tests)

-- what a list has is below a bound
pub children-inside : (points : List Point) (lists : List (List ℕ)) (v : ℕ) → AreChildren points lists → v < length points →
    All (λ c. c < length points) (list_at lists v)
children-inside points lists v are below =
    let list = list_at lists v in
    All-from_get_or (λ c. c < length points) list 0 (λ k inside.
    let c = get_or list k 0 in
    let here : (c == c) ≡ true = grind (arith, nat_tests) in
    let listed_c : is_child points v c ≡ true = sym (are.listed v c below) ∙ list_any_at (λ x. x == c) list k 0 inside here in
    grind (arith, nat_tests))

-- where no call changes the test or the number, what passes the test is kept
pub retained : {F : Type 0} (R : F → ℕ → Bool → F → ℕ → Type 0) (test : ℕ → Bool) (f : F) →
    ((x : ℕ) (b : Bool) (g : F) (y : ℕ) → R f x b g y → (b ≡ test x) × (g ≡ f) × (y ≡ x)) →
    (xs ys : List ℕ) → RetainsInTurn R f xs ys → ys ≡ filter test xs
retained R test f says [] ys kept = kept
retained R test f says (x ∷ xs) ys kept =
    let told = says x kept.0 kept.1 kept.2 kept.3 in
    let rest = retained R test f says xs kept.4 (subst (λ g. RetainsInTurn R g xs kept.4) told.1 kept.5) in
    kept.6 ∙ ap (λ (b : Bool). cond b (kept.2 ∷ kept.4) kept.4) told.0 ∙
    ap (λ (n : ℕ). cond (test x) (n ∷ kept.4) kept.4) told.2 ∙
    ap (λ (zs : List ℕ). cond (test x) (x ∷ zs) zs) rest

-- each of n lists has what passes a test
pub record Hold (n : ℕ) (p : ℕ → ℕ → Bool) (lists : List (List ℕ)) : Type 0 where
  pub size : length lists ≡ n
  pub each : (v c : ℕ) → v < n → is_among (list_at lists v) c ≡ p v c

skip : (c child : ℕ) (b : Bool) → (c ≡ child → b ≡ false) → b ≡ (not (c == child) && b)
skip c child b none = elim (cases_eq c child) [
  | inl is ↦ let e = none is in grind (arith, nat_tests)
  | inr other ↦ grind (arith, nat_tests)
]

hold-unlisted : (n : ℕ) (p : ℕ → ℕ → Bool) (lists : List (List ℕ)) (parent child : ℕ) → Hold n p lists → parent < n →
    ((v : ℕ) → (v ≡ parent → ⊥) → p v child ≡ false) → Hold n (λ v c. not (c == child) && p v c) (unlisted lists parent child)
hold-unlisted n p lists parent child hold parent_in elsewhere =
    let list = without child (list_at lists parent) in
    let size = hold.size in
    record {
      size = length-set lists parent list ∙ size;
      each = λ v c below. elim (cases_eq v parent) [
        | inl is ↦
            ap (λ (u : ℕ). is_among (list_at (unlisted lists parent child) u) c) is ∙
            ap (λ (xs : List ℕ). is_among xs c) (get_or-set_same lists parent list [] (omega arith)) ∙
            is_among-without (list_at lists parent) child c ∙
            ap (λ (b : Bool). not (c == child) && b) (hold.each parent c parent_in) ∙
            ap (λ (u : ℕ). not (c == child) && p u c) (sym is)
        | inr other ↦
            ap (λ (xs : List ℕ). is_among xs c) (get_or-set_other lists parent v list [] other) ∙
            hold.each v c below ∙
            skip c child (p v c) (λ is. ap (p v) is ∙ elsewhere v other)
      ];
    }

pub hold-listed : (n : ℕ) (p : ℕ → ℕ → Bool) (lists : List (List ℕ)) (parent child : ℕ) → Hold n p lists → parent < n →
    Hold n (λ v c. p v c || (v == parent && child == c)) (listed lists parent child)
hold-listed n p lists parent child hold parent_in =
    let list = list_at lists parent ++ child ∷ [] in
    let size = hold.size in
    record {
      size = length-set lists parent list ∙ size;
      each = λ v c below. elim (cases_eq v parent) [
        | inl is ↦
            let here : is_among (list_at (listed lists parent child) v) c ≡ (is_among (list_at lists parent) c || child == c) =
            ap (λ (u : ℕ). is_among (list_at (listed lists parent child) u) c) is ∙
            ap (λ (xs : List ℕ). is_among xs c) (get_or-set_same lists parent list [] (omega arith)) ∙
            is_among-push (list_at lists parent) child c in
            let old : is_among (list_at lists parent) c ≡ p v c = hold.each parent c parent_in ∙ ap (λ (u : ℕ). p u c) (sym is) in
            here ∙ ap (λ (b : Bool). b || child == c) old ∙ grind (arith, nat_tests)
        | inr other ↦
            ap (λ (xs : List ℕ). is_among xs c) (get_or-set_other lists parent v list [] other) ∙
            hold.each v c below ∙ grind (arith, nat_tests)
      ];
    }

-- the children of an old point
old_list : (n size v c upper lower j old new : ℕ) → size ≡ n + 1 → v < n → lower < n → j < n →
    (c ≡ j → new ≡ n) → (c ≡ lower → new ≡ n) → (c ≡ n → new ≡ upper) → (c < n → (c ≡ lower → ⊥) → (c ≡ j → ⊥) → new ≡ old) →
    ((not (c == lower) && (not (c == j) && (nat_lt c n && (not (c == v) && old == v)))) || (v == upper && n == c)) ≡
    (nat_lt c size && (not (c == v) && new == v))
old_list n size v c upper lower j old new more v_in lower_in j_in on_j on_lower on_new others = elim (cases_order c n) [
  | inl is ↦ let e = on_new is in grind (arith, nat_tests)
  | inr (inl below) ↦ elim (cases_eq c j) [
    | inl is ↦ let e = on_j is in grind (arith, nat_tests)
    | inr not_j ↦ elim (cases_eq c lower) [
      | inl is ↦ let e = on_lower is in grind (arith, nat_tests)
      | inr not_lower ↦ let e = others below not_lower not_j in grind (arith, nat_tests)
    ]
  ]
  | inr (inr past) ↦ grind (arith, nat_tests)
]

-- the children of the new one
new_list : (n size c upper lower j old new : ℕ) → size ≡ n + 1 → lower < n → j < n → (c < n → old < n) →
    (c ≡ j → new ≡ n) → (c ≡ lower → new ≡ n) → (c < n → (c ≡ lower → ⊥) → (c ≡ j → ⊥) → new ≡ old) →
    (lower == c || (j == c || false)) ≡ (nat_lt c size && (not (c == n) && new == n))
new_list n size c upper lower j old new more lower_in j_in inside on_j on_lower others = elim (cases_order c n) [
  | inl is ↦ grind (arith, nat_tests)
  | inr (inl below) ↦ elim (cases_eq c j) [
    | inl is ↦ let e = on_j is in grind (arith, nat_tests)
    | inr not_j ↦ elim (cases_eq c lower) [
      | inl is ↦ let e = on_lower is in grind (arith, nat_tests)
      | inr not_lower ↦ let e = others below not_lower not_j in let small = inside below in grind (arith, nat_tests)
    ]
  ]
  | inr (inr past) ↦ grind (arith, nat_tests)
]

not_elsewhere : (n child parent v : ℕ) (b : Bool) → (v ≡ parent → ⊥) → (b && (nat_lt child n && (not (child == v) && parent == v))) ≡ false
not_elsewhere n child parent v b other = grind (arith, nat_tests)

-- the lists after a branch
pub branch-children : (points new : List Point) (tile : Tile) (upper lower j : ℕ) (lists : List (List ℕ)) →
    Branches points tile upper lower j new → All (λ p. p.parent < length points) points → AreChildren points lists →
    upper < length points → lower < length points → j < length points → parent_of points lower ≡ upper →
    AreChildren new (branch_listed lists (parent_of points j) upper lower j)
branch-children points new tile upper lower j lists branch parents are upper_in lower_in j_in hangs =
    let n = length points in
    let i = parent_of points j in
    let none = point (0, 0) 0 in
    let old : ℕ → ℕ → Bool = is_child points in
    let once : ℕ → ℕ → Bool = λ v c. not (c == j) && old v c in
    let twice : ℕ → ℕ → Bool = λ v c. not (c == lower) && once v c in
    let below : (v : ℕ) → v < n → parent_of points v < n = λ v v_in. All-get_or (λ p. p.parent < n) points v none v_in parents in
    let first : Hold n old lists = record { size = are.size; each = are.listed } in
    let second : Hold n once (unlisted lists i j) = hold-unlisted n old lists i j first (below j j_in) (λ v other. not_elsewhere n j i v true other) in
    let third : Hold n twice (unlisted (unlisted lists i j) upper lower) =
    hold-unlisted n once (unlisted lists i j) upper lower second upper_in
    (λ v other. ap (λ (u : ℕ). not (lower == j) && (nat_lt lower n && (not (lower == v) && u == v))) hangs ∙ not_elsewhere n lower upper v (not (lower == j)) other) in
    let fourth = hold-listed n twice (unlisted (unlisted lists i j) upper lower) upper n third upper_in in
    let kept = listed (unlisted (unlisted lists i j) upper lower) upper n in
    let all = kept ++ (lower ∷ j ∷ []) ∷ [] in
    let many : length kept ≡ n = fourth.size in
    let size = branch.size in
    let on : (c : ℕ) → (c ≡ j → parent_of new c ≡ n) × (c ≡ lower → parent_of new c ≡ n) × (c ≡ n → parent_of new c ≡ upper) =
    λ c. (
      λ is. ap (parent_of new) is ∙ branch.j_parent,
      λ is. ap (parent_of new) is ∙ branch.lower_parent,
      λ is. ap (parent_of new) is ∙ branch.parent,
    ) in
    let A : ℕ → Type 0 = λ m. AreChildren new (listed (unlisted (unlisted lists i j) upper lower) upper m ++ (lower ∷ j ∷ []) ∷ []) in
    subst A (sym are.size) (record {
      size = length_push kept (lower ∷ j ∷ []) ∙ omega arith;
      listed = λ v c v_in. elim (cases_lt v n) [
        | inl was ↦
            ap (λ (xs : List ℕ). is_among xs c) (get_or_append_left kept ((lower ∷ j ∷ []) ∷ []) [] v (omega arith)) ∙
            fourth.each v c was ∙
            old_list n (length new) v c upper lower j (parent_of points c) (parent_of new c) size was lower_in j_in
            (on c).0 (on c).1 (on c).2 (branch.others c)
        | inr past ↦
            let is : v ≡ n = omega arith in
            ap (λ (u : ℕ). is_among (list_at all u) c) is ∙
            ap (λ (xs : List ℕ). is_among xs c) (get_or_push kept (lower ∷ j ∷ []) [] n many) ∙
            new_list n (length new) c upper lower j (parent_of points c) (parent_of new c) size lower_in j_in (below c)
            (on c).0 (on c).1 (branch.others c) ∙
            ap (λ (u : ℕ). is_child new u c) (sym is)
      ];
    })

-- the children among the first k points
abbrev pub child_below : List Point → ℕ → ℕ → ℕ → Bool
child_below points k v c = nat_lt c k && (not (c == v) && parent_of points c == v)

one_more : (k c v parent hung : ℕ) → (c ≡ k → hung ≡ parent) → (parent ≡ k → ⊥) →
    ((nat_lt c k && (not (c == v) && hung == v)) || (v == parent && k == c)) ≡ (nat_lt c (k + 1) && (not (c == v) && hung == v))
one_more k c v parent hung here other = elim (cases_eq c k) [
  | inl is ↦ let e = here is in grind (arith, nat_tests)
  | inr apart ↦ grind (arith, nat_tests)
]

own_more : (k c v hung : ℕ) → (c ≡ k → hung ≡ k) → (nat_lt c k && (not (c == v) && hung == v)) ≡ (nat_lt c (k + 1) && (not (c == v) && hung == v))
own_more k c v hung here = elim (cases_eq c k) [
  | inl is ↦ let e = here is in grind (arith, nat_tests)
  | inr apart ↦ grind (arith, nat_tests)
]

-- one child more is listed
pub child-listed : (points : List Point) (k : ℕ) (lists : List (List ℕ)) → Hold (length points) (child_below points k) lists →
    (parent_of points k ≡ k → ⊥) → parent_of points k < length points →
    Hold (length points) (child_below points (k + 1)) (listed lists (parent_of points k) k)
child-listed points k lists hold other inside =
    let parent = parent_of points k in
    let more = hold-listed (length points) (child_below points k) lists parent k hold inside in
    record {
      size = more.size;
      each = λ v c below. more.each v c below ∙ one_more k c v parent (parent_of points c) (λ same. ap (parent_of points) same) other;
    }

-- a point that is its own parent isn't listed
pub child-own : (points : List Point) (k : ℕ) (lists : List (List ℕ)) → Hold (length points) (child_below points k) lists → parent_of points k ≡ k →
    Hold (length points) (child_below points (k + 1)) lists
child-own points k lists hold own = record {
  size = hold.size;
  each = λ v c below. hold.each v c below ∙ own_more k c v (parent_of points c) (λ same. ap (parent_of points) same ∙ own);
}

pub child-empty : (points : List Point) (lists : List (List ℕ)) → lists ≡ replicate (length points) [] → Hold (length points) (child_below points 0) lists
child-empty points lists is =
    let H : List (List ℕ) → Type 0 = λ xs. Hold (length points) (child_below points 0) xs in
    subst H (sym is) (record {
      size = length-replicate (length points) [];
      each = λ v c below. ap (λ (xs : List ℕ). is_among xs c) (get_or-replicate (length points) v [] [] below) ∙ grind (arith, nat_tests);
    })

pub child-all : (points : List Point) (k : ℕ) (lists : List (List ℕ)) → k ≡ length points → Hold (length points) (child_below points k) lists →
    AreChildren points lists
child-all points k lists all hold = record {
  size = hold.size;
  listed = λ v c below. hold.each v c below ∙ ap (λ (n : ℕ). child_below points n v c) all;
}

-- a read of a list
pub list-read : (points : List Point) (vectors : List (SmallVec ℕ)) (v : ℕ) (read d : SmallVec ℕ) (items : List ℕ) →
    AreChildren points (lists_of vectors) → v < length points → read ≡ get_or vectors v d → items ≡ read.items → items ≡ list_at (lists_of vectors) v
list-read points vectors v read d items are below read_is items_are =
    let contents : SmallVec ℕ → List ℕ = λ w. w.items in
    let size = are.size in
    let long = length-map vectors contents in
    items_are ∙ ap contents read_is ∙ sym (get_or-map contents vectors v d [] (omega arith))

-- what hangs with j on the point that a neighbour is joined to
pub neighbour-hangs : (points : List Point) (j q : ℕ) (p above : Point) → j < length points → p.parent < length points →
    p ≡ get_or points j p → above ≡ get_or points p.parent above → is_neighbour points j q ≡ true → (above.parent ≡ q → ⊥) →
    parent_of points q ≡ p.parent
neighbour-hangs points j q p above j_in i_in p_is above_is is apart =
    let i_is = read_parent points j p j_in p_is in
    let above_at : above.parent ≡ parent_of points (parent_of points j) =
    read_parent points p.parent above i_in above_is ∙ ap (parent_of points) i_is in
    elim (rival points j q is).joined [ inl on_q ↦ absurd (apart (above_at ∙ on_q)) | inr on_i ↦ on_i ∙ sym i_is ]
