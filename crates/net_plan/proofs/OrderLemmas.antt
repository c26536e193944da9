-- The order of points handles each of them.
use Rattle.std.proofs.Common.{◌≡◌, ℕ, zero, suc, ◌+◌, ◌-◌, ◌<◌, ◌≤◌, ◌⊎◌, inl, inr, Bool, true, false, not, ◌&&◌, ◌||◌, ◌==◌, Option, Some, None, List, [], ◌∷◌, ◌++◌, length, take, get_or, replicate, count_by, refl, sym, ap, subst, ◌∙◌, arith}
use Rattle.std.specs.List.{range_with_len}
use Rattle.std.proofs.Math.ListN.{set}
use Rattle.std.proofs.lemmas.Bool.{cases_eq, cases_lt}
use Rattle.std.proofs.lemmas.Bool.Decides.{nat_tests}
use Rattle.std.proofs.lemmas.List.{length-set, get_or-set_same, get_or-set_other, get_or_append_left, get_or_push, take-append-le, take_at, take_all, length_push, length-replicate, get_or-replicate}
use Rattle.std.proofs.lemmas.List.Elements.{All-get_or}
use Rattle.std.proofs.lemmas.List.Folds.{list_any-append}
use Rattle.gr_base.specs.Trees.{is_among}
use Rattle.steiner_topology.specs.Spanning.{IsTopology, LeadsUp}
use Rattle.steiner_topology.specs.Spanning.LeadsUp.{root, over}
use Rattle.steiner_topology.specs.Topology.{point, parent_of}
use Rattle.steiner_topology.specs.declared.point.Point.{Point}
use Rattle.maze_route.specs.Search.{is_marked}
use Rattle.net_plan.specs.Orders.{is_handled, is_due, next_due, with_next, order_after, order_of, AreBelowSome, AreBelowChildren}
use Rattle.net_plan.proofs.RangeLemmas.{find-some, find-none, find-before, find-same, count-less, count-none, count-all}

-- what has been handled after one more point
or-shift : (a b c : Bool) → (a || (b || (c || false))) ≡ ((a || b) || c)
or-shift true b c = refl
or-shift false true c = refl
or-shift false false true = refl
or-shift false false false = refl

pub handled-push : (order : List ℕ) (v u : ℕ) → is_handled (order ++ v ∷ []) u ≡ (is_handled order u || (v == u))
handled-push order v u =
    ap (λ (b : Bool). (u == 0) || b) (list_any-append (λ other. other == u) order (v ∷ [])) ∙
    or-shift (u == 0) (is_among order u) (v == u)

or-true : (a b : Bool) → b ≡ true → (a || b) ≡ true
or-true true b is = refl
or-true false b is = is

or-left : (a b : Bool) → a ≡ true → (a || b) ≡ true
or-left true b is = refl
or-left false b is = cc

or-right_false : (a b : Bool) → b ≡ false → (a || b) ≡ a
or-right_false true b is = refl
or-right_false false b is = is

pub handled-here : (order : List ℕ) (v : ℕ) → is_handled (order ++ v ∷ []) v ≡ true
handled-here order v =
    let test : (v == v) ≡ true = grind (arith, nat_tests) in
    handled-push order v v ∙ or-true (is_handled order v) (v == v) test

pub handled-other : (order : List ℕ) (v u : ℕ) → (u ≡ v → ⊥) → is_handled (order ++ v ∷ []) u ≡ is_handled order u
handled-other order v u other =
    let test : (v == u) ≡ false = grind (arith, nat_tests) in
    handled-push order v u ∙ or-right_false (is_handled order u) (v == u) test

-- the parts of being due
due-parts : (a b : Bool) → (not a && b) ≡ true → (a ≡ false) × (b ≡ true)
due-parts true b is = absurd (false-true is)
  where
    false-true : false ≡ true → ⊥
    false-true e = cc
due-parts false b is = (refl, is)

not-due : (a b : Bool) → b ≡ true → (not a && b) ≡ false → a ≡ true
not-due true b is fails = refl
not-due false b is fails = sym fails ∙ is

-- a point that is due is a point that hasn't been handled, and its parent has
pub record IsDue (points : List Point) (order : List ℕ) (v : ℕ) : Type 0 where
  pub inside : v < length points
  pub unhandled : is_handled order v ≡ false
  pub parent : is_handled order (parent_of points v) ≡ true

pub next-is_due : (points : List Point) (order : List ℕ) (v : ℕ) → next_due points (is_handled order) ≡ Some v → IsDue points order v
next-is_due points order v is =
    let found = find-some (is_due points (is_handled order)) (length points) 0 v is in
    let parts = due-parts (is_handled order v) (is_handled order (parent_of points v)) found.1 in
    let below = found.0 in
    record { inside = omega arith; unhandled = parts.0; parent = parts.1 }

pub order_after-some : (n : ℕ) (points : List Point) (order : List ℕ) (v : ℕ) → next_due points (is_handled order) ≡ Some v →
    order_after (suc n) points order ≡ order_after n points (order ++ v ∷ [])
unfolding order_after
order_after-some n points order v is = ap (λ (o : Option ℕ). order_after n points (with_next order o)) is

pub order_after-none : (n : ℕ) (points : List Point) (order : List ℕ) → next_due points (is_handled order) ≡ None →
    order_after (suc n) points order ≡ order_after n points order
unfolding order_after
order_after-none n points order is = ap (λ (o : Option ℕ). order_after n points (with_next order o)) is

-- a point's parent is a point
parent-inside : (points : List Point) (v : ℕ) → IsTopology points → v < length points → parent_of points v < length points
parent-inside points v tree below =
    All-get_or (λ (p : Point). p.parent < length points) points v (point (0, 0) 0) below tree.parents

-- where no point is due, all have been handled
none-due : (points : List Point) (order : List ℕ) (v : ℕ) → IsTopology points → next_due points (is_handled order) ≡ None →
    LeadsUp points v → v < length points → is_handled order v ≡ true
none-due points order _ tree none root below = refl
none-due points order _ tree none (over v leads) below =
    let parent = none-due points order (parent_of points v) tree none leads (parent-inside points v tree below) in
    let fails = find-none (is_due points (is_handled order)) (length points) 0 v none (omega arith) (omega arith) in
    not-due (is_handled order v) (is_handled order (parent_of points v)) parent fails

-- how many points haven't been handled
abbrev pub open_count : List Point → List ℕ → ℕ
open_count points order = count_by (λ v. not (is_handled order v)) (range_with_len 0 (length points))

open-less : (points : List Point) (order : List ℕ) (v : ℕ) → IsDue points order v → open_count points (order ++ v ∷ []) + 1 ≡ open_count points order
open-less points order v due =
    count-less (λ u. not (is_handled order u)) (λ u. not (is_handled (order ++ v ∷ []) u)) (length points) 0 v (omega arith)
    (let h = due.inside in omega arith) (ap not due.unhandled) (ap not (handled-here order v)) (λ u other. ap not (handled-other order v u other))

not-not : (b : Bool) → not b ≡ false → b ≡ true
not-not true is = refl
not-not false is = sym is

-- there is a next point, or none
next-cases : (o : Option ℕ) → (o ≡ None) ⊎ ((v : ℕ) × (o ≡ Some v))
next-cases None = inl refl
next-cases (Some v) = inr (v, refl)

-- a point that has been handled stays so
all-kept : (n : ℕ) (points : List Point) (order : List ℕ) (v : ℕ) → is_handled order v ≡ true → is_handled (order_after n points order) v ≡ true
unfolding order_after
all-kept zero points order v is = is
all-kept (suc n) points order v is =
    elim (next-cases (next_due points (is_handled order))) [
      | inl none ↦ ap (λ (xs : List ℕ). is_handled xs v) (order_after-none n points order none) ∙ all-kept n points order v is
      | inr (u, some) ↦
          ap (λ (xs : List ℕ). is_handled xs v) (order_after-some n points order u some) ∙
          all-kept n points (order ++ u ∷ []) v (handled-push order u v ∙ or-left (is_handled order v) (u == v) is)
    ]

-- after as many points as there are to handle, all have been handled
handled-after : (n : ℕ) (points : List Point) (order : List ℕ) (v : ℕ) → IsTopology points → open_count points order ≡ n → v < length points →
    is_handled (order_after n points order) v ≡ true
unfolding order_after
handled-after zero points order v tree none below =
    not-not (is_handled order v) (count-none (λ u. not (is_handled order u)) (length points) 0 v none (omega arith) (omega arith))
handled-after (suc n) points order v tree count below =
    elim (next-cases (next_due points (is_handled order))) [
      | inl none ↦ all-kept (suc n) points order v (none-due points order v tree none (tree.leads v below) below)
      | inr (u, some) ↦
          let less = open-less points order u (next-is_due points order u some) in
          ap (λ (xs : List ℕ). is_handled xs v) (order_after-some n points order u some) ∙
          handled-after n points (order ++ u ∷ []) v tree (omega arith) below
    ]

-- but point 0 none has been handled in the beginning
open-first : (points : List Point) → 0 < length points → open_count points [] ≡ length points - 1
open-first points some =
    let count : length points ≡ suc (length points - 1) = omega arith in
    let p : ℕ → Bool = λ v. not (is_handled [] v) in
    ap (λ (n : ℕ). count_by p (range_with_len 0 n)) count ∙ first (length points - 1)
  where
    later : (k : ℕ) → 1 ≤ k → not (is_handled [] k) ≡ true
    later k low = let test : (k == 0) ≡ false = grind (arith, nat_tests) in rw test refl

    first : (n : ℕ) → count_by (λ v. not (is_handled [] v)) (range_with_len 0 (suc n)) ≡ n
    first n = count-all (λ v. not (is_handled [] v)) n 1 later

-- each point comes in the order, or is point 0
pub order_of-handled : (points : List Point) (v : ℕ) → IsTopology points → v < length points → is_handled (order_of points) v ≡ true
order_of-handled points v tree below = handled-after (length points - 1) points [] v tree (open-first points tree.some) below

-- a point of the order is a point, and its parent comes before it
pub record ComesNext (points : List Point) (before : List ℕ) (v : ℕ) : Type 0 where
  pub inside : v < length points
  pub parent : is_handled before (parent_of points v) ≡ true

abbrev pub IsOrderly : List Point → List ℕ → Type 0
IsOrderly points order = (place d : ℕ) → place < length order → ComesNext points (take place order) (get_or order place d)

orderly-push : (points : List Point) (order : List ℕ) (v : ℕ) → IsOrderly points order → IsDue points order v → IsOrderly points (order ++ v ∷ [])
orderly-push points order v orderly due place d below =
    elim (cases_lt place (length order)) [
      | inl earlier ↦
          let same : get_or (order ++ v ∷ []) place d ≡ get_or order place d = get_or_append_left order (v ∷ []) d place earlier in
          let front : take place (order ++ v ∷ []) ≡ take place order = take-append-le place order (v ∷ []) (omega arith) in
          let P : List ℕ → Type 0 = λ xs. ComesNext points xs (get_or (order ++ v ∷ []) place d) in
          let Q : ℕ → Type 0 = λ u. ComesNext points (take place order) u in
          subst P (sym front) (subst Q (sym same) (orderly place d earlier))
      | inr past ↦
          let long : length (order ++ v ∷ []) ≡ length order + 1 = length_push order v in
          let last : length order ≡ place = omega arith in
          let same : get_or (order ++ v ∷ []) place d ≡ v = get_or_push order v d place last in
          let front : take place (order ++ v ∷ []) ≡ order = take_at order (v ∷ []) place last in
          let P : List ℕ → Type 0 = λ xs. ComesNext points xs (get_or (order ++ v ∷ []) place d) in
          let Q : ℕ → Type 0 = λ u. ComesNext points order u in
          subst P (sym front) (subst Q (sym same) (record { inside = due.inside; parent = due.parent }))
    ]

orderly-after : (n : ℕ) (points : List Point) (order : List ℕ) → IsOrderly points order → IsOrderly points (order_after n points order)
unfolding order_after
orderly-after zero points order orderly = orderly
orderly-after (suc n) points order orderly =
    elim (next-cases (next_due points (is_handled order))) [
      | inl none ↦ subst (IsOrderly points) (sym (order_after-none n points order none)) (orderly-after n points order orderly)
      | inr (u, some) ↦
          subst (IsOrderly points) (sym (order_after-some n points order u some))
          (orderly-after n points (order ++ u ∷ []) (orderly-push points order u orderly (next-is_due points order u some)))
    ]

pub order_of-orderly : (points : List Point) → IsOrderly points (order_of points)
order_of-orderly points = orderly-after (length points - 1) points [] (λ place d below. absurd (omega arith))

-- marks that tell what has been handled
pub record AreMarks (points : List Point) (order : List ℕ) (marks : List Bool) : Type 0 where
  pub long : length marks ≡ length points
  pub same : (v : ℕ) → v < length points → is_marked marks v ≡ is_handled order v

pub marked-due : (points : List Point) (order : List ℕ) (marks : List Bool) → IsTopology points → AreMarks points order marks →
    next_due points (is_marked marks) ≡ next_due points (is_handled order)
marked-due points order marks tree are =
    find-same (is_due points (is_marked marks)) (is_due points (is_handled order)) (length points) 0 (λ v below.
    let inside : v < length points = omega arith in
    let here = are.same v inside in
    let parent = are.same (parent_of points v) (parent-inside points v tree inside) in
    rw (here, parent) refl)

pub marks-push : (points : List Point) (order : List ℕ) (marks : List Bool) (v : ℕ) → v < length points → AreMarks points order marks →
    AreMarks points (order ++ v ∷ []) (set marks v true)
marks-push points order marks v below are = record {
  long = length-set marks v true ∙ are.long;
  same = same;
}
  where
    same : (u : ℕ) → u < length points → is_marked (set marks v true) u ≡ is_handled (order ++ v ∷ []) u
    same u inside =
        elim (cases_eq u v) [
          | inl here ↦
              let within : v < length marks = let e = are.long in omega arith in
              ap (λ (k : ℕ). is_marked (set marks v true) k) here ∙ get_or-set_same marks v true false within ∙
              sym (ap (is_handled (order ++ v ∷ [])) here ∙ handled-here order v)
          | inr other ↦ get_or-set_other marks v u true false other ∙ are.same u inside ∙ sym (handled-other order v u other)
        ]

pub marks-first : (points : List Point) (marks : List Bool) (n : ℕ) → marks ≡ replicate n false → n ≡ length points → 0 < length points →
    AreMarks points [] (set marks 0 true)
marks-first points marks n none count some =
    let long : length marks ≡ length points = ap length none ∙ length-replicate n false ∙ count in
    record {
      long = length-set marks 0 true ∙ long;
      same = λ u inside. elim (cases_eq u 0) [
        | inl here ↦
            let within : 0 < length marks = omega arith in
            ap (λ (k : ℕ). is_marked (set marks 0 true) k) here ∙ get_or-set_same marks 0 true false within ∙
            sym (ap (is_handled []) here)
        | inr other ↦
            let test : (u == 0) ≡ false = grind (arith, nat_tests) in
            let blank : is_marked marks u ≡ false =
            ap (λ (ms : List Bool). is_marked ms u) none ∙ get_or-replicate n u false false (omega arith) in
            get_or-set_other marks 0 u true false other ∙ blank ∙ sym (ap (λ (b : Bool). b || false) test)
      ];
    }

-- the marks tell what has been handled, and as many points are to come as haven't been
pub record IsUnderWay (points : List Point) (order : List ℕ) (marks : List Bool) : Type 0 where
  pub marked : AreMarks points order marks
  pub so_far : order_after (open_count points order) points order ≡ order_of points

pub order-first : (points : List Point) (marks : List Bool) (n : ℕ) → IsTopology points → marks ≡ replicate n false → n ≡ length points →
    IsUnderWay points [] (set marks 0 true)
order-first points marks n tree none count = record {
  marked = marks-first points marks n none count tree.some;
  so_far = ap (λ (k : ℕ). order_after k points []) (open-first points tree.some);
}

-- one more point
pub order-more : (points : List Point) (order longer : List ℕ) (marks marked : List Bool) (v : ℕ) → IsTopology points → IsUnderWay points order marks →
    next_due points (is_marked marks) ≡ Some v → longer ≡ order ++ v ∷ [] → marked ≡ set marks v true →
    IsUnderWay points longer marked × (open_count points longer < open_count points order)
order-more points order longer marks marked v tree way is long set_it =
    let next = sym (marked-due points order marks tree way.marked) ∙ is in
    let due = next-is_due points order v next in
    let less = open-less points order v due in
    let count : open_count points order ≡ suc (open_count points (order ++ v ∷ [])) = omega arith in
    let so_far : order_after (open_count points (order ++ v ∷ [])) points (order ++ v ∷ []) ≡ order_of points =
    sym (ap (λ (n : ℕ). order_after n points order) count ∙ order_after-some (open_count points (order ++ v ∷ [])) points order v next) ∙ way.so_far in
    let P : List ℕ → Type 0 = λ xs. IsUnderWay points xs marked × (open_count points xs < open_count points order) in
    let Q : List Bool → Type 0 = λ ms. IsUnderWay points (order ++ v ∷ []) ms in
    subst P (sym long)
    (subst Q (sym set_it) (record { marked = marks-push points order marks v due.inside way.marked; so_far = so_far }), omega arith)

-- no point is left
order_after-stays : (n : ℕ) (points : List Point) (order : List ℕ) → next_due points (is_handled order) ≡ None → order_after n points order ≡ order
unfolding order_after
order_after-stays zero points order none = refl
order_after-stays (suc n) points order none = order_after-none n points order none ∙ order_after-stays n points order none

pub order-done : (points : List Point) (order : List ℕ) (marks : List Bool) → IsTopology points → IsUnderWay points order marks →
    next_due points (is_marked marks) ≡ None → order ≡ order_of points
order-done points order marks tree way none =
    sym (order_after-stays (open_count points order) points order (sym (marked-due points order marks tree way.marked) ∙ none)) ∙ way.so_far

-- a lowest number for each point, one child later
pub lowest-first : (points : List Point) (lowest : List ℕ) → length lowest ≡ length points → AreBelowSome points lowest 0
lowest-first points lowest size = record { size = size; below = λ child under. absurd (omega arith) }

pub lowest-more : (points : List Point) (lowest : List ℕ) (child low : ℕ) → AreBelowSome points lowest child → parent_of points child < length points →
    low ≤ child → low ≤ get_or lowest (parent_of points child) 0 → AreBelowSome points (set lowest (parent_of points child) low) (child + 1)
lowest-more points lowest child low so_far inside under less =
    let parent = parent_of points child in
    let within : parent < length lowest = let e = so_far.size in omega arith in
    record {
      size = length-set lowest parent low ∙ so_far.size;
      below = λ c before. elim (cases_eq (parent_of points c) parent) [
        | inl same ↦
            let here : get_or (set lowest parent low) (parent_of points c) 0 ≡ low =
            ap (λ (k : ℕ). get_or (set lowest parent low) k 0) same ∙ get_or-set_same lowest parent low 0 within in
            elim (cases_eq c child) [
              | inl last ↦ omega arith
              | inr earlier ↦
                  let was = so_far.below c (omega arith) in
                  let there = ap (λ (k : ℕ). get_or lowest k 0) same in
                  omega arith
            ]
        | inr other ↦
            let kept = get_or-set_other lowest parent (parent_of points c) low 0 other in
            let earlier : c ≡ child → ⊥ = λ is. other (ap (parent_of points) is) in
            let was = so_far.below c (omega arith) in
            omega arith
      ];
    }

-- once the first point that is due has been handled, no lower one is due, but for its children
pub none-below : (points : List Point) (marks : List Bool) (lowest : List ℕ) (v low : ℕ) → AreBelowChildren points lowest →
    next_due points (is_marked marks) ≡ Some v → low ≤ v → low ≤ get_or lowest v 0 →
    (u : ℕ) → u < low → is_due points (is_marked (set marks v true)) u ≡ false
none-below points marks lowest v low children is under less u below =
    let due = is_due points (is_marked marks) in
    let inside = (find-some due (length points) 0 v is).0 in
    let before = find-before due (length points) 0 v u is (omega arith) (omega arith) in
    let apart : parent_of points u ≡ v → ⊥ = λ same. (
    let bound = children.below u (omega arith) in
    let there = ap (λ (k : ℕ). get_or lowest k 0) same in
    absurd (omega arith)
    ) in
    let own : is_marked (set marks v true) u ≡ is_marked marks u = get_or-set_other marks v u true false (λ same. absurd (omega arith)) in
    let above : is_marked (set marks v true) (parent_of points u) ≡ is_marked marks (parent_of points u) =
    get_or-set_other marks v (parent_of points u) true false apart in
    ap (λ (b : Bool). not b && is_marked (set marks v true) (parent_of points u)) own ∙ ap (λ (b : Bool). not (is_marked marks u) && b) above ∙ before

-- an empty list that is filled up
pub filled : {X : Type 0} (xs : List X) (count long : ℕ) (x : X) → xs ≡ [] → long ≡ 0 → take count xs ++ replicate (count - long) x ≡ replicate count x
filled {X} xs count long x none nothing =
    ap (λ (ys : List X). take count ys ++ replicate (count - long) x) none ∙ ap (λ (ys : List X). ys ++ replicate (count - long) x) (take_all count [] (omega arith)) ∙
    ap (λ (n : ℕ). replicate n x) (omega arith)
