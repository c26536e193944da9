-- Loads stay below 2^45, and times above -2^90.
use Rattle.std.proofs.Common.{◌≡◌, ◌≢◌, ℕ, zero, suc, ◌+◌, ◌*◌, ◌^◌, ◌<◌, ◌≤◌, ℤ, inl, inr, Bool, true, false, ◌==◌, List, [], ◌∷◌, All, length, map, filter, sum_by, Option, Some, None, IfSome, unsigned_abs, if◌then◌else◌, refl, sym, ap, subst, ◌∙◌, arith}
use Rattle.std.proofs.Math.Nat.{mul-le-mul}
use Rattle.std.proofs.lemmas.Bool.{cases_eq, cases_Bool, eq-eqb}
use Rattle.std.proofs.lemmas.Bool.Decides.{nat_tests}
use Rattle.std.proofs.lemmas.Int.{ints, clamps}
use Rattle.std.proofs.lemmas.List.Sums.{sum_by-cons}
use Rattle.gr_base.proofs.General.{filter-yes, filter-no}
use Rattle.rc_library.specs.Libraries.{IsWire, IsKind, IsSinking}
use Rattle.rc_library.specs.declared.parts.Kind.{Kind}
use Rattle.rc_library.specs.declared.parts.Wire.{Wire}
use Rattle.elmore_delay.specs.RcTrees.{Sink, RcTree, Buffers, IsRcTree, above, above_within, in_stage, load_above, sinks_load, own_load, below, up, edge_delay, buffer_delay, node_delay, delay_to, sooner, soonest, twice}
use Rattle.elmore_delay.specs.FromLeaves.{less, behind, joined, hanging, seen_of_last}
use Rattle.elmore_delay.specs.Ranges.{most_load, most_step_delay, IsSmall, IsTime, IsSeen}
use Rattle.elmore_delay.specs.declared.seen.Seen.{Seen}
use Rattle.elmore_delay.proofs.Ranges.{sums, only, sums-raised, sums-none, sum-passing}
use Rattle.elmore_delay.proofs.Paths.{stage-later}
use Rattle.elmore_delay.proofs.Loads.{seen-parent, seen-other, behind-load, below-seen}
use Rattle.elmore_delay.proofs.RequiredFromLeaves.{behind-time}

sums-le : (f h : ℕ → ℕ) (n : ℕ) → ((u : ℕ) → u < n → f u ≤ h u) → sums f n ≤ sums h n
sums-le f h zero each = omega arith
sums-le f h (suc n) each =
    let rest = sums-le f h n (λ u below. each u (omega arith)) in
    let last = each n (omega arith) in
    omega (arith, rest, last)

sums-plus : (f : ℕ → ℕ) (c n : ℕ) → sums (λ u. c + f u) n ≡ n * c + sums f n
sums-plus f c zero = omega arith
sums-plus f c (suc n) =
    let rest = sums-plus f c n in
    let more : suc n * c ≡ n * c + c = omega arith in
    omega (arith, rest, more)

-- the loads of all sinks, gathered by nodes, where each is at most m

sinks-sum : (m n : ℕ) (sinks : List Sink) → All (λ sink. sink.node < n) sinks → All (λ sink. sink.c ≤ m) sinks →
    sums (λ node. sum_by (λ sink. sink.c) (filter (λ sink. sink.node == node) sinks)) n ≤ length sinks * m
sinks-sum m n [] inside each =
    let none = sums-none (λ node. sum_by (λ (sink : Sink). sink.c) []) n (λ u lt. refl) in
    omega (arith, none)
sinks-sum m n (sink ∷ sinks) inside each =
    let f : ℕ → ℕ = λ node. sum_by (λ (s : Sink). s.c) (filter (λ (s : Sink). s.node == node) sinks) in
    let h : ℕ → ℕ = λ node. sum_by (λ (s : Sink). s.c) (filter (λ (s : Sink). s.node == node) (sink ∷ sinks)) in
    let here : h sink.node ≡ f sink.node + sink.c =
    ap (λ (ss : List Sink). sum_by (λ (s : Sink). s.c) ss)
    (filter-yes (λ (s : Sink). s.node == sink.node) sink sinks (eq-eqb sink.node sink.node refl))
    ∙ sum_by-cons (λ (s : Sink). s.c) sink (filter (λ (s : Sink). s.node == sink.node) sinks) ∙ omega arith in
    let others : (node : ℕ) → node < n → node ≢ sink.node → h node ≡ f node = λ node lt other.
    ap (λ (ss : List Sink). sum_by (λ (s : Sink). s.c) ss)
    (filter-no (λ (s : Sink). s.node == node) sink sinks (grind (arith, nat_tests))) in
    let all = sums-raised f h sink.c n sink.node (inside 0 sink (omega arith)) here others in
    let rest = sinks-sum m n sinks (λ k d lt. inside (suc k) d (omega arith)) (λ k d lt. each (suc k) d (omega arith)) in
    let first = each 0 sink (omega arith) in
    let more : suc (length sinks) * m ≡ length sinks * m + m = omega arith in
    omega (arith, all, rest, first, more)

kind-low : (o : Option Kind) (load : ℕ) → IfSome o IsKind → load_above o load ≤ 1000000 + load
kind-low None load kind = omega arith
kind-low (Some k) load kind = let c = kind.c in omega (arith, c)

only-low : (b : Bool) (x m : ℕ) → x ≤ m → (if b then x else 0) ≤ m
only-low true x m le = le
only-low false x m le = omega arith

-- no load is above the most
pub below-low : (t : RcTree) (b : Buffers) (v : ℕ) → IsRcTree t → IsSmall t b → v < t.nodes → below t b v ≤ most_load
below-low t b v tree small inside =
    let w : ℕ → ℕ = own_load t b in
    let f : ℕ → ℕ = λ u. only (in_stage t b v) w u in
    let h : ℕ → ℕ = λ u. if u == v then sinks_load t v else f u in
    let out : in_stage t b v v ≡ false = stage-later t b v v tree inside (omega arith) in
    let own : f v ≡ 0 = rw out refl in
    let same : (v == v) ≡ true = eq-eqb v v refl in
    let at_v : h v ≡ sinks_load t v = rw same refl in
    let here : h v ≡ f v + sinks_load t v = omega (arith, at_v, own) in
    let others : (u : ℕ) → u < t.nodes → u ≢ v → h u ≡ f u = λ u lt other.
    let apart : (u == v) ≡ false = grind (arith, nat_tests) in rw apart refl in
    let whole = sums-raised f h (sinks_load t v) t.nodes v inside here others in
    let each : (u : ℕ) → u < t.nodes → h u ≤ 2000000 + sinks_load t u = λ u lt. elim (cases_eq u v) [
      | inl at ↦
          let yes_is : (u == v) ≡ true = eq-eqb u v at in
          let at_u : h u ≡ sinks_load t v = rw yes_is refl in
          let is : h u ≡ sinks_load t u = at_u ∙ ap (sinks_load t) (sym at) in
          omega (arith, is)
      | inr other ↦
          let is = others u lt other in
          let wire = (small.wires u).c in
          let kind = kind-low (b u) (sinks_load t u) (small.kinds u) in
          let low = only-low (in_stage t b v u) (w u) (2000000 + sinks_load t u) (omega (arith, wire, kind)) in
          omega (arith, is, low)
    ] in
    let total = sums-le h (λ u. 2000000 + sinks_load t u) t.nodes each in
    let split = sums-plus (sinks_load t) 2000000 t.nodes in
    let sinks = sinks-sum 1000000 t.nodes t.sinks tree.sinks (λ k d lt. (small.sinks k d lt).c) in
    let few = small.few_nodes in
    let few_sinks = small.few_sinks in
    let stage = sum-passing (in_stage t b v) w t.nodes in
    omega (arith, whole, total, split, sinks, few, few_sinks, stage)

-- no edge, no buffer and no driver adds more than the most to a delay
edge-low : (wire : Wire) (load : ℕ) → IsWire wire → load ≤ most_load → edge_delay wire load ≤ most_step_delay
edge-low wire load is low =
    let c = is.c in
    let driven : wire.c + 2 * load ≤ 1000000 + 2 * most_load = omega arith in
    let product : wire.r * (wire.c + 2 * load) ≤ 1000000 * (1000000 + 2 * most_load) = mul-le-mul is.r driven in
    omega (arith, product)

buffer-low : (o : Option Kind) (load : ℕ) → IfSome o IsKind → load ≤ most_load → buffer_delay o load ≤ most_step_delay
buffer-low None load is low = omega arith
buffer-low (Some kind) load is low =
    let r = is.r in
    let twice_r : 2 * kind.r ≤ 2000000 = omega arith in
    let product : 2 * kind.r * load ≤ 2000000 * most_load = mul-le-mul twice_r low in
    let fast = is.fast in
    let slow = is.slow in
    let own : unsigned_abs kind.delay ≤ 2 ^ 50 = omega (arith, ints) in
    omega (arith, product, own)

driver-low : (r load : ℕ) → r ≤ 1000000 → load ≤ most_load → 2 * r * load ≤ most_step_delay
driver-low r load most low =
    let twice_r : 2 * r ≤ 2000000 = omega arith in
    let product : 2 * r * load ≤ 2000000 * most_load = mul-le-mul twice_r low in
    omega (arith, product)

up-low : (o : Option Kind) (load : ℕ) → IfSome o IsKind → load ≤ most_load → load_above o load ≤ most_load
up-low None load is low = low
up-low (Some kind) load is low = let c = is.c in omega arith

node-low : (t : RcTree) (b : Buffers) (node : ℕ) → IsRcTree t → IsSmall t b → node < t.nodes → node_delay t b node ≤ 2 * most_step_delay
node-low t b node tree small inside =
    let low = below-low t b node tree small inside in
    let edge = edge-low (t.wire node) (up t b node) (small.wires node) (up-low (b node) (below t b node) (small.kinds node) low) in
    let buffer = buffer-low (b node) (below t b node) (small.kinds node) low in
    omega (arith, edge, buffer)

-- the delay along a path
above-low : (m most : ℕ) (f : ℕ → ℕ) (t : RcTree) (node : ℕ) → IsRcTree t → node < t.nodes → ((u : ℕ) → u < t.nodes → f u ≤ m) →
    sum_by f (above_within most t node) ≤ most * m
above-low m zero f t node tree inside each = omega arith
above-low m (suc most) f t zero tree inside each = omega arith
above-low m (suc most) f t (suc node) tree inside each =
    let earlier = tree.earlier (suc node) (omega arith) inside in
    let rest = above-low m most f t (t.parent (suc node)) tree (omega arith) each in
    let first = each (t.parent (suc node)) (omega arith) in
    let sum = sum_by-cons f (t.parent (suc node)) (above_within most t (t.parent (suc node))) in
    let more : suc most * m ≡ most * m + m = omega arith in
    omega (arith, rest, first, sum, more)

pub delay-low : (t : RcTree) (b : Buffers) (node : ℕ) → IsRcTree t → IsSmall t b → node < t.nodes → delay_to t b node ≤ 2 ^ 91
delay-low t b node tree small inside =
    let first = driver-low t.driver (below t b 0) small.driver (below-low t b 0 tree small tree.rooted) in
    let own = node-low t b node tree small inside in
    let rest = above-low (2 * most_step_delay) node (node_delay t b) t node tree inside (λ u lt. node-low t b u tree small lt) in
    let sum = sum_by-cons (node_delay t b) node (above t node) in
    let few = small.few_nodes in
    omega (arith, first, own, rest, sum)

-- times in range
pub weaken : (m n : ℕ) (o : Option ℤ) → m ≤ n → IfSome o (IsTime m) → IfSome o (IsTime n)
weaken m n None le is = tt
weaken m n (Some at) le is = let low = is.low in record { low = omega (arith, ints); high = is.high }

less-time : (m d : ℕ) (o : Option ℤ) → IfSome o (IsTime m) → IfSome (less d o) (IsTime (m + d))
less-time m d None is = tt
less-time m d (Some at) is = let low = is.low in let high = is.high in record { low = omega (arith, ints); high = omega (arith, ints) }

sooner-time : (m : ℕ) (x y : Option ℤ) → IfSome x (IsTime m) → IfSome y (IsTime m) → IfSome (sooner x y) (IsTime m)
sooner-time m None y first second = second
sooner-time m (Some x) None first second = first
sooner-time m (Some x) (Some y) first second =
    let a = first.low in let b = second.low in let c = first.high in let d = second.high in
    record { low = omega (arith, ints, clamps); high = omega (arith, ints, clamps) }

sinks-time : (p : Sink → Bool) (sinks : List Sink) → All (λ sink. IsSinking (record { c = sink.c; time = sink.time })) sinks →
    IfSome (soonest (map twice (filter p sinks))) (IsTime (2 ^ 51))
sinks-time p [] each = tt
sinks-time p (sink ∷ sinks) each =
    let rest = sinks-time p sinks (λ k d lt. each (suc k) d (omega arith)) in
    elim (cases_Bool (p sink)) [
      | inl is ↦
          subst (λ (ss : List Sink). IfSome (soonest (map twice ss)) (IsTime (2 ^ 51))) (sym (filter-yes p sink sinks is))
          (sooner-time (2 ^ 51) (Some (twice sink)) (soonest (map twice (filter p sinks))) (own (each 0 sink (omega arith))) rest)
      | inr not ↦ subst (λ (ss : List Sink). IfSome (soonest (map twice ss)) (IsTime (2 ^ 51))) (sym (filter-no p sink sinks not)) rest
    ]
  where
    own : IsSinking (record { c = sink.c; time = sink.time }) → IsTime (2 ^ 51) (twice sink)
    own is = let early = is.early in let late = is.late in record { low = omega (arith, ints); high = omega (arith, ints) }

-- below each node that isn't hung on its parent yet, load and time are in range
abbrev pub under : ℕ → ℕ
under n = 2 ^ 51 + n * (2 * most_step_delay)

seen-load : (n k v : ℕ) (t : RcTree) (b : Buffers) → IsRcTree t → IsSmall t b → k + n ≡ t.nodes → v < k → (seen_of_last n t b v).load ≤ most_load
seen-load n k v t b tree small at inside =
    let part = below-seen n k v t b tree at inside in
    let low = below-low t b v tree small (omega arith) in
    omega (arith, part, low)

-- the time that a node's parent sees of it
hanging-time : (m : ℕ) (t : RcTree) (b : Buffers) (k : ℕ) (s : Seen) → IsSmall t b → s.load ≤ most_load → IfSome s.time (IsTime m) →
    IfSome (hanging t b k s).time (IsTime (m + 2 * most_step_delay))
hanging-time m t b k s small load time =
    let buffer = buffer-low (b k) s.load (small.kinds k) load in
    let upper = up-low (b k) s.load (small.kinds k) load in
    let same = behind-load (b k) s in
    let edge = edge-low (t.wire k) (behind (b k) s).load (small.wires k) (omega (arith, upper, same)) in
    let first = less-time m (buffer_delay (b k) s.load) s.time time in
    let behind_it = subst (λ (o : Option ℤ). IfSome o (IsTime (m + buffer_delay (b k) s.load))) (sym (behind-time (b k) s)) first in
    weaken (m + buffer_delay (b k) s.load + edge_delay (t.wire k) (behind (b k) s).load) (m + 2 * most_step_delay) (hanging t b k s).time (omega (arith, edge, buffer))
    (less-time (m + buffer_delay (b k) s.load) (edge_delay (t.wire k) (behind (b k) s).load) (behind (b k) s).time behind_it)

seen-time : (n k v : ℕ) (t : RcTree) (b : Buffers) → IsRcTree t → IsSmall t b → k + n ≡ t.nodes → v < k → IfSome (seen_of_last n t b v).time (IsTime (under n))
seen-time zero k v t b tree small at inside = sinks-time (λ sink. sink.node == v) t.sinks small.sinks
seen-time (suc n) k v t b tree small at inside =
    let le : under n ≤ under (suc n) = omega arith in
    let le2 : under n + 2 * most_step_delay ≤ under (suc n) = omega arith in
    let own = weaken (under n) (under (suc n)) (seen_of_last n t b v).time le (seen-time n (suc k) v t b tree small (omega arith) (omega arith)) in
    elim (cases_eq v (t.parent k)) [
      | inl same ↦
          let load = seen-load n (suc k) k t b tree small (omega arith) (omega arith) in
          let hung = weaken (under n + 2 * most_step_delay) (under (suc n)) (hanging t b k (seen_of_last n t b k)).time le2
          (hanging-time (under n) t b k (seen_of_last n t b k) small load (seen-time n (suc k) k t b tree small (omega arith) (omega arith))) in
          let both = sooner-time (under (suc n)) (seen_of_last n t b v).time (hanging t b k (seen_of_last n t b k)).time own hung in
          let is : seen_of_last (suc n) t b v ≡ joined (seen_of_last n t b v) (hanging t b k (seen_of_last n t b k)) =
          ap (λ (u : ℕ). seen_of_last (suc n) t b u) same ∙ seen-parent n k t b at
          ∙ ap (λ (u : ℕ). joined (seen_of_last n t b u) (hanging t b k (seen_of_last n t b k))) (sym same) in
          subst (λ (s : Seen). IfSome s.time (IsTime (under (suc n)))) (sym is) both
      | inr other ↦ subst (λ (s : Seen). IfSome s.time (IsTime (under (suc n)))) (sym (seen-other n k v t b at other)) own
    ]

pub seen-small : (n k v : ℕ) (t : RcTree) (b : Buffers) → IsRcTree t → IsSmall t b → k + n ≡ t.nodes → v < k → IsSeen (under n) (seen_of_last n t b v)
seen-small n k v t b tree small at inside = record {
  load = seen-load n k v t b tree small at inside;
  time = seen-time n k v t b tree small at inside;
}
