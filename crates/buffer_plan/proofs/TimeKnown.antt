-- A time is seen at node 0 exactly where a net has a sink.
use Rattle.std.proofs.Common.{◌≡◌, ℕ, zero, suc, ◌+◌, ◌-◌, ◌<◌, ℤ, inl, inr, Bool, true, false, ◌==◌, nat_lt, List, [], ◌∷◌, length, map, filter, sum_by, All, Option, Some, None, is_some, refl, sym, ap, subst, ◌∙◌, arith}
use Rattle.std.specs.List.{range_with_len}
use Rattle.std.proofs.lemmas.Bool.{cases_eq, true≢false, lt-ltb, eq-eqb}
use Rattle.std.proofs.lemmas.Bool.Decides.{nat_tests}
use Rattle.gr_base.proofs.General.{filter-yes}
use Rattle.rc_library.specs.declared.parts.Kind.{Kind}
use Rattle.elmore_delay.specs.RcTrees.{Sink, RcTree, Buffers, IsRcTree, buffer_delay, edge_delay, sinks_at, sinks_load, soonest, sooner, twice}
use Rattle.elmore_delay.specs.FromLeaves.{less, behind, hanging, seen_of_last, seen_whole}
use Rattle.elmore_delay.specs.Loadings.{LoadingView, sink_at, sinks_of}
use Rattle.elmore_delay.specs.declared.seen.Seen.{Seen}
use Rattle.elmore_delay.proofs.Loads.{seen-other}
use Rattle.ginneken_lists.specs.declared.pair.Pair.{Pair}
use Rattle.buffer_plan.specs.Best.{has_sinks}
use Rattle.buffer_plan.specs.Gathered.{no_pairs}
use Rattle.buffer_plan.proofs.HungLemmas.{seen-hung}

-- delays take no time away, nor add one
pub less-known : (d : ℕ) (o : Option ℤ) → is_some (less d o) ≡ is_some o
less-known d None = refl
less-known d (Some x) = refl

behind-known : (o : Option Kind) (s : Seen) → is_some (behind o s).time ≡ is_some s.time
behind-known None s = refl
behind-known (Some kind) s = less-known (buffer_delay (Some kind) s.load) s.time

hanging-known : (t : RcTree) (b : Buffers) (k : ℕ) (s : Seen) → is_some (hanging t b k s).time ≡ is_some s.time
hanging-known t b k s = less-known (edge_delay (t.wire k) (behind (b k) s).load) (behind (b k) s).time ∙ behind-known (b k) s

-- of two times there is the lesser where one is there
sooner-left : (x y : Option ℤ) → is_some x ≡ true → is_some (sooner x y) ≡ true
sooner-left None y some = absurd (true≢false (sym some))
sooner-left (Some x) None some = refl
sooner-left (Some x) (Some y) some = refl

sooner-right : (x y : Option ℤ) → is_some y ≡ true → is_some (sooner x y) ≡ true
sooner-right None y some = some
sooner-right (Some x) None some = absurd (true≢false (sym some))
sooner-right (Some x) (Some y) some = refl

-- a sink below one of the nodes that aren't hung yet
record IsKnown (n k : ℕ) (t : RcTree) (b : Buffers) : Type 0 where
  node : ℕ
  below : node < k
  known : is_some (seen_of_last n t b node).time ≡ true

some-known : (n k : ℕ) (t : RcTree) (b : Buffers) (sink : Sink) (rest : List Sink) → IsRcTree t → t.sinks ≡ sink ∷ rest → 0 < k → k + n ≡ t.nodes →
    IsKnown n k t b
some-known zero k t b sink rest tree is later at =
    let here : Sink → Bool = λ other. other.node == sink.node in
    let inside = subst (λ (sinks : List Sink). All (λ (s : Sink). s.node < t.nodes) sinks) is tree.sinks 0 sink (omega arith) in
    record {
      node = sink.node;
      below = omega arith;
      known = ap (λ (sinks : List Sink). is_some (soonest (map twice (filter here sinks)))) is
          ∙ ap (λ (sinks : List Sink). is_some (soonest (map twice sinks))) (filter-yes here sink rest (eq-eqb sink.node sink.node refl))
          ∙ sooner-left (Some (twice sink)) (soonest (map twice (filter here rest))) refl;
    }
some-known (suc n) k t b sink rest tree is later at =
    let earlier : t.parent k < k = tree.earlier k later (omega arith) in
    let before = some-known n (suc k) t b sink rest tree is (omega arith) (omega arith) in
    let inside = before.below in
    elim (cases_eq before.node k) [
      | inl same ↦
          let below : is_some (seen_of_last n t b k).time ≡ true = ap (λ (v : ℕ). is_some (seen_of_last n t b v).time) (sym same) ∙ before.known in
          record {
            node = t.parent k;
            below = earlier;
            known = ap (λ (s : Seen). is_some s.time) (seen-hung n k (t.parent k) t b at refl)
                ∙ sooner-right (seen_of_last n t b (t.parent k)).time (hanging t b k (seen_of_last n t b k)).time
                (hanging-known t b k (seen_of_last n t b k) ∙ below);
          }
      | inr apart ↦
          record {
            node = before.node;
            below = omega arith;
            known = elim (cases_eq before.node (t.parent k)) [
              | inl parent ↦
                  ap (λ (s : Seen). is_some s.time) (seen-hung n k before.node t b at parent)
                  ∙ sooner-left (seen_of_last n t b before.node).time (hanging t b k (seen_of_last n t b k)).time before.known
              | inr other ↦ ap (λ (s : Seen). is_some s.time) (seen-other n k before.node t b at other) ∙ before.known
            ];
          }
    ]

-- without a sink there is no time
none-known : (n k v : ℕ) (t : RcTree) (b : Buffers) → t.sinks ≡ [] → k + n ≡ t.nodes → is_some (seen_of_last n t b v).time ≡ false
none-known zero k v t b is at = ap (λ (sinks : List Sink). is_some (soonest (map twice (filter (λ (s : Sink). s.node == v) sinks)))) is
none-known (suc n) k v t b is at =
    let own = none-known n (suc k) v t b is (omega arith) in
    elim (cases_eq v (t.parent k)) [
      | inl same ↦
          let below = none-known n (suc k) k t b is (omega arith) in
          ap (λ (s : Seen). is_some s.time) (seen-hung n k v t b at same)
          ∙ neither (seen_of_last n t b v).time (hanging t b k (seen_of_last n t b k)).time own (hanging-known t b k (seen_of_last n t b k) ∙ below)
      | inr other ↦ ap (λ (s : Seen). is_some s.time) (seen-other n k v t b at other) ∙ own
    ]
  where
    neither : (x y : Option ℤ) → is_some x ≡ false → is_some y ≡ false → is_some (sooner x y) ≡ false
    neither None y first second = second
    neither (Some x) y first second = absurd (true≢false first)

abbrev pub some_sinks : List Sink → Bool
some_sinks [] = false
some_sinks (sink ∷ sinks) = true

pub time-known : (t : RcTree) (b : Buffers) → IsRcTree t → is_some (seen_whole t b).time ≡ some_sinks t.sinks
time-known t b tree = by_sinks t.sinks refl
  where
    by_sinks : (sinks : List Sink) → t.sinks ≡ sinks → is_some (seen_whole t b).time ≡ some_sinks sinks
    by_sinks [] is = let rooted = tree.rooted in none-known (t.nodes - 1) 1 0 t b is (omega arith)
    by_sinks (sink ∷ sinks) is =
        let rooted = tree.rooted in
        let some = some-known (t.nodes - 1) 1 t b sink sinks tree is (omega arith) (omega arith) in
        let inside = some.below in
        let root : 0 ≡ some.node = omega arith in
        ap (λ (v : ℕ). is_some (seen_of_last (t.nodes - 1) t b v).time) root ∙ some.known

-- a net has a sink exactly where it has more than one pin
pub sinks-known : (l : LoadingView) → some_sinks (sinks_of l) ≡ has_sinks l
sinks-known l = by_number (length l.pins - 1) ∙ less_one
  where
    by_number : (m : ℕ) → some_sinks (map (sink_at l) (range_with_len 1 m)) ≡ nat_lt 0 m
    by_number zero = refl
    by_number (suc m) = sym (lt-ltb 0 (suc m) (omega arith))

    less_one : nat_lt 0 (length l.pins - 1) ≡ nat_lt 1 (length l.pins)
    less_one = grind (arith, nat_tests)

-- sinks without a time are none
no-time : (sinks : List Sink) → soonest (map twice sinks) ≡ None → sinks ≡ []
no-time [] none = refl
no-time (sink ∷ sinks) none =
    let some : is_some (soonest (map twice (sink ∷ sinks))) ≡ true = sooner-left (Some (twice sink)) (soonest (map twice sinks)) refl in
    absurd (true≢false (sym some ∙ ap (λ (o : Option ℤ). is_some o) none))

-- so the pair of the sinks at a node without a time is that of a branch without sinks
abbrev pair_of_sinks : List Sink → Pair
pair_of_sinks sinks = record { load = sum_by (λ (sink : Sink). sink.c) sinks; time = soonest (map twice sinks); mark = 0 }

pub no-pair : (t : RcTree) (v : ℕ) → soonest (map twice (sinks_at t v)) ≡ None →
    no_pairs ≡ record { load = sinks_load t v; time = soonest (map twice (sinks_at t v)); mark = 0 } ∷ []
no-pair t v none = ap (λ (sinks : List Sink). pair_of_sinks sinks ∷ []) (sym (no-time (sinks_at t v) none))
