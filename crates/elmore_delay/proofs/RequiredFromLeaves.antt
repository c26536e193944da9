-- The required time over the paths to the sinks is the one that is seen from the leaves.
use Rattle.std.proofs.Common.{◌≡◌, ◌≢◌, ℕ, zero, suc, ◌+◌, ◌*◌, ◌-◌, ◌<◌, ℤ, pos, Bool, ◌==◌, List, [], ◌∷◌, All, map, filter, sum_by, Option, Some, None, unwrap_or, refl, sym, ap, ◌∙◌, arith}
use Rattle.std.proofs.lemmas.Bool.{eq-eqb}
use Rattle.std.proofs.lemmas.Bool.Decides.{nat_tests}
use Rattle.std.proofs.lemmas.List.Sums.{sum_by-cons}
use Rattle.gr_base.proofs.General.{filter-yes, filter-no}
use Rattle.elmore_delay.specs.RcTrees.{Sink, RcTree, Buffers, IsRcTree, load_above, below, up, buffer_delay, edge_delay, node_delay, delay_to, path_to, slack, sooner, soonest, twice, required_time}
use Rattle.elmore_delay.specs.FromLeaves.{less, behind, hanging, seen_of_last, seen_whole, at_driver}
use Rattle.elmore_delay.proofs.Loads.{seen-parent, seen-other, behind-load, load-below_last}
use Rattle.elmore_delay.proofs.Paths.{above-more}
use Rattle.elmore_delay.specs.declared.seen.Seen.{Seen}
use Rattle.rc_library.specs.declared.parts.Kind.{Kind}
use Rattle.elmore_delay.proofs.Ranges.{least, sooner-swap, least-lowered, least-none, less-twice, less-sooner, less-none}

-- the least of twice the times of those of some sinks that are at a node
abbrev pub soonest_at : List Sink → ℕ → Option ℤ
soonest_at sinks node = soonest (map twice (filter (λ sink. sink.node == node) sinks))

-- the least slack, gathered by nodes
slacks-by_node : (t : RcTree) (b : Buffers) (sinks : List Sink) → All (λ sink. sink.node < t.nodes) sinks →
    soonest (map (slack t b) sinks) ≡ least (λ node. less (delay_to t b node) (soonest_at sinks node)) t.nodes
slacks-by_node t b [] inside = sym (least-none (λ node. less (delay_to t b node) (soonest_at [] node)) t.nodes (λ node. refl))
slacks-by_node t b (sink ∷ sinks) inside =
    let f : ℕ → Option ℤ = λ node. less (delay_to t b node) (soonest_at sinks node) in
    let h : ℕ → Option ℤ = λ node. less (delay_to t b node) (soonest_at (sink ∷ sinks) node) in
    let at_node : ℕ → Sink → Bool = λ node other. other.node == node in
    let here : h sink.node ≡ sooner (f sink.node) (Some (slack t b sink)) =
    ap (λ (ss : List Sink). less (delay_to t b sink.node) (soonest (map twice ss)))
    (filter-yes (at_node sink.node) sink sinks (eq-eqb sink.node sink.node refl))
    ∙ less-sooner (delay_to t b sink.node) (Some (twice sink)) (soonest_at sinks sink.node)
    ∙ sooner-swap (Some (slack t b sink)) (f sink.node) in
    let others : (node : ℕ) → node < t.nodes → node ≢ sink.node → h node ≡ f node = λ node lt other.
    ap (λ (ss : List Sink). less (delay_to t b node) (soonest (map twice ss)))
    (filter-no (at_node node) sink sinks (grind (arith, nat_tests))) in
    ap (λ (o : Option ℤ). sooner (Some (slack t b sink)) o) (slacks-by_node t b sinks (λ k d lt. inside (suc k) d (omega arith)))
    ∙ sooner-swap (Some (slack t b sink)) (least f t.nodes)
    ∙ sym (least-lowered f h (Some (slack t b sink)) t.nodes sink.node (inside 0 sink (omega arith)) here others)

-- a time behind a buffer, with what the buffer adds to the delay
pub behind-time : (o : Option Kind) (s : Seen) → (behind o s).time ≡ less (buffer_delay o s.load) s.time
behind-time None s = sym (less-none s.time)
behind-time (Some kind) s = refl

-- the time that a node's parent sees of it, less a delay to the parent, is what is seen at the node less the delay to it
pub hanging-later : (n k upper lower : ℕ) (t : RcTree) (b : Buffers) → IsRcTree t → suc k + n ≡ t.nodes → lower ≡ upper + node_delay t b k →
    less upper (hanging t b k (seen_of_last n t b k)).time ≡ less lower (seen_of_last n t b k).time
hanging-later n k upper lower t b tree at path =
    let s = seen_of_last n t b k in
    let load : below t b k ≡ s.load = load-below_last n k t b tree at in
    let edge = edge_delay (t.wire k) (behind (b k) s).load in
    let own = buffer_delay (b k) s.load in
    let added : edge + own ≡ node_delay t b k =
    ap (λ (m : ℕ). edge_delay (t.wire k) m + own) (behind-load (b k) s)
    ∙ ap (λ (m : ℕ). edge_delay (t.wire k) (load_above (b k) m) + buffer_delay (b k) m) (sym load) in
    ap (λ (o : Option ℤ). less upper (less edge o)) (behind-time (b k) s)
    ∙ ap (λ (o : Option ℤ). less upper o) (less-twice own edge s.time)
    ∙ less-twice (edge + own) upper s.time
    ∙ ap (λ (m : ℕ). less m s.time) (ap (λ (m : ℕ). upper + m) added ∙ sym path)

-- the same with the delays from the driver
hanging-time : (n k : ℕ) (t : RcTree) (b : Buffers) → IsRcTree t → 0 < k → suc k + n ≡ t.nodes →
    less (delay_to t b (t.parent k)) (hanging t b k (seen_of_last n t b k)).time ≡ less (delay_to t b k) (seen_of_last n t b k).time
hanging-time n k t b tree later at =
    hanging-later n k (delay_to t b (t.parent k)) (delay_to t b k) t b tree at
    (ap (λ (nodes : List ℕ). 2 * t.driver * below t b 0 + sum_by (node_delay t b) (k ∷ nodes)) (above-more t k tree later (omega arith))
    ∙ ap (λ (m : ℕ). 2 * t.driver * below t b 0 + m) (sum_by-cons (node_delay t b) k (path_to t (t.parent k)))
    ∙ omega arith)

-- the least slack is the least over the nodes that aren't hung on their parents yet
slacks-seen : (n k : ℕ) (t : RcTree) (b : Buffers) → IsRcTree t → 0 < k → k + n ≡ t.nodes →
    soonest (map (slack t b) t.sinks) ≡ least (λ node. less (delay_to t b node) (seen_of_last n t b node).time) k
slacks-seen zero k t b tree some at =
    let all : t.nodes ≡ k = omega arith in
    slacks-by_node t b t.sinks tree.sinks
    ∙ ap (λ (m : ℕ). least (λ node. less (delay_to t b node) (soonest_at t.sinks node)) m) all
slacks-seen (suc n) k t b tree some at =
    let f : ℕ → Option ℤ = λ node. less (delay_to t b node) (seen_of_last n t b node).time in
    let h : ℕ → Option ℤ = λ node. less (delay_to t b node) (seen_of_last (suc n) t b node).time in
    let q = t.parent k in
    let here : h q ≡ sooner (f q) (f k) =
    ap (λ (s : Seen). less (delay_to t b q) s.time) (seen-parent n k t b at)
    ∙ less-sooner (delay_to t b q) (seen_of_last n t b q).time (hanging t b k (seen_of_last n t b k)).time
    ∙ ap (λ (o : Option ℤ). sooner (f q) o) (hanging-time n k t b tree some (omega arith)) in
    let others : (node : ℕ) → node < k → node ≢ q → h node ≡ f node = λ node lt other.
    ap (λ (s : Seen). less (delay_to t b node) s.time) (seen-other n k node t b at other) in
    slacks-seen n (suc k) t b tree (omega arith) (omega arith)
    ∙ sym (least-lowered f h (f k) k q (tree.earlier k some (omega arith)) here others)

-- node 0 adds nothing to a delay, where it holds no buffer
pub no-root_delay : (t : RcTree) (b : Buffers) → IsRcTree t → b 0 ≡ None → node_delay t b 0 ≡ 0
no-root_delay t b tree root =
    ap (λ (o : Option Kind). edge_delay (t.wire 0) (up t b 0) + buffer_delay o (below t b 0)) root
    ∙ ap (λ (r : ℕ). r * ((t.wire 0).c + 2 * up t b 0) + 0) tree.root ∙ omega arith

pub required-from_leaves : (t : RcTree) (b : Buffers) → IsRcTree t → b 0 ≡ None → required_time t b ≡ at_driver t.driver (seen_whole t b)
required-from_leaves t b tree root =
    let rooted = tree.rooted in
    let n : ℕ = t.nodes - 1 in
    let s : Seen = seen_of_last n t b 0 in
    let load : below t b 0 ≡ s.load = load-below_last n 0 t b tree (omega arith) in
    let none = no-root_delay t b tree root in
    let delay : delay_to t b 0 ≡ 2 * t.driver * s.load =
    ap (λ (m : ℕ). 2 * t.driver * m + (0 + node_delay t b 0)) load ∙ ap (λ (m : ℕ). 2 * t.driver * s.load + (0 + m)) none ∙ omega arith in
    ap (λ (o : Option ℤ). unwrap_or o (pos 0)) (slacks-seen n 1 t b tree (omega arith) (omega arith))
    ∙ ap (λ (d : ℕ). unwrap_or (less d s.time) (pos 0)) delay
