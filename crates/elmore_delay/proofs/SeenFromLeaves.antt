-- What is seen at a node by the paths to the sinks below it is what is seen there from the leaves.
use Rattle.std.proofs.Common.{◌≡◌, ◌≢◌, ℕ, zero, suc, ◌+◌, ◌-◌, ◌<◌, ℤ, Bool, true, false, cond, not, ◌==◌, List, [], ◌∷◌, All, map, filter, take, sum_by, Option, Some, None, if◌then◌else◌, refl, sym, ap, ◌∙◌, arith}
use Rattle.std.specs.List.{prefix_len, before_first}
use Rattle.std.proofs.lemmas.Bool.{eq-eqb, ne_eqb}
use Rattle.std.proofs.lemmas.Bool.Decides.{nat_tests}
use Rattle.std.proofs.lemmas.List.Sums.{sum_by-cons}
use Rattle.gr_base.proofs.General.{filter-yes, filter-no}
use Rattle.elmore_delay.specs.RcTrees.{Sink, RcTree, Buffers, IsRcTree, above, path_to, node_delay, sooner, soonest, twice}
use Rattle.elmore_delay.specs.FromLeaves.{less, hanging, seen_of_last, seen_from}
use Rattle.elmore_delay.specs.BelowNodes.{is_within, sinks_within, delay_from, slack_from, seen_at}
use Rattle.elmore_delay.specs.declared.seen.Seen.{Seen}
use Rattle.elmore_delay.proofs.Ranges.{least, least-same, least-none, least-lowered, sooner-swap, less-sooner, less-none}
use Rattle.elmore_delay.proofs.Paths.{above-more}
use Rattle.elmore_delay.proofs.BelowLemmas.{within-more, within-itself, not-within}
use Rattle.elmore_delay.proofs.Loads.{seen-parent, seen-other, load-below_last}
use Rattle.elmore_delay.proofs.RequiredFromLeaves.{soonest_at, hanging-later}

-- a time where it is asked for, and else none
abbrev shown : Bool → Option ℤ → Option ℤ
shown b time = if b then time else None

shown-sooner : (b : Bool) (x y : Option ℤ) → shown b (sooner x y) ≡ sooner (shown b x) (shown b y)
shown-sooner true x y = refl
shown-sooner false x y = refl

-- the delay to a later node is that to its parent with what the node adds, and none to v itself
front : (p : ℕ → Bool) (node : ℕ) (nodes : List ℕ) → p node ≡ false → before_first p (node ∷ nodes) ≡ node ∷ before_first p nodes
front p node nodes other =
    let q : ℕ → Bool = λ n. not (p n) in
    let more : 1 + prefix_len q nodes ≡ suc (prefix_len q nodes) = omega arith in
    ap (λ (b : Bool). take (cond (not b) (1 + prefix_len q nodes) 0) (node ∷ nodes)) other
    ∙ ap (λ (n : ℕ). take n (node ∷ nodes)) more

delay-more : (t : RcTree) (b : Buffers) (v k : ℕ) → IsRcTree t → v < k → k < t.nodes →
    delay_from t b v k ≡ delay_from t b v (t.parent k) + node_delay t b k
delay-more t b v k tree later inside =
    let here : ℕ → Bool = λ other. other == v in
    ap (λ (nodes : List ℕ). sum_by (node_delay t b) (before_first here (k ∷ nodes))) (above-more t k tree (omega arith) inside)
    ∙ ap (λ (nodes : List ℕ). sum_by (node_delay t b) nodes) (front here k (path_to t (t.parent k)) (ne_eqb k v (λ e. omega arith)))
    ∙ sum_by-cons (node_delay t b) k (before_first here (path_to t (t.parent k)))
    ∙ omega arith

no-delay : (t : RcTree) (b : Buffers) (v : ℕ) → delay_from t b v v ≡ 0
no-delay t b v =
    let here : ℕ → Bool = λ other. other == v in
    ap (λ (same : Bool). sum_by (node_delay t b) (take (cond (not same) (1 + prefix_len (λ (n : ℕ). not (here n)) (above t v)) 0) (path_to t v)))
    (eq-eqb v v refl)

-- the least slack, gathered by nodes
slacks-by_node : (t : RcTree) (b : Buffers) (v : ℕ) (sinks : List Sink) → All (λ sink. sink.node < t.nodes) sinks →
    soonest (map (slack_from t b v) (filter (λ sink. is_within t v sink.node) sinks))
    ≡ least (λ node. shown (is_within t v node) (less (delay_from t b v node) (soonest_at sinks node))) t.nodes
slacks-by_node t b v [] inside =
    sym (least-none (λ node. shown (is_within t v node) (less (delay_from t b v node) (soonest_at [] node))) t.nodes (λ node. nothing (is_within t v node)))
  where
    nothing : (p : Bool) → shown p None ≡ None
    nothing true = refl
    nothing false = refl
slacks-by_node t b v (sink ∷ sinks) inside =
    let within : Sink → Bool = λ other. is_within t v other.node in
    let f : ℕ → Option ℤ = λ node. shown (is_within t v node) (less (delay_from t b v node) (soonest_at sinks node)) in
    let h : ℕ → Option ℤ = λ node. shown (is_within t v node) (less (delay_from t b v node) (soonest_at (sink ∷ sinks) node)) in
    let at_node : ℕ → Sink → Bool = λ node other. other.node == node in
    let own : Option ℤ = shown (within sink) (Some (slack_from t b v sink)) in
    let here : h sink.node ≡ sooner (f sink.node) own =
    ap (λ (ss : List Sink). shown (within sink) (less (delay_from t b v sink.node) (soonest (map twice ss))))
    (filter-yes (at_node sink.node) sink sinks (eq-eqb sink.node sink.node refl))
    ∙ ap (shown (within sink)) (less-sooner (delay_from t b v sink.node) (Some (twice sink)) (soonest_at sinks sink.node))
    ∙ shown-sooner (within sink) (Some (slack_from t b v sink)) (less (delay_from t b v sink.node) (soonest_at sinks sink.node))
    ∙ sooner-swap own (f sink.node) in
    let others : (node : ℕ) → node < t.nodes → node ≢ sink.node → h node ≡ f node = λ node lt other.
    ap (λ (ss : List Sink). shown (is_within t v node) (less (delay_from t b v node) (soonest (map twice ss))))
    (filter-no (at_node node) sink sinks (grind (arith, nat_tests))) in
    first (within sink) refl
    ∙ ap (λ (o : Option ℤ). sooner own o) (slacks-by_node t b v sinks (λ k d lt. inside (suc k) d (omega arith)))
    ∙ sooner-swap own (least f t.nodes)
    ∙ sym (least-lowered f h own t.nodes sink.node (inside 0 sink (omega arith)) here others)
  where
    first : (p : Bool) → is_within t v sink.node ≡ p →
        soonest (map (slack_from t b v) (filter (λ other. is_within t v other.node) (sink ∷ sinks)))
        ≡ sooner (shown (is_within t v sink.node) (Some (slack_from t b v sink))) (soonest (map (slack_from t b v) (filter (λ other. is_within t v other.node) sinks)))
    first true is =
        ap (λ (ss : List Sink). soonest (map (slack_from t b v) ss)) (filter-yes (λ (other : Sink). is_within t v other.node) sink sinks is)
        ∙ ap (λ (p : Bool). sooner (shown p (Some (slack_from t b v sink))) (soonest (map (slack_from t b v) (filter (λ other. is_within t v other.node) sinks)))) (sym is)
    first false is =
        ap (λ (ss : List Sink). soonest (map (slack_from t b v) ss)) (filter-no (λ (other : Sink). is_within t v other.node) sink sinks is)
        ∙ ap (λ (p : Bool). sooner (shown p (Some (slack_from t b v sink))) (soonest (map (slack_from t b v) (filter (λ other. is_within t v other.node) sinks)))) (sym is)

-- the least slack is the least over the nodes from v down that aren't hung on their parents yet
slacks-seen : (n k v : ℕ) (t : RcTree) (b : Buffers) → IsRcTree t → v < k → k + n ≡ t.nodes →
    soonest (map (slack_from t b v) (sinks_within t v))
    ≡ least (λ node. shown (is_within t v node) (less (delay_from t b v node) (seen_of_last n t b node).time)) k
slacks-seen zero k v t b tree later at =
    let all : t.nodes ≡ k = omega arith in
    slacks-by_node t b v t.sinks tree.sinks
    ∙ ap (λ (m : ℕ). least (λ node. shown (is_within t v node) (less (delay_from t b v node) (soonest_at t.sinks node))) m) all
slacks-seen (suc n) k v t b tree later at =
    let f : ℕ → Option ℤ = λ node. shown (is_within t v node) (less (delay_from t b v node) (seen_of_last n t b node).time) in
    let h : ℕ → Option ℤ = λ node. shown (is_within t v node) (less (delay_from t b v node) (seen_of_last (suc n) t b node).time) in
    let q = t.parent k in
    let own : Option ℤ = less (delay_from t b v q) (seen_of_last n t b q).time in
    let hung : Option ℤ = less (delay_from t b v q) (hanging t b k (seen_of_last n t b k)).time in
    let lower : hung ≡ less (delay_from t b v k) (seen_of_last n t b k).time =
    hanging-later n k (delay_from t b v q) (delay_from t b v k) t b tree (omega arith) (delay-more t b v k tree later (omega arith)) in
    let here : h q ≡ sooner (f q) (f k) =
    ap (λ (s : Seen). shown (is_within t v q) (less (delay_from t b v q) s.time)) (seen-parent n k t b at)
    ∙ ap (shown (is_within t v q)) (less-sooner (delay_from t b v q) (seen_of_last n t b q).time (hanging t b k (seen_of_last n t b k)).time)
    ∙ shown-sooner (is_within t v q) own hung
    ∙ ap (λ (o : Option ℤ). sooner (f q) (shown (is_within t v q) o)) lower
    ∙ ap (λ (p : Bool). sooner (f q) (shown p (less (delay_from t b v k) (seen_of_last n t b k).time))) (sym (within-more t v k tree later (omega arith))) in
    let others : (node : ℕ) → node < k → node ≢ q → h node ≡ f node = λ node lt other.
    ap (λ (s : Seen). shown (is_within t v node) (less (delay_from t b v node) s.time)) (seen-other n k node t b at other) in
    slacks-seen n (suc k) v t b tree (omega arith) (omega arith)
    ∙ sym (least-lowered f h (f k) k q (tree.earlier k (omega arith) (omega arith)) here others)

-- when all later nodes are hung, v alone is left
slacks-last : (n v : ℕ) (t : RcTree) (b : Buffers) → IsRcTree t → suc v + n ≡ t.nodes →
    soonest (map (slack_from t b v) (sinks_within t v)) ≡ (seen_of_last n t b v).time
slacks-last n v t b tree at =
    let f : ℕ → Option ℤ = λ node. shown (is_within t v node) (less (delay_from t b v node) (seen_of_last n t b node).time) in
    let none : least f v ≡ None =
    least-same (λ node. None) f v (λ node below. ap (λ (p : Bool). shown p (less (delay_from t b v node) (seen_of_last n t b node).time)) (not-within t v node tree (omega arith) below))
    ∙ least-none (λ node. None) v (λ node. refl) in
    slacks-seen n (suc v) v t b tree (omega arith) at
    ∙ ap (λ (o : Option ℤ). sooner o (f v)) none
    ∙ ap (λ (p : Bool). shown p (less (delay_from t b v v) (seen_of_last n t b v).time)) (within-itself t v)
    ∙ ap (λ (d : ℕ). less d (seen_of_last n t b v).time) (no-delay t b v)
    ∙ less-none (seen_of_last n t b v).time

seen-is : (s : Seen) (load : ℕ) (time : Option ℤ) → load ≡ s.load → time ≡ s.time → record { load = load; time = time } ≡ s
seen-is s load time first second = ap (λ (m : ℕ). made m time) first ∙ ap (λ (o : Option ℤ). made s.load o) second
  where
    made : ℕ → Option ℤ → Seen
    made m o = record { load = m; time = o }

pub seen-last : (n v : ℕ) (t : RcTree) (b : Buffers) → IsRcTree t → suc v + n ≡ t.nodes → seen_at t b v ≡ seen_of_last n t b v
seen-last n v t b tree at =
    seen-is (seen_of_last n t b v) (seen_at t b v).load (seen_at t b v).time (load-below_last n v t b tree at) (slacks-last n v t b tree at)

pub seen-from_leaves : (t : RcTree) (b : Buffers) (v : ℕ) → IsRcTree t → v < t.nodes → seen_at t b v ≡ seen_from (v + 1) t b v
seen-from_leaves t b v tree inside = seen-last (t.nodes - (v + 1)) v t b tree (omega arith)
