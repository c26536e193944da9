-- Candidates, and those above nodes and at the upper ends of edges, are in range.
use Rattle.std.proofs.Common.{◌≡◌, ℕ, ◌+◌, ◌*◌, ◌^◌, ◌<◌, ◌≤◌, ℤ, ◌==◌, List, [], ◌∷◌, length, get_or, All, Contains, Option, Some, None, IfSome, option_and_then, unsigned_abs, if◌then◌else◌, mul-le-mul, inl, inr, refl, sym, subst, arith}
use Rattle.std.proofs.lemmas.Int.{ints}
use Rattle.std.proofs.lemmas.List.{get_or-map, length-map}
use Rattle.std.proofs.lemmas.Bool.{cases_eq}
use Rattle.std.proofs.lemmas.List.Elements.{Contains-get_or, All-contains}
use Rattle.rc_library.specs.Libraries.{IsKind, IsWire, kind_of}
use Rattle.rc_library.specs.declared.parts.Kind.{Kind}
use Rattle.rc_library.specs.declared.parts.Wire.{Wire}
use Rattle.elmore_delay.specs.RcTrees.{buffer_delay, edge_delay}
use Rattle.elmore_delay.specs.FromLeaves.{less, along, behind}
use Rattle.elmore_delay.specs.Loadings.{LoadingView, IsLoading, rc_of, wire_at}
use Rattle.elmore_delay.specs.Ranges.{most_load, IsSmall, IsSeen, IsTime}
use Rattle.elmore_delay.specs.declared.seen.Seen.{Seen}
use Rattle.elmore_delay.proofs.RangeLemmas.{seen-small, under, weaken}
use Rattle.elmore_delay.proofs.RcLemmas.{rc-tree, rc-small}
use Rattle.ginneken_lists.specs.Candidates.{Chosen, Candidate}
use Rattle.ginneken_lists.specs.Pairs.{candidate_of, candidates, IsInRange, IsTime as InTime}
use Rattle.ginneken_lists.specs.declared.pair.Pair.{Pair}
use Rattle.buffer_plan.specs.Picked.{sites_of, all_above, all_hanging, candidates_of_last}
use Rattle.buffer_plan.specs.Gathered.{AreSmall}
use Rattle.buffer_plan.proofs.Served.{seen_above}
use Rattle.buffer_plan.proofs.HungLemmas.{Held, buffers_by, if-same, if-other}
use Rattle.buffer_plan.proofs.Complete.{complete}
use Rattle.buffer_plan.proofs.Comings.{hanging-comes, above-is}
use Rattle.buffer_plan.proofs.Real.{IsReal, real}

-- what a buffer and an edge add to a delay
less-time : (m d : ℕ) (o : Option ℤ) → IfSome o (IsTime m) → IfSome (less d o) (IsTime (m + d))
less-time m d None is = tt
less-time m d (Some at) is = let low = is.low in let high = is.high in record { low = omega (arith, ints); high = omega (arith, ints) }

buffer-low : (kind : Kind) (load : ℕ) → IsKind kind → load ≤ most_load → buffer_delay (Some kind) load ≤ 2 ^ 70
buffer-low kind load is low =
    let r = is.r in
    let twice_r : 2 * kind.r ≤ 2000000 = omega arith in
    let product : 2 * kind.r * load ≤ 2000000 * most_load = mul-le-mul twice_r low in
    let fast = is.fast in
    let slow = is.slow in
    let own : unsigned_abs kind.delay ≤ 2 ^ 50 = omega (arith, ints) in
    omega (arith, product, own)

edge-low : (wire : Wire) (load : ℕ) → IsWire wire → load ≤ most_load → edge_delay wire load ≤ 2 ^ 70
edge-low wire load is low =
    let c = is.c in
    let driven : wire.c + 2 * load ≤ 1000000 + 2 * most_load = omega arith in
    let product : wire.r * (wire.c + 2 * load) ≤ 1000000 * (1000000 + 2 * most_load) = mul-le-mul is.r driven in
    omega (arith, product)

behind-small : (o : Option Kind) (s : Seen) → IfSome o IsKind → IsSeen (2 ^ 100) s → IsSeen (2 ^ 101) (behind o s)
behind-small None s kind is = record { load = is.load; time = weaken (2 ^ 100) (2 ^ 101) s.time (omega arith) is.time }
behind-small (Some k) s kind is =
    let c = kind.c in
    let delay = buffer-low k s.load kind is.load in
    record {
      load = omega arith;
      time = weaken (2 ^ 100 + buffer_delay (Some k) s.load) (2 ^ 101) (less (buffer_delay (Some k) s.load) s.time) (omega arith)
          (less-time (2 ^ 100) (buffer_delay (Some k) s.load) s.time is.time);
    }

-- what holds of each member
pub all-members : {A : Type 0} (P : A → Type 0) (xs : List A) → ((x : A) → Contains xs x → P x) → All P xs
all-members P xs each k d inside = each (get_or xs k d) (Contains-get_or xs k d inside)

-- what is held are kinds in range
held-fits : (l : LoadingView) (o : Option ℕ) → IsLoading l → IfSome (option_and_then (kind_of l.library) o) IsKind
held-fits l o loading = (rc-small l (o ∷ []) loading).kinds 0

held-small : (l : LoadingView) (p : Held) → IsLoading l → IsSmall (rc_of l) (buffers_by l.library p)
held-small l p loading =
    let small = rc-small l [] loading in
    record {
      few_nodes = small.few_nodes;
      few_sinks = small.few_sinks;
      driver = small.driver;
      wires = small.wires;
      kinds = λ node. held-fits l (p node) loading;
      sinks = small.sinks;
    }

-- what some placement gives below a node
pub real-small : (l : LoadingView) (n k v : ℕ) (o : ℕ → Candidate) → IsLoading l → k + n ≡ length l.tree.nodes → v < k → IsReal n k (sites_of l) o →
    IsSeen (2 ^ 100) (o v).seen
real-small l n k v o loading at below found =
    let fits = subst (λ (s : Seen). IsSeen (under n) s) (found.seen v below)
    (seen-small n k v (rc_of l) (buffers_by l.library found.held) (rc-tree l loading) (held-small l found.held loading) at below) in
    let few = (rc-small l [] loading).few_nodes in
    let le : under n ≤ 2 ^ 100 = omega arith in
    record { load = fits.load; time = weaken (under n) (2 ^ 100) (o v).seen.time le fits.time }

-- a candidate below a node is that
one-small : (l : LoadingView) (n k v : ℕ) (o : Candidate) → IsLoading l → 0 < k → k + n ≡ length l.tree.nodes → v < k →
    Contains (candidates_of_last n (sites_of l) v) o → IsSeen (2 ^ 100) o.seen
one-small l n k v o loading later at below among =
    let some : ℕ → Candidate = λ u. (complete n k u (sites_of l) (λ node. None) at (λ node. tt)).by in
    let selected : ℕ → Candidate = λ u. if u == v then o else some u in
    let contained : (u : ℕ) → u < k → Contains (candidates_of_last n (sites_of l) u) (selected u) = λ u inside. elim (cases_eq u v) [
      | inl same ↦
          subst (λ (c : Candidate). Contains (candidates_of_last n (sites_of l) u) c) (sym (if-same u v o (some u) same))
          (subst (λ (w : ℕ). Contains (candidates_of_last n (sites_of l) w) o) (sym same) among)
      | inr other ↦
          subst (λ (c : Candidate). Contains (candidates_of_last n (sites_of l) u) c) (sym (if-other u v o (some u) other))
          (complete n k u (sites_of l) (λ node. None) at (λ node. tt)).among
    ] in
    subst (λ (c : Candidate). IsSeen (2 ^ 100) c.seen) (if-same v v o (some v) refl)
    (real-small l n k v selected loading at below (real n k (sites_of l) selected (rc-tree l loading) later at contained))

pub candidates-small : (l : LoadingView) (n k v : ℕ) → IsLoading l → 0 < k → k + n ≡ length l.tree.nodes → v < k → AreSmall (candidates_of_last n (sites_of l) v)
candidates-small l n k v loading later at below =
    all-members (λ (o : Candidate). IsSeen (2 ^ 100) o.seen) (candidates_of_last n (sites_of l) v) (λ o among. one-small l n k v o loading later at below among)

-- above a node, and at the upper end of the edge
pub above-small : (l : LoadingView) (held : Option ℕ) (s : Seen) → IsLoading l → IsSeen (2 ^ 100) s → IsSeen (2 ^ 101) (seen_above (sites_of l) held s)
above-small l held s loading fits = behind-small (option_and_then (kind_of l.library) held) s (held-fits l held loading) fits

pub above-all : (l : LoadingView) (node : ℕ) (all : List Candidate) → IsLoading l → AreSmall all →
    All (λ o. IsSeen (2 ^ 101) o.seen) (all_above (sites_of l) node all)
above-all l node all loading small =
    all-members (λ (o : Candidate). IsSeen (2 ^ 101) o.seen) (all_above (sites_of l) node all) (λ o among.
    let above = above-is (sites_of l) node all o among in
    subst (λ (s : Seen). IsSeen (2 ^ 101) s) (sym above.seen)
    (above-small l above.held above.from.seen loading (All-contains (λ (c : Candidate). IsSeen (2 ^ 100) c.seen) all above.from small above.among)))

-- what is seen is in the range of lists
pub record Fits (s : Seen) : Type 0 where
  load : s.load ≤ 2 ^ 60
  time : IfSome s.time InTime

fits-time : (m : ℕ) (o : Option ℤ) → m ≤ 2 ^ 110 → IfSome o (IsTime m) → IfSome o InTime
fits-time m None le is = tt
fits-time m (Some at) le is =
    let low = is.low in
    let high = is.high in
    record { low = omega (arith, ints); high = omega (arith, ints) }

small-fits : (m : ℕ) (s : Seen) → m ≤ 2 ^ 110 → IsSeen m s → Fits s
small-fits m s le is = let load = is.load in record { load = omega arith; time = fits-time m s.time le is.time }

pub along-fits : (l : LoadingView) (node : ℕ) (s : Seen) → IsLoading l → IsSeen (2 ^ 101) s → Fits (along (wire_at l node) s)
along-fits l node s loading is =
    let wire = (rc-small l [] loading).wires node in
    let load = is.load in
    let c = wire.c in
    let edge = edge-low (wire_at l node) s.load wire is.load in
    let time = less-time (2 ^ 101) (edge_delay (wire_at l node) s.load) s.time is.time in
    let le : 2 ^ 101 + edge_delay (wire_at l node) s.load ≤ 2 ^ 110 = omega arith in
    record { load = omega arith; time = fits-time (2 ^ 101 + edge_delay (wire_at l node) s.load) (along (wire_at l node) s).time le time }

hanging-all : (l : LoadingView) (node : ℕ) (all : List Candidate) → IsLoading l → AreSmall all →
    All (λ o. Fits o.seen) (all_hanging (sites_of l) node all)
hanging-all l node all loading small =
    all-members (λ (o : Candidate). Fits o.seen) (all_hanging (sites_of l) node all) (λ o among.
    let above = hanging-comes (sites_of l) node all o among in
    subst (λ (s : Seen). Fits s) (sym above.seen)
    (along-fits l node (seen_above (sites_of l) above.held above.from.seen) loading
    (above-small l above.held above.from.seen loading (All-contains (λ (c : Candidate). IsSeen (2 ^ 100) c.seen) all above.from small above.among))))

-- the pairs of a list whose candidates are in range
pub pairs-fit : (trail : List Chosen) (pairs : List Pair) (all : List Candidate) → candidates trail pairs ≡ all → All (λ o. Fits o.seen) all → All IsInRange pairs
pairs-fit trail pairs all is fit k d inside =
    let long = length-map pairs (candidate_of trail) in
    let each : All (λ (o : Candidate). Fits o.seen) (candidates trail pairs) = subst (λ (xs : List Candidate). All (λ (o : Candidate). Fits o.seen) xs) (sym is) fit in
    let here = subst (λ (o : Candidate). Fits o.seen) (get_or-map (candidate_of trail) pairs k d (candidate_of trail d) inside)
    (each k (candidate_of trail d) (omega arith)) in
    record { load = here.load; time = here.time }

pub all-fit : (m : ℕ) (all : List Candidate) → m ≤ 2 ^ 110 → All (λ o. IsSeen m o.seen) all → All (λ o. Fits o.seen) all
all-fit m all le small k d inside = small-fits m (get_or all k d).seen le (small k d inside)

pub small-pairs : (trail : List Chosen) (pairs : List Pair) (all : List Candidate) → candidates trail pairs ≡ all → AreSmall all → All IsInRange pairs
small-pairs trail pairs all is small = pairs-fit trail pairs all is (all-fit (2 ^ 100) all (omega arith) small)

pub above-pairs : (l : LoadingView) (node : ℕ) (trail : List Chosen) (pairs : List Pair) (all : List Candidate) → IsLoading l → AreSmall all →
    candidates trail pairs ≡ all_above (sites_of l) node all → All IsInRange pairs
above-pairs l node trail pairs all loading small is =
    pairs-fit trail pairs (all_above (sites_of l) node all) is
    (all-fit (2 ^ 101) (all_above (sites_of l) node all) (omega arith) (above-all l node all loading small))

pub hanging-pairs : (l : LoadingView) (node : ℕ) (trail : List Chosen) (pairs : List Pair) (all : List Candidate) → IsLoading l → AreSmall all →
    candidates trail pairs ≡ all_hanging (sites_of l) node all → All IsInRange pairs
hanging-pairs l node trail pairs all loading small is =
    pairs-fit trail pairs (all_hanging (sites_of l) node all) is (hanging-all l node all loading small)
