-- The lists of nodes, one node after another.
use Rattle.std.proofs.Common.{◌≡◌, ◌≢◌, ℕ, zero, suc, ◌+◌, ◌-◌, ◌*◌, ◌<◌, ◌≤◌, List, [], ◌∷◌, length, All, Contains, sum_by, Option, Some, None, slice_set, refl, sym, ap, subst, ◌∙◌, arith, le_refl, mul-le-mul}
use Rattle.std.proofs.lemmas.List.{length-map, get_or_default}
use Rattle.std.proofs.lemmas.List.Elements.{All-head, All-tail}
use Rattle.std.proofs.lemmas.List.Sums.{sum_by-le, get_or-le-sum_by}
use Rattle.elmore_delay.specs.RcTrees.{IsRcTree}
use Rattle.elmore_delay.specs.FromLeaves.{sinks_seen}
use Rattle.ginneken_lists.specs.Candidates.{Chosen, Candidate, all_joined}
use Rattle.ginneken_lists.specs.Pairs.{candidate_of, candidates, AreMarked}
use Rattle.ginneken_lists.specs.Trails.{Keeps}
use Rattle.ginneken_lists.specs.declared.pair.Pair.{Pair}
use Rattle.buffer_plan.specs.Picked.{Sites, all_hanging, candidates_of_last}
use Rattle.buffer_plan.specs.Gathered.{pairs_in, pairs_at, more_pairs, AreGathered, most_steps}
use Rattle.buffer_plan.proofs.Standing.{AreStanding, hung_on, hung-each, hung-long, hung-few, hung-put, own-stays}
use Rattle.buffer_plan.proofs.HungLemmas.{candidates-hung, candidates-other}
use Rattle.buffer_plan.proofs.Complete.{complete}

-- what marks name stays, and with it the candidates of pairs
pub candidates-kept : (trail now : List Chosen) (pairs : List Pair) → Keeps trail now → AreMarked trail pairs → candidates now pairs ≡ candidates trail pairs
candidates-kept trail now [] kept marked = refl
candidates-kept trail now (pair ∷ pairs) kept marked =
    let same = kept.same pair.mark (All-head (λ (p : Pair). p.mark ≤ length trail) pair pairs marked) in
    let first : candidate_of now pair ≡ candidate_of trail pair =
    ap (λ (c : Chosen). record { seen = record { load = pair.load; time = pair.time }; chosen = c }) same in
    ap (λ (o : Candidate). o ∷ candidates now pairs) first
    ∙ ap (λ (os : List Candidate). candidate_of trail pair ∷ os)
    (candidates-kept trail now pairs kept (All-tail (λ (p : Pair). p.mark ≤ length trail) pair pairs marked))

pub marks-kept : (trail now : List Chosen) (pairs : List Pair) → Keeps trail now → AreMarked trail pairs → AreMarked now pairs
marks-kept trail now pairs kept marked k d inside =
    let longer = kept.longer in
    let mark = marked k d inside in
    omega arith

pub keeps-through : (trail upper now : List Chosen) → Keeps trail upper → Keeps upper now → Keeps trail now
keeps-through trail upper now first second =
    let a = first.longer in
    let b = second.longer in
    record {
      longer = omega arith;
      same = λ mark low. second.same mark (omega arith) ∙ first.same mark low;
    }

-- a list of candidates has one
member-long : {A : Type 0} (xs : List A) (x : A) → Contains xs x → 0 < length xs
member-long xs x at = let below = at.1 in omega arith

pub gathered-long : (s : Sites) (from node : ℕ) (trail : List Chosen) (lists : List (Option (List Pair))) → AreGathered s from trail lists → node < from →
    0 < length (pairs_at lists node)
gathered-long s from node trail lists are below =
    let within = are.within in
    let n : ℕ = s.tree.nodes - from in
    let served = complete n from node s (λ v. None) (omega arith) (λ v. tt) in
    let all = member-long (candidates_of_last n s node) served.by served.among in
    let long = length-map (pairs_at lists node) (candidate_of trail) in
    let same = ap (λ (os : List Candidate). length os) (are.listed node below) in
    omega arith

-- no list is longer than the number of kinds and of hung nodes says
pub gathered-few : (s : Sites) (from node : ℕ) (trail : List Chosen) (lists : List (Option (List Pair))) → AreGathered s from trail lists → node < from →
    length (pairs_at lists node) ≤ 1 + length s.library.kinds * (s.tree.nodes - from)
gathered-few s from node trail lists are below =
    let long = are.long in
    let within = are.within in
    let few = are.few in
    let one = get_or-le-sum_by more_pairs lists node None (omega arith) in
    omega arith

-- the steps of a node, where no list is longer than b
steps-by : (k b below own upper : ℕ) → below + k ≤ b → own ≤ b → upper ≤ below + k →
    3 * (k * (below + k)) + below + k + 2 * (own + upper) ≤ 8 * (1 + k) * b
steps-by k b below own upper low few short =
    let offers : k * (below + k) ≤ k * b = mul-le-mul (le_refl k) low in
    let out : 8 * (1 + k) * b ≡ 8 * b + 8 * (k * b) = omega arith in
    omega arith

pub steps-low : (k nodes n below own upper : ℕ) → n + 2 ≤ nodes → below ≤ 1 + k * n → own ≤ 1 + k * n → upper ≤ below + k →
    3 * (k * (below + k)) + below + k + 2 * (own + upper) ≤ most_steps k nodes
steps-low k nodes n below own upper some few_below few_own short =
    let more : k * (n + 1) ≤ k * nodes = mul-le-mul (le_refl k) (omega arith) in
    let out : k * (n + 1) ≡ k * n + k = omega arith in
    steps-by k (1 + k * nodes) below own upper (omega arith) (omega arith) short

-- the pair of the sinks at a node
abbrev pub sinks_pair : Sites → ℕ → Pair
sinks_pair s node = record { load = (sinks_seen s.tree node).load; time = (sinks_seen s.tree node).time; mark = 0 }

-- a list is that of the sinks at a node
abbrev pub IsOfSinks : Sites → ℕ → List Pair → Type 0
IsOfSinks s node pairs = pairs ≡ sinks_pair s node ∷ []

one-marked : (pair : Pair) → pair.mark ≡ 0 → AreMarked [] (pair ∷ [])
one-marked pair none zero d inside = omega arith
one-marked pair none (suc k) d inside = absurd (omega arith)

-- at the start each node has the list of its sinks
pub gathered-start : (s : Sites) (from : ℕ) (lists : List (Option (List Pair))) → IsRcTree s.tree → from ≡ s.tree.nodes →
    AreStanding pairs_in (IsOfSinks s) from lists → AreGathered s from [] lists
gathered-start s from lists tree all stand =
    let each = stand.each in
    let long = stand.long in
    let rooted = tree.rooted in
    let none : s.tree.nodes - from ≡ 0 = omega arith in
    let one : All (λ list. more_pairs list ≤ 0) lists = λ node d inside.
    let same = ap (λ (pairs : List Pair). length pairs - 1) (each node (omega arith)) in
    let here = ap more_pairs (get_or_default lists node d None inside) in
    omega arith in
    let sum = sum_by-le more_pairs 0 lists one in
    record {
      long = long ∙ all;
      some = omega arith;
      within = omega arith;
      listed = λ node below. ap (λ (pairs : List Pair). candidates [] pairs) (each node (omega arith))
          ∙ ap (λ (n : ℕ). candidates_of_last n s node) (sym none);
      marked = λ node below. subst (λ (pairs : List Pair). AreMarked [] pairs) (sym (each node (omega arith))) (one-marked (sinks_pair s node) refl);
      few = omega arith;
    }

-- what is known of a node that was hung on its parent: the lists of the node, of its parent before and then
pub record IsHung (s : Sites) (node : ℕ) (trail upper_trail now : List Chosen) (below own upper joined : List Pair) : Type 0 where
  pub upper_kept : Keeps trail upper_trail
  pub kept : Keeps upper_trail now
  pub upper_is : candidates upper_trail upper ≡ all_hanging s node (candidates trail below)
  pub upper_short : length upper ≤ length below + length s.library.kinds
  pub joined_is : candidates now joined ≡ all_joined (candidates upper_trail own) (candidates upper_trail upper)
  pub marked : AreMarked now joined
  pub short : length joined + 1 ≤ length own + length upper

-- a node has the pairs of its candidates, and their marks are those of the trail
record HasPairs (s : Sites) (n : ℕ) (trail : List Chosen) (v : ℕ) (pairs : List Pair) : Type 0 where
  listed : candidates trail pairs ≡ candidates_of_last n s v
  marked : AreMarked trail pairs

-- a node that isn't the parent has the same
pairs-stay : (s : Sites) (node v : ℕ) (trail now : List Chosen) (pairs : List Pair) → 0 < node → node < s.tree.nodes → v ≢ s.tree.parent node → Keeps trail now →
    HasPairs s (s.tree.nodes - (node + 1)) trail v pairs → HasPairs s (s.tree.nodes - node) now v pairs
pairs-stay s node v trail now pairs later inside other kept has =
    let n : ℕ = s.tree.nodes - (node + 1) in
    let more : s.tree.nodes - node ≡ suc n = omega arith in
    record {
      listed = candidates-kept trail now pairs kept has.marked ∙ has.listed ∙ sym (candidates-other n node v s (omega arith) other)
          ∙ ap (λ (m : ℕ). candidates_of_last m s v) (sym more);
      marked = marks-kept trail now pairs kept has.marked;
    }

-- the parent has what was joined
pairs-joined : (s : Sites) (node parent : ℕ) (trail upper_trail now : List Chosen) (below own upper joined : List Pair) → 0 < node → node < s.tree.nodes →
    s.tree.parent node ≡ parent → HasPairs s (s.tree.nodes - (node + 1)) trail node below → HasPairs s (s.tree.nodes - (node + 1)) trail parent own →
    IsHung s node trail upper_trail now below own upper joined → HasPairs s (s.tree.nodes - node) now parent joined
pairs-joined s node parent trail upper_trail now below own upper joined later inside hangs has_below has_own hung =
    let n : ℕ = s.tree.nodes - (node + 1) in
    let more : s.tree.nodes - node ≡ suc n = omega arith in
    let before = candidates-kept trail upper_trail own hung.upper_kept has_own.marked ∙ has_own.listed in
    let above = hung.upper_is ∙ ap (all_hanging s node) has_below.listed in
    record {
      listed = hung.joined_is
          ∙ ap (λ (os : List Candidate). all_joined os (candidates upper_trail upper)) before
          ∙ ap (λ (os : List Candidate). all_joined (candidates_of_last n s parent) os) above
          ∙ sym (candidates-hung n node parent s (omega arith) (sym hangs))
          ∙ ap (λ (m : ℕ). candidates_of_last m s parent) (sym more);
      marked = hung.marked;
    }

pub gathered-next : (s : Sites) (node parent : ℕ) (trail upper_trail now : List Chosen) (lists : List (Option (List Pair))) (upper joined : List Pair) →
    IsRcTree s.tree → 0 < node → s.tree.parent node ≡ parent → AreGathered s (node + 1) trail lists →
    IsHung s node trail upper_trail now (pairs_at lists node) (pairs_at lists parent) upper joined →
    AreGathered s node now (hung_on lists node parent joined)
gathered-next s node parent trail upper_trail now lists upper joined tree later hangs are hung =
    let long = are.long in
    let within = are.within in
    let earlier = tree.earlier node later (omega arith) in
    let before : parent < node = omega arith in
    let inside : node < length lists = omega arith in
    let n : ℕ = s.tree.nodes - (node + 1) in
    let through = keeps-through trail upper_trail now hung.upper_kept hung.kept in
    let has : (v : ℕ) → v < node + 1 → HasPairs s n trail v (pairs_at lists v) = λ v low. record { listed = are.listed v low; marked = are.marked v low } in
    let each = hung-each pairs_in (HasPairs s n trail) (HasPairs s (s.tree.nodes - node) now) lists node parent joined inside before has
    (pairs-joined s node parent trail upper_trail now (pairs_at lists node) (pairs_at lists parent) upper joined later (omega arith) hangs
    (has node (omega arith)) (has parent (omega arith)) hung)
    (λ v pairs other. pairs-stay s node v trail now pairs later (omega arith) (λ e. other (e ∙ hangs)) through) in
    record {
      long = hung-long lists node parent joined ∙ long;
      some = later;
      within = omega arith;
      listed = λ v low. (each v low).listed;
      marked = λ v low. (each v low).marked;
      few =
          let some_below = gathered-long s (node + 1) node trail lists are (omega arith) in
          let some_own = gathered-long s (node + 1) parent trail lists are (omega arith) in
          let up = hung.upper_short in
          let short = hung.short in
          let fewer = hung-few more_pairs (length s.library.kinds) n lists node parent joined inside before refl (omega arith) are.few in
          let same : n + 1 ≡ s.tree.nodes - node = omega arith in
          subst (λ (m : ℕ). sum_by more_pairs (hung_on lists node parent joined) ≤ length s.library.kinds * m) same fewer;
    }

-- the same with the lists as they were taken out, and the list of the parent as it was put in
pub gathered-put : (s : Sites) (node parent : ℕ) (trail upper_trail now : List Chosen) (lists without neither : List (Option (List Pair)))
    (below own upper joined : List Pair) → IsRcTree s.tree → 0 < node → s.tree.parent node ≡ parent → AreGathered s (node + 1) trail lists →
    without ≡ slice_set lists node None → neither ≡ slice_set without parent None → below ≡ pairs_at lists node → own ≡ pairs_at lists parent →
    IsHung s node trail upper_trail now below own upper joined → AreGathered s node now (slice_set neither parent (Some joined))
gathered-put s node parent trail upper_trail now lists without neither below own upper joined tree later hangs are taken taken_too below_is own_is hung =
    let one = subst (λ (ps : List Pair). IsHung s node trail upper_trail now ps own upper joined) below_is hung in
    let both = subst (λ (ps : List Pair). IsHung s node trail upper_trail now (pairs_at lists node) ps upper joined) own_is one in
    subst (λ (xs : List (Option (List Pair))). AreGathered s node now xs) (hung-put lists without neither node parent joined taken taken_too)
    (gathered-next s node parent trail upper_trail now lists upper joined tree later hangs are both)

-- the steps of a node
pub steps-hung : (s : Sites) (node parent k nodes upper : ℕ) (trail : List Chosen) (lists : List (Option (List Pair))) (below own : List Pair) →
    AreGathered s (node + 1) trail lists → 0 < node → parent < node → below ≡ pairs_at lists node → own ≡ pairs_at lists parent →
    length s.library.kinds ≡ k → s.tree.nodes ≡ nodes → upper ≤ length below + k →
    3 * (k * (length below + k)) + length below + k + 2 * (length own + upper) ≤ most_steps k nodes
steps-hung s node parent k nodes upper trail lists below own are later earlier below_is own_is kinds long short =
    let within = are.within in
    let n : ℕ = s.tree.nodes - (node + 1) in
    let few_below = gathered-few s (node + 1) node trail lists are (omega arith) in
    let few_own = gathered-few s (node + 1) parent trail lists are (omega arith) in
    let same_below = ap (λ (ps : List Pair). length ps) below_is in
    let same_own = ap (λ (ps : List Pair). length ps) own_is in
    let product : length s.library.kinds * n ≡ k * n = ap (λ (m : ℕ). m * n) kinds in
    steps-low k nodes n (length below) (length own) upper (omega arith) (omega arith) (omega arith) short

pub hung-in-steps : {parent k nodes raised now : ℕ} {without : List (Option (List Pair))} {below own : List Pair} (old : ℕ) (upper : List Pair) (s : Sites) (node : ℕ)
    (trail : List Chosen) (lists : List (Option (List Pair))) → AreGathered s (node + 1) trail lists → 0 < node → parent < node →
    below ≡ pairs_at lists node → without ≡ slice_set lists node None → own ≡ pairs_at without parent →
    length s.library.kinds ≡ k → s.tree.nodes ≡ nodes → length upper ≤ length below + k →
    raised ≤ old + 3 * (k * (length below + k)) + length below + k → now ≤ raised + 2 * (length own + length upper) → now ≤ old + most_steps k nodes
hung-in-steps {parent} {k} {nodes} {raised} {now} {without} {below} {own} old upper s node trail lists are later earlier below_is taken own_is kinds long short up joined =
    let steps = steps-hung s node parent k nodes (length upper) trail lists below own are later earlier below_is
    (own-stays pairs_in lists without node parent own taken own_is earlier) kinds long short in
    omega (arith, steps, up, joined)
