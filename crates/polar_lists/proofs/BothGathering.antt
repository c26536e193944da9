-- The lists of nodes for both signals, one node after another.
use Rattle.std.proofs.Common.{◌≡◌, ◌≢◌, ℕ, zero, suc, ◌+◌, ◌-◌, ◌*◌, ◌<◌, ◌≤◌, Bool, true, false, List, [], length, All, sum_by, Option, Some, None, slice_set, if◌then◌else◌, refl, sym, ap, subst, ◌∙◌, arith}
use Rattle.std.proofs.lemmas.List.{get_or_default}
use Rattle.std.proofs.lemmas.List.Sums.{sum_by-le, get_or-le-sum_by}
use Rattle.elmore_delay.specs.RcTrees.{RcTree, IsRcTree}
use Rattle.elmore_delay.specs.FromLeaves.{sinks_seen}
use Rattle.ginneken_lists.specs.Candidates.{Chosen, Candidate, leaf, all_joined}
use Rattle.ginneken_lists.specs.Pairs.{candidates, AreMarked}
use Rattle.ginneken_lists.specs.Trails.{Keeps}
use Rattle.ginneken_lists.specs.declared.pair.Pair.{Pair}
use Rattle.buffer_plan.specs.Picked.{Sites}
use Rattle.buffer_plan.proofs.Gathering.{candidates-kept, marks-kept, keeps-through}
use Rattle.buffer_plan.proofs.Standing.{AreStanding, hung_on, hung-each, hung-long, hung-few, hung-put}
use Rattle.polar_lists.specs.Signals.{BySignal, suits_all, both_hanging, both_of_last}
use Rattle.polar_lists.specs.BothLists.{side, sides_in, sides_at, pairs_of_sinks, AreOfSinks, candidates_by, AreBothMarked, AreShort, more_pairs, AreBothGathered}
use Rattle.polar_lists.specs.declared.sides.Sides.{Sides}
use Rattle.polar_lists.proofs.SignalLemmas.{by-signal, both-hung, both-other}

-- what marks name stays, and with it the candidates
pub both-kept : (trail now : List Chosen) (sides : Sides) (inverted : Bool) → Keeps trail now → AreBothMarked trail sides →
    candidates_by now sides inverted ≡ candidates_by trail sides inverted
both-kept trail now sides inverted kept marked = candidates-kept trail now (side sides inverted) kept (marked inverted)

pub both-marks_kept : (trail now : List Chosen) (sides : Sides) → Keeps trail now → AreBothMarked trail sides → AreBothMarked now sides
both-marks_kept trail now sides kept marked inverted = marks-kept trail now (side sides inverted) kept (marked inverted)

-- no list is longer than the number of kinds and of hung nodes says
pub both-few : (s : Sites) (from node : ℕ) (trail : List Chosen) (lists : List (Option Sides)) → AreBothGathered s from trail lists → node < from →
    AreShort (1 + length s.library.kinds * (s.tree.nodes - from)) (sides_at lists node)
both-few s from node trail lists are below inverted =
    let long = are.long in
    let within = are.within in
    let few = are.few inverted in
    let one = get_or-le-sum_by (more_pairs inverted) lists node None (omega arith) in
    omega arith

-- a branch without sinks has one pair for each signal
bare-one : (inverted : Bool) → more_pairs inverted None ≡ 0
bare-one true = refl
bare-one false = refl

-- the pairs of sinks: their candidates, their marks, and their number
sinks-candidates : (t : RcTree) (node : ℕ) (b : Bool) → candidates [] (pairs_of_sinks t node b) ≡ (if b then leaf (sinks_seen t node) else [])
sinks-candidates t node true = refl
sinks-candidates t node false = refl

sinks-marked : (t : RcTree) (node : ℕ) (b : Bool) → AreMarked [] (pairs_of_sinks t node b)
sinks-marked t node true zero d inside = omega arith
sinks-marked t node true (suc k) d inside = absurd (omega arith)
sinks-marked t node false k d inside = absurd (omega arith)

sinks-few : (t : RcTree) (node : ℕ) (b : Bool) → length (pairs_of_sinks t node b) ≤ 1
sinks-few t node true = omega arith
sinks-few t node false = omega arith

-- at the start each node has the lists of its sinks
pub both-start : (s : Sites) (from : ℕ) (lists : List (Option Sides)) → IsRcTree s.tree → from ≡ s.tree.nodes →
    AreStanding sides_in (AreOfSinks s.tree) from lists → AreBothGathered s from [] lists
both-start s from lists tree all stand =
    let each = stand.each in
    let long = stand.long in
    let rooted = tree.rooted in
    let none : s.tree.nodes - from ≡ 0 = omega arith in
    record {
      long = long ∙ all;
      some = omega arith;
      within = omega arith;
      listed = λ node below inverted.
          ap (λ (pairs : List Pair). candidates [] pairs) (each node (omega arith) inverted)
          ∙ sinks-candidates s.tree node (suits_all s.tree node inverted)
          ∙ ap (λ (n : ℕ). both_of_last n s node inverted) (sym none);
      marked = λ node below inverted.
          subst (λ (pairs : List Pair). AreMarked [] pairs) (sym (each node (omega arith) inverted)) (sinks-marked s.tree node (suits_all s.tree node inverted));
      few = λ inverted.
          let one : All (λ (sides : Option Sides). more_pairs inverted sides ≤ 0) lists = λ node d inside.
          let same = ap (λ (pairs : List Pair). length pairs) (each node (omega arith) inverted) in
          let short = sinks-few s.tree node (suits_all s.tree node inverted) in
          let here = ap (more_pairs inverted) (get_or_default lists node d None inside) in
          omega arith in
          let sum = sum_by-le (more_pairs inverted) 0 lists one in
          omega arith;
    }

-- what is known of a node that was hung on its parent: the lists of the node, of its parent before and then
pub record AreHung (s : Sites) (node : ℕ) (trail upper_trail now : List Chosen) (below own upper joined : Sides) : Type 0 where
  pub upper_kept : Keeps trail upper_trail
  pub kept : Keeps upper_trail now
  pub upper_is : (inverted : Bool) → candidates_by upper_trail upper inverted ≡ both_hanging s node (candidates_by trail below) inverted
  pub upper_short : (inverted : Bool) → length (side upper inverted) ≤ length (side below inverted) + length s.library.kinds
  pub joined_is : (inverted : Bool) →
      candidates_by now joined inverted ≡ all_joined (candidates_by upper_trail own inverted) (candidates_by upper_trail upper inverted)
  pub marked : AreBothMarked now joined
  pub short : (inverted : Bool) → length (side joined inverted) - 1 ≤ length (side own inverted) - 1 + (length (side upper inverted) - 1)

-- a node has the lists of its candidates, and their marks are those of the trail
record HasSides (s : Sites) (n : ℕ) (trail : List Chosen) (v : ℕ) (sides : Sides) : Type 0 where
  listed : (inverted : Bool) → candidates_by trail sides inverted ≡ both_of_last n s v inverted
  marked : AreBothMarked trail sides

-- a node that isn't the parent has the same
sides-stay : (s : Sites) (node v : ℕ) (trail now : List Chosen) (sides : Sides) → 0 < node → node < s.tree.nodes → v ≢ s.tree.parent node → Keeps trail now →
    HasSides s (s.tree.nodes - (node + 1)) trail v sides → HasSides s (s.tree.nodes - node) now v sides
sides-stay s node v trail now sides later inside other kept has =
    let n : ℕ = s.tree.nodes - (node + 1) in
    let more : s.tree.nodes - node ≡ suc n = omega arith in
    record {
      listed = λ inverted.
          both-kept trail now sides inverted kept has.marked ∙ has.listed inverted ∙ sym (both-other n node v s inverted (omega arith) other)
          ∙ ap (λ (m : ℕ). both_of_last m s v inverted) (sym more);
      marked = both-marks_kept trail now sides kept has.marked;
    }

-- the parent has what was joined
sides-joined : (s : Sites) (node parent : ℕ) (trail upper_trail now : List Chosen) (below own upper joined : Sides) → 0 < node → node < s.tree.nodes →
    s.tree.parent node ≡ parent → HasSides s (s.tree.nodes - (node + 1)) trail node below → HasSides s (s.tree.nodes - (node + 1)) trail parent own →
    AreHung s node trail upper_trail now below own upper joined → HasSides s (s.tree.nodes - node) now parent joined
sides-joined s node parent trail upper_trail now below own upper joined later inside hangs has_below has_own hung =
    let n : ℕ = s.tree.nodes - (node + 1) in
    let more : s.tree.nodes - node ≡ suc n = omega arith in
    let before : (inverted : Bool) → candidates_by upper_trail own inverted ≡ both_of_last n s parent inverted = λ inverted.
    both-kept trail upper_trail own inverted hung.upper_kept has_own.marked ∙ has_own.listed inverted in
    let above : (inverted : Bool) → candidates_by upper_trail upper inverted ≡ both_hanging s node (both_of_last n s node) inverted = λ inverted.
    hung.upper_is inverted
    ∙ ap (λ (by : BySignal). both_hanging s node by inverted) (by-signal (candidates_by trail below) (both_of_last n s node) has_below.listed) in
    record {
      listed = λ inverted. hung.joined_is inverted
          ∙ ap (λ (os : List Candidate). all_joined os (candidates_by upper_trail upper inverted)) (before inverted)
          ∙ ap (λ (os : List Candidate). all_joined (both_of_last n s parent inverted) os) (above inverted)
          ∙ sym (both-hung n node parent s inverted (omega arith) (sym hangs))
          ∙ ap (λ (m : ℕ). both_of_last m s parent inverted) (sym more);
      marked = hung.marked;
    }

both-next : (s : Sites) (node parent : ℕ) (trail upper_trail now : List Chosen) (lists : List (Option Sides)) (upper joined : Sides) →
    IsRcTree s.tree → 0 < node → s.tree.parent node ≡ parent → AreBothGathered s (node + 1) trail lists →
    AreHung s node trail upper_trail now (sides_at lists node) (sides_at lists parent) upper joined →
    AreBothGathered s node now (hung_on lists node parent joined)
both-next s node parent trail upper_trail now lists upper joined tree later hangs are hung =
    let long = are.long in
    let within = are.within in
    let earlier = tree.earlier node later (omega arith) in
    let before : parent < node = omega arith in
    let inside : node < length lists = omega arith in
    let n : ℕ = s.tree.nodes - (node + 1) in
    let has : (v : ℕ) → v < node + 1 → HasSides s n trail v (sides_at lists v) = λ v low. record { listed = are.listed v low; marked = are.marked v low } in
    let each = hung-each sides_in (HasSides s n trail) (HasSides s (s.tree.nodes - node) now) lists node parent joined inside before has
    (sides-joined s node parent trail upper_trail now (sides_at lists node) (sides_at lists parent) upper joined later (omega arith) hangs
    (has node (omega arith)) (has parent (omega arith)) hung)
    (λ v sides other. sides-stay s node v trail now sides later (omega arith) (λ e. other (e ∙ hangs))
    (keeps-through trail upper_trail now hung.upper_kept hung.kept)) in
    record {
      long = hung-long lists node parent joined ∙ long;
      some = later;
      within = omega arith;
      listed = λ v low. (each v low).listed;
      marked = λ v low. (each v low).marked;
      few = λ inverted.
          let up = hung.upper_short inverted in
          let short = hung.short inverted in
          let fewer = hung-few (more_pairs inverted) (length s.library.kinds) n lists node parent joined inside before (bare-one inverted) (omega arith)
          (are.few inverted) in
          let same : n + 1 ≡ s.tree.nodes - node = omega arith in
          subst (λ (m : ℕ). sum_by (more_pairs inverted) (hung_on lists node parent joined) ≤ length s.library.kinds * m) same fewer;
    }

-- the same with the lists as they were taken out, and those of the parent as they were put in
pub both-put : (s : Sites) (node parent : ℕ) (trail upper_trail now : List Chosen) (lists without neither : List (Option Sides))
    (below own upper joined : Sides) → IsRcTree s.tree → 0 < node → s.tree.parent node ≡ parent → AreBothGathered s (node + 1) trail lists →
    without ≡ slice_set lists node None → neither ≡ slice_set without parent None → below ≡ sides_at lists node → own ≡ sides_at lists parent →
    AreHung s node trail upper_trail now below own upper joined → AreBothGathered s node now (slice_set neither parent (Some joined))
both-put s node parent trail upper_trail now lists without neither below own upper joined tree later hangs are taken taken_too below_is own_is hung =
    let one = subst (λ (sides : Sides). AreHung s node trail upper_trail now sides own upper joined) below_is hung in
    let both = subst (λ (sides : Sides). AreHung s node trail upper_trail now (sides_at lists node) sides upper joined) own_is one in
    subst (λ (xs : List (Option Sides)). AreBothGathered s node now xs) (hung-put lists without neither node parent joined taken taken_too)
    (both-next s node parent trail upper_trail now lists upper joined tree later hangs are both)
