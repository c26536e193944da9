-- The lists of nodes that are taken out of the gathered ones.
use Rattle.std.proofs.Common.{◌≡◌, ℕ, ◌-◌, ◌<◌, List, length, All, Option, refl, sym, ap, subst, ◌∙◌, arith}
use Rattle.elmore_delay.specs.Loadings.{LoadingView, IsLoading}
use Rattle.ginneken_lists.specs.Candidates.{Chosen, Candidate}
use Rattle.ginneken_lists.specs.Pairs.{candidates, AreMarked, IsInRange}
use Rattle.ginneken_lists.specs.declared.pair.Pair.{Pair}
use Rattle.buffer_plan.specs.Picked.{sites_of}
use Rattle.buffer_plan.specs.Gathered.{pairs_at, AreGathered, AreSmall}
use Rattle.buffer_plan.proofs.Small.{candidates-small, small-pairs}

-- pairs that were taken out: their candidates are small, they are in the range of lists, and their marks are the trail's
pub record AreTaken (trail : List Chosen) (pairs : List Pair) : Type 0 where
  pub small : AreSmall (candidates trail pairs)
  pub range : All IsInRange pairs
  pub marks : AreMarked trail pairs

pub taken : {l : LoadingView} {from : ℕ} {trail : List Chosen} {lists : List (Option (List Pair))} {pairs : List Pair} (node : ℕ) → IsLoading l →
    AreGathered (sites_of l) from trail lists → node < from → pairs ≡ pairs_at lists node → AreTaken trail pairs
taken {l} {from} {trail} {lists} {pairs} node loading are before is =
    let some = are.some in
    let within = are.within in
    let same = ap (λ (ps : List Pair). candidates trail ps) is ∙ are.listed node before in
    let small : AreSmall (candidates trail pairs) =
    subst (λ (all : List Candidate). AreSmall all) (sym same) (candidates-small l (length l.tree.nodes - from) from node loading some (omega arith) before) in
    record {
      small = small;
      range = small-pairs trail pairs (candidates trail pairs) refl small;
      marks = subst (λ (ps : List Pair). AreMarked trail ps) (sym is) (are.marked node before);
    }
