-- What a plan takes from the list for the plain signal at node 0, and the lists that are taken out of the gathered ones.
use Rattle.std.proofs.Common.{◌≡◌, ℕ, ◌-◌, ◌^◌, ◌<◌, ◌≤◌, ℤ, Bool, false, List, length, All, Contains, Option, Some, None, IfSome, option_map, if◌then◌else◌, refl, sym, ap, subst, ◌∙◌, arith}
use Rattle.std.proofs.lemmas.List.Elements.{All-contains}
use Rattle.elmore_delay.specs.FromLeaves.{at_driver}
use Rattle.elmore_delay.specs.Loadings.{LoadingView, IsLoading, rc_of}
use Rattle.elmore_delay.specs.Ranges.{IsSeen}
use Rattle.ginneken_lists.specs.Candidates.{Chosen, Nothing, Candidate, best_driven}
use Rattle.ginneken_lists.specs.Pairs.{candidate_of, candidates as candidates_of, AreMarked}
use Rattle.ginneken_lists.specs.Thinning.{AreRising}
use Rattle.ginneken_lists.specs.declared.pair.Pair.{Pair}
use Rattle.buffer_plan.specs.Best.{has_sinks, time_with}
use Rattle.buffer_plan.specs.Picked.{sites_of, choice_with, placement_of}
use Rattle.buffer_plan.specs.Gathered.{IsWithin}
use Rattle.buffer_plan.proofs.BestLemmas.{real-known}
use Rattle.buffer_plan.proofs.PlanLemmas.{real-within, real-in_range, real-required}
use Rattle.buffer_plan.proofs.Small.{small-pairs}
use Rattle.polar_lists.specs.Signals.{both_of_last, legal_candidate, picked_legal}
use Rattle.polar_lists.specs.BothLists.{all_in, side, sides_at, candidates_by, AreBothMarked, AreBothInRange, AreBothSmall, AreBothGathered}
use Rattle.polar_lists.specs.declared.sides.Sides.{Sides}
use Rattle.polar_lists.proofs.SignalLemmas.{both-rising}
use Rattle.polar_lists.proofs.BothSmall.{both-small}
use Rattle.polar_lists.proofs.LegalLemmas.{legal_real}

-- lists that were taken out: their candidates are small and rise, they are in range, and their marks are the trail's
pub record AreBothTaken (trail : List Chosen) (sides : Sides) : Type 0 where
  pub small : AreBothSmall (candidates_by trail sides)
  pub rising : (inverted : Bool) → AreRising (candidates_by trail sides inverted)
  pub range : AreBothInRange sides
  pub marks : AreBothMarked trail sides

pub taken : {l : LoadingView} {from : ℕ} {trail : List Chosen} {lists : List (Option Sides)} {sides : Sides} (node : ℕ) → IsLoading l →
    AreBothGathered (sites_of l) from trail lists → node < from → sides ≡ sides_at lists node → AreBothTaken trail sides
taken {l} {from} {trail} {lists} {sides} node loading are before is =
    let some = are.some in
    let within = are.within in
    let n : ℕ = length l.tree.nodes - from in
    let same : (inverted : Bool) → candidates_by trail sides inverted ≡ both_of_last n (sites_of l) node inverted = λ inverted.
    ap (λ (u : Sides). candidates_by trail u inverted) is ∙ are.listed node before inverted in
    let small : AreBothSmall (candidates_by trail sides) = λ inverted.
    subst (λ (all : List Candidate). All (λ (o : Candidate). IsSeen (2 ^ 100) o.seen) all) (sym (same inverted))
    (both-small l n from node loading some (omega arith) before inverted) in
    record {
      small = small;
      rising = λ inverted. subst AreRising (sym (same inverted)) (both-rising n from node (sites_of l) inverted (omega arith));
      range = λ inverted. small-pairs trail (side sides inverted) (candidates_by trail sides inverted) refl (small inverted);
      marks = subst (λ (u : Sides). AreBothMarked trail u) (sym is) (are.marked node before);
    }

-- the pair that the driver drives best is that of the legal candidate
pub legal-pair : (l : LoadingView) (trail : List Chosen) (lists : List (Option Sides)) (sides : Sides) (r : ℕ) (pair : Option Pair) →
    AreBothGathered (sites_of l) 1 trail lists → sides ≡ sides_at lists 0 → r ≡ (rc_of l).driver →
    best_driven r (candidates_of trail (all_in sides.plain)) ≡ option_map (candidate_of trail) pair → legal_candidate l ≡ option_map (candidate_of trail) pair
legal-pair l trail lists sides r pair are is driver driven =
    ap (λ (os : List Candidate). best_driven (rc_of l).driver os) (sym (are.listed 0 (omega arith) false))
    ∙ ap (λ (s : Sides). best_driven (rc_of l).driver (candidates_of trail (all_in s.plain))) (sym is)
    ∙ ap (λ (n : ℕ). best_driven n (candidates_of trail (all_in sides.plain))) (sym driver) ∙ driven

-- its plan
module _ (l : LoadingView) (o : Candidate) (loading : IsLoading l) (is : legal_candidate l ≡ Some o) where
  pub legal-small : IsSeen (2 ^ 100) o.seen
  legal-small = real-in_range l o loading (legal_real l loading o is).real

  pub legal-within : (nodes : ℕ) → length l.tree.nodes ≡ nodes → IsWithin nodes o.chosen
  legal-within nodes long = subst (λ (n : ℕ). IsWithin n o.chosen) long (real-within l o loading (legal_real l loading o is).real)

  pub legal-placed : (p : List (Option ℕ)) → p ≡ placement_of l (choice_with o) → picked_legal l ≡ Some p
  legal-placed p placed =
      ap (option_map (λ (c : Candidate). placement_of l (if has_sinks l then c.chosen else Nothing))) is
      ∙ ap (λ (b : Bool). Some (placement_of l (if b then o.chosen else Nothing))) (sym (real-known l loading o (legal_real l loading o is).real))
      ∙ ap (λ (q : List (Option ℕ)). Some q) (sym placed)

  pub legal-required : (p : List (Option ℕ)) (required : ℤ) → p ≡ placement_of l (choice_with o) → required ≡ at_driver (rc_of l).driver o.seen →
      required ≡ time_with l p
  legal-required p required placed told =
      told ∙ real-required l o loading (legal_real l loading o is).real ∙ ap (λ (q : List (Option ℕ)). time_with l q) (sym placed)

-- a pair that is one of some has a mark as they have
pub some-marked : (trail : List Chosen) (pairs : List Pair) (pair : Option Pair) → AreMarked trail pairs → IfSome pair (Contains pairs) →
    IfSome pair (λ p. p.mark ≤ length trail)
some-marked trail pairs None marked one = tt
some-marked trail pairs (Some pair) marked one = All-contains (λ (p : Pair). p.mark ≤ length trail) pairs pair marked one
