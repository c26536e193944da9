-- Where two branches meet, for both signals.
use Rattle.std.proofs.Common.{◌≡◌, Bool, true, false, List, [], ◌∷◌, flat_map, map, Option, Some, None, refl, sym, ap, ◌∙◌}
use Rattle.ginneken_lists.specs.Candidates.{Chosen, Candidate, leaf, thinned, joined_with, all_joined}
use Rattle.ginneken_lists.specs.Pairs.{candidates, AreMarked}
use Rattle.ginneken_lists.specs.Thinning.{AreRising}
use Rattle.ginneken_lists.specs.Trails.{Keeps}
use Rattle.ginneken_lists.proofs.ThinnedAgain.{joined-leaf}
use Rattle.buffer_plan.proofs.Gathering.{candidates-kept}
use Rattle.polar_lists.specs.BothLists.{all_in, bare, sides_in, candidates_by, AreBothMarked}
use Rattle.polar_lists.specs.declared.sides.Sides.{Sides}
use Rattle.polar_lists.proofs.BothGathering.{both-kept}

-- a branch without candidates
pub joined-none : (left : List Candidate) → all_joined left [] ≡ []
joined-none left = ap thinned (none left)
  where
    none : (xs : List Candidate) → flat_map (λ (o : Candidate). map (joined_with o) []) xs ≡ []
    none [] = refl
    none (x ∷ xs) = none xs

-- a branch without sinks
pub joined-bare : (trail : List Chosen) (own : Option Sides) (upper : Sides) (inverted : Bool) → own ≡ None → AreRising (candidates_by trail upper inverted) →
    candidates_by trail upper inverted ≡ all_joined (candidates_by trail (sides_in own) inverted) (candidates_by trail upper inverted)
joined-bare trail own upper inverted is rising =
    sym (ap (λ (o : Option Sides). all_joined (candidates_by trail (sides_in o) inverted) (candidates_by trail upper inverted)) is
    ∙ ap (λ (os : List Candidate). all_joined os (candidates_by trail upper inverted)) (by inverted)
    ∙ joined-leaf (candidates_by trail upper inverted) rising)
  where
    by : (b : Bool) → candidates_by trail bare b ≡ leaf (record { load = 0; time = None })
    by true = refl
    by false = refl

-- two branches, first for the plain signal and then for the inverted one
pub joined-sides : (trail one two : List Chosen) (own : Option Sides) (given upper joined : Sides) → own ≡ Some given → Keeps trail one → Keeps one two →
    AreBothMarked trail given → AreBothMarked trail upper → AreMarked one (all_in joined.plain) →
    candidates one (all_in joined.plain) ≡ all_joined (candidates trail (all_in given.plain)) (candidates trail (all_in upper.plain)) →
    candidates two (all_in joined.inverse) ≡ all_joined (candidates one (all_in given.inverse)) (candidates one (all_in upper.inverse)) →
    (inverted : Bool) → candidates_by two joined inverted ≡ all_joined (candidates_by trail (sides_in own) inverted) (candidates_by trail upper inverted)
joined-sides trail one two own given upper joined is first second given_marked upper_marked marked plain inverse inverted =
    by inverted ∙ ap (λ (o : Option Sides). all_joined (candidates_by trail (sides_in o) inverted) (candidates_by trail upper inverted)) (sym is)
  where
    by : (b : Bool) → candidates_by two joined b ≡ all_joined (candidates_by trail given b) (candidates_by trail upper b)
    by false = candidates-kept one two (all_in joined.plain) second marked ∙ plain
    by true =
        inverse
        ∙ ap (λ (os : List Candidate). all_joined os (candidates one (all_in upper.inverse))) (both-kept trail one given true first given_marked)
        ∙ ap (λ (os : List Candidate). all_joined (candidates trail (all_in given.inverse)) os) (both-kept trail one upper true first upper_marked)
