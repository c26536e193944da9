-- What workers and their hands have done in a round.
use Rattle.std.specs.Prelude.{◌≡◌, ℕ, List, Result, Ok}
use Rattle.cost_rules.specs.declared.site.Formula.{Formula}
use Rattle.gr_base.specs.Designs.{DesignView}
use Rattle.run_histories.specs.RunHistories.{Setting}
use Rattle.track_book.specs.Passes.{PassView}
use Rattle.work_share.specs.Views.{ShareView, HandView, IsHandOf}
use Rattle.ripup_workers.specs.Turning.{IsOver, HasWorked}
use Rattle.ripup_workers.specs.Working.{HasAttempted}

-- whatever else is asked for, the pass has attempted these nets over this design by this formula
abbrev pub HasAttemptedOver : DesignView → Formula → ℕ → List ℕ → PassView → PassView → Type 0
HasAttemptedOver d formula round nets old new =
    (t : Setting) → IsOver d formula t → HasAttempted t round nets old new

-- the hand is still the share's, under its number, and unless memory was wanting the pass has attempted what it took
pub record IsWorked {E : Type 0} (s : ShareView) (d : DesignView) (formula : Formula) (round : ℕ)
    (hand after : HandView) (old new : PassView) (done : Result (Unit {0}) E) : Type 0 where
  pub hand_of : IsHandOf s after
  pub number : after.number ≡ hand.number
  pub worked : done ≡ Ok tt → (t : Setting) → IsOver d formula t → HasWorked t round hand.taken after.taken old new
