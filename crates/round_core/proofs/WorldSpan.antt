-- Each step that is allowed keeps what every state of the machine keeps.
use Rattle.std.proofs.Common.{◌≡◌, Result, Ok, Err, OnOk, OnErr, IsTrue, sym, subst}
use Rattle.round_core.specs.WorldRules.{IsWorld}
use Rattle.round_core.specs.Worlds.{WorldView, is_allowed, happens, IsStep}
use Rattle.round_core.specs.declared.steps.Step.{Step}
use Rattle.round_core.specs.declared.steps.Step.TheVariants.{Take, Release, Claim, Mark}
use Rattle.round_core.proofs.WorldCalls.{release-world, claim-world}
use Rattle.round_core.proofs.WorldMarks.{marked-world}
use Rattle.round_core.proofs.WorldTakes.{taken-world}

pub step-world : (v : WorldView) (step : Step) → IsWorld v → IsStep v step → IsTrue (is_allowed v step) → IsWorld (happens v step)
step-world v (Take worker net) world is allowed = taken-world v worker net world is.0 allowed
step-world v (Release worker) world is allowed = release-world v worker world is allowed
step-world v (Claim worker claim) world is allowed = claim-world v worker claim world is allowed
step-world v Mark world is allowed = marked-world v world allowed

-- a step that was carried out, or for which memory was wanting
pub step-kept : {E : Type 0} (r : Result (Unit {0}) E) (old new : WorldView) (step : Step) → IsWorld old → IsStep old step → IsTrue (is_allowed old step) →
    OnOk r (new ≡ happens old step) → OnErr r (new ≡ old) → IsWorld new
step-kept (Ok x) old new step world is allowed done same = subst IsWorld (sym done) (step-world old step world is allowed)
step-kept (Err x) old new step world is allowed done same = subst IsWorld (sym same) world
