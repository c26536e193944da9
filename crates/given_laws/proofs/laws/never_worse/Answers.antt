use Rattle.given_laws.proofs.RunLaws.{never-worse}
use Rattle.given_laws.proofs.laws.never_worse.Goals as goal

pub returns : goal.returns
returns c = never-worse
