use Rattle.given_laws.proofs.RunLaws.{kept-as-given}
use Rattle.given_laws.proofs.laws.kept_as_given.Goals as goal

pub returns : goal.returns
returns c = kept-as-given
