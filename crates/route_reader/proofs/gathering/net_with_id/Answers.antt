use Rattle.std.proofs.Common.{ℕ, ◌<◌, Option, IfSome, length, sym, subst}
use Rattle.route_reader.proofs.StepLemmas.{net-within}
use Rattle.route_reader.proofs.gathering.net_with_id.Goals as goal

pub returns-clause-within : goal.returns-clause-within
returns-clause-within c =
    subst (λ (found : Option ℕ). IfSome found (λ net. net < length c.args.design.now.nets)) (sym c.net_of_id.ensures) (net-within c.args.design.now c.args.id)
