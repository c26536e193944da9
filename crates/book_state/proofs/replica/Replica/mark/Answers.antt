use Rattle.std.proofs.Common.{take, sym, subst}
use Rattle.book_state.specs.Replicas.{ReplicaView, StandsFor}
use Rattle.book_state.specs.ReplicaStore.{seen}
use Rattle.book_state.proofs.StandSteps.{step-mark}
use Rattle.book_state.proofs.replica.Replica.mark.Goals as goal

pub returns : goal.returns
returns c =
    let history = c.args.history.now in
    let stands = subst (λ (r : ReplicaView). StandsFor c.args.capacity.now (take c.args.place history) r) (sym c.self.view_is) c.requires.stands in
    step-mark c.args.capacity.now history c.args.place c.args.entry.now (seen c.self.inside) c.mark.new.self stands c.requires.there c.requires.mark c.mark.ensures.loads
