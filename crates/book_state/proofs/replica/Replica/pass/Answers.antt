use Rattle.std.proofs.Common.{take, sym, subst}
use Rattle.book_state.specs.Replicas.{ReplicaView, StandsFor}
use Rattle.book_state.specs.ReplicaStore.{seen}
use Rattle.book_state.proofs.StandSteps.{step-idle}
use Rattle.book_state.proofs.replica.Replica.pass.Goals as goal

pub returns : goal.returns
returns c =
    let history = c.args.history.now in
    let stands = subst (λ (r : ReplicaView). StandsFor c.args.capacity.now (take c.args.place history) r) (sym c.self.view_is) c.requires.stands in
    step-idle c.args.capacity.now history c.args.place c.args.entry.now (seen c.self.inside) stands c.requires.there c.requires.idle
