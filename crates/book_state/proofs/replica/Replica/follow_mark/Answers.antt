use Rattle.std.proofs.Common.{◌≡◌, ◌+◌, true, length, take, sym, subst}
use Rattle.grid_demand.specs.Overfull.{AreOverfull}
use Rattle.book_state.specs.Entries.{is_mark_at}
use Rattle.book_state.specs.Replicas.{ReplicaView, StandsFor}
use Rattle.book_state.specs.ReplicaStore.{seen}
use Rattle.book_state.proofs.StandSteps.{step-last, still-over}
use Rattle.book_state.proofs.replica.Replica.follow_mark.Goals as goal

pub returns-clause-stands : goal.returns-clause-stands
returns-clause-stands c =
    let capacity = c.args.capacity.now in
    let h = c.args.history.now in
    let P : ReplicaView → Type 0 = λ r. StandsFor capacity (take r.front h) r × (r.front + 1 ≡ length h) × (is_mark_at h r.front ≡ true) in
    let before : P (seen c.self.inside) = subst P (sym c.self.view_is) (c.requires.stands, c.requires.last, c.requires.mark) in
    step-last capacity h (seen c.self.inside) c.mark_overfull.new.self c.len-self-inside.result before.0 before.1 before.2 c.mark_overfull.ensures.loads c.len-self-inside.ensures.len

pub returns-clause-over : goal.returns-clause-over
returns-clause-over c =
    let over = subst (λ (r : ReplicaView). AreOverfull c.args.capacity.now r.loads c.args.over.now) (sym c.self.view_is) c.requires.over in
    still-over c.args.capacity.now c.self.inside.loads c.mark_overfull.new.self c.args.over.now over c.mark_overfull.ensures.loads
