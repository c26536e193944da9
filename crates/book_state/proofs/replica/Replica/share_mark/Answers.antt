use Rattle.std.proofs.Common.{◌≡◌, ◌+◌, true, length, take, sym, ap, subst, ◌∙◌}
use Rattle.grid_demand.specs.Overfull.{AreOverfull}
use Rattle.book_state.specs.Entries.{is_mark_at}
use Rattle.book_state.specs.Replicas.{ReplicaView, StandsFor}
use Rattle.book_state.specs.ReplicaStore.{seen}
use Rattle.book_state.proofs.SharedMarks.{told-before}
use Rattle.book_state.proofs.StandSteps.{step-last}
use Rattle.book_state.proofs.replica.Replica.share_mark.Goals as goal

pub mark_overfull-requires : goal.mark_overfull-requires
mark_overfull-requires c =
    let capacity = c.args.capacity.now in
    let h = c.args.history.now in
    let P : ReplicaView → Type 0 = λ r. StandsFor capacity (take r.front h) r × (r.front + 1 ≡ length h) × (is_mark_at h r.front ≡ true) in
    let Q : ReplicaView → Type 0 = λ r. StandsFor capacity h r × AreOverfull capacity r.loads c.args.over.now in
    let before : P (seen c.other.inside) = subst P (sym c.other.view_is) (c.requires.other, c.requires.last, c.requires.mark) in
    let all : Q (seen c.self.inside) = subst Q (sym c.self.view_is) (c.requires.stands, c.requires.over) in
    told-before capacity h (seen c.other.inside) (seen c.self.inside) c.args.over.now before.0 all.0 before.1 before.2 c.other.invariant.loads c.self.invariant.loads all.1

pub returns : goal.returns
returns c =
    let capacity = c.args.capacity.now in
    let h = c.args.history.now in
    let P : ReplicaView → Type 0 = λ r. StandsFor capacity (take r.front h) r × (r.front + 1 ≡ length h) × (is_mark_at h r.front ≡ true) in
    let before : P (seen c.other.inside) = subst P (sym c.other.view_is) (c.requires.other, c.requires.last, c.requires.mark) in
    let front = ap (λ (r : ReplicaView). r.front) c.self.view_is ∙ c.requires.stands.front in
    step-last capacity h (seen c.other.inside) c.mark_overfull.new.self c.self.inside.front before.0 before.1 before.2 c.mark_overfull.ensures.loads front
