use Rattle.std.proofs.Common.{sym, ap, subst, ◌∙◌, arith}
use Rattle.std.proofs.lemmas.Bool.{both_ways}
use Rattle.gr_base.specs.declared.frame.Frame.{Frame}
use Rattle.grid_demand.specs.Tables.{CapacityView}
use Rattle.book_state.proofs.ReplicaSteps.{one-shape}
use Rattle.book_state.specs.Books.{AreLoadsOf}
use Rattle.run_histories.proofs.TurnLemmas.{bounded-loads}
use Rattle.batch_rounds.proofs.basis.Basis.over.Goals as goal

pub prove-unreachable-requires : goal.prove-unreachable-requires
prove-unreachable-requires g c =
    let frame_shape = ap (λ (f : Frame). f.shape) c.frame.ensures.frame in
    both_ways c.eq-fits.result c.if-prove.true
    (c.eq-fits.ensures ∙ one-shape c.frame.result.now.shape c.shape.result
    (frame_shape ∙ sym (c.shape.ensures.shape ∙ ap (λ (v : CapacityView). v.shape) (c.capacity.ensures.capacity ∙ c.requires.capacity))))

pub invariant_of-result : goal.invariant_of-result
invariant_of-result g c =
    let of = c.loads.ensures.loads in
    let round = c.requires.round in
    let most = c.args.asked.now.most in
    record {
      few = omega (arith, round, most);
      capacity_is = c.capacity-2.ensures.capacity ∙ c.requires.capacity;
      shape = of.shape ∙ ap (λ (v : CapacityView). v.shape) c.requires.capacity;
      bounded = bounded-loads c.args.asked.now.design.now c.args.book.now.capacity c.args.book.now.history c.loads.result.now c.frame.ensures.design c.requires.capacity of;
    }

pub returns-clause-loads : goal.returns-clause-loads
returns-clause-loads g c =
    subst (λ (v : CapacityView). AreLoadsOf v c.args.book.now.history c.loads.result.now) c.requires.capacity c.loads.ensures.loads
