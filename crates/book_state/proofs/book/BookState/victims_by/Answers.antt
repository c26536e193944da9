use Rattle.std.proofs.Common.{◌≡◌, IfOk, sym, ap, subst, ◌∙◌}
use Rattle.std.specs.Arc.{arc_value}
use Rattle.grid_demand.specs.Overfull.{AreOverfull}
use Rattle.grid_demand.specs.Tables.{CapacityView}
use Rattle.book_state.specs.Books.{victims}
use Rattle.book_state.specs.Crowds.{AreCrowds}
use Rattle.book_state.specs.Extents.{AreParts, AreSeen}
use Rattle.book_state.specs.Views.{BookView}
use Rattle.book_state.proofs.ExtentSteps.{victims-listed}
use Rattle.book_state.proofs.book.BookState.victims_by.Goals as goal

pub look_at_all-requires-clause-crowds : goal.look_at_all-requires-clause-crowds
look_at_all-requires-clause-crowds g c =
    let s = c.self.inside in
    let capacity = arc_value s.capacity in
    let l = s.replica.loads in
    let are = subst (λ (v : CapacityView). AreOverfull v l c.in_ok-over.over) c.deref.ensures c.in_ok-over.ensures in
    let crowds = c.in_ok-crowds.ensures capacity l (sym (c.shape.ensures.shape ∙ ap (λ (v : CapacityView). v.shape) c.deref-2.ensures)) are in
    λ κs lives. subst (λ (v : CapacityView). AreCrowds v l c.in_ok-crowds.crowds) (sym c.deref-3.ensures) crowds

pub look_at_all-requires-clause-parts : goal.look_at_all-requires-clause-parts
look_at_all-requires-clause-parts g c =
    let s = c.self.inside in
    λ κs lives. subst (λ (v : CapacityView). AreParts v s.history s.parts.items) (sym c.deref-3.ensures) c.self.invariant.parts

pub invariant_of-self-2 : goal.invariant_of-self-2
invariant_of-self-2 g c =
    let l = c.self.inside.replica.loads in
    let capacity = arc_value c.self.inside.capacity in
    let are = subst (λ (v : CapacityView). AreOverfull v l c.in_ok-over.over) c.deref.ensures c.in_ok-over.ensures in
    let crowds = c.in_ok-crowds.ensures capacity l (sym (c.shape.ensures.shape ∙ ap (λ (v : CapacityView). v.shape) c.deref-2.ensures)) are in
    record {
      legal = c.self.invariant.legal;
      stands = c.self.invariant.stands;
      least = c.self.invariant.least;
      parts = subst (λ (v : CapacityView). AreParts v c.self.inside.history c.look_at_all.new.parts.items) c.deref-3.ensures c.look_at_all.ensures.parts;
      over = subst (AreOverfull capacity l) (sym c.into_over.ensures) crowds.over;
    }

pub returns-clause-victims : goal.returns-clause-victims
returns-clause-victims g c =
    let s = c.self.inside in
    let capacity = arc_value s.capacity in
    let same = sym c.deref-4.ensures.value in
    let are = subst (λ (v : CapacityView). AreParts v s.history c.look_at_all.new.parts.items) c.deref-3.ensures c.look_at_all.ensures.parts in
    let seen = subst (λ (v : CapacityView). AreSeen v s.history c.look_at_all.new.parts.items) c.deref-3.ensures c.look_at_all.ensures.seen in
    subst (λ (b : BookView). IfOk c.listed_victims.result (λ nets. nets ≡ victims b.capacity b.history)) c.self.view_is
    (victims-listed capacity s.history c.deref-4.result.now c.listed_victims.result (subst (AreParts capacity s.history) same are) (subst (AreSeen capacity s.history) same seen)
    c.listed_victims.ensures.victims c.listed_victims.ensures.whole)
