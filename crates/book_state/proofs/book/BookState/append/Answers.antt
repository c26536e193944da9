use Rattle.std.proofs.Common.{List, Option, IfSome, length, refl, sym, ap, subst, ◌∙◌, arith}
use Rattle.std.specs.Arc.{arc_value}
use Rattle.std.proofs.lemmas.List.{length_push}
use Rattle.grid_demand.specs.Overfull.{OverfullView, AreOverfull}
use Rattle.grid_demand.specs.Tables.{CapacityView}
use Rattle.book_state.specs.Books.{IsLegal, IsRight}
use Rattle.book_state.specs.Extents.{AreParts}
use Rattle.book_state.specs.LeastSearch.{IsLeast}
use Rattle.book_state.specs.Replicas.{StandsFor}
use Rattle.book_state.specs.Views.{BookView}
use Rattle.book_state.specs.declared.entry.Entry.{Entry}
use Rattle.book_state.proofs.ExtentSteps.{parts-more}
use Rattle.book_state.proofs.LegalHistories.{legal-push}
use Rattle.book_state.proofs.book.BookState.append.Goals as goal

pub follow-requires-clause-legal : goal.follow-requires-clause-legal
follow-requires-clause-legal c =
    let s = c.self.inside in
    let right = subst (λ (b : BookView). IsRight b.capacity b.history c.args.entry) (sym c.self.view_is) c.requires in
    subst (λ (capacity : CapacityView). IsLegal capacity c.push.new.self) (sym c.deref.ensures)
    (subst (λ (h : List Entry). IsLegal (arc_value s.capacity) h) (sym c.in_ok-push.ensures.ok) (legal-push (arc_value s.capacity) s.history c.args.entry c.self.invariant.legal right))

pub invariant_of-self-2 : goal.invariant_of-self-2
invariant_of-self-2 c =
    let s = c.self.inside in
    let right = subst (λ (b : BookView). IsRight b.capacity b.history c.args.entry) (sym c.self.view_is) c.requires in
    record {
      legal = subst (λ (h : List Entry). IsLegal (arc_value s.capacity) h) (sym c.in_ok-push.ensures.ok) (legal-push (arc_value s.capacity) s.history c.args.entry c.self.invariant.legal right);
      stands = subst (λ (capacity : CapacityView). StandsFor capacity c.push.new.self c.follow.new.self) c.deref.ensures c.follow.ensures;
      least =
          let pushed = c.in_ok-push.ensures.ok in
          let long = ap (λ (h : List Entry). length h) pushed ∙ length_push s.history c.args.entry in
          subst (λ (h : List Entry). IsLeast h c.least_after-self-inside.result) (sym pushed)
          (c.least_after-self-inside.ensures s.history c.args.entry refl (omega (arith, long, c.len.ensures.len)) c.self.invariant.least);
      parts =
          subst (λ (h : List Entry). AreParts (arc_value s.capacity) h s.parts.items) (sym c.in_ok-push.ensures.ok)
          (parts-more (arc_value s.capacity) s.history c.args.entry s.parts.items c.self.invariant.parts);
      over = subst (λ (o : Option OverfullView). IfSome o (AreOverfull (arc_value s.capacity) c.follow.new.self.loads)) (sym c.give_up.ensures) tt;
    }

pub returns-clause-legal : goal.returns-clause-legal
returns-clause-legal c =
    let s = c.self.inside in
    let right = subst (λ (b : BookView). IsRight b.capacity b.history c.args.entry) (sym c.self.view_is) c.requires in
    subst (λ (h : List Entry). IsLegal (arc_value s.capacity) h) (sym c.in_ok-push.ensures.ok) (legal-push (arc_value s.capacity) s.history c.args.entry c.self.invariant.legal right)
