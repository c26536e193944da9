use Rattle.std.proofs.Common.{Option, ap, subst, ◌∙◌}
use Rattle.book_state.specs.LeastSearch.{IsLeast}
use Rattle.book_state.specs.Marks.{least_mark}
use Rattle.book_state.specs.Views.{BookView}
use Rattle.book_state.specs.declared.least.MarkedAt.{MarkedAt}
use Rattle.book_state.proofs.LeastMarks.{least-found, least-none}
use Rattle.book_state.proofs.book.BookState.least_mark.Goals as goal

pub returns-in-Some : goal.returns-in-Some
returns-in-Some c =
    let s = c.self.inside in
    least-found s.history c.in-Some.mark (subst (λ (o : Option MarkedAt). IsLeast s.history o) c.in-Some.is c.self.invariant.least)
    ∙ ap (λ (b : BookView). least_mark b.history) c.self.view_is

pub returns-in-None : goal.returns-in-None
returns-in-None c =
    let s = c.self.inside in
    least-none s.history (subst (λ (o : Option MarkedAt). IsLeast s.history o) c.in-None.is c.self.invariant.least)
    ∙ ap (λ (b : BookView). least_mark b.history) c.self.view_is
