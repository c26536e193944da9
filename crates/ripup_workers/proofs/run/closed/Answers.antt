use Rattle.std.proofs.Common.{◌≡◌, List, [], sym, subst, arith}
use Rattle.std.specs.Vec.Iter.{into_iter_items}
use Rattle.std.proofs.lemmas.List.{nil_from_length}
use Rattle.track_book.specs.Passes.{PassView, AreAll, IsClosed}
use Rattle.ripup_workers.proofs.CallerLists.{passes-last}
use Rattle.ripup_workers.proofs.run.closed.Goals as goal

pub close-requires : goal.close-requires
close-requires g c =
    let count = c.loop-worker.rest.rest.ok.0 in
    let none = c.in_default.ensures.cases.0 in
    let empty : into_iter_items c.loop-worker.rest ≡ [] = nil_from_length (into_iter_items c.loop-worker.rest) (omega (arith, count, none)) in
    let whole = passes-last (λ w. w.pass) c.loop-worker.passes.items (into_iter_items c.loop-worker.rest) _ c.loop-worker.invariant.passes empty in
    subst (AreAll g.N.BookName.passes) (sym whole) c.requires

pub returns-in-Ok-clause-closed : goal.returns-in-Ok-clause-closed
returns-in-Ok-clause-closed g c =
    let count = c.loop-worker.rest.rest.ok.0 in
    let none = c.in_default.ensures.cases.0 in
    let empty : into_iter_items c.loop-worker.rest ≡ [] = nil_from_length (into_iter_items c.loop-worker.rest) (omega (arith, count, none)) in
    let whole = passes-last (λ w. w.pass) c.loop-worker.passes.items (into_iter_items c.loop-worker.rest) _ c.loop-worker.invariant.passes empty in
    subst (λ (l : List PassView). IsClosed g.N.BookName.capacity l c.in-Ok.closed.state.history) whole c.in-Ok.ensures.book
