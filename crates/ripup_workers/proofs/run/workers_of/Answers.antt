use Rattle.std.proofs.Common.{◌≡◌, [], ◌∷◌, sym, arith}
use Rattle.std.proofs.lemmas.List.Elements.{All-head, All-rest, All-same}
use Rattle.track_book.specs.Passes.{PassView}
use Rattle.ripup_workers.proofs.CallerLists.{workers-next}
use Rattle.ripup_workers.proofs.run.workers_of.Goals as goal

pub worker_with-requires-clause-nothing : goal.worker_with-requires-clause-nothing
worker_with-requires-clause-nothing g c =
    All-head (λ (p : PassView). p.seen ≡ []) c.in-Some.pass _
    (All-same (λ (p : PassView). p.seen ≡ []) (c.in-Some.pass ∷ _) _ (sym c.in-Some.ensures.items) c.loop-pass.invariant.nothing)

pub loop-pass-preserved : goal.loop-pass-preserved
loop-pass-preserved g c =
    let left = c.in-Some.ensures.cases.1 in
    let room = c.loop-pass.invariant.room in
    let longer = c.push_reserved.ensures.len in
    let same = c.push_reserved.ensures.capacity in
    record {
      workers = workers-next (λ w. w.pass) _ _ _ c.in-Some.pass _ _ _ c.loop-pass.invariant.workers c.in-Some.ensures.items c.push_reserved.ensures.items c.in_ok-worker.ensures;
      nothing = All-rest (λ (p : PassView). p.seen ≡ []) c.in-Some.pass _ _ c.in-Some.ensures.items c.loop-pass.invariant.nothing;
      room = omega (arith, left, room, longer, same);
    }
