use Rattle.std.proofs.Common.{◌≡◌, [], ◌∷◌, List, remove, ap, ◌∙◌, arith}
use Rattle.std.proofs.lemmas.List.Elements.{All-same}
use Rattle.track_book.specs.Passes.{PassView}
use Rattle.ripup_workers.proofs.CallerLists.{first-rest, rest-seen}
use Rattle.ripup_workers.proofs.run.callers.Goals as goal

pub workers_of-requires-clause-nothing : goal.workers_of-requires-clause-nothing
workers_of-requires-clause-nothing g c =
    let all = c.args.passes.items in
    let some = c.requires.some in
    let whole = first-rest all c.remove-first.result (omega (arith, some)) c.remove-first.ensures.value in
    All-same (λ (p : PassView). p.seen ≡ []) _ (remove all 0) c.remove-first.ensures.items
    (rest-seen _ all c.remove-first.result (remove all 0) c.requires.begun whole)

pub returns : goal.returns
returns g c =
    let some = c.requires.some in
    ap (λ (l : List PassView). c.remove-first.result ∷ l) (c.in_ok-workers.ensures ∙ c.remove-first.ensures.items)
    ∙ first-rest c.args.passes.items c.remove-first.result (omega (arith, some)) c.remove-first.ensures.value
