use Rattle.std.proofs.Common.{List, ◌+◌, map, refl, ap, ◌∙◌}
use Rattle.std.specs.List.{range_with_len}
use Rattle.book_state.specs.declared.entry.Entry.{Entry}
use Rattle.run_histories.specs.Hands.{log_of}
use Rattle.router_top.proofs.RouteLemmas.{rounds-batched}
use Rattle.router_top.proofs.booking.rounds_in_batches.Goals as goal

pub returns : goal.returns
returns g c =
    let options = c.args.request.now.options in
    rounds-batched c.args.request.now.design.now c.args.request.now.given.now options c.args.batch c.of-rule.result.now.formula c.in_ok-batched.batched _ c.of-rule.ensures c.requires
    c.args.request.now.range.worker c.in_ok-batched.ensures c.of.ensures
    (c.in_ok-hands.ensures ∙ ap (λ (h : List Entry). map (log_of h) (range_with_len 0 (options.workers + 1))) c.history.ensures.history) refl
