use Rattle.std.proofs.Common.{◌+◌, List, map, subst, ap, sym, ◌∙◌}
use Rattle.std.specs.List.{range_with_len}
use Rattle.std.specs.Option.{is_some}
use Rattle.grid_demand.specs.Tables.{CapacityView}
use Rattle.book_state.specs.Books.{IsLegal}
use Rattle.book_state.specs.Marks.{least_mark}
use Rattle.book_state.specs.Views.{BookView}
use Rattle.book_state.specs.declared.entry.Entry.{Entry}
use Rattle.run_histories.specs.Hands.{log_of}
use Rattle.run_histories.specs.RunHistories.{Setting, asked_for}
use Rattle.run_histories.proofs.StandLemmas.{mark-within}
use Rattle.ripup_workers.proofs.JoiningEnds.{run-numbers, run-marked, run-stands}
use Rattle.ripup_workers.proofs.rounds.route_rounds.Goals as goal

pub unwrap-chosen-requires : goal.unwrap-chosen-requires
unwrap-chosen-requires g c =
    let made = c.in_ok-book.ensures in
    let h = c.in_ok-book.book.state.history in
    let t : Setting = asked_for c.args.design.now c.args.given.now c.args.rule.now.formula c.args.workers c.args.rounds c.args.watcher.now.watch c.args.goal in
    ap is_some (c.least_mark.ensures ∙ ap (λ (b : BookView). least_mark b.history) c.state-2.ensures) ∙ run-marked t h made.run

pub returns : goal.returns
returns g c =
    let made = c.in_ok-book.ensures in
    let h = c.in_ok-book.book.state.history in
    let t : Setting = asked_for c.args.design.now c.args.given.now c.args.rule.now.formula c.args.workers c.args.rounds c.args.watcher.now.watch c.args.goal in
    let least = sym (c.least_mark.ensures ∙ ap (λ (b : BookView). least_mark b.history) c.state-2.ensures) ∙ c.unwrap-chosen.ensures in
    record {
      capacity = made.capacity;
      legal = subst (λ (capacity : CapacityView). IsLegal capacity h) (sym made.capacity) made.run.attempts.legal;
      run = made.run;
      parted = record {
        logs = c.in_ok-hands.ensures
            ∙ ap (λ (entries : List Entry). map (log_of entries) (range_with_len 0 (c.args.workers + 1))) (c.history.ensures.history ∙ ap (λ (b : BookView). b.history) c.state.ensures);
        all = run-numbers t h made.run;
      };
      least = least;
      within = mark-within h c.unwrap-chosen.result least;
      stands = run-stands t h c.unwrap-chosen.result made.run least;
    }
