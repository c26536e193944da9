use Rattle.std.proofs.Common.{◌≡◌, ℕ, List, ◌++◌, Option, Some, take, refl, ap, subst, ◌∙◌}
use Rattle.std.proofs.Math.Path.{fun_ext}
use Rattle.command_form.proofs.LeavingLemmas.{leaves-alone}
use Rattle.gr_base.specs.EdgeSets.{Edges}
use Rattle.route_evaluator.specs.Verdicts.{IsVerdict}
use Rattle.gr_base.specs.Trees.{TreeView}
use Rattle.book_state.specs.Views.{BookView}
use Rattle.book_state.specs.declared.entry.Entry.{Entry}
use Rattle.router_top.proofs.BeginningLemmas.{none-given}
use Rattle.router_top.specs.Booking.{IsBookOf}
use Rattle.router_top.specs.Tracing.{rounds_told}
use Rattle.router_top.specs.Trying.{trying}
use Rattle.router_top.proofs.RoutingLemmas.{booked-same}
use Rattle.router_top.proofs.trying.trial.Goals as goal
use Rattle.text_commands.specs.Judging.{report_of}

pub invariant_of-request : goal.invariant_of-request
invariant_of-request g c = record {
  fits = none-given c.in-Ok.design c.in-Ok-from_nothing.beginning.given c.in-Ok-from_nothing.ensures.given;
  range = c.requires.options;
}

pub returns : goal.returns
returns g c =
    let d = c.in-Ok.design in
    let r = c.in-Ok-booked_routes.booked in
    let are = c.in-Ok-booked_routes.ensures in
    let v = c.in-Ok-verdict_on.verdict in
    let h = take r.rounds.chosen r.rounds.book.state.history in
    let history : c.history-history.result.now ≡ r.rounds.book.state.history =
    c.history-history.ensures.history ∙ ap (λ (b : BookView). b.history) c.state.ensures in
    leaves-alone (trying c.args.made c.args.options) _ (Some (record { book = r.rounds.book; hands = r.rounds.hands }))
    (report_of v ++ rounds_told c.args.options.trace c.history-history.result.now)
    c.write_report-end.result
    (λ shelf. (
      refl,
      refl,
      record {
        design = d;
        said = c.in-Ok.ensures.said;
        rounds_are = subst (λ (given : List (Option TreeView)). IsBookOf d given c.args.options r.rounds.book.state r.rounds.hands.items) c.in-Ok-from_nothing.ensures.given are.rounds.made;
        chosen = r.rounds.chosen;
        least = are.rounds.least;
        verdict = v;
        judged =
            subst (λ (sets : ℕ → Edges). IsVerdict d c.args.options.via_cost sets v) (fun_ext (λ net. fun_ext (λ e. booked-same d h r.routes are.booked net e))) c.in-Ok-verdict_on.ensures.verdict;
        says = ap (λ (h : List Entry). report_of v ++ rounds_told c.args.options.trace h) history;
      },
    ))
    c.write_report-end.ensures
