use Rattle.std.proofs.Common.{ℕ, List, ◌++◌, take, ap, ◌∙◌}
use Rattle.book_state.specs.Views.{BookView}
use Rattle.router_top.specs.Routing.{told_between}
use Rattle.text_commands.specs.Judging.{report_of}
use Rattle.router_top.proofs.RouteLemmas.{routes-trees, chosen-routes}
use Rattle.router_top.proofs.routing.route_design.Goals as goal

pub returns : goal.returns
returns g c =
    let d = c.args.design.now in
    let r = c.in_ok-booked.booked in
    let are = c.in_ok-booked.ensures in
    let h = take r.rounds.chosen r.rounds.book.state.history in
    let told = c.in_ok-told.ensures in
    let verdict = c.in_ok-told.told.0 in
    let history = r.rounds.book.state.history in
    let between =
    c.in_ok-between.ensures ∙ ap (told_between d c.args.beginning.now c.args.options)
    (c.history-history.ensures.history ∙ ap (λ (b : BookView). b.history) c.state.ensures) in
    record {
      made = are.rounds.made;
      routes = chosen-routes d c.args.beginning.now.given c.args.options r are told.trees;
      trees = routes-trees d h r.routes are.rounds.stands are.booked told.trees;
      verdict = verdict;
      judged = told.verdict;
      plans = told.buffers.plans;
      planned = told.buffers.planned;
      reports =
          c.in_ok-report.ensures ∙ ap (λ (text : List ℕ). report_of verdict ++ text ++ c.in_ok-told.told.1) between
          ∙ ap (λ (text : List ℕ). report_of verdict ++ told_between d c.args.beginning.now c.args.options history ++ text) told.buffers.says;
    }
