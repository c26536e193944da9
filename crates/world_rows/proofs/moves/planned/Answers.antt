use Rattle.std.proofs.Common.{◌<◌, List, take, sym, ap, subst, ◌∙◌, arith}
use Rattle.std.proofs.lemmas.List.{length-map}
use Rattle.std.proofs.lemmas.Option.{slice_get_within}
use Rattle.cost_rules.specs.declared.site.Formula.{Formula}
use Rattle.gr_base.proofs.DesignLemmas.{routed-net}
use Rattle.gr_base.specs.Designs.{DesignView}
use Rattle.gr_base.specs.declared.frame.Net.{Net}
use Rattle.grid_demand.specs.Tables.{CapacityView, capacity_of}
use Rattle.book_state.specs.Books.{nets_of, AreLoadsOf}
use Rattle.book_state.specs.declared.entry.Entry.{Entry}
use Rattle.run_histories.proofs.TurnLemmas.{bounded-loads}
use Rattle.run_histories.specs.Rounds.{IsPlanFor}
use Rattle.world_rows.proofs.moves.planned.Goals as goal

pub plan_of-requires-clause-demand : goal.plan_of-requires-clause-demand
plan_of-requires-clause-demand g c =
    bounded-loads c.args.table.now.design.now c.book.result.now.capacity (take c.args.front c.book.result.now.history) c.in_ok-loads.loads c.requires.design
    (c.book.ensures.capacity ∙ ap capacity_of c.requires.played.design) c.in_ok-loads.ensures

pub returns-clause-claim : goal.returns-clause-claim
returns-clause-claim g c =
    let d = c.args.table.now.design.now in
    let first = routed-net d c.args.net c.requires.net in
    let long = length-map d.nets (λ (net : Net). net.width) in
    record {
      net = subst (λ (x : DesignView). c.args.net < nets_of (capacity_of x)) (sym c.requires.played.design)
          (let within = slice_get_within d.nets c.args.net first.net first.there in omega (arith, within, long));
      shape = c.in_ok-tree.ensures.shape ∙ c.in_ok-loads.ensures.shape ∙ ap (λ (v : CapacityView). v.shape) c.book.ensures.capacity;
      front = c.requires.front;
    }

pub returns-clause-plan : goal.returns-clause-plan
returns-clause-plan g c =
    let d = c.args.table.now.design.now in
    let kind = c.kind_of-kind.result in
    let tree = c.in_ok-tree.tree in
    let front = c.args.front in
    let capacity = subst (λ (v : CapacityView). AreLoadsOf v (take front c.book.result.now.history) c.in_ok-loads.loads)
    (c.book.ensures.capacity ∙ ap capacity_of c.requires.played.design) c.in_ok-loads.ensures in
    let of = subst (λ (h : List Entry). AreLoadsOf (capacity_of d) (take front h) c.in_ok-loads.loads) c.book.ensures.history capacity in
    let h = take front c.args.world.now.history in
    let plan = c.in_ok-tree.ensures.plan h of in
    subst (λ (x : DesignView). IsPlanFor x c.args.world.now.setting.formula h c.args.net kind tree) (sym c.requires.played.design)
    (subst (λ (formula : Formula). IsPlanFor d formula h c.args.net kind tree) (c.args.table.now.formula ∙ sym c.requires.played.formula) plan)
