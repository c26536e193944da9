use Rattle.std.proofs.Common.{ℕ, ◌-◌, Option, IsSome, refl, sym, ap, subst, ◌∙◌, arith}
use Rattle.std.specs.Option.{option_map}
use Rattle.cost_rules.specs.Prices.{ArePrices}
use Rattle.gr_base.specs.declared.grid.Edge.{Edge}
use Rattle.gr_base.specs.declared.grid.Shape.{Shape}
use Rattle.maze_route.specs.Steps.{Step, step_of}
use Rattle.maze_route.specs.declared.pane.Neighbour.{Neighbour}
use Rattle.maze_route.specs.Labels.{label_at}
use Rattle.maze_route.proofs.BackLemmas.{goes-back, finds-back, some-mapped}
use Rattle.maze_route.proofs.WalkLemmas.{way-start, way-turn, way-end}
use Rattle.maze_route.proofs.back.walk_back.Goals as goal

pub spot-spot-requires : goal.spot-spot-requires
spot-spot-requires g c = c.requires.near.inside

pub loop-left-init : goal.loop-left-init
loop-left-init g c = record {
  spot = c.spot-spot.ensures.spot;
  way = way-start c.args.field.now.pane c.args.tree.now (g.C.Costs.price c.args.costs.now) (label_at c.args.labels.now.costs.items) c.args.goal.cell c.spot-spot.result.local c.args.goal.cost c.new-cells.result
      c.new-cells.ensures c.spot-spot.ensures.local c.requires.near;
}

pub unwrap-step-requires : goal.unwrap-step-requires
unwrap-step-requires g c =
    let price : Edge → Option ℕ = g.C.Costs.price c.args.costs.now in
    let finds = finds-back c.args.field.now.pane c.args.tree.now price (label_at c.args.labels.now.costs.items) c.loop-left.spot.local c.loop-left.left
    c.loop-left.invariant.way.near c.loop-left-test.true in
    let Q : Option Step → Type 0 = λ o. IsSome o in
    some-mapped (step_of c.loop-left.invariant.way.near.aim) c.step_back.result (subst Q (sym (c.step_back.ensures c.loop-left.invariant.way.near.aim)) finds)

pub spot-spot-requires-in-loop-left : goal.spot-spot-requires-in-loop-left
spot-spot-requires-in-loop-left g c =
    let price : Edge → Option ℕ = g.C.Costs.price c.args.costs.now in
    let P : Shape → Type 0 = λ s. ArePrices s (g.C.Costs.ways c.args.costs.now) price in
    let prices = subst P c.requires.grid (g.met.C.Costs.prices c.args.costs.now) in
    let back = goes-back c.args.field.now.pane c.args.tree.now (g.C.Costs.ways c.args.costs.now) price (label_at c.args.labels.now.costs.items) c.loop-left.spot.local c.loop-left.left
    (step_of c.loop-left.invariant.way.near.aim c.unwrap-step.result) prices c.loop-left.invariant.way.near
    (sym (c.step_back.ensures c.loop-left.invariant.way.near.aim) ∙ ap (λ (o : Option Neighbour). option_map (step_of c.loop-left.invariant.way.near.aim) o) c.unwrap-step.ensures) in
    back.near.inside

pub overflow_sub-left : goal.overflow_sub-left
overflow_sub-left g c =
    let price : Edge → Option ℕ = g.C.Costs.price c.args.costs.now in
    let P : Shape → Type 0 = λ s. ArePrices s (g.C.Costs.ways c.args.costs.now) price in
    let prices = subst P c.requires.grid (g.met.C.Costs.prices c.args.costs.now) in
    let back = goes-back c.args.field.now.pane c.args.tree.now (g.C.Costs.ways c.args.costs.now) price (label_at c.args.labels.now.costs.items) c.loop-left.spot.local c.loop-left.left
    (step_of c.loop-left.invariant.way.near.aim c.unwrap-step.result) prices c.loop-left.invariant.way.near
    (sym (c.step_back.ensures c.loop-left.invariant.way.near.aim) ∙ ap (λ (o : Option Neighbour). option_map (step_of c.loop-left.invariant.way.near.aim) o) c.unwrap-step.ensures) in
    back.less

pub loop-left-preserved : goal.loop-left-preserved
loop-left-preserved g c =
    let price : Edge → Option ℕ = g.C.Costs.price c.args.costs.now in
    let P : Shape → Type 0 = λ s. ArePrices s (g.C.Costs.ways c.args.costs.now) price in
    let prices = subst P c.requires.grid (g.met.C.Costs.prices c.args.costs.now) in
    let back = goes-back c.args.field.now.pane c.args.tree.now (g.C.Costs.ways c.args.costs.now) price (label_at c.args.labels.now.costs.items) c.loop-left.spot.local c.loop-left.left
    (step_of c.loop-left.invariant.way.near.aim c.unwrap-step.result) prices c.loop-left.invariant.way.near
    (sym (c.step_back.ensures c.loop-left.invariant.way.near.aim) ∙ ap (λ (o : Option Neighbour). option_map (step_of c.loop-left.invariant.way.near.aim) o) c.unwrap-step.ensures) in
    record {
      spot = c.spot-spot-in-loop-left.ensures.spot;
      way = way-turn c.args.field.now.pane c.args.tree.now price (label_at c.args.labels.now.costs.items) c.args.goal.cell c.loop-left.spot.local c.loop-left.left
          c.spot-spot-in-loop-left.result.local (c.loop-left.left - c.unwrap-step.result.cost) c.loop-left.spot.cell (step_of c.loop-left.invariant.way.near.aim c.unwrap-step.result) c.loop-left.cells c.push.new.self
          c.loop-left.invariant.way c.loop-left-test.true back c.spot-spot-in-loop-left.ensures.local refl c.loop-left.invariant.spot.cell c.in_ok-push.ensures.ok;
    }

pub loop-left-smaller : goal.loop-left-smaller
loop-left-smaller g c =
    let price : Edge → Option ℕ = g.C.Costs.price c.args.costs.now in
    let P : Shape → Type 0 = λ s. ArePrices s (g.C.Costs.ways c.args.costs.now) price in
    let prices = subst P c.requires.grid (g.met.C.Costs.prices c.args.costs.now) in
    let back = goes-back c.args.field.now.pane c.args.tree.now (g.C.Costs.ways c.args.costs.now) price (label_at c.args.labels.now.costs.items) c.loop-left.spot.local c.loop-left.left
    (step_of c.loop-left.invariant.way.near.aim c.unwrap-step.result) prices c.loop-left.invariant.way.near
    (sym (c.step_back.ensures c.loop-left.invariant.way.near.aim) ∙ ap (λ (o : Option Neighbour). option_map (step_of c.loop-left.invariant.way.near.aim) o) c.unwrap-step.ensures) in
    omega (arith, back.less, back.some)

pub returns : goal.returns
returns g c =
    let price : Edge → Option ℕ = g.C.Costs.price c.args.costs.now in
    let P : Shape → Type 0 = λ s. ArePrices s (g.C.Costs.ways c.args.costs.now) price in
    let prices = subst P c.requires.grid (g.met.C.Costs.prices c.args.costs.now) in
    way-end c.args.field.now.pane c.args.tree.now (g.C.Costs.ways c.args.costs.now) price (label_at c.args.labels.now.costs.items) c.args.goal.cell c.loop-left.spot.local c.loop-left.left c.loop-left.spot.cell
    c.loop-left.cells c.push-2.new.self prices c.loop-left.invariant.way (omega (arith, c.loop-left-test.false)) c.loop-left.invariant.spot.cell c.in_ok-push-2.ensures.ok
