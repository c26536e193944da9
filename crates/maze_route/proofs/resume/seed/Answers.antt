use Rattle.std.proofs.Common.{ℕ, ◌+◌, refl, sym, ap, ◌∙◌, arith}
use Rattle.maze_route.specs.Steps.{Step, cell_in, least_to}
use Rattle.maze_route.specs.Labels.{label_at}
use Rattle.maze_route.proofs.SeedLemmas.{seed-turn, seeded-turn, seed-done, tree-window}
use Rattle.maze_route.proofs.SpotLemmas.{covers-at}
use Rattle.maze_route.proofs.resume.seed.Goals as goal

pub loop-node-init : goal.loop-node-init
loop-node-init c = record {
  size = c.requires.size;
  last = c.requires.last;
  seeded = λ k cell below is. absurd (omega arith);
  searching = λ price searching. searching;
}

pub local-requires : goal.local-requires
local-requires c = tree-window c.args.pane c.args.tree.now c.loop-node.node c.cell.result c.requires.grid c.requires.tree c.cell.ensures.only

pub reach-requires : goal.reach-requires
reach-requires c =
    let spot = c.spot-spot.ensures.spot in
    record {
      from = omega arith;
      small = omega arith;
      covered = covers-at c.args.pane c.args.aim.now c.spot-spot.result.local c.spot-spot.result.place c.requires.aim spot.inside spot.place;
      inside = omega (arith, c.loop-node.invariant.size, c.spot-spot.ensures.local, c.local.ensures.inside);
      keys = omega (arith, c.loop-node.invariant.last);
    }

pub loop-node-preserved : goal.loop-node-preserved
loop-node-preserved c =
    let step : Step = record { cell = c.spot-spot.result.local; cost = 0; rest = least_to c.args.aim.now c.spot-spot.result.place } in
    let back = ap (λ (n : ℕ). cell_in c.args.pane n) (sym c.local.ensures.local) ∙ c.local.ensures.cell in
    record {
      size = c.reach.ensures.size ∙ c.loop-node.invariant.size;
      last = c.reach.ensures.last ∙ c.loop-node.invariant.last;
      seeded = seeded-turn c.args.pane c.args.tree.now c.loop-node.node (c.loop-node.node + 1) c.cell.result c.spot-spot.result step c.loop-node.front c.reach.new.front
          refl c.cell.ensures.cell c.spot-spot.ensures.spot (c.spot-spot.ensures.local ∙ c.local.ensures.local) refl refl c.loop-node.invariant.size c.in_ok-reach.ensures.done
          c.loop-node.invariant.seeded;
      searching = λ price begun. seed-turn c.args.pane c.args.tree.now price c.args.aim.now c.loop-node.node c.cell.result c.spot-spot.result step c.loop-node.front c.reach.new.front
          c.cell.ensures.only c.spot-spot.ensures.spot (c.spot-spot.ensures.local ∙ c.local.ensures.local) back refl refl refl c.loop-node.invariant.size
          c.in_ok-reach.ensures.done (c.loop-node.invariant.searching price begun);
    }

pub returns-clause-sources : goal.returns-clause-sources
returns-clause-sources c price =
    seed-done c.args.pane c.args.tree.now price (label_at c.loop-node.front.labels.costs.items) c.loop-node.node
    (omega (arith, c.loop-node-test.false, c.len-node-end.ensures.len)) c.loop-node.invariant.seeded

pub returns-clause-searching : goal.returns-clause-searching
returns-clause-searching c price searching = c.loop-node.invariant.searching price searching
