use Rattle.std.proofs.Common.{ℕ, ◌+◌, List, length, get_or, refl, sym, ap, ◌∙◌, arith}
use Rattle.maze_route.specs.Labels.{label_at}
use Rattle.maze_route.specs.Queues.{QueueView}
use Rattle.maze_route.specs.Search.{most_distance}
use Rattle.maze_route.specs.Steps.{rest_of}
use Rattle.maze_route.proofs.Distances.{at-most}
use Rattle.maze_route.proofs.KeptLemmas.{waiting-none, waiting-turn}
use Rattle.maze_route.proofs.LabelLemmas.{label-within}
use Rattle.maze_route.proofs.SpotLemmas.{fits-at}
use Rattle.maze_route.proofs.TurnLemmas.{is-some, spot-rest}
use Rattle.maze_route.proofs.resume.wait_again.Goals as goal

pub loop-cell-init : goal.loop-cell-init
loop-cell-init c = record {
  labels = refl;
  last = ap (λ (q : QueueView). q.last) c.requires.empty;
  waiting = waiting-none (rest_of c.args.pane c.args.aim.now) (label_at c.args.front.now.labels.costs.items) c.args.front.now.queue.pairs (ap (λ (q : QueueView). q.pairs) c.requires.empty);
}

pub at-requires : goal.at-requires
at-requires c =
    let cell = get_or c.args.cells.now c.loop-cell.cell-index 0 in
    let costs = c.args.front.now.labels.costs.items in
    let found = at-most (label_at costs cell) most_distance (c.requires.labelled c.loop-cell.cell-index 0 c.loop-cell-test.true) in
    let inside = label-within costs cell found.0 found.1.0 in
    let same = ap (λ (xs : List ℕ). length xs) c.loop-cell.invariant.labels in
    omega (arith, inside, same)

pub unwrap-label-requires : goal.unwrap-label-requires
unwrap-label-requires c =
    let cell = get_or c.args.cells.now c.loop-cell.cell-index 0 in
    let costs = c.args.front.now.labels.costs.items in
    let found = at-most (label_at costs cell) most_distance (c.requires.labelled c.loop-cell.cell-index 0 c.loop-cell-test.true) in
    is-some c.at.result found.0 (c.at.ensures ∙ ap (λ (xs : List ℕ). label_at xs cell) c.loop-cell.invariant.labels ∙ found.1.0)

pub spot-requires : goal.spot-requires
spot-requires c =
    let cell = get_or c.args.cells.now c.loop-cell.cell-index 0 in
    let costs = c.args.front.now.labels.costs.items in
    let found = at-most (label_at costs cell) most_distance (c.requires.labelled c.loop-cell.cell-index 0 c.loop-cell-test.true) in
    let inside = label-within costs cell found.0 found.1.0 in
    omega (arith, inside, c.requires.size)

pub distance_to-rest-requires : goal.distance_to-rest-requires
distance_to-rest-requires c =
    let spot = c.spot.ensures.spot in
    let bounds = fits-at c.args.pane c.args.aim.now c.spot.result.local c.spot.result.place c.requires.aim spot.inside spot.place in
    record { column = bounds.0; row = bounds.1 }

pub loop-cell-preserved : goal.loop-cell-preserved
loop-cell-preserved c =
    let cell = get_or c.args.cells.now c.loop-cell.cell-index 0 in
    let costs = c.args.front.now.labels.costs.items in
    let rest = spot-rest c.args.pane c.args.aim.now c.spot.result cell c.distance_to-rest.result c.spot.ensures.spot c.spot.ensures.local c.distance_to-rest.ensures.least in
    record {
      labels = c.loop-cell.invariant.labels;
      last = c.in_ok-push.ensures.ok.last ∙ c.loop-cell.invariant.last;
      waiting = waiting-turn (rest_of c.args.pane c.args.aim.now) (label_at costs) c.loop-cell.front.queue c.push.new.self c.args.cells.now c.loop-cell.cell-index cell 0
          c.unwrap-label.result (c.unwrap-label.result + c.distance_to-rest.result) c.loop-cell-test.true refl
          (ap (λ (xs : List ℕ). label_at xs cell) (sym c.loop-cell.invariant.labels) ∙ sym c.at.ensures ∙ c.unwrap-label.ensures) (omega (arith, rest))
          c.in_ok-push.ensures.ok c.loop-cell.invariant.waiting;
    }
