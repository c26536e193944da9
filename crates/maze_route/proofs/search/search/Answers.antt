use Rattle.std.proofs.Common.{◌≡◌, ℕ, Option, refl, sym, subst, ◌∙◌, arith}
use Rattle.std.proofs.lemmas.Option.{same_Some}
use Rattle.gr_base.specs.declared.grid.Edge.{Edge}
use Rattle.maze_route.specs.Steps.{size_of, rest_of, pane_graph}
use Rattle.maze_route.proofs.HandingLemmas.{pane-rest}
use Rattle.std.proofs.lemmas.List.Sorted.{IsPermutation-trans}
use Rattle.maze_route.specs.Queues.{QueueView}
use Rattle.maze_route.specs.Search.{IsSearching}
use Rattle.maze_route.proofs.KeptLemmas.{search-again}
use Rattle.maze_route.proofs.SearchLemmas.{labels_of}
use Rattle.maze_route.proofs.SpotLemmas.{covers-at}
use Rattle.maze_route.proofs.TurnLemmas.{taken-has, is-some, stale-turn, settled-turn, stop-turn, end-turn, spot-rest}
use Rattle.maze_route.proofs.search.search.Goals as goal

pub loop-key-init : goal.loop-key-init
loop-key-init g c = record {
  size_is = c.requires.size;
  sources = c.requires.sources;
  searching = c.requires.searching;
  goal = c.requires.known;
  near = c.requires.near;
}

pub spot-spot-requires : goal.spot-spot-requires
spot-spot-requires g c =
    let graph = pane_graph c.args.field.now.pane c.args.tree.now (g.C.Costs.price c.args.costs.now) in
    let has = taken-has graph (rest_of c.args.field.now.pane c.args.aim.now) c.args.marks.now (size_of c.args.field.now.pane) c.loop-key.nearest c.loop-key.front c.in-Some.key c.in-Some.cell c.pop.new.self c.loop-key.invariant c.in-Some.ensures in
    has.inside

pub unwrap-label-requires : goal.unwrap-label-requires
unwrap-label-requires g c =
    let graph = pane_graph c.args.field.now.pane c.args.tree.now (g.C.Costs.price c.args.costs.now) in
    let has = taken-has graph (rest_of c.args.field.now.pane c.args.aim.now) c.args.marks.now (size_of c.args.field.now.pane) c.loop-key.nearest c.loop-key.front c.in-Some.key c.in-Some.cell c.pop.new.self c.loop-key.invariant c.in-Some.ensures in
    is-some c.at.result has.cost (c.at.ensures ∙ has.is)

pub overflow_add-label : goal.overflow_add-label
overflow_add-label g c =
    let graph = pane_graph c.args.field.now.pane c.args.tree.now (g.C.Costs.price c.args.costs.now) in
    let has = taken-has graph (rest_of c.args.field.now.pane c.args.aim.now) c.args.marks.now (size_of c.args.field.now.pane) c.loop-key.nearest c.loop-key.front c.in-Some.key c.in-Some.cell c.pop.new.self c.loop-key.invariant c.in-Some.ensures in
    let same : has.cost ≡ c.unwrap-label.result = same_Some has.cost c.unwrap-label.result (sym has.is ∙ sym c.at.ensures ∙ c.unwrap-label.ensures) in
    omega (arith, same, has.small, c.distance_to.ensures.small)

pub distance_to-requires : goal.distance_to-requires
distance_to-requires g c =
    let spot = c.spot-spot.ensures.spot in
    covers-at c.args.field.now.pane c.args.aim.now c.spot-spot.result.local c.spot-spot.result.place c.requires.guide.fits spot.inside spot.place

pub settle-requires : goal.settle-requires
settle-requires g c =
    let graph = pane_graph c.args.field.now.pane c.args.tree.now (g.C.Costs.price c.args.costs.now) in
    let has = taken-has graph (rest_of c.args.field.now.pane c.args.aim.now) c.args.marks.now (size_of c.args.field.now.pane) c.loop-key.nearest c.loop-key.front c.in-Some.key c.in-Some.cell c.pop.new.self c.loop-key.invariant c.in-Some.ensures in
    let same : has.cost ≡ c.unwrap-label.result = same_Some has.cost c.unwrap-label.result (sym has.is ∙ sym c.at.ensures ∙ c.unwrap-label.ensures) in
    let rest = spot-rest c.args.field.now.pane c.args.aim.now c.spot-spot.result c.spot-spot.result.local c.distance_to.result c.spot-spot.ensures.spot refl c.distance_to.ensures.least in
    record {
      grid = c.requires.grid;
      priced = c.requires.priced;
      guide = c.requires.guide;
      spot = c.spot-spot.ensures.spot;
      from = omega (arith, same, has.small);
      size = c.loop-key.invariant.size_is;
      key = omega (arith, rest, c.if-label-distance_to.false, c.in-Some.ensures.last);
    }

pub returns-then-is_past-clause-found : goal.returns-then-is_past-clause-found
returns-then-is_past-clause-found g c =
    let price : Edge → Option ℕ = g.C.Costs.price c.args.costs.now in
    stop-turn (pane_graph c.args.field.now.pane c.args.tree.now price) (rest_of c.args.field.now.pane c.args.aim.now) c.args.marks.now (size_of c.args.field.now.pane) c.loop-key.nearest c.loop-key.front
    c.in-Some.key c.in-Some.cell c.pop.new.self (pane-rest c.args.field.now.pane c.args.tree.now price c.args.aim.now c.requires.guide)
    c.loop-key.invariant c.in-Some.ensures (sym c.is_past.ensures ∙ c.if-is_past.true)

pub returns-then-is_past-clause-kept : goal.returns-then-is_past-clause-kept
returns-then-is_past-clause-kept g c = record {
  rest = rest_of c.args.field.now.pane c.args.aim.now;
  searching = search-again (pane_graph c.args.field.now.pane c.args.tree.now (g.C.Costs.price c.args.costs.now)) (rest_of c.args.field.now.pane c.args.aim.now) (labels_of c.loop-key.front)
      c.loop-key.front.queue.pairs c.push.new.self.pairs (size_of c.args.field.now.pane) c.loop-key.invariant.searching
      (IsPermutation-trans c.loop-key.front.queue.pairs _ c.push.new.self.pairs c.in-Some.ensures.pairs c.in_ok-push.ensures.ok.pairs);
}

pub loop-key-preserved : goal.loop-key-preserved
loop-key-preserved g c =
    (settled-turn c.args.field.now.pane c.args.tree.now (g.C.Costs.grid c.args.costs.now) (g.C.Costs.ways c.args.costs.now) (g.C.Costs.price c.args.costs.now) c.args.aim.now c.args.marks.now
    c.loop-key.nearest c.nearest_with-nearest.result c.loop-key.front c.settle.new.front c.pop.new.self c.spot-spot.result c.in-Some.key c.in-Some.cell c.unwrap-label.result
    c.distance_to.result c.requires.grid (g.met.C.Costs.prices c.args.costs.now) c.loop-key.invariant c.in-Some.ensures (sym c.at.ensures ∙ c.unwrap-label.ensures)
    c.spot-spot.ensures.spot c.spot-spot.ensures.local c.distance_to.ensures.least (omega (arith, c.if-label-distance_to.false)) c.nearest_with-nearest.ensures c.requires.aim
    c.in_ok-settle.ensures).0

pub loop-key-smaller : goal.loop-key-smaller
loop-key-smaller g c =
    (settled-turn c.args.field.now.pane c.args.tree.now (g.C.Costs.grid c.args.costs.now) (g.C.Costs.ways c.args.costs.now) (g.C.Costs.price c.args.costs.now) c.args.aim.now c.args.marks.now
    c.loop-key.nearest c.nearest_with-nearest.result c.loop-key.front c.settle.new.front c.pop.new.self c.spot-spot.result c.in-Some.key c.in-Some.cell c.unwrap-label.result
    c.distance_to.result c.requires.grid (g.met.C.Costs.prices c.args.costs.now) c.loop-key.invariant c.in-Some.ensures (sym c.at.ensures ∙ c.unwrap-label.ensures)
    c.spot-spot.ensures.spot c.spot-spot.ensures.local c.distance_to.ensures.least (omega (arith, c.if-label-distance_to.false)) c.nearest_with-nearest.ensures c.requires.aim
    c.in_ok-settle.ensures).1

pub loop-key-preserved-then-label-distance_to : goal.loop-key-preserved-then-label-distance_to
loop-key-preserved-then-label-distance_to g c =
    let is = sym c.at.ensures ∙ c.unwrap-label.ensures in
    let rest = spot-rest c.args.field.now.pane c.args.aim.now c.spot-spot.result c.in-Some.cell c.distance_to.result c.spot-spot.ensures.spot c.spot-spot.ensures.local c.distance_to.ensures.least in
    let turn = stale-turn (pane_graph c.args.field.now.pane c.args.tree.now (g.C.Costs.price c.args.costs.now)) (rest_of c.args.field.now.pane c.args.aim.now) c.args.marks.now (size_of c.args.field.now.pane) c.loop-key.nearest
    c.loop-key.front c.in-Some.key c.in-Some.cell c.unwrap-label.result c.pop.new.self c.loop-key.invariant c.in-Some.ensures is (omega (arith, rest, c.if-label-distance_to.true)) in
    turn.0

pub loop-key-smaller-then-label-distance_to : goal.loop-key-smaller-then-label-distance_to
loop-key-smaller-then-label-distance_to g c =
    let is = sym c.at.ensures ∙ c.unwrap-label.ensures in
    let rest = spot-rest c.args.field.now.pane c.args.aim.now c.spot-spot.result c.in-Some.cell c.distance_to.result c.spot-spot.ensures.spot c.spot-spot.ensures.local c.distance_to.ensures.least in
    let turn = stale-turn (pane_graph c.args.field.now.pane c.args.tree.now (g.C.Costs.price c.args.costs.now)) (rest_of c.args.field.now.pane c.args.aim.now) c.args.marks.now (size_of c.args.field.now.pane) c.loop-key.nearest
    c.loop-key.front c.in-Some.key c.in-Some.cell c.unwrap-label.result c.pop.new.self c.loop-key.invariant c.in-Some.ensures is (omega (arith, rest, c.if-label-distance_to.true)) in
    turn.1

pub returns : goal.returns
returns g c =
    let price : Edge → Option ℕ = g.C.Costs.price c.args.costs.now in
    record {
      kept = record {
        rest = rest_of c.args.field.now.pane c.args.aim.now;
        searching = subst (λ (q : QueueView). IsSearching (pane_graph c.args.field.now.pane c.args.tree.now price) (rest_of c.args.field.now.pane c.args.aim.now)
            (labels_of c.loop-key.front) q.pairs (size_of c.args.field.now.pane)) (sym c.in_default.ensures.1) c.loop-key.invariant.searching;
      };
      found = end-turn (pane_graph c.args.field.now.pane c.args.tree.now price) (rest_of c.args.field.now.pane c.args.aim.now) c.args.marks.now (size_of c.args.field.now.pane) c.loop-key.nearest c.loop-key.front
          (pane-rest c.args.field.now.pane c.args.tree.now price c.args.aim.now c.requires.guide) c.requires.aim c.loop-key.invariant c.in_default.ensures.0 c.requires.goal;
      size = c.loop-key.invariant.size_is;
    }
