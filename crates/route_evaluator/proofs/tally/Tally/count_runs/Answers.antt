use Rattle.std.proofs.Common.{◌<◌, ℕ, List, All, sym, ap, subst, ◌∙◌}
use Rattle.gr_base.specs.Grid.{cells_of}
use Rattle.gr_base.specs.declared.frame.Frame.{Frame}
use Rattle.gr_base.specs.declared.grid.Shape.{Shape}
use Rattle.solution_text.specs.Runs.{LieIn}
use Rattle.route_reader.specs.Solutions.{edges_by}
use Rattle.route_evaluator.specs.EdgeNumbers.{edges_numbered}
use Rattle.route_evaluator.proofs.CountedLemmas.{pins-inside, pins-are, room-next, charged-next, count-same, counted-room, tallied-next}
use Rattle.route_evaluator.proofs.tally.Tally.count_runs.Goals as goal

pub count_edges-requires-clause-grid : goal.count_edges-requires-clause-grid
count_edges-requires-clause-grid c =
    subst (λ (f : Frame). LieIn f.shape (edges_numbered c.gather_net.new.edges.numbers)) (sym c.frame.ensures.frame) c.in_ok-gather_net.ensures.grid

pub count_edges-requires-clause-pins : goal.count_edges-requires-clause-pins
count_edges-requires-clause-pins c =
    let inside = pins-inside c.args.design.now c.args.net c.net.result.now c.frame.ensures.design c.net.ensures.net in
    subst (λ (f : Frame). All (λ pin. pin < cells_of f.shape) c.as_slice-pins.result.now) (sym c.frame.ensures.frame)
    (subst (λ (pins : List ℕ). All (λ pin. pin < cells_of c.args.design.now.frame.shape) pins) (sym c.as_slice-pins.ensures) inside)

pub charge-requires-clause-grid : goal.charge-requires-clause-grid
charge-requires-clause-grid c =
    subst (λ (g : Shape). LieIn g (edges_numbered c.gather_net.new.edges.numbers)) (sym c.requires.charged.shape) c.in_ok-gather_net.ensures.grid

pub charge-requires-clause-room : goal.charge-requires-clause-room
charge-requires-clause-room c =
    room-next c.args.design.now (edges_by c.args.solution.now) c.args.net c.args.loads.now c.frame.ensures.design c.requires.routed c.requires.charged

pub include-requires : goal.include-requires
include-requires c =
    let d = c.args.design.now in
    let count = count-same d (edges_by c.args.solution.now) c.args.net c.frame.result.now.shape (edges_numbered c.gather_net.new.edges.numbers) c.as_slice-pins.result.now
    c.in_ok-count.count (ap (λ (f : Frame). f.shape) c.frame.ensures.frame) c.in_ok-gather_net.ensures.edges
    (c.as_slice-pins.ensures ∙ pins-are d c.args.net c.net.result.now c.net.ensures.net) c.in_ok-count.ensures.count in
    counted-room d (edges_by c.args.solution.now) c.args.net _ _ _ _ _ c.in_ok-count.count c.frame.ensures.design c.requires.routed count c.requires.tallied

pub returns-clause-tallied : goal.returns-clause-tallied
returns-clause-tallied c =
    let d = c.args.design.now in
    let count = count-same d (edges_by c.args.solution.now) c.args.net c.frame.result.now.shape (edges_numbered c.gather_net.new.edges.numbers) c.as_slice-pins.result.now
    c.in_ok-count.count (ap (λ (f : Frame). f.shape) c.frame.ensures.frame) c.in_ok-gather_net.ensures.edges
    (c.as_slice-pins.ensures ∙ pins-are d c.args.net c.net.result.now c.net.ensures.net) c.in_ok-count.ensures.count in
    tallied-next d (edges_by c.args.solution.now) c.args.net c.args.self.now c.include.new.self c.in_ok-count.count c.requires.routed c.in_ok-include.ensures
    count c.requires.tallied

pub returns-clause-charged : goal.returns-clause-charged
returns-clause-charged c =
    charged-next c.args.design.now (edges_by c.args.solution.now) c.args.net (edges_numbered c.gather_net.new.edges.numbers) c.args.capacity.now c.args.loads.now
    c.charge.new.loads c.requires.routed c.in_ok-gather_net.ensures.edges c.requires.capacity c.charge.ensures.shape c.charge.ensures.demand c.requires.charged
