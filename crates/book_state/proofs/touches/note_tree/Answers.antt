use Rattle.std.proofs.Common.{◌+◌, ◌<◌, List, length, refl, sym, ap, subst, arith}
use Rattle.gr_base.specs.declared.grid.Edge.{Edge}
use Rattle.grid_demand.specs.LoadSums.{demand_at}
use Rattle.book_state.specs.Still.{lacks_room}
use Rattle.book_state.specs.Touches.{AddsTouches}
use Rattle.book_state.specs.declared.touches.Touch.{Touch}
use Rattle.book_state.proofs.EdgeSearch.{wire-inside}
use Rattle.book_state.proofs.TouchSteps.{notes-none, notes-then, AreNotedTo, noted-first, noted-over, noted-next, noted-all, lack-wire}
use Rattle.book_state.proofs.touches.note_tree.Goals as goal
use Rattle.book_state.proofs.touches.note_tree.Goals.{in-Some+in_ok-note_edge, in_default}

pub loop-node-init : goal.loop-node-init
loop-node-init c =
    let lacks : Edge → _ = lacks_room c.args.capacity.now c.args.sought.now.formula c.args.sought.now.window (demand_at c.args.loads.now) c.args.sought.now.net c.args.beside in (
      notes-none c.args.capacity.now c.args.sought.now.window (demand_at c.args.loads.now) c.args.touches.now.items c.args.touches.now.items refl,
      noted-first lacks c.args.tree.now c.args.touches.now.items,
    )

pub note_edge-requires-clause-edge : goal.note_edge-requires-clause-edge
note_edge-requires-clause-edge c =
    (wire-inside c.args.tree.now c.args.capacity.now.shape c.loop-node.node c.in-Some.edge c.in-Some.ensures.tree c.requires.tree
    (omega (arith, c.loop-node-test.true, c.len-node-end.ensures.len)) c.in-Some.ensures.edge).0

pub returns-in_err-note_edge-clause-adds : goal.returns-in_err-note_edge-clause-adds
returns-in_err-note_edge-clause-adds c =
    notes-then c.args.capacity.now c.args.sought.now.window (demand_at c.args.loads.now) c.args.touches.now.items c.loop-node.touches.items c.note_edge.new.touches.items
    c.loop-node.invariant.0 c.in_err-note_edge.ensures.adds

pub loop-node-preserved : goal.loop-node-preserved
loop-node-preserved c =
    let lacks : Edge → _ = lacks_room c.args.capacity.now c.args.sought.now.formula c.args.sought.now.window (demand_at c.args.loads.now) c.args.sought.now.net c.args.beside in
    let t = c.args.tree.now in
    let node = c.loop-node.node in
    let cap = c.args.capacity.now in
    let w = c.args.sought.now.window in
    let demands : Edge → _ = demand_at c.args.loads.now in
    let first = c.args.touches.now.items in
    let old = c.loop-node.touches.items in
    let below : node < length t.nodes = omega (arith, c.loop-node-test.true, c.len-node-end.ensures.len) in
    elim c.match-wire_to_parent.branch [
      | in-Some+in_ok-note_edge b ↦
          let new = b.note_edge.new.touches.items in
          subst (λ (ts : List Touch). AddsTouches cap w demands first ts × AreNotedTo lacks t (node + 1) ts) (ap (λ v. v.items) (sym b.touches-is)) (
            notes-then cap w demands first old new c.loop-node.invariant.0 b.in_ok-note_edge.ensures.adds,
            noted-next cap w demands lacks t node old new b.in-Some.edge below b.in-Some.ensures.edge b.in_ok-note_edge.ensures.adds b.in_ok-note_edge.ensures.noted c.loop-node.invariant.1,
          )
      | in_default b ↦
          subst (λ (ts : List Touch). AddsTouches cap w demands first ts × AreNotedTo lacks t (node + 1) ts) (ap (λ v. v.items) (sym b.touches-is)) (
            c.loop-node.invariant.0,
            noted-over lacks t node old below b.in_default.ensures.edge c.loop-node.invariant.1,
          )
    ]

pub returns-clause-noted : goal.returns-clause-noted
returns-clause-noted c = λ e lack there.
    let lacks : Edge → _ = lacks_room c.args.capacity.now c.args.sought.now.formula c.args.sought.now.window (demand_at c.args.loads.now) c.args.sought.now.net c.args.beside in
    noted-all lacks c.args.tree.now c.loop-node.node c.loop-node.touches.items e
    (omega (arith, c.loop-node-test.false, c.loop-node.auto.node-end, c.len-node-end.ensures.len)) c.loop-node.invariant.1 lack there
    (lack-wire c.args.sought.now.formula c.args.capacity.now c.args.sought.now.window (demand_at c.args.loads.now) c.args.sought.now.net c.args.beside e lack)
