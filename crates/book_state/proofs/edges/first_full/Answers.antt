use Rattle.std.proofs.Common.{Bool, sym, ◌∙◌, arith}
use Rattle.grid_demand.specs.LoadSums.{demand_at}
use Rattle.gr_base.specs.Trees.{TreeView}
use Rattle.gr_base.specs.declared.grid.Edge.{Edge}
use Rattle.book_state.specs.Books.{is_full}
use Rattle.book_state.proofs.EdgeSearch.{wire-inside, full-wires, find-over, find-fails, find-passes}
use Rattle.book_state.proofs.edges.first_full.Goals as goal

pub is_full-requires-clause-edge : goal.is_full-requires-clause-edge
is_full-requires-clause-edge c =
    let t : TreeView = c.args.claim.now.tree in
    (wire-inside t c.args.capacity.now.shape c.loop-node.node c.in-Some.e c.in-Some.ensures.tree c.requires.tree
    (omega (arith, c.loop-node-test.true, c.len-node-end.ensures.len)) c.in-Some.ensures.edge).0

pub is_full-requires-clause-wire : goal.is_full-requires-clause-wire
is_full-requires-clause-wire c =
    let t : TreeView = c.args.claim.now.tree in
    (wire-inside t c.args.capacity.now.shape c.loop-node.node c.in-Some.e c.in-Some.ensures.tree c.requires.tree
    (omega (arith, c.loop-node-test.true, c.len-node-end.ensures.len)) c.in-Some.ensures.edge).1

pub returns-then-is_full-clause-edge : goal.returns-then-is_full-clause-edge
returns-then-is_full-clause-edge c =
    let t : TreeView = c.args.claim.now.tree in
    (wire-inside t c.args.capacity.now.shape c.loop-node.node c.in-Some.e c.in-Some.ensures.tree c.requires.tree
    (omega (arith, c.loop-node-test.true, c.len-node-end.ensures.len)) c.in-Some.ensures.edge).0

pub loop-node-preserved-in_default : goal.loop-node-preserved-in_default
loop-node-preserved-in_default c =
    let t = c.args.claim.now.tree in
    let p : Edge → Bool = is_full c.args.capacity.now (demand_at c.args.loads.now) c.args.claim.now.net c.args.slack in
    let wires = full-wires c.args.capacity.now (demand_at c.args.loads.now) c.args.claim.now.net c.args.slack in
    sym (find-over p t c.loop-node.node wires (omega (arith, c.loop-node-test.true, c.len-node-end.ensures.len)) c.in_default.ensures.edge) ∙ c.loop-node.invariant

pub returns-then-is_full-clause-first : goal.returns-then-is_full-clause-first
returns-then-is_full-clause-first c =
    let t = c.args.claim.now.tree in
    let p : Edge → Bool = is_full c.args.capacity.now (demand_at c.args.loads.now) c.args.claim.now.net c.args.slack in
    sym (find-passes p t c.loop-node.node c.in-Some.e (omega (arith, c.loop-node-test.true, c.len-node-end.ensures.len)) c.in-Some.ensures.edge (sym c.is_full.ensures ∙ c.if-is_full.true)) ∙ c.loop-node.invariant

pub loop-node-preserved : goal.loop-node-preserved
loop-node-preserved c =
    let t = c.args.claim.now.tree in
    let p : Edge → Bool = is_full c.args.capacity.now (demand_at c.args.loads.now) c.args.claim.now.net c.args.slack in
    sym (find-fails p t c.loop-node.node c.in-Some.e (omega (arith, c.loop-node-test.true, c.len-node-end.ensures.len)) c.in-Some.ensures.edge (sym c.is_full.ensures ∙ c.if-is_full.false)) ∙ c.loop-node.invariant
