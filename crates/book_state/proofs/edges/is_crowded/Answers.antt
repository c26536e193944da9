use Rattle.std.proofs.Common.{Bool, true, false, refl, sym, ◌∙◌, arith}
use Rattle.gr_base.specs.declared.grid.Edge.{Edge}
use Rattle.grid_demand.proofs.WireLemmas.{number-below}
use Rattle.book_state.specs.Crowds.{is_overfull}
use Rattle.book_state.proofs.EdgeSearch.{wire-inside, table-wires, table-says, any-over, any-fails, any-passes}
use Rattle.book_state.proofs.edges.is_crowded.Goals as goal

pub has-requires : goal.has-requires
has-requires c =
    let t = c.args.tree.now in
    let inside = wire-inside t t.shape c.loop-node.node c.in-Some.edge c.in-Some.ensures.tree refl
    (omega (arith, c.loop-node-test.true, c.len-node-end.ensures.len)) c.in-Some.ensures.edge in
    let below = number-below t.shape c.in-Some.edge inside.0 in
    let long = c.requires in
    omega (arith, below, long)

pub loop-node-preserved-in_default : goal.loop-node-preserved-in_default
loop-node-preserved-in_default c =
    let p : Edge → Bool = is_overfull c.args.over.now.table in
    sym (any-over p c.args.tree.now c.loop-node.node (table-wires c.args.over.now.table) (omega (arith, c.loop-node-test.true, c.len-node-end.ensures.len)) c.in_default.ensures.edge) ∙ c.loop-node.invariant

pub returns-then-has-clause-crowded : goal.returns-then-has-clause-crowded
returns-then-has-clause-crowded c =
    let t = c.args.tree.now in
    let p : Edge → Bool = is_overfull c.args.over.now.table in
    let inside = wire-inside t t.shape c.loop-node.node c.in-Some.edge c.in-Some.ensures.tree refl (omega (arith, c.loop-node-test.true, c.len-node-end.ensures.len)) c.in-Some.ensures.edge in
    sym (any-passes p t c.loop-node.node c.in-Some.edge (omega (arith, c.loop-node-test.true, c.len-node-end.ensures.len)) c.in-Some.ensures.edge
    (table-says c.args.over.now.table c.in-Some.edge true inside.1 (sym c.has.ensures ∙ c.if-has.true))) ∙ c.loop-node.invariant

pub loop-node-preserved : goal.loop-node-preserved
loop-node-preserved c =
    let t = c.args.tree.now in
    let p : Edge → Bool = is_overfull c.args.over.now.table in
    let inside = wire-inside t t.shape c.loop-node.node c.in-Some.edge c.in-Some.ensures.tree refl (omega (arith, c.loop-node-test.true, c.len-node-end.ensures.len)) c.in-Some.ensures.edge in
    sym (any-fails p t c.loop-node.node c.in-Some.edge (omega (arith, c.loop-node-test.true, c.len-node-end.ensures.len)) c.in-Some.ensures.edge
    (table-says c.args.over.now.table c.in-Some.edge false inside.1 (sym c.has.ensures ∙ c.if-has.false))) ∙ c.loop-node.invariant
