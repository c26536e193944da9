use Rattle.std.proofs.Common.{ℕ, ◌+◌, false, List, [], ◌∷◌, length, replicate, set, sym, ap, subst, ◌∙◌, arith}
use Rattle.std.proofs.lemmas.Grind.{get_or_default_zero}
use Rattle.std.proofs.lemmas.List.{get_or_default}
use Rattle.gr_base.specs.Trees.{TreeView, cell_at, node_of}
use Rattle.gr_base.specs.declared.grid.Shape.{Shape}
use Rattle.kept_routes.specs.Cuts.{IsCutTo}
use Rattle.kept_routes.proofs.CutLemmas.{IsCutBefore, cut-first, cut-next, cut-all, parent-there, walk-to}
use Rattle.kept_routes.proofs.cut.cut_to_marked.Goals as goal

pub loop-node-init : goal.loop-node-init
loop-node-init c =
    cut-first c.args.tree.now c.args.wanted.now c.cell.result c.in_ok-numbers.numbers.items c.in_ok-cut.cut c.shape.ensures.tree c.cell.ensures.cell
    (c.in_ok-numbers.ensures.items_if_clones_equal (λ y e. e) ∙ ap (λ (n : ℕ). replicate n 0) c.len-2.ensures.len)
    (c.in_ok-cut.ensures.tree ∙ ap (λ (g : Shape). record { shape = g; nodes = node_of c.cell.result 0 ∷ [] }) c.shape.ensures.shape)

pub hang-requires-clause-walk : goal.hang-requires-clause-walk
hang-requires-clause-walk c =
    walk-to c.args.tree.now c.args.wanted.now c.loop-node.node c.parent-parent.result c.cell-in-loop-node.result c.cell-in-loop-node-2.result
    c.loop-node.numbers.items c.loop-node.cut c.shape.ensures.tree c.requires.long c.requires.closed
    c.loop-node.auto.node
    (get_or_default c.args.wanted.now c.loop-node.node false _ (omega (arith, c.requires.long, c.loop-node-test.true, c.len-node-end.ensures.len)) ∙ c.if-not-wanted-node.false)
    c.parent-parent.ensures.parent (c.parent-parent.ensures.earlier c.loop-node.auto.node) c.cell-in-loop-node.ensures.cell c.cell-in-loop-node-2.ensures.cell
    c.loop-node.invariant

pub hang-requires-clause-parent : goal.hang-requires-clause-parent
hang-requires-clause-parent c =
    let numbers : List ℕ = c.loop-node.numbers.items in
    let parent : ℕ = c.parent-parent.result in
    let less = c.parent-parent.ensures.earlier c.loop-node.auto.node in
    ap (cell_at c.loop-node.cut.nodes)
    (c.index.ensures ∙ get_or_default_zero numbers parent _ (omega (arith, less, c.loop-node.invariant.long, c.loop-node-test.true, c.len-node-end.ensures.len)))
    ∙ parent-there c.args.tree.now c.args.wanted.now c.loop-node.node parent c.cell-in-loop-node.result c.cell-in-loop-node-2.result
    numbers c.loop-node.cut c.shape.ensures.tree c.requires.long c.requires.closed c.loop-node.auto.node
    (get_or_default c.args.wanted.now c.loop-node.node false _ (omega (arith, c.requires.long, c.loop-node-test.true, c.len-node-end.ensures.len)) ∙ c.if-not-wanted-node.false)
    c.parent-parent.ensures.parent less c.cell-in-loop-node.ensures.cell c.cell-in-loop-node-2.ensures.cell c.loop-node.invariant

pub loop-node-preserved : goal.loop-node-preserved
loop-node-preserved c =
    let now : TreeView = c.loop-node.cut in
    let numbers : List ℕ = c.loop-node.numbers.items in
    let at : ℕ = c.loop-node.node in
    let next = cut-next c.args.tree.now c.args.wanted.now at c.parent-parent.result c.cell-in-loop-node.result c.cell-in-loop-node-2.result
    numbers now c.shape.ensures.tree c.requires.long c.requires.closed c.loop-node.auto.node
    (get_or_default c.args.wanted.now at false _ (omega (arith, c.requires.long, c.loop-node-test.true, c.len-node-end.ensures.len)) ∙ c.if-not-wanted-node.false)
    c.parent-parent.ensures.parent (c.parent-parent.ensures.earlier c.loop-node.auto.node) c.cell-in-loop-node.ensures.cell c.cell-in-loop-node-2.ensures.cell
    c.loop-node.invariant in
    subst (λ (n : ℕ). IsCutBefore c.args.tree.now c.args.wanted.now (at + 1) (set numbers at n) c.hang.new.self) (sym c.len-number.ensures.len)
    (subst (λ (t : TreeView). IsCutBefore c.args.tree.now c.args.wanted.now (at + 1) (set numbers at (length now.nodes)) t) (sym c.in_ok-hang.ensures.ok) next)

pub returns : goal.returns
returns c =
    subst (λ (t : TreeView). IsCutTo c.args.tree.now c.args.wanted.now t) (sym c.trim.ensures.same)
    (cut-all c.args.tree.now c.args.wanted.now c.loop-node.node c.loop-node.numbers.items c.loop-node.cut
    (omega (arith, c.loop-node-test.false, c.len-node-end.ensures.len)) c.loop-node.invariant)
