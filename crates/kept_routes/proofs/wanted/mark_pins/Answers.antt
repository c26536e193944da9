use Rattle.std.proofs.Common.{ℕ, List, get_or, sym, ◌∙◌, arith}
use Rattle.std.proofs.lemmas.Grind.{get_or_default_zero}
use Rattle.gr_base.proofs.TreeLemmas.{cell_at-within, node_with-at}
use Rattle.kept_routes.proofs.MarkLemmas.{marked-first, marked-all, marked-next, marked-skip}
use Rattle.kept_routes.proofs.wanted.mark_pins.Goals as goal

pub loop-pin-init : goal.loop-pin-init
loop-pin-init c = marked-first c.args.tree.now c.args.pins.now c.args.wanted.now.items c.requires.none

pub index_mut-requires : goal.index_mut-requires
index_mut-requires c =
    let within = cell_at-within c.args.tree.now.nodes c.in-Some.node _ (node_with-at c.args.tree.now.nodes _ c.in-Some.node (sym c.in-Some.ensures.node)) in
    omega (arith, within, c.loop-pin.invariant.long, c.loop-pin.wanted.ok.0)

pub loop-pin-preserved : goal.loop-pin-preserved
loop-pin-preserved c =
    let pins : List ℕ = c.args.pins.now in
    let at : ℕ = c.loop-pin.pin-index in
    let within = cell_at-within c.args.tree.now.nodes c.in-Some.node _ (node_with-at c.args.tree.now.nodes _ c.in-Some.node (sym c.in-Some.ensures.node)) in
    marked-next c.args.tree.now pins at (get_or pins at 0) c.loop-pin.wanted.items c.loop-pin-test.true
    (get_or_default_zero pins at (get_or pins at 0) c.loop-pin-test.true) c.loop-pin.invariant
    c.in-Some.node (sym c.in-Some.ensures.node) (omega (arith, within, c.loop-pin.invariant.long))

pub loop-pin-preserved-in_default : goal.loop-pin-preserved-in_default
loop-pin-preserved-in_default c =
    let pins : List ℕ = c.args.pins.now in
    let at : ℕ = c.loop-pin.pin-index in
    marked-skip c.args.tree.now pins at (get_or pins at 0) c.loop-pin.wanted.items c.loop-pin-test.true
    (get_or_default_zero pins at (get_or pins at 0) c.loop-pin-test.true) c.loop-pin.invariant (sym c.node_at.ensures.node ∙ c.in_default.is)

pub returns : goal.returns
returns c =
    marked-all c.args.tree.now c.args.pins.now c.loop-pin.pin-index c.loop-pin.wanted.items (omega (arith, c.loop-pin-test.false)) c.loop-pin.invariant
