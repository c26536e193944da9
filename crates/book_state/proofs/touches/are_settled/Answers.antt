use Rattle.std.proofs.Common.{◌+◌, ◌++◌, ◌∷◌, [], take, slice_index_or, sym, arith}
use Rattle.std.proofs.lemmas.List.{take_more, take_all}
use Rattle.std.proofs.lemmas.List.Elements.{All-push, All-same}
use Rattle.grid_demand.specs.LoadSums.{demand_at}
use Rattle.book_state.specs.Touches.{IsSettled}
use Rattle.book_state.specs.declared.touches.Touch.{Touch}
use Rattle.book_state.proofs.touches.are_settled.Goals as goal

pub loop-touch-preserved : goal.loop-touch-preserved
loop-touch-preserved c =
    let P : Touch → Type 0 = IsSettled c.args.capacity.now c.args.sought.now.formula c.args.sought.now.net c.args.sought.now.tree.now (demand_at c.args.loads.now) in
    let ts = c.args.touches.now in
    let at = c.loop-touch.touch-index in
    let here = slice_index_or ts at _ in
    All-same P (take (at + 1) ts) (take at ts ++ here ∷ []) (take_more ts at _ c.loop-touch-test.true)
    (All-push P (take at ts) here c.loop-touch.invariant (c.is_settled.ensures c.if-not-is_settled.false))

pub returns : goal.returns
returns c = λ always.
    let P : Touch → Type 0 = IsSettled c.args.capacity.now c.args.sought.now.formula c.args.sought.now.net c.args.sought.now.tree.now (demand_at c.args.loads.now) in
    All-same P c.args.touches.now (take c.loop-touch.touch-index c.args.touches.now)
    (sym (take_all c.loop-touch.touch-index c.args.touches.now (omega (arith, c.loop-touch-test.false)))) c.loop-touch.invariant
