use Rattle.std.proofs.Common.{length-set, ◌∙◌, arith}
use Rattle.work_share.proofs.HandLists.{hand-of, set-are}
use Rattle.share_rows.proofs.rows.takes.Goals as goal

pub take-requires : goal.take-requires
take-requires g c =
    let long = c.loop.invariant.1 in
    let less = c.requires.hand in
    hand-of c.args.share.now c.loop.hands.items c.args.hand c.index_mut.result.now c.loop.invariant.0 (omega (arith, long, less)) c.index_mut.ensures.value

pub returns-in_err-take : goal.returns-in_err-take
returns-in_err-take g c =
    let long = c.loop.invariant.1 in
    let less = c.requires.hand in
    set-are c.args.share.now c.loop.hands.items c.args.hand c.index_mut.result.now c.take.new.hand c.loop.invariant.0 (omega (arith, long, less)) c.index_mut.ensures.value c.in_err-take.ensures.number c.in_err-take.ensures.of

pub loop-preserved : goal.loop-preserved
loop-preserved g c =
    let long = c.loop.invariant.1 in
    let less = c.requires.hand in (
      set-are c.args.share.now c.loop.hands.items c.args.hand c.index_mut.result.now c.take.new.hand c.loop.invariant.0 (omega (arith, long, less)) c.index_mut.ensures.value c.in_ok-take.ensures.number c.in_ok-take.ensures.of,
      length-set c.loop.hands.items c.args.hand c.take.new.hand ∙ long,
    )
