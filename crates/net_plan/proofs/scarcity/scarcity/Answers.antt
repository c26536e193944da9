use Rattle.std.proofs.Common.{◌+◌, ◌*◌, sym, ap, ◌∙◌, arith}
use Rattle.net_plan.specs.Sites.{halved}
use Rattle.net_plan.proofs.HalvingLemmas.{halved-end, halved-enough}
use Rattle.net_plan.proofs.scarcity.scarcity.Goals as goal

pub returns-clause-value : goal.returns-clause-value
returns-clause-value c =
    let need = c.args.need in
    let number = 4 * (c.from.result + 1) in
    let marks = c.from.ensures in
    let start = c.min-room.ensures in
    let after16 = c.by.ensures.room (omega (arith, start, c.requires.some)) in
    let after8 = c.by-2.ensures.room (omega (arith, after16)) in
    let after4 = c.by-3.ensures.room (omega (arith, after8)) in
    let after2 = c.by-few.ensures.room (omega (arith, after4)) in
    let after1 = c.by-4.ensures.room (omega (arith, after2)) in
    sym (halved-end c.by-4.result.number c.by-4.result.room need (omega (arith, after1)))
    ∙ c.by-4.ensures.same ∙ c.by-few.ensures.same ∙ c.by-3.ensures.same ∙ c.by-2.ensures.same ∙ c.by.ensures.same
    ∙ ap (λ r. halved number r need) start
    ∙ halved-enough number c.args.room need (omega (arith, c.requires.some)) (omega (arith, c.ranges.marks.fits, marks))
    ∙ ap (λ m. halved (4 * (m + 1)) c.args.room need) marks
