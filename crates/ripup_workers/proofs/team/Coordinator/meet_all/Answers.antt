use Rattle.std.proofs.Common.{◌<◌, length, arith}
use Rattle.std.proofs.lemmas.List.{length-map}
use Rattle.ripup_workers.proofs.MeetingSteps.{met-none, met-next, met-all, put-there, put-other, put-length, part-there}
use Rattle.ripup_workers.proofs.team.Coordinator.meet_all.Goals as goal

pub loop-at-init : goal.loop-at-init
loop-at-init g c = met-none _ _ _

pub loop-at-preserved : goal.loop-at-preserved
loop-at-preserved g c =
    let items = c.loop-at.workers.items in
    let met = c.meet.ensures in
    let below = c.loop-at-test.true in
    let len = c.len-at-end.ensures in
    let ok = c.args.workers.now.ok.0 in
    let same = c.loop-at.invariant.same_length in
    let old = length-map c.args.workers.now.items (λ w. w.pass) in
    let now = length-map items (λ w. w.pass) in
    let within : c.loop-at.at < length items = omega (arith, below, len, ok, same, old, now) in
    met-next g.N.BookName.capacity c.loop-at.at _ c.loop-at.self.pass c.meet.new.self.pass _ _ _ c.index_mut.result.now.pass c.meet.new.worker.pass c.loop-at.invariant
    (part-there (λ w. w.pass) items c.loop-at.at c.index_mut.result.now within c.index_mut.ensures.value) met.own met.other met.same
    (put-length (λ w. w.pass) items c.loop-at.at c.meet.new.worker) (put-there (λ w. w.pass) items c.loop-at.at c.meet.new.worker within)
    (λ other apart. put-other (λ w. w.pass) items c.loop-at.at other c.meet.new.worker apart)

pub returns : goal.returns
returns g c =
    let past = c.loop-at-test.false in
    let len = c.len-at-end.ensures in
    let ok = c.args.workers.now.ok.0 in
    let some = c.requires in
    let old = length-map c.args.workers.now.items (λ w. w.pass) in
    met-all g.N.BookName.capacity c.loop-at.at _ _ _ _ c.loop-at.invariant (omega (arith, past, len, ok, some)) (omega (arith, past, len, ok, old))
