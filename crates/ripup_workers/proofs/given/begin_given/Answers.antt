use Rattle.std.proofs.Common.{◌<◌, length, map, set, subst, arith}
use Rattle.std.proofs.lemmas.List.{length-map}
use Rattle.grid_demand.specs.Tables.{CapacityView}
use Rattle.ripup_workers.specs.Meetings.{HaveMetBehind}
use Rattle.ripup_workers.specs.Rounding.{setting_of}
use Rattle.ripup_workers.proofs.JoiningGiven.{given-begun}
use Rattle.ripup_workers.proofs.MeetingSteps.{put-there, put-other, put-length, part-there}
use Rattle.ripup_workers.proofs.given.begin_given.Goals as goal

pub claim_given-requires-clause-new : goal.claim_given-requires-clause-new
claim_given-requires-clause-new g c =
    let ws = c.args.workers.now.items in
    let long = length-map ws (λ w. w.pass) in
    let count = c.requires.new.count in
    let some = c.args.asked.now.some in
    let any : 0 < length ws = omega (arith, long, count, some) in
    c.requires.new.each 0 c.index_mut.result.now.pass (part-there (λ w. w.pass) ws 0 c.index_mut.result.now any c.index_mut.ensures.value)

pub returns : goal.returns
returns g c =
    let ws = c.args.workers.now.items in
    let long = length-map ws (λ w. w.pass) in
    let count = c.requires.new.count in
    let some = c.args.asked.now.some in
    let any : 0 < length ws = omega (arith, long, count, some) in
    given-begun (setting_of c.args.asked.now) c.args.coordinator.now.pass c.meet_behind_first.new.self.pass (map (λ w. w.pass) ws) _ _ c.claim_given.new.worker.pass c.requires.new
    (omega (arith, any, long)) c.in_ok-claim_given.ensures (put-length (λ w. w.pass) ws 0 c.claim_given.new.worker) (put-there (λ w. w.pass) ws 0 c.claim_given.new.worker any)
    (λ at apart. put-other (λ w. w.pass) ws 0 at c.claim_given.new.worker apart)
    (subst (λ (k : CapacityView). HaveMetBehind k c.args.coordinator.now.pass c.meet_behind_first.new.self.pass (map (λ w. w.pass) (set ws 0 c.claim_given.new.worker))
    (map (λ w. w.pass) c.meet_behind_first.new.workers.items)) c.requires.capacity c.meet_behind_first.ensures)
