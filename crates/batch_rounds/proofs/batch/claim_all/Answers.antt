use Rattle.std.proofs.Common.{ℕ, IsTrue, get_or, ◌∙◌, arith}
use Rattle.std.proofs.lemmas.List.Elements.{All-get_or}
use Rattle.std.proofs.lemmas.Option.{slice_get-get_or}
use Rattle.gr_base.specs.Designs.{is_routed}
use Rattle.grid_demand.specs.Tables.{capacity_of}
use Rattle.batch_rounds.specs.Rounds.{batching_of}
use Rattle.batch_rounds.proofs.HeldNets.{turn-longer}
use Rattle.batch_rounds.proofs.KeptPlans.{grows-both, turn-grows}
use Rattle.batch_rounds.proofs.RoundSteps.{turns-more, turns-all}
use Rattle.batch_rounds.proofs.SeatSteps.{held-plan, plan-known, plans-left}
use Rattle.batch_rounds.proofs.batch.claim_all.Goals as goal

pub take_plan-plan-requires-clause-there : goal.take_plan-plan-requires-clause-there
take_plan-plan-requires-clause-there g c =
    let nets = c.args.batch.now.nets.now in
    let place = c.loop-place.place in
    held-plan c.args.batch.now.asked.now.design.now c.args.batch.now.asked.now.rule.now.formula c.args.batch.now.round c.args.book.now.history nets place place (get_or nets place 0) c.loop-place.seats c.loop-place.invariant.plans (omega arith)
    (slice_get-get_or nets place 0 c.loop-place-test.true)

pub claim_net-requires-clause-shape : goal.claim_net-requires-clause-shape
claim_net-requires-clause-shape g c =
    let d = c.args.batch.now.asked.now.design.now in
    let nets = c.args.batch.now.nets.now in
    let place = c.loop-place.place in
    (plan-known d c.args.batch.now.asked.now.rule.now.formula c.args.batch.now.round c.args.book.now.history nets place place (get_or nets place 0) c.loop-place.seats c.take_plan-plan.result c.loop-place.invariant.plans (omega arith)
    (slice_get-get_or nets place 0 c.loop-place-test.true) (All-get_or (λ (n : ℕ). IsTrue (is_routed d n)) nets place 0 c.loop-place-test.true c.args.batch.now.routed) c.take_plan-plan.ensures.plan).shape

pub claim_net-requires-clause-planned : goal.claim_net-requires-clause-planned
claim_net-requires-clause-planned g c =
    let d = c.args.batch.now.asked.now.design.now in
    let nets = c.args.batch.now.nets.now in
    let place = c.loop-place.place in
    record {
      first = c.args.book.now.history;
      noted = (plan-known d c.args.batch.now.asked.now.rule.now.formula c.args.batch.now.round c.args.book.now.history nets place place (get_or nets place 0) c.loop-place.seats c.take_plan-plan.result c.loop-place.invariant.plans (omega arith)
          (slice_get-get_or nets place 0 c.loop-place-test.true) (All-get_or (λ (n : ℕ). IsTrue (is_routed d n)) nets place 0 c.loop-place-test.true c.args.batch.now.routed) c.take_plan-plan.ensures.plan).noted;
      grows = c.loop-place.invariant.grows;
    }

pub loop-place-preserved : goal.loop-place-preserved
loop-place-preserved g c =
    let d = c.args.batch.now.asked.now.design.now in
    let formula = c.args.batch.now.asked.now.rule.now.formula in
    let nets = c.args.batch.now.nets.now in
    let place = c.loop-place.place in
    let net = get_or nets place 0 in
    let start = c.args.book.now.history in
    let inv = c.loop-place.invariant in
    let routed = All-get_or (λ (n : ℕ). IsTrue (is_routed d n)) nets place 0 c.loop-place-test.true c.args.batch.now.routed in
    let known = plan-known d formula c.args.batch.now.round start nets place place net c.loop-place.seats c.take_plan-plan.result inv.plans (omega arith)
    (slice_get-get_or nets place 0 c.loop-place-test.true) routed c.take_plan-plan.ensures.plan in
    let turn = c.in_ok-claim_net.ensures.turn start inv.front known.noted.plan in
    let t = batching_of c.args.batch.now.asked.now in
    record {
      capacity = c.in_ok-claim_net.ensures.capacity;
      front = inv.front;
      longer =
          let before = inv.longer in
          let more = turn-longer t c.args.batch.now.round net start c.loop-place.book.history c.claim_net.new.book.history routed turn in
          omega (arith, before, more);
      grows = grows-both (capacity_of d) start c.loop-place.book.history c.claim_net.new.book.history inv.grows
          (turn-grows t c.args.batch.now.round net start c.loop-place.book.history c.claim_net.new.book.history turn);
      count = c.take_plan-plan.ensures.count ∙ inv.count;
      plans = plans-left d formula c.args.batch.now.round start nets place c.loop-place.seats c.take_plan-plan.new.seats inv.plans c.take_plan-plan.ensures.others;
      turns = turns-more t c.args.batch.now.round start start nets place 0 c.loop-place.book.history c.claim_net.new.book.history c.loop-place-test.true turn inv.turns;
    }

pub returns-clause-turns : goal.returns-clause-turns
returns-clause-turns g c =
    turns-all (batching_of c.args.batch.now.asked.now) c.args.batch.now.round c.args.book.now.history c.args.book.now.history c.args.batch.now.nets.now c.loop-place.place c.loop-place.book.history c.loop-place-test.false
    c.loop-place.invariant.turns
