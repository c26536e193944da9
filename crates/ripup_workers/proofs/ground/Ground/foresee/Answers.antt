use Rattle.std.proofs.Common.{[], sym, subst}
use Rattle.run_histories.specs.Attempts.{Rests}
use Rattle.track_book.specs.Passes.{PassView}
use Rattle.ripup_workers.specs.Working.{HasLed}
use Rattle.ripup_workers.proofs.TurningStages.{followed, followed-led, led-followed}
use Rattle.ripup_workers.proofs.ground.Ground.foresee.Goals as goal

pub loop-init : goal.loop-init
loop-init g c = record {
  held = c.in_ok-sync.ensures.held;
  stands = c.in_ok-sync.ensures.stands;
  led = λ t round over. followed-led t round Rests _ _
      (followed t _ _ _ _ _ over c.requires.capacity_is c.in_ok-sync.ensures.learnt c.in_ok-sync.ensures.before c.in_ok-sync.ensures.pass);
}

pub returns-in_default-clause-led : goal.returns-in_default-clause-led
returns-in_default-clause-led g c = λ t round over.
    subst (λ (p : PassView). HasLed t round Rests Rests [] c.args.worker.now.pass p) (sym c.in_ok-plan.ensures.pass) (c.loop.invariant.led t round over)

pub loop-preserved-in_default-2 : goal.loop-preserved-in_default-2
loop-preserved-in_default-2 g c = record {
  held = c.in_ok-plan-2.ensures.held;
  stands = c.in_ok-plan-2.ensures.stands;
  led = λ t round over.
      let o = c.args.worker.now.pass in
      let planned = subst (λ (p : PassView). HasLed t round Rests Rests [] o p) (sym c.in_ok-plan.ensures.pass) (c.loop.invariant.led t round over) in
      led-followed t round o _ _ planned (c.in_ok-plan-2.ensures.learnt t over);
}

pub returns-in-Some-3-clause-led : goal.returns-in-Some-3-clause-led
returns-in-Some-3-clause-led g c = λ t round over.
    let o = c.args.worker.now.pass in
    let planned = subst (λ (p : PassView). HasLed t round Rests Rests [] o p) (sym c.in_ok-plan.ensures.pass) (c.loop.invariant.led t round over) in
    led-followed t round o _ _ (led-followed t round o _ _ planned (c.in_ok-plan-2.ensures.learnt t over)) (c.in_ok-plan-3.ensures.learnt t over)

pub loop-preserved : goal.loop-preserved
loop-preserved g c = record {
  held = c.in_ok-plan-3.ensures.held;
  stands = c.in_ok-plan-3.ensures.stands;
  led = λ t round over.
      let o = c.args.worker.now.pass in
      let planned = subst (λ (p : PassView). HasLed t round Rests Rests [] o p) (sym c.in_ok-plan.ensures.pass) (c.loop.invariant.led t round over) in
      led-followed t round o _ _ (led-followed t round o _ _ planned (c.in_ok-plan-2.ensures.learnt t over)) (c.in_ok-plan-3.ensures.learnt t over);
}
