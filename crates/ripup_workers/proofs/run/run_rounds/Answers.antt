use Rattle.std.proofs.Common.{ℕ, ◌≤◌, List, All, IsTrue, None, map, sym, subst, ◌∙◌, arith}
use Rattle.gr_base.specs.Designs.{is_routed}
use Rattle.ripup_workers.specs.Rounding.{setting_of, AreBefore}
use Rattle.ripup_workers.proofs.JoiningEnds.{round-goes_on, round-stops, filter-passed}
use Rattle.ripup_workers.proofs.JoiningGiven.{open-routed}
use Rattle.ripup_workers.proofs.TurningStages.{later}
use Rattle.ripup_workers.proofs.run.run_rounds.Goals as goal

pub loop-round-init : goal.loop-round-init
loop-round-init g c =
    let t = setting_of c.args.asked.now in
    record {
      before = λ few.
          subst (λ (nets : List ℕ). AreBefore t 0 nets None c.begin_given.new.coordinator.pass (map (λ w. w.pass) c.begin_given.new.workers.items)) (sym c.in_ok-nets.ensures.nets)
          c.in_ok-begin_given.ensures;
      over = λ past. absurd (omega (arith, past));
      routed = subst (All (λ (net : ℕ). IsTrue (is_routed t.design net))) (sym c.in_ok-nets.ensures.nets) (open-routed t.design t.given);
    }

pub loop-round-preserved : goal.loop-round-preserved
loop-round-preserved g c =
    let t = setting_of c.args.asked.now in
    let round = c.loop-round.round in
    let nets = c.in_ok-end.end.nets in
    let over = c.in_ok-end.ensures in
    let below = c.loop-round-test.true in
    let few : round ≤ c.args.asked.now.rounds = omega (arith, below) in
    let ok = nets.ok.0 in
    let long = c.len.ensures in
    let due = c.due_after-due.ensures in
    let some = later c.due_after-due.result c.if-due-eq0.false in
    let on =
    round-goes_on t round _ c.loop-round.before _ nets.items _ _ _ _ over (c.loop-round.invariant.before few) c.len.result (omega (arith, ok, long)) (omega (arith, some, due)) few in
    record {
      before = λ more. on.1;
      over = λ past. (let more = on.0 in absurd (omega (arith, past, more)));
      routed = subst (All (λ (net : ℕ). IsTrue (is_routed t.design net))) (sym over.kept_are) (filter-passed (is_routed t.design) over.victims);
    }

pub returns-then-due-eq0 : goal.returns-then-due-eq0
returns-then-due-eq0 g c =
    let t = setting_of c.args.asked.now in
    let round = c.loop-round.round in
    let nets = c.in_ok-end.end.nets in
    let below = c.loop-round-test.true in
    let few : round ≤ c.args.asked.now.rounds = omega (arith, below) in
    let ok = nets.ok.0 in
    let long = c.len.ensures in
    round-stops t round _ c.loop-round.before _ nets.items _ _ _ _ c.in_ok-end.ensures (c.loop-round.invariant.before few) c.len.result (omega (arith, ok, long))
    (sym c.due_after-due.ensures ∙ c.if-due-eq0.true)
