use Rattle.std.proofs.Common.{◌≡◌, ℕ, List, ◌++◌, Option, None, IsTrue, refl, sym, ap, subst, ◌∙◌, append-nil, arith}
use Rattle.std.specs.Option.{option_to_list}
use Rattle.gr_base.specs.Designs.{is_routed}
use Rattle.work_share.specs.Views.{HandView}
use Rattle.ripup_workers.specs.Turning.{HasWorked}
use Rattle.ripup_workers.proofs.TurningShares.{all-of, worked-nothing, worked-more, worked-longer}
use Rattle.ripup_workers.proofs.work.work.Goals.{in-None, in-Some+in_default}
use Rattle.ripup_workers.proofs.work.work.Goals as goal

pub loop-init : goal.loop-init
loop-init g c = record {
  hand = c.requires.hand;
  number = refl;
  worked = λ t over. worked-nothing t _ _ _ _ _ _ over c.requires.capacity c.known-known.ensures.pass.legal;
}

pub attempt-requires-clause-net : goal.attempt-requires-clause-net
attempt-requires-clause-net g c κs within = all-of (λ net. IsTrue (is_routed c.args.task.now.design.now net)) c.args.share.now.nets c.in-Some-take.net c.requires.nets c.in-Some-take.ensures.among

pub loop-preserved : goal.loop-preserved
loop-preserved g c = record {
  hand = c.in-Some-take.ensures.hand;
  number = c.in-Some-take.ensures.number ∙ c.loop.invariant.number;
  worked = λ t over. worked-more t c.args.round c.in-Some-take.net _ _ _ _ _ _ (c.loop.invariant.worked t over) c.in-Some-take.ensures.taken (c.in_ok-attempt.ensures t over);
}

pub prove-unreachable-requires : goal.prove-unreachable-requires
prove-unreachable-requires g c =
    let before = c.known-known.ensures.known in
    let after = c.known.ensures.known in
    let less = c.if-prove.true in
    let longer = worked-longer c.args.task.now.design.now c.args.task.now.rule.now.formula c.args.round _ _ _ _ c.loop.invariant.worked in
    omega (arith, before, after, less, longer)

-- what a hand has taken stays where it takes nothing
same-taken : (now taken before : List ℕ) (net : Option ℕ) → now ≡ taken → taken ≡ before ++ option_to_list net → net ≡ None → now ≡ before
same-taken now taken before net is took none =
    is ∙ took ∙ ap (λ (n : Option ℕ). before ++ option_to_list n) none ∙ append-nil before

pub returns-clause-worked : goal.returns-clause-worked
returns-clause-worked g c = λ t over.
    let before = c.loop.hand.taken in
    let Worked : List ℕ → Type 0 = λ taken. HasWorked t c.args.round c.args.hand.now.taken taken c.args.worker.now.pass c.loop.worker.pass in
    let worked : Worked before = c.loop.invariant.worked t over in
    elim c.match-next.branch [
      | in-None w ↦ subst Worked (sym (ap (λ (h : HandView). h.taken) w.hand-is)) worked
      | in-Some+in_default w ↦
          subst Worked (sym (same-taken c.match-next.hand.taken w.take.new.hand.taken before w.take.result (ap (λ (h : HandView). h.taken) w.hand-is) w.take.ensures.taken w.in_default.is))
          worked
    ]
