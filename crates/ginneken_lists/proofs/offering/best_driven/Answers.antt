use Rattle.std.proofs.Common.{◌≡◌, ℕ, ◌-◌, ◌*◌, ℤ, false, length, drop, Option, sym, ap, subst, ◌∙◌, arith}
use Rattle.std.proofs.lemmas.Bool.{not-true, not-false}
use Rattle.std.proofs.lemmas.List.{length-map}
use Rattle.elmore_delay.specs.FromLeaves.{less}
use Rattle.ginneken_lists.specs.Candidates.{no_later, driven_time}
use Rattle.ginneken_lists.specs.StoredPairs.{pair_of, time_of}
use Rattle.ginneken_lists.proofs.StoredLemmas.{sight, stored-rising, in-range}
use Rattle.ginneken_lists.proofs.Driving.{Leads, no_later-as, leads-last, leads-stays, leads-new, leads-ends, leads-driven}
use Rattle.ginneken_lists.proofs.offering.best_driven.Goals as goal

pub driving_delay-least-requires : goal.driving_delay-least-requires
driving_delay-least-requires g c =
    let some = c.requires.list.some in
    let long = length-map c.args.pairs.now pair_of in
    (in-range c.args.pairs.now 0 c.read.result c.requires.range (omega arith) c.read.ensures.pair).load

pub driven_time-most-requires : goal.driven_time-most-requires
driven_time-most-requires g c =
    let some = c.requires.list.some in
    let long = length-map c.args.pairs.now pair_of in
    in-range c.args.pairs.now (length c.args.pairs.now - 1) c.read-best.result c.requires.range (omega arith) c.read-best.ensures.pair

pub less-requires-clause-time : goal.less-requires-clause-time
less-requires-clause-time g c =
    let least = c.loop-at.auto.at in
    let more = c.loop-at-test.true in
    (in-range c.args.pairs.now (c.loop-at.at - 1) c.read-pair.result c.requires.range (omega arith) c.read-pair.ensures.pair).time

pub driven_time-time-requires : goal.driven_time-time-requires
driven_time-time-requires g c =
    let least = c.loop-at.auto.at in
    let more = c.loop-at-test.true in
    in-range c.args.pairs.now (c.loop-at.at - 1) c.read-pair.result c.requires.range (omega arith) c.read-pair.ensures.pair

pub loop-at-init : goal.loop-at-init
loop-at-init g c =
    let some = c.requires.list.some in
    let long = length-map c.args.pairs.now pair_of in
    record {
      leads = leads-last c.args.r c.args.pairs.now c.read-best.result (length c.args.pairs.now - 1) (omega arith) c.read-best.ensures.pair;
      latest = c.driven_time-most.ensures;
      steps = omega (arith, c.read.ensures.steps, c.read-best.ensures.steps);
      within = omega arith;
    }

pub returns-then-is_later : goal.returns-then-is_later
returns-then-is_later g c =
    let items = c.args.pairs.now in
    let r = c.args.r in
    let best = c.loop-at.best in
    let some = c.requires.list.some in
    let long = length-map items pair_of in
    let at : ℕ = c.loop-at.at - 1 in
    let least = c.loop-at.auto.at in
    let more = c.loop-at-test.true in
    let bound : Option ℤ = less (2 * r * c.read.result.load) (sight c.read-pair.result).time in
    let worse : no_later (driven_time r (sight best)) bound ≡ false =
    ap (λ (t : Option ℤ). no_later t bound) (sym c.loop-at.invariant.latest)
    ∙ ap (λ (n : ℕ). no_later (time_of c.loop-at.most) (less n (sight c.read-pair.result).time)) (sym c.driving_delay-least.ensures.delay)
    ∙ ap (no_later (time_of c.loop-at.most)) (sym c.less.ensures)
    ∙ not-true (no_later (time_of c.loop-at.most) (time_of c.less.result)) (sym c.is_later.ensures ∙ c.if-is_later.true) in
    let leads : Leads sight r items best =
    leads-ends r items c.read-pair.result c.read.result best at c.loop-at.at (stored-rising items c.requires.list.rising) c.loop-at.invariant.leads (omega arith) (omega arith)
    c.read-pair.ensures.pair c.read.ensures.pair worse in
    record {
      best = λ trail. leads-driven r items best trail c.requires.list.rising leads;
      one = leads.one;
      steps = omega (arith, c.read-pair.ensures.steps, c.loop-at.invariant.steps);
      counted = omega (arith, c.read-pair.ensures.steps, c.loop-at.invariant.steps, c.loop-at.invariant.within);
    }

pub loop-at-preserved-then-is_later-2 : goal.loop-at-preserved-then-is_later-2
loop-at-preserved-then-is_later-2 g c =
    let at : ℕ = c.loop-at.at - 1 in
    let least = c.loop-at.auto.at in
    let more = c.loop-at-test.true in
    let later = no_later-as c.loop-at.invariant.latest c.driven_time-time.ensures
    (not-true (no_later (time_of c.loop-at.most) (time_of c.driven_time-time.result)) (sym c.is_later-in-loop-at.ensures ∙ c.if-is_later-2.true)) in
    record {
      leads = leads-stays c.args.r c.args.pairs.now c.loop-at.best c.read-pair.result at c.loop-at.at c.loop-at.invariant.leads (omega arith) (omega arith)
          c.read-pair.ensures.pair later;
      latest = c.loop-at.invariant.latest;
      steps = omega (arith, c.read-pair.ensures.steps, c.loop-at.invariant.steps);
      within = let within = c.loop-at.invariant.within in omega arith;
    }

pub loop-at-preserved : goal.loop-at-preserved
loop-at-preserved g c =
    let at : ℕ = c.loop-at.at - 1 in
    let least = c.loop-at.auto.at in
    let more = c.loop-at-test.true in
    let early = no_later-as c.loop-at.invariant.latest c.driven_time-time.ensures
    (not-false (no_later (time_of c.loop-at.most) (time_of c.driven_time-time.result)) (sym c.is_later-in-loop-at.ensures ∙ c.if-is_later-2.false)) in
    record {
      leads = leads-new c.args.r c.args.pairs.now c.loop-at.best c.read-pair.result at c.loop-at.at (stored-rising c.args.pairs.now c.requires.list.rising)
          c.loop-at.invariant.leads (omega arith) (omega arith) c.read-pair.ensures.pair early;
      latest = c.driven_time-time.ensures;
      steps = omega (arith, c.read-pair.ensures.steps, c.loop-at.invariant.steps);
      within = let within = c.loop-at.invariant.within in omega arith;
    }

pub returns : goal.returns
returns g c =
    let items = c.args.pairs.now in
    let none : c.loop-at.at ≡ 0 = omega (arith, c.loop-at-test.false) in
    let leads : Leads sight c.args.r items c.loop-at.best =
    subst (λ (k : ℕ). Leads sight c.args.r (drop k items) c.loop-at.best) none c.loop-at.invariant.leads in
    record {
      best = λ trail. leads-driven c.args.r items c.loop-at.best trail c.requires.list.rising leads;
      one = leads.one;
      steps = omega (arith, c.loop-at.invariant.steps);
      counted = omega (arith, c.loop-at.invariant.steps, none);
    }
