use Rattle.std.proofs.Common.{◌≡◌, ℕ, ◌+◌, ◌<◌, ◌≤◌, List, length, get_or, set, take, Vec, Global, All, sym, ap, subst, ◌∙◌, arith}
use Rattle.std.proofs.lemmas.List.{length-map, length-take-le, get_or-set_same}
use Rattle.ginneken_lists.specs.StoredPairs.{pair_of}
use Rattle.ginneken_lists.specs.declared.stored.Stored.{Stored}
use Rattle.ginneken_lists.proofs.StoredLemmas.{all_of, in-range}
use Rattle.ginneken_lists.proofs.WiringLemmas.{read-old, wired-first, wired-later, wired-earlier, wired-all, last-later, last-stays, AreWired}
use Rattle.ginneken_lists.proofs.wiring.wire.Goals as goal
use Rattle.ginneken_lists.proofs.wiring.wire.Goals.{then-is_later, else-is_later}

pub along-last-requires-clause-range : goal.along-last-requires-clause-range
along-last-requires-clause-range g c =
    let some = c.requires.list.some in
    let long = length-map c.args.pairs.now.items pair_of in
    in-range c.args.pairs.now.items 0 c.read.result c.requires.range (omega arith)
    (c.read.ensures.pair ∙ ap (λ (xs : List Stored). get_or xs 0 c.read.result) c.deref.ensures.value)

pub along-pair-requires-clause-range : goal.along-pair-requires-clause-range
along-pair-requires-clause-range g c =
    let old = c.args.pairs.now.items in
    let at = c.loop-at.at in
    let inside : at < length old = omega (arith, c.loop-at-test.true, c.len-at-end.ensures, c.args.pairs.now.ok.0) in
    in-range old at c.read-in-loop-at.result c.requires.range inside
    (read-old c.args.wire old c.loop-at.pairs.items c.loop-at.kept at c.read-in-loop-at.result c.loop-at.invariant.wired inside
    (c.read-in-loop-at.ensures.pair ∙ ap (λ (xs : List Stored). get_or xs at c.read-in-loop-at.result) c.deref-in-loop-at.ensures.value))

pub loop-at-init : goal.loop-at-init
loop-at-init g c =
    let some = c.requires.list.some in
    let long = length-map c.args.pairs.now.items pair_of in
    record {
      wired = wired-first c.args.wire c.args.pairs.now.items c.read.result c.along-last.result c.requires.list.rising (omega arith)
          (c.read.ensures.pair ∙ ap (λ (xs : List Stored). get_or xs 0 c.read.result) c.deref.ensures.value) c.along-last.ensures.seen c.along-last.ensures.mark;
      some = omega arith;
      last = sym (get_or-set_same c.args.pairs.now.items 0 c.along-last.result c.along-last.result (omega arith));
      steps = c.read.ensures.steps;
    }

pub loop-at-preserved : goal.loop-at-preserved
loop-at-preserved g c =
    let old = c.args.pairs.now.items in
    let at = c.loop-at.at in
    let some = c.loop-at.invariant.some in
    let inside : at < length old = omega (arith, c.loop-at-test.true, c.len-at-end.ensures, c.args.pairs.now.ok.0) in
    let read = c.read-in-loop-at.ensures.pair ∙ ap (λ (xs : List Stored). get_or xs at c.read-in-loop-at.result) c.deref-in-loop-at.ensures.value in
    let steps : c.read-in-loop-at.new.steps ≡ c.args.steps.now + (at + 1) = omega (arith, c.read-in-loop-at.ensures.steps, c.loop-at.invariant.steps) in
    let p = c.read-in-loop-at.result in
    let m = c.along-pair.result in
    let last = c.loop-at.last in
    let last_is = c.loop-at.invariant.last in
    let behind = c.loop-at.invariant.wired.behind in
    let long = c.loop-at.invariant.wired.long in
    let kept = c.loop-at.kept in
    let wired = c.loop-at.invariant.wired in
    elim c.if-is_later.branch [
      | then-is_later w ↦
          let items : c.if-is_later.pairs.items ≡ set c.loop-at.pairs.items kept m = ap (λ (v : Vec Stored Global). v.items) w.pairs-is in
          let more : kept + 1 ≡ c.if-is_later.kept = sym w.kept-is in
          record {
            wired = subst (λ (xs : List Stored). AreWired c.args.wire old xs c.if-is_later.kept (at + 1)) (sym items)
                (subst (λ (n : ℕ). AreWired c.args.wire old (set c.loop-at.pairs.items kept m) n (at + 1)) more
                (wired-later c.args.wire old c.loop-at.pairs.items kept at p m last c.is_later.result c.requires.list.rising wired inside read
                c.along-pair.ensures.seen c.along-pair.ensures.mark last_is c.is_later.ensures w.if-is_later.true));
            some = omega (arith, more);
            last = last-later c.loop-at.pairs.items c.if-is_later.pairs.items kept c.if-is_later.kept m c.if-is_later.last items (sym more) w.last-is
                (omega (arith, behind, long, inside));
            steps = steps;
          }
      | else-is_later w ↦
          let items : c.if-is_later.pairs.items ≡ c.loop-at.pairs.items = ap (λ (v : Vec Stored Global). v.items) w.pairs-is in
          let same : kept ≡ c.if-is_later.kept = sym w.kept-is in
          record {
            wired = subst (λ (xs : List Stored). AreWired c.args.wire old xs c.if-is_later.kept (at + 1)) (sym items)
                (subst (λ (n : ℕ). AreWired c.args.wire old c.loop-at.pairs.items n (at + 1)) same
                (wired-earlier c.args.wire old c.loop-at.pairs.items kept at p m last c.is_later.result c.requires.list.rising wired inside read
                c.along-pair.ensures.seen c.along-pair.ensures.mark last_is some c.is_later.ensures w.if-is_later.false));
            some = omega (arith, same);
            last = last-stays c.loop-at.pairs.items c.if-is_later.pairs.items kept c.if-is_later.kept last c.if-is_later.last items (sym same) w.last-is last_is;
            steps = steps;
          }
    ]

pub returns : goal.returns
returns g c =
    let old = c.args.pairs.now.items in
    let wired = c.loop-at.invariant.wired in
    let some = c.loop-at.invariant.some in
    let behind = wired.behind in
    let long = wired.long in
    let end : c.loop-at.at ≡ length old = omega (arith, c.loop-at-test.false, c.len-at-end.ensures, c.args.pairs.now.ok.0, c.loop-at.auto.at-end, c.requires.list.some, length-map old pair_of) in
    let items : c.truncate.new.self.items ≡ take c.loop-at.kept c.loop-at.pairs.items = c.truncate.ensures.items in
    let short = ap (λ (xs : List Stored). length xs) items ∙ length-take-le c.loop-at.kept c.loop-at.pairs.items (omega arith) in
    record {
      along = λ trail. ap (all_of trail) items ∙ wired-all c.args.wire old c.loop-at.pairs.items c.loop-at.kept c.loop-at.at trail wired (omega arith);
      marks = λ most all. subst (λ (xs : List Stored). All (λ (pair : Stored). pair.mark ≤ most) xs) (sym items) (wired.marks most all);
      some = omega arith;
      short = omega arith;
      steps = c.loop-at.invariant.steps ∙ ap (λ (n : ℕ). c.args.steps.now + n) end;
    }
