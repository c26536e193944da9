use Rattle.std.proofs.Common.{◌<◌, List, length, get_or, refl, sym, ap, ◌∙◌, arith}
use Rattle.ginneken_lists.specs.declared.stored.Stored.{Stored}
use Rattle.ginneken_lists.proofs.StoredLemmas.{stored-rising}
use Rattle.ginneken_lists.proofs.Placing.{cleared-none, cleared-more, cleared-ends, cleared-all}
use Rattle.ginneken_lists.proofs.insertion.remove_served.Goals as goal

pub loop-pair-init : goal.loop-pair-init
loop-pair-init g c = record {
  are = cleared-none c.args.pair c.args.pairs.now.items c.args.at c.requires.at (stored-rising c.args.pairs.now.items c.requires.list.rising) c.requires.behind;
  len = omega arith;
  room = refl;
  steps = refl;
}

pub loop-pair-preserved : goal.loop-pair-preserved
loop-pair-preserved g c =
    let items = c.loop-pair.pairs.items in
    let inside : c.args.at < length items = omega (arith, c.loop-pair-test.true, c.len.ensures, c.loop-pair.pairs.ok.0) in
    let read = c.read.ensures.pair ∙ ap (λ (xs : List Stored). get_or xs c.args.at c.read.result) c.deref.ensures.value in
    record {
      are = cleared-more c.args.pair c.args.pairs.now.items items c.remove.new.self.items c.args.at c.read.result c.loop-pair.invariant.are inside read
          (sym c.serves.ensures ∙ c.if-not-serves.false) c.remove.ensures.items;
      len = omega (arith, c.remove.ensures.len, c.loop-pair.invariant.len);
      room = c.remove.ensures.capacity ∙ c.loop-pair.invariant.room;
      steps = omega (arith, c.remove.ensures.len, c.loop-pair.invariant.steps, c.read.ensures.steps);
    }

pub returns-clause-pairs : goal.returns-clause-pairs
returns-clause-pairs g c =
    cleared-all c.args.pair c.args.pairs.now.items c.loop-pair.pairs.items c.args.at c.loop-pair.invariant.are
    (omega (arith, c.loop-pair-test.false, c.len.ensures, c.loop-pair.pairs.ok.0))

pub returns-then-not-serves-clause-pairs : goal.returns-then-not-serves-clause-pairs
returns-then-not-serves-clause-pairs g c =
    let items = c.loop-pair.pairs.items in
    let inside : c.args.at < length items = omega (arith, c.loop-pair-test.true, c.len.ensures, c.loop-pair.pairs.ok.0) in
    let read = c.read.ensures.pair ∙ ap (λ (xs : List Stored). get_or xs c.args.at c.read.result) c.deref.ensures.value in
    cleared-ends c.args.pair c.args.pairs.now.items items c.args.at c.read.result c.loop-pair.invariant.are inside read (sym c.serves.ensures ∙ c.if-not-serves.true)
