use Rattle.std.proofs.Common.{◌≡◌, ◌+◌, ◌*◌, List, length, sym, subst, arith}
use Rattle.ginneken_lists.specs.declared.stored.Stored.{Stored}
use Rattle.ginneken_lists.proofs.StoredLemmas.{in-range}
use Rattle.ginneken_lists.proofs.OfferLemmas.{AreFound, found-more}
use Rattle.ginneken_lists.proofs.offering.find_offers.Goals as goal

pub behind-requires-clause-range : goal.behind-requires-clause-range
behind-requires-clause-range g c =
    let one = c.best_driven.ensures.one in
    in-range c.args.pairs.now one.0 c.best_driven.result c.requires.range one.1 (sym one.2)

pub loop-number-preserved : goal.loop-number-preserved
loop-number-preserved g c =
    let items = c.args.pairs.now in
    let number = c.loop-number.number in
    let more : (number + 1) * (length items + 1) ≡ number * (length items + 1) + (length items + 1) = omega arith in
    record {
      are = subst (λ (xs : List Stored). AreFound c.args.library.now items xs (number + 1)) (sym c.in_ok-push.ensures.items)
          (found-more c.args.library.now items c.loop-number.found.items number c.kind-kind.result c.best_driven.result c.behind.result c.loop-number.invariant.are
          c.kind-kind.ensures.kind c.best_driven.ensures.best c.best_driven.ensures.one c.behind.ensures.seen c.behind.ensures.mark);
      steps = omega (arith, more, c.best_driven.ensures.steps, c.loop-number.invariant.steps);
    }
