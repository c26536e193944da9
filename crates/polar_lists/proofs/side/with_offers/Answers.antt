use Rattle.std.proofs.Common.{◌≡◌, ◌≤◌, ℕ, ◌+◌, ◌*◌, length, get_or, Option, None, option_map, sym, ap, ◌∙◌, arith}
use Rattle.std.proofs.lemmas.List.{get_or_default}
use Rattle.ginneken_lists.specs.Pairs.{buffer_of, candidates}
use Rattle.ginneken_lists.specs.declared.pair.Pair.{Pair}
use Rattle.polar_lists.specs.BothLists.{all_in, with_some}
use Rattle.polar_lists.proofs.BothOffers.{added-more}
use Rattle.polar_lists.proofs.side.with_offers.Goals as goal

pub loop-kind-preserved : goal.loop-kind-preserved
loop-kind-preserved g c =
    let offers = c.args.offers.now in
    let kind = c.loop-kind.kind in
    let before = c.loop-kind.invariant in
    let inside = c.loop-kind-test.true in
    let same : get_or offers kind None ≡ c.index-offers-kind.result =
    get_or_default offers kind None c.index-offers-kind.result inside ∙ sym c.index-offers-kind.is in
    let short = before.are.short in
    let per : ℕ = 2 * (length (all_in c.args.side) + length offers) in
    let more : (kind + 1) * per ≡ kind * per + per = omega arith in
    let each : 2 * length (all_in c.loop-kind.side) ≤ per = omega arith in
    record {
      are = added-more c.args.node offers c.args.trail.now (all_in c.args.side) c.loop-kind.trail c.add.new.trail (all_in c.loop-kind.side) (all_in c.in_ok-side.side) kind
          before.are c.requires.offer_marks inside
          (c.in_ok-side.ensures.added
          ∙ ap (λ (o : Option Pair). with_some (option_map (buffer_of c.loop-kind.trail c.args.node kind) o) (candidates c.loop-kind.trail (all_in c.loop-kind.side))) (sym same))
          c.in_ok-side.ensures.kept c.in_ok-side.ensures.marks c.in_ok-side.ensures.short;
      steps = omega (arith, more, each, before.steps, c.in_ok-side.ensures.steps);
    }
