use Rattle.std.proofs.Common.{◌≡◌, ◌+◌, ◌≤◌, List, ◌++◌, ◌∷◌, [], length, get_or, take, All, sym, ap, subst, ◌∙◌, arith}
use Rattle.std.proofs.lemmas.List.{take_more, take_all}
use Rattle.std.proofs.lemmas.List.Elements.{All-push}
use Rattle.std.proofs.lemmas.Option.{get_or_from_slice_get, slice_get_within}
use Rattle.ginneken_lists.specs.Pairs.{IsInRange}
use Rattle.ginneken_lists.specs.declared.pair.Pair.{Pair}
use Rattle.delay_rows.proofs.lists.are_low.Goals as goal

pub loop-at-preserved : goal.loop-at-preserved
loop-at-preserved g c =
    let pairs = c.args.list.now in
    let at = c.loop-at.at in
    let pair = c.pair.result in
    let inside = slice_get_within pairs at pair c.pair.ensures.pair in
    let more : take (at + 1) pairs ≡ take at pairs ++ pair ∷ [] =
    take_more pairs at pair inside ∙ ap (λ (x : Pair). take at pairs ++ x ∷ []) (get_or_from_slice_get pairs at pair pair c.pair.ensures.pair) in
    subst (All IsInRange) (sym more) (All-push IsInRange (take at pairs) pair c.loop-at.invariant (c.is_low.ensures c.if-not-is_low.false))

pub returns : goal.returns
returns g c = λ is.
    let pairs = c.args.list.now in
    let end : length pairs ≤ c.loop-at.at = omega (arith, c.loop-at-test.false, c.len-at-end.ensures.len) in
    subst (All IsInRange) (take_all c.loop-at.at pairs end) c.loop-at.invariant
