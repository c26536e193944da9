use Rattle.std.proofs.Common.{◌≤◌, List, All, sym, subst, arith}
use Rattle.std.proofs.lemmas.List.Elements.{All-contains}
use Rattle.ginneken_lists.specs.Pairs.{IsInRange}
use Rattle.ginneken_lists.specs.StoredPairs.{pair_of}
use Rattle.ginneken_lists.specs.declared.pair.Pair.{Pair}
use Rattle.ginneken_lists.specs.declared.stored.Stored.{Stored}
use Rattle.ginneken_lists.proofs.StoredLemmas.{stored-range, stored-marks}
use Rattle.ginneken_lists.proofs.list.OptionList.buffered.Goals as goal

pub behind-requires-clause-range : goal.behind-requires-clause-range
behind-requires-clause-range g c =
    let items = c.self.inside.pairs.items in
    let range = stored-range items (subst (λ (ps : List Pair). All IsInRange ps) (sym c.self.view_is) c.requires.range) in
    All-contains (λ (s : Stored). IsInRange (pair_of s)) c.deref.result.now c.best_driven.result
    (subst (λ (xs : List Stored). All (λ (s : Stored). IsInRange (pair_of s)) xs) (sym c.deref.ensures.value) range) c.best_driven.ensures.one

pub returns-clause-mark : goal.returns-clause-mark
returns-clause-mark g c = λ most marks.
    let items = c.self.inside.pairs.items in
    let stored = stored-marks most items (subst (λ (ps : List Pair). All (λ (p : Pair). p.mark ≤ most) ps) (sym c.self.view_is) marks) in
    let mark = All-contains (λ (s : Stored). s.mark ≤ most) c.deref.result.now c.best_driven.result
    (subst (λ (xs : List Stored). All (λ (s : Stored). s.mark ≤ most) xs) (sym c.deref.ensures.value) stored) c.best_driven.ensures.one in
    omega (arith, mark, c.behind.ensures.mark)
