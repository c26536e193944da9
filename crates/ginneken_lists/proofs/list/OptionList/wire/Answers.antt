use Rattle.std.proofs.Common.{ℕ, ◌≤◌, List, [], length, All, sym, subst}
use Rattle.ginneken_lists.specs.StoredPairs.{pairs_of}
use Rattle.ginneken_lists.specs.declared.pair.Pair.{Pair}
use Rattle.ginneken_lists.proofs.StoredLemmas.{stored-marks, pair-marks}
use Rattle.ginneken_lists.proofs.WiringLemmas.{along-list}
use Rattle.ginneken_lists.proofs.list.OptionList.wire.Goals as goal

pub invariant_of-self : goal.invariant_of-self
invariant_of-self g c =
    along-list c.args.wire c.self.inside.pairs.items c.wire.new.pairs.items c.wire.ensures.some (c.wire.ensures.along [])

pub returns-clause-marks : goal.returns-clause-marks
returns-clause-marks g c = λ trail marks.
    let n : ℕ = length trail in
    let old : All (λ (p : Pair). p.mark ≤ n) (pairs_of c.self.inside.pairs.items) = subst (λ (ps : List Pair). All (λ (p : Pair). p.mark ≤ n) ps) (sym c.self.view_is) marks in
    pair-marks n c.wire.new.pairs.items (c.wire.ensures.marks n (stored-marks n c.self.inside.pairs.items old))

pub returns-clause-list : goal.returns-clause-list
returns-clause-list g c = invariant_of-self g c
