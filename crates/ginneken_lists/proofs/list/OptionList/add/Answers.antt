use Rattle.std.proofs.Common.{ℕ, ◌≤◌, List, length, All, sym, subst}
use Rattle.ginneken_lists.specs.StoredPairs.{pairs_of}
use Rattle.ginneken_lists.specs.declared.pair.Pair.{Pair}
use Rattle.ginneken_lists.specs.declared.stored.Stored.{Stored}
use Rattle.ginneken_lists.proofs.StoredLemmas.{stored-marks, pair-marks}
use Rattle.ginneken_lists.proofs.list.OptionList.add.Goals as goal

pub offer-requires-clause-marks : goal.offer-requires-clause-marks
offer-requires-clause-marks g c =
    let n : ℕ = length c.args.trail.now in
    let marks : All (λ (p : Pair). p.mark ≤ n) (pairs_of c.self.inside.pairs.items) = subst (λ (ps : List Pair). All (λ (p : Pair). p.mark ≤ n) ps) (sym c.self.view_is) c.requires.marks in
    subst (λ (xs : List Stored). All (λ (s : Stored). s.mark ≤ n) xs) (sym c.in_ok-reserve.ensures.items) (stored-marks n c.self.inside.pairs.items marks)

pub returns-in_err-offer-clause-marks : goal.returns-in_err-offer-clause-marks
returns-in_err-offer-clause-marks g c = pair-marks (length c.offer-2.new.self) c.offer-2.new.pairs.items c.offer-2.ensures.marks

pub returns-clause-marks : goal.returns-clause-marks
returns-clause-marks g c = pair-marks (length c.offer-2.new.self) c.offer-2.new.pairs.items c.offer-2.ensures.marks
