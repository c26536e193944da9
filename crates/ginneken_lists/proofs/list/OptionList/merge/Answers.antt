use Rattle.std.proofs.Common.{ℕ, ◌^◌, ◌≤◌, List, length, All, sym, ap, subst, arith}
use Rattle.ginneken_lists.specs.Pairs.{IsInRange}
use Rattle.ginneken_lists.specs.StoredPairs.{pairs_of}
use Rattle.ginneken_lists.specs.declared.pair.Pair.{Pair}
use Rattle.ginneken_lists.specs.declared.stored.Stored.{Stored}
use Rattle.ginneken_lists.proofs.StoredLemmas.{stored-loads, stored-marks, pair-marks}
use Rattle.ginneken_lists.proofs.MergeLemmas.{merged-list}
use Rattle.ginneken_lists.proofs.list.OptionList.merge.Goals as goal

pub merge-requires-clause-left_loads : goal.merge-requires-clause-left_loads
merge-requires-clause-left_loads g c =
    let items = c.left.inside.pairs.items in
    let range : All IsInRange (pairs_of items) = subst (λ (ps : List Pair). All IsInRange ps) (sym c.left.view_is) c.requires.left_range in
    subst (λ (xs : List Stored). All (λ (s : Stored). s.load ≤ 2 ^ 60) xs) (sym c.deref.ensures.value) (stored-loads items range)

pub merge-requires-clause-left_marks : goal.merge-requires-clause-left_marks
merge-requires-clause-left_marks g c =
    let items = c.left.inside.pairs.items in
    let n : ℕ = length c.args.trail.now in
    let marks : All (λ (p : Pair). p.mark ≤ n) (pairs_of items) = subst (λ (ps : List Pair). All (λ (p : Pair). p.mark ≤ n) ps) (sym c.left.view_is) c.requires.left_marks in
    subst (λ (xs : List Stored). All (λ (s : Stored). s.mark ≤ n) xs) (sym c.deref.ensures.value) (stored-marks n items marks)

pub merge-requires-clause-right_loads : goal.merge-requires-clause-right_loads
merge-requires-clause-right_loads g c =
    let items = c.right.inside.pairs.items in
    let range : All IsInRange (pairs_of items) = subst (λ (ps : List Pair). All IsInRange ps) (sym c.right.view_is) c.requires.right_range in
    subst (λ (xs : List Stored). All (λ (s : Stored). s.load ≤ 2 ^ 60) xs) (sym c.deref-2.ensures.value) (stored-loads items range)

pub merge-requires-clause-right_marks : goal.merge-requires-clause-right_marks
merge-requires-clause-right_marks g c =
    let items = c.right.inside.pairs.items in
    let n : ℕ = length c.args.trail.now in
    let marks : All (λ (p : Pair). p.mark ≤ n) (pairs_of items) = subst (λ (ps : List Pair). All (λ (p : Pair). p.mark ≤ n) ps) (sym c.right.view_is) c.requires.right_marks in
    subst (λ (xs : List Stored). All (λ (s : Stored). s.mark ≤ n) xs) (sym c.deref-2.ensures.value) (stored-marks n items marks)

pub merge-requires-clause-room : goal.merge-requires-clause-room
merge-requires-clause-room g c =
    let first = ap (λ (xs : List Stored). length xs) c.deref.ensures.value in
    let second = ap (λ (xs : List Stored). length xs) c.deref-2.ensures.value in
    omega (arith, c.in_ok-pairs.ensures.room, first, second, c.left.inside.pairs.ok.0, c.right.inside.pairs.ok.0)

pub invariant_of-result : goal.invariant_of-result
invariant_of-result g c =
    merged-list c.args.trail.now c.merge.new.self c.deref.result.now c.deref-2.result.now c.merge.new.merged.items c.in_ok-merge.ensures.some c.in_ok-merge.ensures.joined

pub returns-clause-marks : goal.returns-clause-marks
returns-clause-marks g c = pair-marks (length c.merge.new.self) c.merge.new.merged.items c.in_ok-merge.ensures.marks
