use Rattle.std.proofs.Common.{◌≡◌, ℕ, ◌≤◌, List, length, All, sym, ap, subst, ◌∙◌, arith}
use Rattle.std.proofs.lemmas.List.{length-map}
use Rattle.ginneken_lists.specs.Candidates.{offers, with_offers}
use Rattle.ginneken_lists.specs.Pairs.{candidates}
use Rattle.ginneken_lists.specs.StoredPairs.{pair_of, pairs_of}
use Rattle.ginneken_lists.specs.Offering.{offered, with_all}
use Rattle.ginneken_lists.specs.declared.pair.Pair.{Pair}
use Rattle.ginneken_lists.specs.declared.stored.Stored.{Stored}
use Rattle.ginneken_lists.proofs.StoredLemmas.{all_of, all_of-rising, stored-marks, pair-marks}
use Rattle.ginneken_lists.proofs.OfferLemmas.{with_offers-is, offer-steps}
use Rattle.ginneken_lists.proofs.list.OptionList.offer.Goals as goal

pub offer_each-requires-clause-marks : goal.offer_each-requires-clause-marks
offer_each-requires-clause-marks g c =
    let n : ℕ = length c.args.trail.now in
    let marks : All (λ (p : Pair). p.mark ≤ n) (pairs_of c.self.inside.pairs.items) = subst (λ (ps : List Pair). All (λ (p : Pair). p.mark ≤ n) ps) (sym c.self.view_is) c.requires.marks in
    subst (λ (xs : List Stored). All (λ (s : Stored). s.mark ≤ n) xs) (sym c.in_ok-reserve.ensures.items) (stored-marks n c.self.inside.pairs.items marks)

pub offer_each-requires-clause-found_marks : goal.offer_each-requires-clause-found_marks
offer_each-requires-clause-found_marks g c =
    let n : ℕ = length c.args.trail.now in
    let marks : All (λ (p : Pair). p.mark ≤ n) (pairs_of c.self.inside.pairs.items) = subst (λ (ps : List Pair). All (λ (p : Pair). p.mark ≤ n) ps) (sym c.self.view_is) c.requires.marks in
    subst (λ (xs : List Stored). All (λ (s : Stored). s.mark ≤ n) xs) (sym c.deref-2.ensures.value)
    (c.in_ok-find_offers.ensures.marks n (subst (λ (xs : List Stored). All (λ (s : Stored). s.mark ≤ n) xs) (sym c.deref.ensures.value)
    (stored-marks n c.self.inside.pairs.items marks)))

pub returns-clause-offered : goal.returns-clause-offered
returns-clause-offered g c =
    let trail = c.args.trail.now in
    let node = c.args.node in
    let items = c.self.inside.pairs.items in
    let found = c.find_offers.new.found.items in
    let lib = c.args.library.now in
    let offered_is : offers lib node (all_of trail items) ≡ offered trail node 0 found =
    ap (λ (xs : List Stored). offers lib node (all_of trail xs)) (sym c.deref.ensures.value) ∙ c.in_ok-find_offers.ensures.offers trail node in
    c.in_ok-offer_each.ensures.pairs
    ∙ ap (λ (xs : List Stored). with_all (all_of trail xs) (offered trail node 0 c.deref-2.result.now)) c.in_ok-reserve.ensures.items
    ∙ ap (λ (xs : List Stored). with_all (all_of trail items) (offered trail node 0 xs)) c.deref-2.ensures.value
    ∙ with_offers-is lib node (all_of trail items) (offered trail node 0 found) (all_of-rising trail items c.self.invariant.rising) offered_is
    ∙ ap (λ (ps : List Pair). with_offers lib node (candidates trail ps)) c.self.view_is

pub returns-clause-marks : goal.returns-clause-marks
returns-clause-marks g c = pair-marks (length c.offer_each.new.self) c.offer_each.new.pairs.items c.offer_each.ensures.marks

pub returns-clause-steps : goal.returns-clause-steps
returns-clause-steps g c =
    let kinds : ℕ = length c.args.library.now.kinds in
    let n : ℕ = length c.args.self.now in
    let items = c.self.inside.pairs.items in
    let seen : length (pairs_of items) ≡ n = ap (λ (ps : List Pair). length ps) c.self.view_is in
    let stored = length-map items pair_of in
    let first : length c.deref.result.now ≡ length items = ap (λ (xs : List Stored). length xs) c.deref.ensures.value in
    let second : length c.reserve.new.self.items ≡ length items = ap (λ (xs : List Stored). length xs) c.in_ok-reserve.ensures.items in
    let third : length c.deref-2.result.now ≡ kinds = ap (λ (xs : List Stored). length xs) c.deref-2.ensures.value ∙ c.in_ok-find_offers.ensures.kinds in
    offer-steps kinds n (length c.deref.result.now) (length c.reserve.new.self.items) (length c.deref-2.result.now) c.args.steps.now c.find_offers.new.steps c.offer_each.new.steps
    (omega arith) (omega arith) third c.find_offers.ensures.steps c.offer_each.ensures.steps
