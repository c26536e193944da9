use Rattle.std.proofs.Common.{◌≡◌, List, length, sym, ap, subst, ◌∙◌, arith}
use Rattle.ginneken_lists.specs.Candidates.{Chosen}
use Rattle.ginneken_lists.specs.Trails.{trail_of, Keeps}
use Rattle.ginneken_lists.specs.TrailStore.{AreChoices}
use Rattle.ginneken_lists.specs.Offering.{offered, with_all}
use Rattle.ginneken_lists.proofs.StoredLemmas.{all_of}
use Rattle.ginneken_lists.proofs.TrailLemmas.{length-trail, Keeps-itself}
use Rattle.ginneken_lists.proofs.trail.Trail.offer_each.Goals as goal

pub returns-in_err-reserve-clause-kept : goal.returns-in_err-reserve-clause-kept
returns-in_err-reserve-clause-kept g c =
    let same : trail_of c.reserve.new.self.items ≡ c.args.self.now = ap trail_of c.in_err-reserve.ensures.items ∙ c.self.view_is in
    subst (λ (t : List Chosen). Keeps c.args.self.now t) (sym same) (Keeps-itself c.args.self.now)

pub offer_each-requires-clause-choices : goal.offer_each-requires-clause-choices
offer_each-requires-clause-choices g c = subst AreChoices (sym c.in_ok-reserve.ensures.items) c.self.invariant

pub offer_each-requires-clause-marks : goal.offer_each-requires-clause-marks
offer_each-requires-clause-marks g c =
    let same : trail_of c.reserve.new.self.items ≡ c.args.self.now = ap trail_of c.in_ok-reserve.ensures.items ∙ c.self.view_is in
    let size : length (trail_of c.reserve.new.self.items) ≡ length c.args.self.now = ap (λ (t : List Chosen). length t) same in
    let long = length-trail c.reserve.new.self.items in
    λ k d inside. let m = c.requires.marks k d inside in omega arith

pub offer_each-requires-clause-found_marks : goal.offer_each-requires-clause-found_marks
offer_each-requires-clause-found_marks g c =
    let same : trail_of c.reserve.new.self.items ≡ c.args.self.now = ap trail_of c.in_ok-reserve.ensures.items ∙ c.self.view_is in
    let size : length (trail_of c.reserve.new.self.items) ≡ length c.args.self.now = ap (λ (t : List Chosen). length t) same in
    let long = length-trail c.reserve.new.self.items in
    λ k d inside. let m = c.requires.found_marks k d inside in omega arith

pub returns-clause-pairs : goal.returns-clause-pairs
returns-clause-pairs g c =
    let same : trail_of c.reserve.new.self.items ≡ c.args.self.now = ap trail_of c.in_ok-reserve.ensures.items ∙ c.self.view_is in
    subst (λ (t : List Chosen). all_of (trail_of c.offer_each.new.choices.items) c.offer_each.new.pairs.items
    ≡ with_all (all_of t c.args.pairs.now.items) (offered t c.args.node 0 c.args.found.now)) same c.offer_each.ensures.pairs

pub returns-clause-kept : goal.returns-clause-kept
returns-clause-kept g c =
    let same : trail_of c.reserve.new.self.items ≡ c.args.self.now = ap trail_of c.in_ok-reserve.ensures.items ∙ c.self.view_is in
    subst (λ (t : List Chosen). Keeps t (trail_of c.offer_each.new.choices.items)) same c.offer_each.ensures.kept

pub returns-clause-marks : goal.returns-clause-marks
returns-clause-marks g c =
    let long = length-trail c.offer_each.new.choices.items in
    λ k d inside. let m = c.offer_each.ensures.marks k d inside in omega arith
