use Rattle.std.proofs.Common.{◌≡◌, List, length, ap, subst, ◌∙◌, arith}
use Rattle.ginneken_lists.specs.Candidates.{Chosen, with_one}
use Rattle.ginneken_lists.specs.Trails.{trail_of}
use Rattle.ginneken_lists.specs.Offering.{buffer_over}
use Rattle.ginneken_lists.proofs.StoredLemmas.{all_of}
use Rattle.ginneken_lists.proofs.TrailLemmas.{length-trail}
use Rattle.ginneken_lists.proofs.trail.Trail.offer.Goals as goal

pub insert-requires-clause-marks : goal.insert-requires-clause-marks
insert-requires-clause-marks g c =
    let same : trail_of c.reserve.new.self.items ≡ c.args.self.now = ap trail_of c.in_ok-reserve.ensures.items ∙ c.self.view_is in
    let size : length (trail_of c.reserve.new.self.items) ≡ length c.args.self.now = ap (λ (t : List Chosen). length t) same in
    let long = length-trail c.reserve.new.self.items in
    λ k d inside. let m = c.requires.marks k d inside in omega arith

pub insert-requires-clause-mark : goal.insert-requires-clause-mark
insert-requires-clause-mark g c =
    let same : trail_of c.reserve.new.self.items ≡ c.args.self.now = ap trail_of c.in_ok-reserve.ensures.items ∙ c.self.view_is in
    let size : length (trail_of c.reserve.new.self.items) ≡ length c.args.self.now = ap (λ (t : List Chosen). length t) same in
    let long = length-trail c.reserve.new.self.items in
    omega (arith, c.requires.mark)

pub returns-clause-pairs : goal.returns-clause-pairs
returns-clause-pairs g c =
    let same : trail_of c.reserve.new.self.items ≡ c.args.self.now = ap trail_of c.in_ok-reserve.ensures.items ∙ c.self.view_is in
    subst (λ (t : List Chosen). all_of (trail_of c.insert.new.choices.items) c.insert.new.pairs.items
    ≡ with_one (buffer_over t c.args.node c.args.kind c.args.pair) (all_of t c.args.pairs.now.items)) same c.insert.ensures.pairs

pub returns-clause-marks : goal.returns-clause-marks
returns-clause-marks g c =
    let long = length-trail c.insert.new.choices.items in
    λ k d inside. let m = c.insert.ensures.marks k d inside in omega arith
