use Rattle.std.proofs.Common.{◌≡◌, ◌≤◌, List, length, All, sym, ap, subst, ◌∙◌}
use Rattle.ginneken_lists.specs.Candidates.{Chosen, all_joined}
use Rattle.ginneken_lists.specs.Trails.{trail_of, Keeps}
use Rattle.ginneken_lists.specs.TrailStore.{AreChoices}
use Rattle.ginneken_lists.specs.declared.stored.Stored.{Stored}
use Rattle.ginneken_lists.proofs.StoredLemmas.{all_of}
use Rattle.ginneken_lists.proofs.TrailLemmas.{Keeps-itself}
use Rattle.ginneken_lists.proofs.trail.Trail.merge.Goals as goal

pub returns-in_err-reserve-clause-kept : goal.returns-in_err-reserve-clause-kept
returns-in_err-reserve-clause-kept g c =
    let same : trail_of c.reserve.new.self.items ≡ c.args.self.now = ap trail_of c.in_err-reserve.ensures.items ∙ c.self.view_is in
    subst (λ (t : List Chosen). Keeps c.args.self.now t) (sym same) (Keeps-itself c.args.self.now)

pub merge-requires-clause-left_marks : goal.merge-requires-clause-left_marks
merge-requires-clause-left_marks g c =
    let same : trail_of c.reserve.new.self.items ≡ c.args.self.now = ap trail_of c.in_ok-reserve.ensures.items ∙ c.self.view_is in
    subst (λ (t : List Chosen). All (λ (s : Stored). s.mark ≤ length t) c.args.left.now) (sym same) c.requires.left_marks

pub merge-requires-clause-right_marks : goal.merge-requires-clause-right_marks
merge-requires-clause-right_marks g c =
    let same : trail_of c.reserve.new.self.items ≡ c.args.self.now = ap trail_of c.in_ok-reserve.ensures.items ∙ c.self.view_is in
    subst (λ (t : List Chosen). All (λ (s : Stored). s.mark ≤ length t) c.args.right.now) (sym same) c.requires.right_marks

pub merge-requires-clause-choices : goal.merge-requires-clause-choices
merge-requires-clause-choices g c = subst AreChoices (sym c.in_ok-reserve.ensures.items) c.self.invariant

pub returns-clause-joined : goal.returns-clause-joined
returns-clause-joined g c =
    let same : trail_of c.reserve.new.self.items ≡ c.args.self.now = ap trail_of c.in_ok-reserve.ensures.items ∙ c.self.view_is in
    subst (λ (t : List Chosen). all_of (trail_of c.merge.new.choices.items) c.merge.new.merged.items
    ≡ all_joined (all_of t c.args.left.now) (all_of t c.args.right.now)) same c.merge.ensures.joined

pub returns-clause-kept : goal.returns-clause-kept
returns-clause-kept g c =
    let same : trail_of c.reserve.new.self.items ≡ c.args.self.now = ap trail_of c.in_ok-reserve.ensures.items ∙ c.self.view_is in
    subst (λ (t : List Chosen). Keeps t (trail_of c.merge.new.choices.items)) same c.merge.ensures.kept
