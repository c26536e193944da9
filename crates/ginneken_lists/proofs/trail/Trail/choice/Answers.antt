use Rattle.std.proofs.Common.{◌≡◌, ℕ, suc, ◌-◌, ◌<◌, List, length, sym, ap, subst, ◌∙◌, arith}
use Rattle.ginneken_lists.specs.Candidates.{Chosen}
use Rattle.ginneken_lists.specs.Trails.{chosen_of, chosen_by, trail_of, HasBuffer, IsBelow}
use Rattle.ginneken_lists.specs.declared.choice.Choice.{Choice}
use Rattle.ginneken_lists.proofs.TrailLemmas.{length-trail, chosen-choice, below-choice, some-choice}
use Rattle.ginneken_lists.proofs.trail.Trail.choice.Goals as goal

pub index-requires : goal.index-requires
index-requires c =
    let items = c.self.inside.choices.items in
    let same : length (trail_of items) ≡ length c.args.self.now = ap (λ (t : List Chosen). length t) c.self.view_is in
    let long = length-trail items in
    omega (arith, c.self.inside.choices.ok.0, c.if-mark-eq0.false, c.requires)

pub returns-then-mark-eq0 : goal.returns-then-mark-eq0
returns-then-mark-eq0 c = record {
  choice = ap (chosen_of c.args.self.now) (sym c.if-mark-eq0.true);
  some = λ later. let none = c.if-mark-eq0.true in absurd (omega (arith, later, none));
  lower = tt;
}

pub returns : goal.returns
returns c =
    let items = c.self.inside.choices.items in
    let at : ℕ = c.args.mark - 1 in
    let choice = c.index.result.now in
    let same : length (trail_of items) ≡ length c.args.self.now = ap (λ (t : List Chosen). length t) c.self.view_is in
    let long = length-trail items in
    let next : suc at ≡ c.args.mark = omega (arith, c.if-mark-eq0.false) in
    let inside : at < length items = omega (arith, c.requires) in
    record {
      choice = subst (λ (t : List Chosen). chosen_by t choice ≡ chosen_of t c.args.mark) c.self.view_is
          (ap (chosen_by (trail_of items)) c.index.ensures ∙ sym (chosen-choice items at c.args.mark choice c.self.invariant next inside));
      some = λ later. subst HasBuffer (sym c.index.ensures) (some-choice items at choice c.self.invariant inside);
      lower = subst (λ (x : Choice). IsBelow c.args.mark x) (sym c.index.ensures) (below-choice items at c.args.mark choice c.self.invariant next inside);
    }
