-- What a worker took, and attempted.
use Rattle.std.proofs.Common.{◌≡◌, ℕ, suc, ◌<◌, ◌≤◌, inl, inr, Bool, cond, ◌==◌, List, [], ◌∷◌, ◌++◌, length, All, refl, sym, ap, subst, ◌∙◌, arith, append_assoc}
use Rattle.std.proofs.lemmas.Bool.{cases_Bool}
use Rattle.std.proofs.lemmas.Bool.Decides.{nat_tests}
use Rattle.std.proofs.lemmas.List.{append-nil}
use Rattle.std.proofs.lemmas.List.Sums.{sum_by-append}
use Rattle.cost_rules.specs.declared.site.Formula.{Formula}
use Rattle.gr_base.specs.Designs.{DesignView}
use Rattle.grid_demand.specs.Tables.{CapacityView, capacity_of}
use Rattle.book_front.proofs.Prefixes.{prefix-length}
use Rattle.book_state.specs.Books.{IsLegal}
use Rattle.run_histories.specs.Attempts.{Rests}
use Rattle.run_histories.specs.RunHistories.{Setting, one_worker}
use Rattle.track_book.specs.Passes.{PassView}
use Rattle.ripup_workers.specs.Turning.{IsOver, HasWorked}
use Rattle.work_share.specs.Views.{times}
use Rattle.ripup_workers.specs.Working.{HasAttempted}
use Rattle.ripup_workers.proofs.TurningStages.{led-nothing, led-then, over-capacity}

-- what holds of all holds of each that stands among them
pub all-of : (P : ℕ → Type 0) (nets : List ℕ) (net : ℕ) → All P nets → 0 < times net nets → P net
all-of P [] net all some = absurd (omega (arith, some))
all-of P (other ∷ nets) net all some = elim (cases_Bool (other == net)) [
  | inl same ↦
      let is : other ≡ net = grind (arith, nat_tests) in
      subst P is (all 0 0 (omega arith))
  | inr apart ↦
      let none : cond {A = ℕ} (other == net) 1 0 ≡ 0 = ap (λ (b : Bool). cond {A = ℕ} b 1 0) apart in
      let parts = sum_by-append (λ (one : ℕ). cond {A = ℕ} (one == net) 1 0) (other ∷ []) nets in
      all-of P nets net (λ k d less. all (suc k) d (omega (arith, less))) (omega (arith, some, none, parts))
]

-- a worker that has taken nothing
pub worked-nothing : (t : Setting) (d : DesignView) (formula : Formula) (c : CapacityView) (r : ℕ) (taken : List ℕ) (p : PassView) → IsOver d formula t → c ≡ capacity_of d → IsLegal c p.seen →
    HasWorked t r taken taken p p
worked-nothing t d formula c r taken p over same legal = record {
  nets = [];
  taken_is = sym (append-nil taken);
  attempted = led-nothing t r Rests p (subst (λ (x : CapacityView). IsLegal x p.seen) (over-capacity t d formula c over same) legal);
}

-- and one more net
pub worked-more : (t : Setting) (r net : ℕ) (before taken more : List ℕ) (p q s : PassView) → HasWorked t r before taken p q → more ≡ taken ++ net ∷ [] → HasAttempted t r (net ∷ []) q s →
    HasWorked t r before more p s
worked-more t r net before taken more p q s worked is done = record {
  nets = worked.nets ++ net ∷ [];
  taken_is = is ∙ ap (λ (nets : List ℕ). nets ++ net ∷ []) worked.taken_is ∙ append_assoc before worked.nets (net ∷ []);
  attempted = led-then t r Rests Rests Rests worked.nets (net ∷ []) p q s worked.attempted done;
}

-- a worker's pass has seen no less than before
pub worked-longer : (d : DesignView) (formula : Formula) (r : ℕ) (before taken : List ℕ) (p q : PassView) → ((t : Setting) → IsOver d formula t → HasWorked t r before taken p q) →
    length p.seen ≤ length q.seen
worked-longer d formula r before taken p q worked =
    prefix-length p.seen q.seen (worked (one_worker d formula 0) (record { design = refl; formula_is = refl })).attempted.begins
