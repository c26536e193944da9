-- What is paid for a net is a bound.
use Rattle.std.proofs.Common.{◌≡◌, ℕ, ◌+◌, ◌<◌, ◌≤◌, inl, inr, Bool, true, false, ◌==◌, nat_lt, List, [], ◌∷◌, All, IsTrue, refl, sym, ap, subst, ◌∙◌, arith}
use Rattle.std.proofs.lemmas.Bool.{or_cases, eqb-true, false≢true}
use Rattle.std.proofs.lemmas.List.Elements.{All-head, All-tail}
use Rattle.gr_base.specs.Designs.{DesignView, pins_at}
use Rattle.gr_base.specs.EdgeSets.{IsJoined, Leads}
use Rattle.gr_base.specs.Grid.{cells_of, high_of}
use Rattle.gr_base.specs.Trees.{is_among}
use Rattle.gr_base.specs.declared.grid.Edge.{Edge}
use Rattle.gr_base.specs.declared.grid.Shape.{Shape}
use Rattle.price_laws.specs.Laws.{PaidLaw, PayingLaw, UnpaidLaw}
use Rattle.price_laws.specs.Prices.{price, sum_of}
use Rattle.price_laws.specs.Ranks.{uphill, fall}
use Rattle.price_laws.proofs.EdgeSums.{set-le, set-plus}
use Rattle.price_laws.proofs.RankLemmas.{rank-pins, falls-to-pin}
use Rattle.wall_laws.proofs.OverflowLemmas.{pins-inside}

pub unpaid-law : UnpaidLaw
unpaid-law d p allowed net driver left low set join r reached =
    let g : Shape = d.frame.shape in
    let each =
    set-le g set (uphill g r.rank left) (price d p net)
    (λ e among. low e (nat_lt (r.rank e.low) (r.rank (high_of g e))) (join.inside e among) (join.within e among)) in
    omega (arith, each)

-- what holds of all holds of one among them
of-one : (P : ℕ → Type 0) (xs : List ℕ) (x : ℕ) → All P xs → is_among xs x ≡ true → P x
of-one P [] x each is = absurd (false≢true is)
of-one P (y ∷ ys) x each is =
    elim (or_cases (y == x) (is_among ys x) is) [
      | inl here ↦ subst P (eqb-true y x here) (All-head P y ys each)
      | inr later ↦ of-one P ys x (All-tail P y ys each) later
    ]

pub paying-law : PayingLaw
paying-law d p allowed net driver old new level paid more pin was taken high low among set join r reached =
    let g : Shape = d.frame.shape in
    let before = was set join r reached in
    let falls = falls-to-pin g set driver r level pin (of-one (λ cell. r.has cell ≡ true) (pins_at d net) pin reached among) in
    let each =
    set-le g set (λ e. uphill g r.rank new e + uphill g r.rank (fall g level) e) (uphill g r.rank old)
    (λ e has. taken e (nat_lt (r.rank e.low) (r.rank (high_of g e))) (join.inside e has) (join.within e has)) in
    let split = set-plus g set (uphill g r.rank new) (uphill g r.rank (fall g level)) in
    omega (arith, before, falls, each, split, high, low)

pub paid-law : PaidLaw
paid-law d design p allowed net driver pins are left paid is set join =
    let g : Shape = d.frame.shape in
    let inside : All (λ pin. pin < cells_of g) (driver ∷ pins) = subst (λ (xs : List ℕ). All (λ pin. pin < cells_of g) xs) are (pins-inside d net design) in
    let walks : All (Leads g set driver) (driver ∷ pins) = subst (λ (xs : List ℕ). IsJoined g set xs) are join.joined in
    let ranked = rank-pins g set driver join.inside (driver ∷ pins) (All-head (λ pin. pin < cells_of g) driver pins inside) walks in
    let whole = is set join ranked.0 (subst (λ (xs : List ℕ). All (λ pin. ranked.0.has pin ≡ true) xs) (sym are) ranked.1) in
    omega (arith, whole)
