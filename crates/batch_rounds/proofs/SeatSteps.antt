-- Which plans seats hold, as they are made and taken.
use Rattle.std.proofs.Common.{◌≡◌, ℕ, zero, suc, ◌+◌, ◌*◌, ◌/◌, ◌%◌, ◌<◌, ◌≤◌, inl, inr, List, [], ◌∷◌, ◌++◌, length, Option, Some, None, slice_get, slice_set, IsSome, IsTrue, IsSomeAnd, refl, sym, ap, subst, ◌∙◌, arith}
use Rattle.std.specs.Option.{option_and_then}
use Rattle.std.proofs.Math.Nat.{mul-le-mul_right}
use Rattle.std.proofs.lemmas.Bool.{cases_lt, cases_eq}
use Rattle.std.proofs.lemmas.List.{length_push, length-set}
use Rattle.std.proofs.lemmas.Nat.{div-add-mod', mod_below}
use Rattle.std.proofs.lemmas.Option.{none-some, same_Some, slice_get_within}
use Rattle.cost_rules.specs.declared.site.Formula.{Formula}
use Rattle.gr_base.proofs.DesignLemmas.{routed-net}
use Rattle.gr_base.proofs.General.{and-some}
use Rattle.gr_base.specs.Designs.{DesignView, is_routed}
use Rattle.grid_demand.specs.LoadSums.{LoadsView}
use Rattle.grid_demand.specs.Tables.{capacity_of}
use Rattle.book_state.proofs.HistoryLists.{slice_get-left, slice_get-right}
use Rattle.book_state.specs.Books.{AreLoadsOf}
use Rattle.book_state.specs.declared.entry.Entry.{Entry}
use Rattle.batch_rounds.specs.SecondTries.{IsNoted}
use Rattle.batch_rounds.specs.Seats.{plan_in, plan_for, HasPlanned, HavePlans}
use Rattle.batch_rounds.specs.declared.seat.Planned.{Planned}
use Rattle.batch_rounds.specs.declared.seat.Seat.{Seat}
use Rattle.run_histories.proofs.ListPlaces.{set-here}
use Rattle.run_histories.proofs.ListPlaces.{set-elsewhere}

-- the tree at a place of a list
abbrev pub plan_at : List (Option Planned) → ℕ → Option Planned
plan_at trees at = option_and_then (λ plan. plan) (slice_get trees at)

-- a plan over the loads, whatever history they are of
abbrev pub IsPlanned : DesignView → Formula → ℕ → LoadsView → ℕ → Planned → Type 0
IsPlanned d formula round loads net tree =
    (h : List Entry) → AreLoadsOf (capacity_of d) h loads → IsNoted d formula round h net tree

-- the trees so far are plans of the nets before a place
pub record ArePlanned (d : DesignView) (formula : Formula) (round : ℕ) (loads : LoadsView) (nets : List ℕ) (first count at : ℕ) (trees : List (Option Planned)) : Type 0 where
  pub at_is : at ≡ first + length trees * count
  pub each : (k net : ℕ) → k < length trees → slice_get nets (first + k * count) ≡ Some net → IsSomeAnd (plan_at trees k) (IsPlanned d formula round loads net)

module _ (d : DesignView) (formula : Formula) (round : ℕ) (loads : LoadsView) (nets : List ℕ) (first count : ℕ) where
  pub planned-more : (at next net : ℕ) (trees more : List (Option Planned)) (tree : Planned) → next ≡ at + count → more ≡ trees ++ Some tree ∷ [] →
      slice_get nets at ≡ Some net → IsPlanned d formula round loads net tree → ArePlanned d formula round loads nets first count at trees → ArePlanned d formula round loads nets first count next more
  planned-more at next net trees more tree next_is more_is there plan planned =
      subst (ArePlanned d formula round loads nets first count next) (sym more_is) (record {
        at_is =
            let old = planned.at_is in
            let long = length_push trees (Some tree) in
            let product : (length trees + 1) * count ≡ length trees * count + count = grind arith in
            next_is ∙ ap (λ (n : ℕ). n + count) old ∙ omega (arith, product) ∙ sym (ap (λ (n : ℕ). first + n * count) long);
        each = λ k other below is. elim (cases_lt k (length trees)) [
          | inl before ↦
              subst (λ (o : Option (Option Planned)). IsSomeAnd (option_and_then (λ plan. plan) o) (IsPlanned d formula round loads other))
              (sym (slice_get-left trees (Some tree ∷ []) k before)) (planned.each k other before is)
          | inr after ↦
              let long = length_push trees (Some tree) in
              let last : k ≡ length trees = omega (arith, below, after, long) in
              let same : net ≡ other = same_Some net other (sym there ∙ ap (slice_get nets) (planned.at_is ∙ sym (ap (λ (n : ℕ). first + n * count) last)) ∙ is) in
              subst (λ (o : Option (Option Planned)). IsSomeAnd (option_and_then (λ plan. plan) o) (IsPlanned d formula round loads other))
              (sym (ap (slice_get (trees ++ Some tree ∷ [])) last ∙ slice_get-right trees (Some tree ∷ []) (length trees) 0 (omega arith)))
              (subst (λ (n : ℕ). IsPlanned d formula round loads n tree) same plan)
        ];
      })

  pub planned-all : (at : ℕ) (seat : Seat) → length nets ≤ at → ArePlanned d formula round loads nets first count at seat.plans.items → HasPlanned d formula round loads nets first count seat
  planned-all at seat past planned h of k net there = elim (cases_lt k (length seat.plans.items)) [
    | inl below ↦ some-weaker (plan_in seat k) (planned.each k net below there)
    | inr beyond ↦
        let within = slice_get_within nets (first + k * count) net there in
        let more = mul-le-mul_right count beyond in
        let at_is = planned.at_is in
        absurd (omega (arith, within, more, at_is, past))
  ]
    where
      some-weaker : (o : Option Planned) → IsSomeAnd o (IsPlanned d formula round loads net) → IsSomeAnd o (IsNoted d formula round h net)
      some-weaker None is = is
      some-weaker (Some tree) is = is h of

-- where each seat has planned its share, the seats hold plans for all places
pub plans-all : (d : DesignView) (formula : Formula) (round : ℕ) (loads : LoadsView) (h : List Entry) (nets : List ℕ) (seats : List Seat) → 0 < length seats → AreLoadsOf (capacity_of d) h loads →
    ((first : ℕ) (seat : Seat) → slice_get seats first ≡ Some seat → HasPlanned d formula round loads nets first (length seats) seat) → HavePlans d formula round h nets 0 seats
plans-all d formula round loads h nets seats some of each place net low there =
    by (slice_get seats (place % length seats)) refl
  where
    count : ℕ
    count = length seats

    by : (o : Option Seat) → slice_get seats (place % count) ≡ o → IsSomeAnd (option_and_then (λ seat. plan_in seat (place / count)) o) (IsNoted d formula round h net)
    by None is =
        let below = mod_below place count some in
        let other = within-some seats (place % count) below in
        absurd (none-is is other.1)
      where
        within-some : (xs : List Seat) (k : ℕ) → k < length xs → (x : Seat) × (slice_get xs k ≡ Some x)
        within-some [] k low = absurd (omega arith)
        within-some (x ∷ xs) zero low = (x, refl)
        within-some (x ∷ xs) (suc k) low = within-some xs k (omega arith)

        none-is : {x : Seat} → slice_get seats (place % count) ≡ None → slice_get seats (place % count) ≡ Some x → ⊥
        none-is {x = x} a b = none-some x (sym a ∙ b)
    by (Some seat) is =
        let parts = div-add-mod' place count in
        let place_is : place % count + place / count * count ≡ place = omega (arith, parts) in
        each (place % count) seat is h of (place / count) net (ap (slice_get nets) place_is ∙ there)

-- the tree for a place is taken from its seat
pub record IsTakenFrom (seats after : List Seat) (place : ℕ) : Type 0 where
  pub seat : Seat
  pub left : Seat
  pub there : slice_get seats (place % length seats) ≡ Some seat
  pub after_is : after ≡ slice_set seats (place % length seats) left
  pub plans : left.plans.items ≡ slice_set seat.plans.items (place / length seats) None

-- the trees for the other places stay
pub taken-others : (seats after : List Seat) (place : ℕ) → IsTakenFrom seats after place → (other : ℕ) → (other ≡ place → ⊥) → plan_for after other ≡ plan_for seats other
taken-others seats after place taken other apart =
    ap (λ (n : ℕ). option_and_then (λ seat. plan_in seat (other / n)) (slice_get after (other % n)))
    (ap (λ (xs : List Seat). length xs) taken.after_is ∙ length-set seats (place % count) taken.left)
    ∙ ap (λ (xs : List Seat). option_and_then (λ seat. plan_in seat (other / count)) (slice_get xs (other % count))) taken.after_is
    ∙ elim (cases_eq (other % count) (place % count)) [
      | inl same ↦ own same
      | inr elsewhere ↦ ap (λ (o : Option Seat). option_and_then (λ seat. plan_in seat (other / count)) o) (set-elsewhere seats (place % count) taken.left (other % count) elsewhere)
    ]
  where
    count : ℕ
    count = length seats

    own : other % count ≡ place % count →
        option_and_then (λ seat. plan_in seat (other / count)) (slice_get (slice_set seats (place % count) taken.left) (other % count)) ≡ plan_for seats other
    own same =
        let turn : other / count ≡ place / count → ⊥ =
        λ even. apart (sym (div-add-mod' other count) ∙ ap (λ (n : ℕ). n * count + other % count) even ∙ ap (λ (n : ℕ). place / count * count + n) same ∙ div-add-mod' place count) in
        ap (λ (n : ℕ). option_and_then (λ seat. plan_in seat (other / count)) (slice_get (slice_set seats (place % count) taken.left) n)) same
        ∙ ap (λ (o : Option Seat). option_and_then (λ seat. plan_in seat (other / count)) o)
        (set-here seats (place % count) taken.left (slice_get_within seats (place % count) taken.seat taken.there))
        ∙ ap (λ (ts : List (Option Planned)). option_and_then (λ plan. plan) (slice_get ts (other / count))) taken.plans
        ∙ ap (λ (o : Option (Option Planned)). option_and_then (λ plan. plan) o) (set-elsewhere taken.seat.plans.items (place / count) None (other / count) turn)
        ∙ sym (ap (λ (o : Option Seat). option_and_then (λ seat. plan_in seat (other / count)) o) (ap (slice_get seats) same ∙ taken.there))

-- what is known of the plan for a place
pub record IsKnownPlan (d : DesignView) (formula : Formula) (round : ℕ) (h : List Entry) (net : ℕ) (plan : Planned) : Type 0 where
  pub noted : IsNoted d formula round h net plan
  pub shape : plan.tree.shape ≡ d.frame.shape

pub held-plan : (d : DesignView) (formula : Formula) (round : ℕ) (h : List Entry) (nets : List ℕ) (from place net : ℕ) (seats : List Seat) → HavePlans d formula round h nets from seats → from ≤ place →
    slice_get nets place ≡ Some net → IsSome (plan_for seats place)
held-plan d formula round h nets from place net seats plans low there = some-is (plan_for seats place) (plans place net low there)
  where
    some-is : (o : Option Planned) → IsSomeAnd o (IsNoted d formula round h net) → IsSome o
    some-is None is = absurd is
    some-is (Some tree) is = refl

pub plan-known : (d : DesignView) (formula : Formula) (round : ℕ) (h : List Entry) (nets : List ℕ) (from place net : ℕ) (seats : List Seat) (tree : Planned) → HavePlans d formula round h nets from seats →
    from ≤ place → slice_get nets place ≡ Some net → IsTrue (is_routed d net) → plan_for seats place ≡ Some tree → IsKnownPlan d formula round h net tree
plan-known d formula round h nets from place net seats tree plans low there routed is =
    let noted = and-some (IsNoted d formula round h net) (plan_for seats place) tree is (plans place net low there) in
    let of = routed-net d net routed in
    record { noted = noted; shape = (noted.plan.routes of.net of.there).shape }

pub plans-left : (d : DesignView) (formula : Formula) (round : ℕ) (h : List Entry) (nets : List ℕ) (place : ℕ) (seats after : List Seat) → HavePlans d formula round h nets place seats →
    ((other : ℕ) → (other ≡ place → ⊥) → plan_for after other ≡ plan_for seats other) → HavePlans d formula round h nets (place + 1) after
plans-left d formula round h nets place seats after plans others other net low there =
    subst (λ (o : Option Planned). IsSomeAnd o (IsNoted d formula round h net)) (sym (others other (λ is. absurd (omega (arith, is, low)))))
    (plans other net (omega (arith, low)) there)
