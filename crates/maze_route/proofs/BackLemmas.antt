-- The first step back, by labels.
use Rattle.std.proofs.Common.{◌≡◌, ℕ, ◌+◌, ◌-◌, ◌*◌, ◌<◌, ◌≤◌, inl, inr, Bool, true, false, ◌==◌, List, [], ◌∷◌, map, Option, Some, None, IfSome, IsSome, if◌then◌else◌, refl, sym, ap, subst, ◌∙◌, arith}
use Rattle.std.proofs.lemmas.Bool.{cases_Bool, both_ways}
use Rattle.std.proofs.lemmas.Bool.Decides.{nat_tests}
use Rattle.std.proofs.lemmas.Option.{none-some, same_Some}
use Rattle.std.proofs.Math.Nat.{le-mul_of_pos_right}
use Rattle.std.specs.Option.{option_map}
use Rattle.cost_rules.specs.Prices.{ArePrices}
use Rattle.gr_base.specs.declared.grid.Edge.{Edge}
use Rattle.gr_base.specs.declared.grid.Shape.{Shape}
use Rattle.gr_base.specs.declared.grid.Way.{Way}
use Rattle.gr_base.specs.declared.grid.Way.TheVariants.{East, North, Up}
use Rattle.gr_base.specs.Grid.{place_at, has_room}
use Rattle.gr_base.specs.Trees.{TreeView}
use Rattle.gr_base.proofs.GridLemmas.{some_columns, some_rows}
use Rattle.maze_route.specs.Backs.{makes_up, closer_of, either_of, first_some, first_closer, IsNear}
use Rattle.maze_route.specs.Steps.{Step, pane_step, pane_graph, rest_of, step_to, has_room_behind, sides, steps_from}
use Rattle.maze_route.specs.Walks.{IsFirstBack}
use Rattle.maze_route.specs.declared.pane.Pane.{Pane}
use Rattle.maze_route.specs.declared.pane.Aim.{Aim}
use Rattle.maze_route.proofs.Distances.{guided-distance, label-back, back-label, some-back}
use Rattle.maze_route.proofs.SearchLemmas.{AllSteps}
use Rattle.maze_route.proofs.HandingLemmas.{pick-step, pane-costs}
use Rattle.maze_route.proofs.StepLemmas.{step-by, step-ahead, step-behind, step-to-some}

-- a step costs the same the other way round
pub step-swap : (p : Pane) (price : Edge → Option ℕ) (m n k : ℕ) → pane_step p price m n ≡ Some k → pane_step p price n m ≡ Some k
step-swap p price m n k is =
    let by = step-by p price m n k is in
    elim (by.next) [
      | inl next ↦ step-behind p price m n by.way next ∙ sym (step-ahead p price m n by.way next) ∙ is
      | inr next ↦ step-ahead p price n m by.way next ∙ sym (step-behind p price n m by.way next) ∙ is
    ]

-- each of these numbers, where there is one
abbrev AllSome : (ℕ → Type 0) → List (Option ℕ) → Type 0
AllSome P [] = Unit {0}
AllSome P (o ∷ os) = IfSome o P × AllSome P os

-- no number is above a later one
abbrev Rises : List (Option ℕ) → Type 0
Rises [] = Unit {0}
Rises (o ∷ os) = ((a : ℕ) → o ≡ Some a → AllSome (λ b. a ≤ b) os) × Rises os

-- a step that makes up what is left is no lower than this
abbrev NoLower : (ℕ → Option ℕ) → ℕ → ℕ → Step → Type 0
NoLower label left cell step = makes_up (label step.cell) step.cost left ≡ true → cell ≤ step.cell

if-some : (o : Option Step) (P : Step → Type 0) → ((s : Step) → o ≡ Some s → P s) → IfSome o P
if-some None P all = tt
if-some (Some s) P all = all s refl

at-some : (o : Option ℕ) (x : ℕ) (P : ℕ → Type 0) → o ≡ Some x → IfSome o P → P x
at-some o x P is h = let Q : Option ℕ → Type 0 = λ q. IfSome q P in let r : IfSome (Some x) P = subst Q is h in r

all-above : (p : Pane) (price : Edge → Option ℕ) (aim : Aim) (label : ℕ → Option ℕ) (left n a : ℕ) (os : List (Option ℕ)) → AllSome (λ b. a ≤ b) os →
    AllSteps (NoLower label left a) (map (step_to p price aim n) os)
all-above p price aim label left n a [] all = tt
all-above p price aim label left n a (o ∷ os) all = (
  if-some (step_to p price aim n o) (NoLower label left a) (λ s is _. at-some o s.cell (λ b. a ≤ b) (step-to-some p price aim n o s is).0 all.0),
  all-above p price aim label left n a os all.1,
)

-- what the first step that makes up what is left says
pub record IsFirstStep (p : Pane) (price : Edge → Option ℕ) (aim : Aim) (label : ℕ → Option ℕ) (left n : ℕ) (steps : List (Option Step)) (first : Step) : Type 0 where
  pub taken : pane_step p price n first.cell ≡ Some first.cost
  pub made : makes_up (label first.cell) first.cost left ≡ true
  pub least : AllSteps (NoLower label left first.cell) steps

first-by : (p : Pane) (price : Edge → Option ℕ) (aim : Aim) (label : ℕ → Option ℕ) (left n : ℕ) (o : Option ℕ) (os : List (Option ℕ)) (first : Step) (step : Option Step) →
    step_to p price aim n o ≡ step → Rises (o ∷ os) →
    (first_some (map (closer_of label left) (map (step_to p price aim n) os)) ≡ Some first → IsFirstStep p price aim label left n (map (step_to p price aim n) os) first) →
    either_of (closer_of label left step) (first_some (map (closer_of label left) (map (step_to p price aim n) os))) ≡ Some first →
    IsFirstStep p price aim label left n (step ∷ map (step_to p price aim n) os) first
first-by p price aim label left n o os first None to rises more is =
    let rest = more is in record { taken = rest.taken; made = rest.made; least = (tt, rest.least) }
first-by p price aim label left n o os first (Some step) to rises more is =
    let parts = step-to-some p price aim n o step to in
    elim (cases_Bool (makes_up (label step.cell) step.cost left)) [
      | inl makes ↦
          let others = first_some (map (closer_of label left) (map (step_to p price aim n) os)) in
          let same : step ≡ first = same_Some step first (sym (ap (λ b. either_of (if b then Some step else None) others) makes) ∙ is) in
          let P : Step → Type 0 = λ s. IsFirstStep p price aim label left n (Some step ∷ map (step_to p price aim n) os) s in
          subst P same (record {
            taken = parts.1.0;
            made = makes;
            least = (λ _. omega arith, all-above p price aim label left n step.cell os (rises.0 step.cell parts.0));
          })
      | inr fails ↦
          let others = first_some (map (closer_of label left) (map (step_to p price aim n) os)) in
          let rest = more (sym (ap (λ b. either_of (if b then Some step else None) others) fails) ∙ is) in
          record {
            taken = rest.taken;
            made = rest.made;
            least = (λ makes. absurd (both_ways true (sym makes ∙ fails) refl), rest.least);
          }
    ]

first-step : (p : Pane) (price : Edge → Option ℕ) (aim : Aim) (label : ℕ → Option ℕ) (left n : ℕ) (os : List (Option ℕ)) (first : Step) → Rises os →
    first_some (map (closer_of label left) (map (step_to p price aim n) os)) ≡ Some first → IsFirstStep p price aim label left n (map (step_to p price aim n) os) first
first-step p price aim label left n [] first rises is = absurd (none-some first is)
first-step p price aim label left n (o ∷ os) first rises is =
    first-by p price aim label left n o os first (step_to p price aim n o) refl rises (first-step p price aim label left n os first rises.1) is

-- the neighbours of a cell go by rising number
low-some : (b : Bool) (v a : ℕ) → a ≤ v → IfSome (if b then Some v else None) (λ c. a ≤ c)
low-some true v a le = le
low-some false v a le = tt

is-value : (b : Bool) (v a : ℕ) → (if b then Some v else None) ≡ Some a → v ≡ a
is-value true v a is = same_Some v a is
is-value false v a is = absurd (none-some a is)

rises-by : (b1 b2 b3 b4 b5 b6 : Bool) (n e c u : ℕ) → e ≤ c → c ≤ u →
    Rises ((if b1 then Some (n - u) else None) ∷ (if b2 then Some (n - c) else None) ∷ (if b3 then Some (n - e) else None)
    ∷ (if b4 then Some (n + e) else None) ∷ (if b5 then Some (n + c) else None) ∷ (if b6 then Some (n + u) else None) ∷ [])
rises-by b1 b2 b3 b4 b5 b6 n e c u le_c le_u = (
  λ a is. let v = is-value b1 (n - u) a is in
      (low-some b2 (n - c) a (omega arith), (low-some b3 (n - e) a (omega arith), (low-some b4 (n + e) a (omega arith), (low-some b5 (n + c) a (omega arith), (low-some b6 (n + u) a (omega arith), tt))))),
  (
    λ a is. let v = is-value b2 (n - c) a is in
        (low-some b3 (n - e) a (omega arith), (low-some b4 (n + e) a (omega arith), (low-some b5 (n + c) a (omega arith), (low-some b6 (n + u) a (omega arith), tt)))),
    (
      λ a is. let v = is-value b3 (n - e) a is in (low-some b4 (n + e) a (omega arith), (low-some b5 (n + c) a (omega arith), (low-some b6 (n + u) a (omega arith), tt))),
      (
        λ a is. let v = is-value b4 (n + e) a is in (low-some b5 (n + c) a (omega arith), (low-some b6 (n + u) a (omega arith), tt)),
        (λ a is. let v = is-value b5 (n + c) a is in (low-some b6 (n + u) a (omega arith), tt), (λ a is. tt, tt)),
      ),
    ),
  ),
)

sides-rise : (s : Shape) (n : ℕ) → Rises (sides s n)
sides-rise s n =
    let q = place_at s n in
    let columns = some_columns s in
    let tiles = le-mul_of_pos_right s.columns (some_rows s) in
    rises-by (has_room_behind q Up) (has_room_behind q North) (has_room_behind q East) (has_room s q East) (has_room s q North) (has_room s q Up)
    n 1 s.columns (s.columns * s.rows) (omega arith) (omega (arith, tiles))

makes-sum : (o : Option ℕ) (cost left : ℕ) → makes_up o cost left ≡ true → (label : ℕ) × ((o ≡ Some label) × (label + cost ≡ left))
makes-sum None cost left makes = absurd (both_ways true (sym makes) refl)
makes-sum (Some label) cost left makes = (label, (refl, grind (arith, nat_tests)))

sum-makes : (o : Option ℕ) (label cost left : ℕ) → o ≡ Some label → label + cost ≡ left → makes_up o cost left ≡ true
sum-makes o label cost left is sum =
    let same : (label + cost == left) ≡ true = grind (arith, nat_tests) in
    ap (λ (l : Option ℕ). makes_up l cost left) is ∙ same

-- the cell of the first step back is the first one back
pub record GoesBack (p : Pane) (t : TreeView) (price : Edge → Option ℕ) (label : ℕ → Option ℕ) (cell left : ℕ) (step : Step) : Type 0 where
  pub first : IsFirstBack (pane_graph p t price) cell step.cell
  pub less : step.cost ≤ left
  pub some : 0 < step.cost
  pub near : IsNear p t price label step.cell (left - step.cost)

pub goes-back : (p : Pane) (t : TreeView) (ways : ℕ → Way → Bool) (price : Edge → Option ℕ) (label : ℕ → Option ℕ) (cell left : ℕ) (step : Step) → ArePrices p.grid ways price →
    (near : IsNear p t price label cell left) → first_closer p price near.aim label cell left ≡ Some step → GoesBack p t price label cell left step
goes-back p t ways price label cell left step prices near is =
    let aim = near.aim in
    let graph = pane_graph p t price in
    let rest = rest_of p aim in
    let costs = pane-costs p t ways price prices in
    let distance = guided-distance graph rest label near.bound near.consistent near.guided cell left near.labelled near.near in
    let first = first-step p price aim label left cell (sides p.shape cell) step (sides-rise p.shape cell) is in
    let made = makes-sum (label step.cell) step.cost left first.made in
    let sum = made.1.1 in
    let taken = step-swap p price cell step.cell step.cost first.taken in
    let back = label-back graph label near.guided.walked cell step.cell made.0 step.cost left distance made.1.0 taken sum in
    let by = step-by p price step.cell cell step.cost taken in
    let own = back-label graph rest label near.bound near.consistent near.guided cell step.cell left distance near.near back in
    let same : own.0 ≡ made.0 = same_Some own.0 made.0 (sym own.1.1.0 ∙ made.1.0) in
    let bound = own.1.1.1.1.1 in
    let left_is : made.0 ≡ left - step.cost = omega arith in
    record {
      first = record {
        is_back = back;
        first = λ other is_other.
            let at = back-label graph rest label near.bound near.consistent near.guided cell other left distance near.near is_other in
            let there = step-swap p price other cell at.1.0 at.1.1.1.0 in
            pick-step p price aim cell other at.1.0 (NoLower label left step.cell) there first.least (sum-makes (label other) at.0 at.1.0 left at.1.1.0 at.1.1.1.1.0);
      };
      less = omega arith;
      some = costs step.cell cell step.cost taken;
      near = record {
        aim = aim;
        inside = elim (by.next) [ inl next ↦ next.low_inside | inr next ↦ next.inside ];
        labelled = made.1.0 ∙ ap (λ (n : ℕ). Some n) left_is;
        bound = near.bound;
        consistent = near.consistent;
        guided = near.guided;
        near = omega arith;
      };
    }

-- such a step is found where something is left
none-closer : (p : Pane) (price : Edge → Option ℕ) (aim : Aim) (label : ℕ → Option ℕ) (left n : ℕ) (steps : List (Option Step)) →
    first_some (map (closer_of label left) steps) ≡ None → AllSteps (λ s. makes_up (label s.cell) s.cost left ≡ false) steps
none-closer p price aim label left n [] is = tt
none-closer p price aim label left n (None ∷ steps) is = (tt, none-closer p price aim label left n steps is)
none-closer p price aim label left n (Some step ∷ steps) is =
    let others = first_some (map (closer_of label left) steps) in
    elim (cases_Bool (makes_up (label step.cell) step.cost left)) [
      | inl makes ↦ absurd (none-some step (sym is ∙ ap (λ b. either_of (if b then Some step else None) others) makes))
      | inr fails ↦ (fails, none-closer p price aim label left n steps (sym (ap (λ b. either_of (if b then Some step else None) others) fails) ∙ is))
    ]

some-from : (o : Option Step) → (o ≡ None → ⊥) → IsSome o
some-from None h = absurd (h refl)
some-from (Some s) h = refl

pub finds-back : (p : Pane) (t : TreeView) (price : Edge → Option ℕ) (label : ℕ → Option ℕ) (cell left : ℕ) →
    (near : IsNear p t price label cell left) → 0 < left → IsSome (first_closer p price near.aim label cell left)
finds-back p t price label cell left near some =
    let aim = near.aim in
    some-from (first_closer p price aim label cell left) (λ none.
    let graph = pane_graph p t price in
    let rest = rest_of p aim in
    let distance = guided-distance graph rest label near.bound near.consistent near.guided cell left near.labelled near.near in
    let back = some-back graph cell left distance some in
    let at = back-label graph rest label near.bound near.consistent near.guided cell back.0 left distance near.near back.1 in
    let there = step-swap p price back.0 cell at.1.0 at.1.1.1.0 in
    let fails = pick-step p price aim cell back.0 at.1.0 (λ s. makes_up (label s.cell) s.cost left ≡ false) there (none-closer p price aim label left cell (steps_from p price aim cell) none) in
    absurd (both_ways true (sym (sum-makes (label back.0) at.0 at.1.0 left at.1.1.0 at.1.1.1.1.0) ∙ fails) refl))

-- what is mapped to something is something
pub some-mapped : {A B : Type 0} (f : A → B) (o : Option A) → IsSome (option_map f o) → IsSome o
some-mapped f None is = is
some-mapped f (Some x) is = refl
