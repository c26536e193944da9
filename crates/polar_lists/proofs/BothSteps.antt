-- The steps of the lists for both signals.
use Rattle.std.proofs.Common.{◌≡◌, ℕ, zero, suc, ◌+◌, ◌-◌, ◌*◌, ◌<◌, ◌≤◌, Bool, List, length, Option, ap, ◌∙◌, le_refl, mul-le-mul, arith}
use Rattle.ginneken_lists.specs.Candidates.{Chosen}
use Rattle.buffer_plan.specs.Picked.{Sites}
use Rattle.buffer_plan.specs.Gathered.{most_steps}
use Rattle.buffer_plan.proofs.Gathering.{steps-low}
use Rattle.buffer_plan.proofs.PlanLemmas.{plan-steps}
use Rattle.polar_lists.specs.BothLists.{side, sides_at, AreShort, AreBothGathered, most_offer_steps}
use Rattle.polar_lists.specs.declared.sides.Sides.{Sides}
use Rattle.polar_lists.proofs.BothGathering.{both-few}

-- what is made for two signals, and added
pub made-steps : (k most old first now last : ℕ) → first ≤ old + k * (most + 1) → now ≤ first + k * (most + 1) → last ≤ now + 4 * (k * (most + k)) →
    last ≤ old + most_offer_steps k most
made-steps zero most old first now last one two add =
    let none : zero * (most + 1) ≡ 0 = omega arith in
    omega arith
made-steps (suc k) most old first now last one two add =
    let less : suc k * (most + 1) ≤ suc k * (most + suc k) = mul-le-mul (le_refl (suc k)) (omega arith) in
    omega arith

-- the offers that are added to the list for one signal
pub added-steps : (k most len offers : ℕ) → len ≤ most → offers ≤ k → offers * (2 * (len + offers)) ≤ 2 * (k * (most + k))
added-steps k most len offers short few =
    let less : offers * (len + offers) ≤ k * (most + k) = mul-le-mul few (omega arith) in
    let out : offers * (2 * (len + offers)) ≡ 2 * (offers * (len + offers)) = omega arith in
    omega arith

-- a node
pub hung-steps : (k nodes n old raised now : ℕ) → n + 2 ≤ nodes →
    raised ≤ old + most_offer_steps k (1 + k * n) + 2 * (1 + k * n + k) → now ≤ raised + 4 * (1 + k * n + (1 + k * n + k)) →
    now ≤ old + 2 * most_steps k nodes
hung-steps k nodes n old raised now some up joined =
    let m : ℕ = 1 + k * n in
    let low = steps-low k nodes n m m (m + k) some (le_refl m) (le_refl m) (le_refl (m + k)) in
    omega (arith, low, up, joined)

-- all nodes, and one list
pub both-plan_steps : (k nodes old all now len : ℕ) → 0 < nodes → all ≤ old + 2 * most_steps k nodes * (nodes - 1) → len ≤ 1 + k * (nodes - 1) →
    now ≤ all + len + 1 → now ≤ old + 2 * (8 * (1 + k) * nodes * (1 + k * nodes))
both-plan_steps k nodes old all now len some first low second =
    let d : ℕ = nodes - 1 in
    let part : ℕ = most_steps k nodes * d in
    let whole = plan-steps k nodes 0 part (part + len + 1) len some (omega arith) low (omega arith) in
    let twice : 2 * most_steps k nodes * d ≡ 2 * part = omega arith in
    omega (arith, whole, first, second, twice)

pub both-plan_steps_part : (k nodes old now : ℕ) → 0 < nodes → now ≤ old + 2 * most_steps k nodes * (nodes - 1) →
    now ≤ old + 2 * (8 * (1 + k) * nodes * (1 + k * nodes))
both-plan_steps_part k nodes old now some first = both-plan_steps k nodes old now now 0 some first (omega arith) (omega arith)

-- the steps of a node from those of what is raised and joined
module _ (s : Sites) (node k nodes : ℕ) (trail : List Chosen) (lists : List (Option Sides)) (below : Sides) (are : AreBothGathered s (node + 1) trail lists)
    (later : 0 < node) (below_is : below ≡ sides_at lists node) (kinds : length s.library.kinds ≡ k) (long : s.tree.nodes ≡ nodes) where
  abbrev hung_most : ℕ
  hung_most = 1 + k * (nodes - (node + 1))

  taken-short : (v : ℕ) (sides : Sides) → v < node + 1 → sides ≡ sides_at lists v → AreShort hung_most sides
  taken-short v sides before is inverted =
      let few = both-few s (node + 1) v trail lists are before inverted in
      let same = ap (λ (u : Sides). length (side u inverted)) is in
      let product : length s.library.kinds * (s.tree.nodes - (node + 1)) ≡ k * (nodes - (node + 1)) =
      ap (λ (m : ℕ). m * (s.tree.nodes - (node + 1))) kinds ∙ ap (λ (m : ℕ). k * (m - (node + 1))) long in
      omega arith

  pub raised-in_steps : (old raised : ℕ) →
      ((most : ℕ) → AreShort most below → raised ≤ old + most_offer_steps k most + 2 * (most + k)) → raised ≤ old + 2 * most_steps k nodes
  raised-in_steps old raised up =
      let within = are.within in
      hung-steps k nodes (nodes - (node + 1)) old raised raised (omega arith) (up hung_most (taken-short node below (omega arith) below_is)) (omega arith)

  pub hung-in_steps : (parent old raised now : ℕ) (own upper : Sides) → parent < node → own ≡ sides_at lists parent →
      ((inverted : Bool) → length (side upper inverted) ≤ length (side below inverted) + k) →
      ((most : ℕ) → AreShort most below → raised ≤ old + most_offer_steps k most + 2 * (most + k)) →
      ((most more : ℕ) → AreShort most own → AreShort more upper → now ≤ raised + 4 * (most + more)) → now ≤ old + 2 * most_steps k nodes
  hung-in_steps parent old raised now own upper earlier own_is short up joined =
      let within = are.within in
      let short_below = taken-short node below (omega arith) below_is in
      let short_upper : AreShort (hung_most + k) upper = λ inverted. let a = short inverted in let b = short_below inverted in omega arith in
      hung-steps k nodes (nodes - (node + 1)) old raised now (omega arith) (up hung_most short_below)
      (joined hung_most (hung_most + k) (taken-short parent own (omega arith) own_is) short_upper)
