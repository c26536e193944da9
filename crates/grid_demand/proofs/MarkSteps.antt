-- Marks that are added at listed places.
use Rattle.std.proofs.Common.{◌≡◌, ℕ, ◌+◌, ◌*◌, ◌<◌, inl, inr, min, Bool, true, false, ◌||◌, ◌==◌, nat_lt, List, [], ◌∷◌, take, get_or, length, slice_index, slice_set, refl, sym, ap, ◌∙◌, arith}
use Rattle.std.specs.List.Sorted.{IsStrictlyIncreasing}
use Rattle.std.proofs.lemmas.Bool.{cases_Bool, cases_eq}
use Rattle.std.proofs.lemmas.Bool.Decides.{nat_tests}
use Rattle.std.proofs.lemmas.List.{take_more, get_or-set_same, get_or-set_other, get_or-take, get_or_default, length-take}
use Rattle.std.proofs.lemmas.List.Folds.{list_any-append, Any-from_list_any}
use Rattle.std.proofs.lemmas.Grind.{same_number_lists}
use Rattle.std.proofs.lemmas.List.Kept.{AllPairs-from_increasing}
use Rattle.gr_base.specs.Grid.{cells_of}
use Rattle.gr_base.specs.Limits.{most_marks}
use Rattle.gr_base.specs.Trees.{is_among}
use Rattle.grid_demand.proofs.LoadLemmas.{marks-table, marks-long}
use Rattle.grid_demand.proofs.PlaneLemmas.{place-below, length-by_number, by_number-at}
use Rattle.grid_demand.proofs.ToldEdges.{told-number}
use Rattle.grid_demand.specs.LoadSums.{LoadsView, AreLoads, mark_where, mark_of, marked}
use Rattle.grid_demand.specs.Overfull.{OverfullView, AreOverfull, told_places}
use Rattle.grid_demand.specs.Planes.{place_of, by_number}
use Rattle.grid_demand.specs.Tables.{CapacityView}

nothing : (b : Bool) → (b || false) ≡ b
nothing true = refl
nothing false = refl

-- a rising list has each of its numbers once
once : (places : List ℕ) (at : ℕ) → IsStrictlyIncreasing places → at < length places → is_among (take at places) (get_or places at 0) ≡ false
once places at rising inside =
    elim (cases_Bool (is_among (take at places) (get_or places at 0))) [
      | inl has ↦
          let before = Any-from_list_any (λ (p : ℕ). p == get_or places at 0) (take at places) has in
          let k = before.0 in
          let within : k < at = let long = length-take at places in let below = before.2 in omega (arith, below, long) in
          let x = before.1 in
          let apart = AllPairs-from_increasing places rising k at x within inside in
          let there = get_or-take at places k x within in
          let is = before.3 in
          let same : x ≡ get_or places at 0 = let test = before.4 in grind (arith, nat_tests, test) in
          let last = get_or_default places at x 0 inside in
          absurd (omega (arith, apart, there, is, same, last))
      | inr lacks ↦ lacks
    ]

-- the marks once one more of the places is marked
pub marks-more : (places marks old : List ℕ) (at new : ℕ) → IsStrictlyIncreasing places → at < length places → get_or places at 0 < length marks →
    ((n : ℕ) → n < length old → slice_index marks n ≡ mark_where (is_among (take at places) n) (slice_index old n)) →
    get_or places at 0 < length old → new ≡ min most_marks (slice_index marks (get_or places at 0) + 1) →
    (n : ℕ) → n < length old → slice_index (slice_set marks (get_or places at 0) new) n ≡ mark_where (is_among (take (at + 1) places) n) (slice_index old n)
marks-more places marks old at new rising inside below each known is n within =
    let place : ℕ = get_or places at 0 in
    let more : is_among (take (at + 1) places) n ≡ (is_among (take at places) n || (place == n || false)) =
    ap (λ (xs : List ℕ). is_among xs n) (take_more places at 0 inside) ∙ list_any-append (λ (p : ℕ). p == n) (take at places) (place ∷ []) in
    elim (cases_eq n place) [
      | inl same ↦
          let here : (place == n) ≡ true = grind (arith, nat_tests) in
          let lacks : is_among (take at places) n ≡ false = ap (is_among (take at places)) same ∙ once places at rising inside in
          let now : is_among (take (at + 1) places) n ≡ true = more ∙ rw (lacks, here) refl in
          let before : slice_index marks place ≡ slice_index old n = ap (λ (k : ℕ). slice_index marks k) (sym same) ∙ each n within ∙ rw lacks refl in
          ap (λ (k : ℕ). slice_index (slice_set marks place new) k) same
          ∙ get_or-set_same marks place new 0 below ∙ is ∙ ap (λ (k : ℕ). min most_marks (k + 1)) before ∙ rw now refl
      | inr other ↦
          let apart : (place == n) ≡ false = grind (arith, nat_tests) in
          let now : is_among (take (at + 1) places) n ≡ is_among (take at places) n = more ∙ rw apart (nothing (is_among (take at places) n)) in
          get_or-set_other marks place n new 0 other ∙ each n within ∙ ap (λ (b : Bool). mark_where b (slice_index old n)) (sym now)
    ]

-- the marks once all places are marked of which a table of loads says that they are over
pub overfull-marked : (c : CapacityView) (l : LoadsView) (old new places : List ℕ) (over : OverfullView) → AreLoads l → AreOverfull c l over →
    by_number 0 old ≡ l.marks → places ≡ told_places over.table → length new ≡ length old →
    ((n : ℕ) → n < length old → slice_index new n ≡ mark_where (is_among places n) (slice_index old n)) →
    by_number 0 new ≡ (marked c l).marks
overfull-marked c l old new places over loads is_over same listed long each =
    let cells : ℕ = cells_of l.shape in
    let marks : length old ≡ 2 * cells = marks-long l old loads same in
    let whole : length new ≡ 2 * cells = long ∙ marks in
    marks-table c l (by_number 0 new) loads (length-by_number 0 new ∙ whole ∙ sym loads.marks)
    (λ n below.
    let inside : n < 2 * cells = let h = loads.marks in omega (arith, below, h) in
    let p : ℕ = place_of (2 * cells) n in
    let there : p < length old = let place = place-below (2 * cells) n inside in omega (arith, place, marks) in
    let is : is_among places p ≡ nat_lt (slice_index c.capacities n) (slice_index l.demands n) =
    ap (λ (xs : List ℕ). is_among xs p) listed ∙ told-number over.table cells n is_over.long inside ∙ is_over.each n inside in
    let had : slice_index old p ≡ slice_index l.marks n =
    ap (λ (k : ℕ). slice_index old (place_of k n)) (sym marks) ∙ sym (by_number-at 0 old n (omega (arith, inside, marks)))
    ∙ ap (λ (xs : List ℕ). slice_index xs n) same in
    by_number-at 0 new n (omega (arith, inside, whole)) ∙ ap (λ (k : ℕ). slice_index new (place_of k n)) whole ∙ each p there
    ∙ ap (λ (b : Bool). mark_where b (slice_index old p)) is
    ∙ ap (λ (k : ℕ). mark_of (slice_index l.demands n) (slice_index c.capacities n) k) had)

-- no place to mark changes no mark
pub nowhere-marked : (places old new : List ℕ) → length places ≡ 0 → length new ≡ length old →
    ((n : ℕ) → n < length old → slice_index new n ≡ mark_where (is_among places n) (slice_index old n)) → new ≡ old
nowhere-marked [] old new empty long each = same_number_lists new old long (λ n below. each n (omega (arith, below, long)))
nowhere-marked (place ∷ places) old new empty long each = absurd (omega (arith, empty))
