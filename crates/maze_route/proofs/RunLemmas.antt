-- Prices of edges that lie side by side, after one more is put into a list.
use Rattle.std.proofs.Common.{◌≡◌, ◌≢◌, ℕ, ◌+◌, ◌<◌, inl, inr, true, false, ◌==◌, List, length, slice_get, slice_set, Option, Some, if◌then◌else◌, sym, ap, ◌∙◌, length-set, arith}
use Rattle.std.proofs.lemmas.Bool.{cases_lt}
use Rattle.std.proofs.lemmas.Bool.Decides.{nat_tests}
use Rattle.gr_base.specs.Grid.{edge_at}
use Rattle.gr_base.specs.declared.grid.Edge.{Edge}
use Rattle.maze_route.specs.Runs.{price_from, price_at, IsRun}
use Rattle.maze_route.proofs.LabelLemmas.{slice_get-set}

held-there : (prices after : List ℕ) (i held : ℕ) → i < length prices → after ≡ slice_set prices i held → price_at after i ≡ price_from (Some held)
held-there prices after i held below is =
    let here : (i == i) ≡ true = grind (arith, nat_tests) in
    ap (λ (xs : List ℕ). price_at xs i) is ∙ ap price_from (slice_get-set prices i i held below) ∙ ap (λ b. price_from (if b then Some held else slice_get prices i)) here

held-elsewhere : (prices after : List ℕ) (i j held : ℕ) → i < length prices → after ≡ slice_set prices i held → j ≢ i → price_at after j ≡ price_at prices j
held-elsewhere prices after i j held below is other =
    let there : (j == i) ≡ false = grind (arith, nat_tests) in
    ap (λ (xs : List ℕ). price_at xs j) is ∙ ap price_from (slice_get-set prices i j held below) ∙ ap (λ b. price_from (if b then Some held else slice_get prices j)) there

-- one more edge of a run
pub run-turn : (price : Edge → Option ℕ) (from : Edge) (first place held : ℕ) (before now after : List ℕ) → IsRun price from first place before now → first + place < length now →
    after ≡ slice_set now (first + place) held → price_from (Some held) ≡ price (edge_at (from.low + place) from.way) → IsRun price from first (place + 1) before after
run-turn price from first place held before now after run inside put is = record {
  size = ap (λ (xs : List ℕ). length xs) put ∙ length-set now (first + place) held ∙ run.size;
  each = λ i below. elim (cases_lt i place) [
    | inl old ↦ held-elsewhere now after (first + place) (first + i) held inside put (λ same. absurd (omega (arith, same, old))) ∙ run.each i old
    | inr last ↦
        let own : i ≡ place = omega arith in
        ap (λ (n : ℕ). price_at after (first + n)) own ∙ held-there now after (first + place) held inside put ∙ is
        ∙ sym (ap (λ (n : ℕ). price (edge_at (from.low + n) from.way)) own)
  ];
  below = λ n less. held-elsewhere now after (first + place) n held inside put (λ same. absurd (omega (arith, same, less))) ∙ run.below n less;
  above = λ n more. held-elsewhere now after (first + place) n held inside put (λ same. absurd (omega (arith, same, more))) ∙ run.above n (omega (arith, more));
}
