use Rattle.std.proofs.Common.{◌≡◌, ◌==◌, ◌||◌, ℕ, false, get_or, length, take}
use Rattle.std.specs.List.{list_any}
use Rattle.cut_bounds.proofs.taken.mark_places.Given as goal

abbrev pub invariant-loop-place : goal.invariant-loop-place
invariant-loop-place l = record {
  long : length l.marks.items ≡ length l.initial.marks.items;
  each : (n : ℕ) → get_or l.marks.items n false ≡ (list_any (λ place. place == n) (take l.place-index l.places) || get_or l.initial.marks.items n false);
}
