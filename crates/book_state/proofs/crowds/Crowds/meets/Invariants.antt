use Rattle.std.proofs.Common.{ℕ, ◌+◌, ◌*◌, ◌<◌, ◌≤◌, slice_index_or}
use Rattle.book_state.proofs.crowds.Crowds.meets.Given as goal

abbrev pub invariant-loop-y : goal.invariant-loop-y
invariant-loop-y l =
    (row : ℕ) → l.window.y0 ≤ row → row < l.y → slice_index_or l.self.last.items (row * l.self.shape.columns + l.window.x1) 0 ≤ l.window.x0
