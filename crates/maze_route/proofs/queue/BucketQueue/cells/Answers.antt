use Rattle.std.proofs.Common.{◌≡◌, ℕ, List, OnOk, ap, subst, ◌∙◌}
use Rattle.maze_route.specs.Kept.{cells_waiting, cells_of_pairs}
use Rattle.maze_route.specs.Queues.{QueueView}
use Rattle.maze_route.specs.declared.slot.Slot.{Slot}
use Rattle.maze_route.proofs.queue.BucketQueue.cells.Goals as goal

pub returns : goal.returns
returns c =
    let same = ap (λ (xs : List Slot). cells_waiting xs) c.deref.ensures.value ∙ ap (λ (q : QueueView). cells_of_pairs q.pairs) c.self.view_is in
    let P : List ℕ → Type 0 = λ xs. OnOk c.waiting.result (c.waiting.new.cells.items ≡ xs) in
    subst P same c.waiting.ensures
