use Rattle.std.proofs.Common.{ℕ, ◌≤◌, List, Option, true, refl, sym, ap, subst}
use Rattle.maze_route.specs.Buckets.{Keeps}
use Rattle.maze_route.specs.Queues.{QueueView}
use Rattle.maze_route.specs.declared.slot.Slot.{Slot}
use Rattle.maze_route.proofs.KeepLemmas.{push-keeps}
use Rattle.maze_route.proofs.queue.BucketQueue.push.Goals as goal

pub invariant_of-self-2 : goal.invariant_of-self-2
invariant_of-self-2 c =
    let bucket = c.bucket_of-bucket.result in
    let slot : Slot = record { key = c.args.key; cell = c.args.cell; next = c.at.result; taken = true } in
    let L : ℕ → Type 0 = λ n. n ≤ c.args.key in
    let K : List (Option ℕ) → Type 0 = λ hs. Keeps c.put.new.slots.items hs c.put.new.free c.self.inside.last in
    subst K (sym c.set.ensures) (push-keeps c.self.inside.slots.items c.put.new.slots.items c.self.inside.heads c.self.inside.free c.put.new.free c.self.inside.last bucket c.in_ok-place.place slot
    c.self.invariant c.in_ok-place.ensures.put c.put.ensures.free refl (subst L (sym (ap (λ (q : QueueView). q.last) c.self.view_is)) c.requires)
    c.bucket_of-bucket.ensures.bucket c.bucket_of-bucket.ensures.few c.at.ensures)
