use Rattle.std.proofs.Common.{ℕ, ◌≤◌, ◌∷◌, List, All, Option, IsSome, refl, sym, ap, subst, ◌∙◌, arith}
use Rattle.std.specs.List.Sorted.{IsPermutation}
use Rattle.std.specs.List.{filter_map}
use Rattle.maze_route.specs.Buckets.{pair_in}
use Rattle.maze_route.specs.Queues.{QueueView, Pops}
use Rattle.maze_route.proofs.KeepLemmas.{nothing-waits}
use Rattle.maze_route.proofs.RenewLemmas.{none-below}
use Rattle.maze_route.proofs.queue.BucketQueue.pop.Goals as goal

pub returns-in_err-bucket : goal.returns-in_err-bucket
returns-in_err-bucket c =
    let inside = c.self.inside in
    let none = nothing-waits inside.slots.items inside.heads inside.free inside.last c.self.invariant c.in_err-bucket.ensures in
    let P : Option (ℕ × ℕ) → Type 0 = λ o. Pops o c.args.self.now c.args.self.now in
    subst P (sym c.from_residual.ensures) (ap (λ (q : QueueView). q.pairs) (sym c.self.view_is) ∙ none, refl)

pub first_full-requires-clause-none : goal.first_full-requires-clause-none
first_full-requires-clause-none c = λ bucket less.
    let inside = c.self.inside in
    let own = c.own_bucket.ensures.own in
    none-below inside.slots.items inside.heads inside.free inside.last bucket c.self.invariant (omega arith)

pub unwrap-first-requires : goal.unwrap-first-requires
unwrap-first-requires c =
    let S : Option ℕ → Type 0 = λ o. IsSome o in
    subst S (sym c.at.ensures) c.in_ok-bucket.ensures.1.0

pub renew-self-inside-requires : goal.renew-self-inside-requires
renew-self-inside-requires c = record {
  free = c.self.inside.free;
  keeps = c.self.invariant;
  full = c.in_ok-bucket.ensures;
  head = sym c.at.ensures ∙ c.unwrap-first.ensures;
}

pub take_first-slot-requires : goal.take_first-slot-requires
take_first-slot-requires c = c.renew-self-inside.ensures.renewed c.self.inside.free c.self.invariant

pub returns : goal.returns
returns c =
    let out = c.take_first-slot.ensures in
    let P : List (ℕ × ℕ) → Type 0 = λ xs. IsPermutation xs ((c.take_first-slot.result.key, c.take_first-slot.result.cell) ∷ filter_map pair_in c.take_first-slot.new.slots.items) in
    let L : ℕ → Type 0 = λ k. All (λ (p : ℕ × ℕ). k ≤ p.0) (filter_map pair_in c.take_first-slot.new.slots.items) in
    record {
      pairs = subst P (c.renew-self-inside.ensures.pairs ∙ ap (λ (q : QueueView). q.pairs) c.self.view_is) out.pairs;
      least = subst L (sym out.key) out.least;
      last = sym out.key;
    }
