-- What stands between rounds in batches.
use Rattle.std.specs.Prelude.{◌≡◌, ℕ, ◌+◌, true, false, List}
use denote.Param.Members.{Mut}
use Rattle.cost_rules.specs.declared.site.Site.{Site}
use Rattle.book_state.specs.declared.entry.Entry.{Entry}
use Rattle.batch_rounds.specs.BatchedHistories.{Batching, batches_of, goes_on, AreRounds, IsBatched}
use Rattle.batch_rounds.specs.declared.asked.Asked.{Asked}

-- what is asked for, as batched histories know it
abbrev pub batching_of : {X : Type 0} {price : Mut X (Site × Unit {0}) ℕ} → Asked X price → Batching
batching_of a = batches_of a.design.now a.given.now a.rule.now.formula a.rounds a.batch

-- after so many rounds behind round 0: what goes on from here is a batched history, or this one is it
pub record HasRun (t : Batching) (done : ℕ) (h : List Entry) : Type 0 where
  pub more : goes_on t done h ≡ true → (after : List Entry) → AreRounds t (done + 1) h after → IsBatched t after
  pub over : goes_on t done h ≡ false → IsBatched t h
