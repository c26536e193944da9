use Rattle.std.specs.Prelude.{◌≡◌, drop}
use Rattle.batch_rounds.specs.BatchedHistories.{after_releases}
use Rattle.batch_rounds.proofs.batch.release_all.Given as goal

-- with the releases to come the history is as it will be
abbrev pub invariant-loop-net : goal.invariant-loop-net
invariant-loop-net l = record {
  capacity : l.book.capacity ≡ l.fn.book.capacity;
  releases : after_releases l.fn.book.capacity l.book.history (drop l.net-index l.nets) ≡ after_releases l.fn.book.capacity l.fn.book.history l.nets;
}
