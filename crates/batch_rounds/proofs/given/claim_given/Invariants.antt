use Rattle.std.specs.Prelude.{◌≡◌}
use Rattle.grid_demand.specs.Tables.{capacity_of}
use Rattle.run_histories.specs.GivenRoutes.{given_among}
use Rattle.batch_rounds.proofs.given.claim_given.Given as goal

-- the trees given to the nets so far are claimed
abbrev pub invariant-loop-net : goal.invariant-loop-net
invariant-loop-net g l = record {
  capacity : l.book.capacity ≡ capacity_of l.asked.design.now;
  claims : l.book.history ≡ given_among l.asked.design.now l.asked.given.now l.net;
}
