-- How the first worker claims the given trees.
use Rattle.std.specs.Prelude.{◌≡◌, ℕ, ◌≤◌, length}
use Rattle.grid_demand.specs.Tables.{capacity_of}
use Rattle.book_state.specs.Entries.{calls_of}
use Rattle.run_histories.specs.GivenRoutes.{given_among}
use Rattle.run_histories.specs.Rounds.{first_worker}
use Rattle.run_histories.specs.RunHistories.{Setting}
use Rattle.track_book.specs.Passes.{PassView, IsPass}
use Rattle.ripup_workers.specs.Working.{AreOwnPlanned}

-- the first worker's pass has claimed the kept nets among the design's first ones, so many, each for its given tree; where
-- all entries are its own, it has seen just these claims
pub record HasGiven (t : Setting) (nets : ℕ) (p : PassView) : Type 0 where
  pub number : p.number ≡ first_worker
  pub pass : IsPass (capacity_of t.design) p
  pub count : length (given_among t.design t.given nets) ≤ length p.seen
  pub planned : AreOwnPlanned t p
  pub alone : calls_of first_worker p.seen ≡ p.seen → p.seen ≡ given_among t.design t.given nets
