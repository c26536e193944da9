-- What the fields of a world keep.
use Rattle.std.specs.Prelude.{◌≡◌, ◌≤◌, [], length}
use Rattle.gr_base.specs.Limits.{most_nets, most_rounds, most_workers}
use Rattle.grid_demand.specs.Tables.{capacity_of}
use Rattle.run_histories.specs.RunHistories.{Setting, overflows_of}
use Rattle.round_core.specs.WorldRules.{IsWorld}
use Rattle.round_core.specs.Worlds.{WorldView}
use Rattle.round_core.specs.declared.world.World.TheInside.{Inside}

-- what the fields say
abbrev pub setting_of : Inside → Setting
setting_of w = record {
  design = w.design.now;
  given = [];
  formula = w.formula;
  workers = length w.phases.items;
  rounds = w.rounds;
  watch = w.watch;
  goal = w.goal;
}

abbrev pub seen : Inside → WorldView
seen w = record {
  setting = setting_of w;
  history = w.book.history;
  round = w.round;
  over = w.over;
  left = w.left.items;
  phases = w.phases.items;
  since = w.since.items;
}

-- the rules of the machine are kept; the book is the design's, the overflow that of the last mark, and the numbers are
-- in range
pub record Keeps (w : Inside) : Type 0 where
  pub world : IsWorld (seen w)
  pub capacity : w.book.capacity ≡ capacity_of w.design.now
  pub overflow : w.overflow ≡ (overflows_of w.book.history).last
  pub workers : length w.phases.items ≤ most_workers
  pub since : length w.since.items ≡ length w.phases.items
  pub left : length w.left.items ≤ most_nets
  pub round : w.round ≤ w.rounds
  pub rounds : w.rounds ≤ most_rounds
  pub nets : length w.design.now.nets ≤ most_nets
