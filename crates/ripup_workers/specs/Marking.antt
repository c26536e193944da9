-- What the end of a round shows.
use Rattle.std.specs.Prelude.{◌≡◌, List}
use Rattle.grid_demand.specs.Tables.{CapacityView}
use Rattle.book_state.specs.Books.{victims}
use Rattle.book_state.specs.declared.entry.Call.TheVariants.{Mark}
use Rattle.book_state.specs.declared.entry.Reply.TheVariants.{Marked as Answer}
use Rattle.track_book.specs.Passes.{PassView, IsAnswered, HasLearnt}
use Rattle.ripup_workers.specs.Meetings.{HaveMet}
use Rattle.ripup_workers.specs.declared.team.Marked.{Marked}

-- the coordinator has made a mark, answered with this overflow, and then seen a history after which these are the
-- victims
pub record IsMarked (c : CapacityView) (old new : PassView) (marked : Marked) : Type 0 where
  pub at_mark : PassView
  pub mark : IsAnswered c old at_mark Mark (Answer marked.overflow)
  pub learnt : HasLearnt c at_mark new
  pub victims_are : marked.victims ≡ victims c new.seen

-- the coordinator has met the workers, made such a mark, and met them again
pub record AreMarked (c : CapacityView) (old new : PassView) (workers after : List PassView)
    (marked : Marked) : Type 0 where
  pub met : PassView
  pub between : List PassView
  pub made : PassView
  pub before : HaveMet c old met workers between
  pub mark : IsMarked c met made marked
  pub behind : HaveMet c made new between after
