use Rattle.book_front.proofs.EndSteps.{begins}
use Rattle.book_front.proofs.seat.Front.alone.Goals as goal

pub of_words-requires : goal.of_words-requires
of_words-requires c = begins
