-- What a node's parent sees of it, for both signals.
use Rattle.std.proofs.Common.{◌≡◌, ℕ, Bool, true, false, List, Result, Ok, Err, IfOk, ◌∙◌}
use Rattle.rc_library.specs.Libraries.{LibraryView}
use Rattle.ginneken_lists.specs.Candidates.{Chosen}
use Rattle.ginneken_lists.specs.Pairs.{AreMarked}
use Rattle.buffer_plan.specs.Picked.{Sites}
use Rattle.polar_lists.specs.Signals.{BySignal, with_both_offers, both_above}
use Rattle.polar_lists.specs.BothLists.{all_in, candidates_by, AreBothMarked}
use Rattle.polar_lists.specs.declared.sides.Sides.{Sides}
use Rattle.polar_lists.proofs.SignalLemmas.{both-free}

pub above-result : {E : Type 0} (s : Sites) (lib : LibraryView) (node : ℕ) (trail : List Chosen) (all : BySignal) (result : Result Sides E) →
    s.library ≡ lib → s.free node ≡ true →
    IfOk result (λ new. (inverted : Bool) → candidates_by trail new inverted ≡ with_both_offers lib node all inverted) →
    IfOk result (λ new. (inverted : Bool) → candidates_by trail new inverted ≡ both_above s node all inverted)
above-result s lib node trail all (Ok new) same free is = λ inverted. is inverted ∙ both-free s lib node all inverted same free
above-result s lib node trail all (Err e) same free is = tt

-- the marks and the lengths at the upper end of the edge
pub raised-marked : (trail : List Chosen) (upper raised : Sides) → AreBothMarked trail upper →
    (AreMarked trail (all_in upper.plain) → AreMarked trail (all_in raised.plain)) →
    (AreMarked trail (all_in upper.inverse) → AreMarked trail (all_in raised.inverse)) → AreBothMarked trail raised
raised-marked trail upper raised marked plain inverse false = plain (marked false)
raised-marked trail upper raised marked plain inverse true = inverse (marked true)
