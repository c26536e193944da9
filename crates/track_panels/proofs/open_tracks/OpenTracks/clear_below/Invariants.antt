use Rattle.std.proofs.Common.{ℕ, ◌≤◌, length}
use Rattle.track_panels.specs.Numberings.{Placed}
use Rattle.track_panels.specs.OpenTracks.{AreKept, AreOpen, free_of, busy_of}
use Rattle.track_panels.proofs.open_tracks.OpenTracks.clear_below.Given as goal

abbrev pub invariant-loop-track : goal.invariant-loop-track
invariant-loop-track l = record {
  kept : (placed : Placed) → (before : ℕ) → before ≤ l.tile →
      AreKept placed before l.initial.self.opened (free_of l.initial.self) (busy_of l.initial.self) →
      AreKept placed l.tile l.self.opened (free_of l.self) (busy_of l.self);
  open_ : AreOpen l.initial.self l.self;
}

abbrev pub decreases-loop-track : goal.decreases-loop-track
decreases-loop-track l = length (busy_of l.self)
