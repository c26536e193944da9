use Rattle.std.proofs.Common.{◌∷◌}
use Rattle.std.proofs.lemmas.List.Sorted.{IsPermutation-map}
use Rattle.std.specs.BinaryHeap.{heap_items}
use Rattle.track_panels.proofs.OpenTrackLemmas.{placed-stands}
use Rattle.track_panels.proofs.open_tracks.OpenTracks.place.Goals as goal

pub returns : goal.returns
returns c placed tile up was =
    let pushed = IsPermutation-map (λ b. b.0) (_ ∷ heap_items c.take_least-track.new.self.busy) _ c.in_ok-push.ensures.permutation in
    let cleared = c.in_ok-clear_below.ensures in
    let done = placed-stands placed c.args.piece tile c.take_least-track.result c.args.self.now c.clear_below.new.self c.take_least-track.new.self _ up c.requires.long
    was.tracks cleared.open (cleared.kept placed tile up was.kept) cleared.busy c.take_least-track.ensures pushed in
    record { tracks = done.0; kept = done.1 }
