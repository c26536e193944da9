use Rattle.std.proofs.Common.{refl, rules}
use Rattle.std.proofs.lemmas.List.Sorted.{IsPermutation-map}
use Rattle.std.specs.BinaryHeap.{heap_items}
use Rattle.track_panels.specs.OpenTracks.{busy_of}
use Rattle.track_panels.proofs.ListLemmas.{first-by, least-below}
use Rattle.track_panels.proofs.open_tracks.OpenTracks.take_ended.Goals as goal

pub returns-clause-some : goal.returns-clause-some
returns-clause-some c =
    let items = heap_items c.args.self.now.busy in
    let top = c.in-Some.field-0 in
    let ended = c.if-not-has_ended.ensures.some (search rules) in
    let least = first-by (λ b. b.0) top items ((c.in-Some.ensures.heap_order c.args.self.now.first).1) in
    record {
      high = top.0.0;
      below = least-below top.0.0 c.args.tile (busy_of c.args.self.now) least ended;
      busy = IsPermutation-map (λ b. b.0) items _ c.in-Some.ensures.permutation;
      free = refl;
      same = record { opened = refl; point = refl };
    }
