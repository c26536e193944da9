use Rattle.std.proofs.Common.{inl, inr, map, refl, sym, ap, ◌∙◌, arith}
use Rattle.std.proofs.lemmas.List.Sorted.{IsPermutation-map}
use Rattle.std.proofs.lemmas.List.{nil_from_length}
use Rattle.std.specs.BinaryHeap.{heap_items}
use Rattle.track_panels.proofs.ListLemmas.{least-by}
use Rattle.track_panels.proofs.open_tracks.OpenTracks.take_least.Goals as goal

pub returns-in-Some : goal.returns-in-Some
returns-in-Some c =
    let items = heap_items c.args.self.now.free in
    let top = c.in-Some.field-0 in
    inl (record {
      free = IsPermutation-map (λ f. f.0) items _ c.in-Some.ensures.permutation;
      least = least-by (λ f. f.0) top items ((c.in-Some.ensures.heap_order c.args.self.now.least).1);
      busy = refl;
      same = record { opened = refl; point = refl };
    })

pub open_one-requires-clause-none : goal.open_one-requires-clause-none
open_one-requires-clause-none c =
    let items = heap_items c.pop.new.self in
    ap (λ xs. map (λ f. f.0) xs) (nil_from_length items (omega (arith, c.pop.new.self.data.ok.0, c.in-None.ensures.unchanged.1, c.in-None.ensures.none)))

pub returns-in-None : goal.returns-in-None
returns-in-None c =
    let done = c.open_one.ensures in
    inr (record {
      none = ap (λ xs. map (λ f. f.0) xs) (sym c.in-None.ensures.unchanged.0) ∙ done.none;
      free = done.free;
      track_is = done.track_is;
      busy = done.busy;
      opened = done.opened;
      point = done.point;
    })
