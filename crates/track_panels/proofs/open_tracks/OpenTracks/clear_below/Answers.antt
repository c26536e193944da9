use Rattle.std.proofs.Common.{◌∷◌, refl, sym, subst, ◌∙◌, arith, rules}
use Rattle.std.specs.BinaryHeap.{heap_items}
use Rattle.std.proofs.lemmas.List.Sorted.{IsPermutation-map, length_permutation}
use Rattle.track_panels.specs.declared.open_tracks.OpenTracks.{OpenTracks}
use Rattle.track_panels.specs.OpenTracks.{AreKept, free_of, busy_of}
use Rattle.track_panels.proofs.OpenTrackLemmas.{freed, risen}
use Rattle.track_panels.proofs.open_tracks.OpenTracks.clear_below.Goals as goal

pub loop-track-init : goal.loop-track-init
loop-track-init c = record {
  kept = λ placed before up kept. risen placed before c.args.tile c.args.self.now.opened (free_of c.args.self.now) (busy_of c.args.self.now) up kept;
  open_ = record { opened = refl; point = refl };
}

pub loop-track-smaller : goal.loop-track-smaller
loop-track-smaller c =
    let out = c.in-Some.ensures.some in
    let more = length_permutation (busy_of c.loop-track.self) ((out.high, c.in-Some.track) ∷ busy_of c.take_ended.new.self) out.busy in
    omega (arith, more)

pub loop-track-preserved : goal.loop-track-preserved
loop-track-preserved c =
    let out = c.in-Some.ensures.some in
    let items = heap_items c.take_ended.new.self.free in
    let pushed = IsPermutation-map (λ f. f.0) (_ ∷ items) _ c.in_ok-push.ensures.permutation in
    let was = c.loop-track.invariant in record {
      kept = λ placed before up kept. freed placed c.args.tile _ _ out.high c.in-Some.track _ _ _ _ _ out.below out.same.opened out.free out.busy pushed (was.kept placed before up kept);
      open_ = record { opened = out.same.opened ∙ was.open_.opened; point = out.same.point ∙ was.open_.point };
    }

pub returns-clause-kept : goal.returns-clause-kept
returns-clause-kept c =
    let same = c.in_default.ensures.same (search rules) in
    λ placed before up kept. subst (λ (open_tracks : OpenTracks). AreKept placed c.args.tile open_tracks.opened (free_of open_tracks) (busy_of open_tracks)) (sym same) (c.loop-track.invariant.kept placed before up kept)
