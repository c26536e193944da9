use Rattle.std.proofs.Common.{ℕ, ◌≤◌, ◌<◌, refl, arith}
use Rattle.std.proofs.lemmas.List.Elements.{All-weaker}
use Rattle.std.proofs.lemmas.Bool.Decides.{nat_tests}
use Rattle.std.specs.BinaryHeap.{heap_items}
use Rattle.track_panels.specs.OpenTracks.{busy_of}
use Rattle.track_panels.proofs.ListLemmas.{any-at, any-map, first-by}
use Rattle.track_panels.proofs.open_tracks.OpenTracks.has_ended.Goals as goal

pub returns-in-Some-clause-some : goal.returns-in-Some-clause-some
returns-in-Some-clause-some c lt =
    let items = heap_items c.args.self.now.busy in
    any-map (λ (b : ℕ × ℕ). b.0 < c.args.tile) (λ b. b.0) items
    (any-at (λ b. b.0.0 < c.args.tile) items 0 c.in-Some.field-0.now (omega (arith, c.args.self.now.busy.data.ok.0, c.in-Some.ensures.variant.0 refl)) c.in-Some.ensures.lookup (grind (arith, nat_tests, lt)))

pub returns-in-Some-clause-none : goal.returns-in-Some-clause-none
returns-in-Some-clause-none c off =
    let items = heap_items c.args.self.now.busy in
    All-weaker (λ (b : ℕ × ℕ). c.in-Some.field-0.now.0.0 ≤ b.0) (λ b. c.args.tile ≤ b.0) (λ b h. grind (arith, h, off)) (busy_of c.args.self.now)
    (first-by (λ b. b.0) c.in-Some.field-0.now items (c.in-Some.ensures.greatest c.args.self.now.first))
