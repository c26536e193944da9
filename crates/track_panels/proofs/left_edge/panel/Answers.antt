use Rattle.std.proofs.Common.{◌≡◌, ℕ, ◌≤◌, ◌∷◌, [], List, length, take, get_or, sym, ap, subst, ◌∙◌, arith}
use Rattle.std.specs.List.{zip}
use Rattle.std.proofs.lemmas.List.{length-append, get_or_default, take_all}
use Rattle.std.proofs.lemmas.Slice.Zip.{length-zip}
use Rattle.track_panels.specs.declared.piece.Piece.{Piece}
use Rattle.track_panels.specs.Numberings.{Placed}
use Rattle.track_panels.specs.OpenTracks.{AreTracks, Stands}
use Rattle.track_panels.proofs.NumberingLemmas.{numbered, zip-more}
use Rattle.track_panels.proofs.left_edge.panel.Goals as goal

pub place-requires-clause-room : goal.place-requires-clause-room
place-requires-clause-room c =
    let was = c.loop-piece.invariant in
    omega (arith, was.stands.tracks.few, length-zip (take c.loop-piece.piece-index c.args.pieces.now) c.loop-piece.numbers.items, was.long, c.loop-piece-test.true, c.requires.few)

pub loop-piece-preserved : goal.loop-piece-preserved
loop-piece-preserved c =
    let was = c.loop-piece.invariant in
    let at = c.loop-piece.piece-index in
    let pieces = c.args.pieces.now in
    let inside = c.loop-piece-test.true in
    let e : Piece = record { net = 0; low = 0; high = 0 } in
    let grown = c.in_ok-push.ensures.items in
    let more = zip-more pieces c.loop-piece.numbers.items c.push.new.self.items at e c.in_ok-track.track inside was.long grown in
    let long = length-append c.loop-piece.numbers.items (c.in_ok-track.track ∷ []) in record {
      long = ap (λ (ns : List ℕ). length ns) grown ∙ omega (arith, long, was.long);
      room = omega (arith, inside);
      tile = (get_or pieces at e).low;
      up = λ k d past within. subst (λ (p : Piece). (get_or pieces at e).low ≤ p.low) (get_or_default pieces k e d within) (c.requires.order.rising at k e (omega (arith, past)) within);
      stands = subst (λ (placed : Placed). Stands placed (get_or pieces at e).low c.place.new.self) (sym more)
          (c.in_ok-track.ensures (zip (take at pieces) c.loop-piece.numbers.items) was.tile (was.up at e (omega arith) inside) was.stands);
    }

pub returns : goal.returns
returns c =
    let was = c.loop-piece.invariant in
    let pieces = c.args.pieces.now in
    let all : take c.loop-piece.piece-index pieces ≡ pieces = take_all c.loop-piece.piece-index pieces c.loop-piece-test.false in
    numbered pieces c.loop-piece.numbers.items was.tile c.loop-piece.tracks.opened c.loop-piece.tracks.point c.requires.some c.requires.order.within
    (omega (arith, was.long, was.room, c.loop-piece-test.false))
    (subst (λ (ps : List Piece). AreTracks (zip ps c.loop-piece.numbers.items) was.tile c.loop-piece.tracks.opened c.loop-piece.tracks.point) all was.stands.tracks)
