use Rattle.std.proofs.Common.{◌≡◌, ℕ, ◌+◌, ◌<◌, ◌≤◌, ◌∷◌, [], ◌++◌, List, length, Option, Some, None, slice_get, refl, sym, ap, subst, ◌∙◌, arith, rules}
use Rattle.std.proofs.lemmas.Option.{slice_get_read}
use Rattle.track_panels.specs.declared.piece.Piece.{Piece}
use Rattle.panel_text.specs.declared.starts.Start.{Start}
use Rattle.panel_text.specs.Chains.{IsBelow}
use Rattle.panel_text.specs.PanelPieces.{piece_at}
use Rattle.panel_text.proofs.ChainLemmas.{below-more, past, past-below, left-step, left-end}
use Rattle.panel_text.proofs.starts.Starts.push_pieces.Goals as goal

-- the run of the number is there, and leads back
within : (c : goal.In_ok-push) → c.in-Some.number < length c.args.self.now.runs.items
within c = subst (λ (o : Option ℕ). IsBelow (length c.args.self.now.runs.items) o) c.in-Some.is c.loop-at.invariant.below

there : (c : goal.In_ok-push) → slice_get c.args.self.now.runs.items c.in-Some.number ≡ Some c.index-run.result.now
there c = slice_get_read c.args.self.now.runs.items (length c.args.self.now.runs.items) c.in-Some.number c.index-run.result.now refl (within c) c.index-run.ensures

back : (c : goal.In_ok-push) → IsBelow c.in-Some.number c.index-run.result.now.next
back c = c.requires.grid.back c.in-Some.number c.index-run.result.now (there c)

pub loop-at-smaller : goal.loop-at-smaller
loop-at-smaller c =
    let low = past-below c.in-Some.number c.index-run.result.now.next (back c) in
    let high : past c.loop-at.at ≡ c.in-Some.number + 1 = ap past c.in-Some.is in
    omega (arith, low, high)

pub loop-at-preserved : goal.loop-at-preserved
loop-at-preserved c =
    let runs = c.args.self.now.runs.items in
    let run = c.index-run.result.now in
    let f = piece_at c.args.shape c.args.way c.args.tile in
    let inside = within c in
    let grown : c.push.new.self.items ≡ c.loop-at.pieces.items ++ f (run.net, run.to) ∷ [] =
    c.in_ok-push.ensures.items
    ∙ ap (λ (high : ℕ). c.loop-at.pieces.items ++ record { net = run.net; low = c.args.tile; high = high } ∷ []) c.tile_of.ensures in
    record {
      below = below-more c.in-Some.number (length runs) run.next (omega (arith, inside)) (back c);
      left = λ chains have. left-step runs c.in-Some.number run f c.loop-at.pieces.items c.push.new.self.items _ c.loop-at.at c.in-Some.is (there c) grown
          (c.loop-at.invariant.left chains have);
    }

pub returns : goal.returns
returns c chains have =
    left-end c.args.self.now.runs.items (piece_at c.args.shape c.args.way c.args.tile) c.loop-at.pieces.items _ c.loop-at.at (search rules) (c.loop-at.invariant.left chains have)
