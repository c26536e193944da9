use Rattle.std.proofs.Common.{◌≡◌, ◌≤◌, length, ap, ◌∙◌, arith}
use Rattle.std.proofs.lemmas.Bool.Decides.{nat_tests}
use Rattle.gr_base.specs.Grid.{place_at}
use Rattle.gr_base.specs.declared.grid.Cell.{Cell}
use Rattle.gr_base.specs.declared.grid.Shape.{Shape}
use Rattle.book_state.proofs.TreeReach.{begins-none}
use Rattle.book_state.specs.Beyond.{outside}
use Rattle.book_state.proofs.touches.lies_beyond.Goals as goal

pub returns-clause-beyond : goal.returns-clause-beyond
returns-clause-beyond c = λ far.
    let t = c.args.tree.now in
    let first = c.cell.result in
    let place : c.place_of-first.result ≡ place_at t.shape first =
    c.place_of-first.ensures.place ∙ ap (λ (g : Shape). place_at g first) c.shape.ensures.shape in
    let steps : c.steps_outside.result ≡ outside c.args.window (place_at t.shape first) =
    c.steps_outside.ensures ∙ ap (λ (cell : Cell). outside c.args.window cell) place in
    let count : c.from.result ≡ length t.nodes = c.from.ensures ∙ c.len.ensures.len in
    let apart : c.from.result ≤ c.steps_outside.result = grind (arith, nat_tests) in
    let far_off : length t.nodes ≤ outside c.args.window (place_at t.shape first) = omega (arith, steps, count, apart) in
    begins-none t c.args.window first c.len.ensures.tree c.cell.ensures.cell far_off
