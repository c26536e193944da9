use Rattle.std.proofs.Common.{ℕ, List, ◌≡◌, ◌+◌, ◌%◌, ◌<◌, length, sym, ap, subst, ◌∙◌, arith}
use Rattle.std.proofs.lemmas.List.{length_push}
use Rattle.book_state.specs.Crowds.{AreColumns}
use Rattle.book_state.proofs.CrowdTables.{IsColumn, IsBefore, columns-more, column-here, column-past, before-row, before-next}
use Rattle.book_state.proofs.crowds.last_columns.Goals as goal
use Rattle.book_state.proofs.crowds.last_columns.Goals.{then-crowded, else-crowded, then-column-columns, else-column-columns}

pub loop-crowded-preserved : goal.loop-crowded-preserved
loop-crowded-preserved c =
    let columns = c.args.shape.columns in
    let tiles = c.args.tiles.now in
    let last = c.loop-crowded.last.items in
    let tile = c.loop-crowded.crowded-index in
    let column = c.loop-crowded.column in
    let told = c.if-crowded.told in
    let before = c.loop-crowded.invariant in
    let columns_are : c.columns.result ≡ columns = c.columns.ensures.columns in
    let some : 0 < columns = let more = c.columns.ensures.some in omega (arith, more, columns_are) in
    let is : IsColumn columns tiles tile told = elim c.if-crowded.branch [
      | then-crowded w ↦
          let told_is = w.told-is in
          let column_is = before.column in
          let next : tile % columns + 1 ≡ told = omega (arith, told_is, column_is) in
          subst (IsColumn columns tiles tile) next (column-here columns tiles tile)
      | else-crowded w ↦
          subst (IsColumn columns tiles tile) (sym w.told-is) (column-past columns tiles tile c.loop-crowded.told w.if-crowded.false before.before)
    ] in
    let pushed = c.push_reserved.ensures.items in
    let Next : ℕ → ℕ → Type 0 = λ at number. (at ≡ (tile + 1) % columns) × IsBefore columns tiles (tile + 1) number in
    let next : Next c.if-column-columns.column c.if-column-columns.told = elim c.if-column-columns.branch [
      | then-column-columns w ↦
          let full = w.if-column-columns.true in
          let row = before-row columns tiles tile 0 column some before.column (omega (arith, full, columns_are)) in
          (w.column-is ∙ row.0, subst (IsBefore columns tiles (tile + 1)) (sym w.told-is) row.1)
      | else-column-columns w ↦
          let inner = w.if-column-columns.false in
          let row = before-next columns tiles tile told column some before.column (λ full. absurd (inner (omega (arith, full, columns_are)))) is in
          (w.column-is ∙ row.0, subst (IsBefore columns tiles (tile + 1)) (sym w.told-is) row.1)
    ] in
    record {
      long = ap (λ (xs : List ℕ). length xs) pushed ∙ length_push last told ∙ ap (λ (n : ℕ). n + 1) before.long;
      done = subst (AreColumns columns tiles) (sym pushed) (columns-more columns tiles last told before.done (subst (λ (n : ℕ). IsColumn columns tiles n told) (sym before.long) is));
      column = next.0;
      before = next.1;
    }
