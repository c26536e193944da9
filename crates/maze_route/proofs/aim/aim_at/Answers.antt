use Rattle.std.proofs.Common.{◌≡◌, ℕ, List, length, map, ap, refl, sym, subst, ◌∙◌}
use Rattle.maze_route.specs.Positions.{most_position, AreUpTo, outside}
use Rattle.maze_route.specs.Steps.{size_of}
use Rattle.std.proofs.lemmas.List.{length-map}
use Rattle.maze_route.proofs.AimLemmas.{Parts, rest-none, step-falls, small-parts}
use Rattle.maze_route.proofs.GoalLemmas.{among-below}
use Rattle.maze_route.proofs.aim.aim_at.Goals as goal

pub invariant_of-result : goal.invariant_of-result
invariant_of-result c = record {
  small = record {
    by_column = small-parts c.span_of-span.result.left c.span_of-span.result.right c.deref.result.now c.in_ok-rests.field-0.items c.in_ok-rests.ensures c.span_of-span.ensures.near.left
        (subst (AreUpTo most_position) (sym c.deref.ensures.value) c.args.scales.now.near_columns);
    by_row = small-parts c.span_of-span.result.low c.span_of-span.result.high c.deref-2.result.now c.in_ok-rests-2.field-0.items c.in_ok-rests-2.ensures c.span_of-span.ensures.near.low
        (subst (AreUpTo most_position) (sym c.deref-2.ensures.value) c.args.scales.now.near_rows);
    of_via = c.requires.small;
  };
}

pub returns-clause-ends : goal.returns-clause-ends
returns-clause-ends c end among =
    let span = c.span_of-span.result in
    let parts : Parts = record { columns = c.in_ok-rests.field-0.items; rows = c.in_ok-rests-2.field-0.items; top = span.top; via = c.args.via } in
    rest-none c.args.scales.now c.args.pane span parts end
    (record {
      by_columns = c.in_ok-rests.ensures ∙ ap (λ (xs : List ℕ). map (outside span.left span.right) xs) c.deref.ensures.value;
      by_rows = c.in_ok-rests-2.ensures ∙ ap (λ (xs : List ℕ). map (outside span.low span.high) xs) c.deref-2.ensures.value;
      by_top = refl;
      columns_fit = c.requires.columns;
      rows_fit = c.requires.rows;
    }) (among-below c.args.ends.now (size_of c.args.pane) end c.requires.ends among) (c.span_of-span.ensures.ends end among)

pub returns-clause-guide : goal.returns-clause-guide
returns-clause-guide c price scales vias =
    let span = c.span_of-span.result in
    let parts : Parts = record { columns = c.in_ok-rests.field-0.items; rows = c.in_ok-rests-2.field-0.items; top = span.top; via = c.args.via } in
    let s = c.args.scales.now in
    let by_columns : parts.columns ≡ map (outside span.left span.right) s.columns.items =
    c.in_ok-rests.ensures ∙ ap (λ (xs : List ℕ). map (outside span.left span.right) xs) c.deref.ensures.value in
    let by_rows : parts.rows ≡ map (outside span.low span.high) s.rows.items =
    c.in_ok-rests-2.ensures ∙ ap (λ (xs : List ℕ). map (outside span.low span.high) xs) c.deref-2.ensures.value in
    record {
      fits = record {
        columns = ap (λ (xs : List ℕ). length xs) by_columns ∙ length-map s.columns.items (outside span.left span.right) ∙ c.requires.columns;
        rows = ap (λ (xs : List ℕ). length xs) by_rows ∙ length-map s.rows.items (outside span.low span.high) ∙ c.requires.rows;
      };
      falls = λ n m cost is.
          step-falls s c.args.pane price span parts n m cost scales vias
          (record { by_columns = by_columns; by_rows = by_rows; by_top = refl; columns_fit = c.requires.columns; rows_fit = c.requires.rows }) is;
    }
