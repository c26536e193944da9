use Rattle.std.proofs.Common.{◌≡◌, ◌+◌, ◌-◌, false, sym, ap, subst, ◌∙◌, arith}
use Rattle.gr_base.specs.Trees.{holds}
use Rattle.gr_base.specs.declared.grid.Shape.{Shape}
use Rattle.layer_assign.specs.Assignments.{cell_on}
use Rattle.layer_assign.specs.Raised.{in_column, Grows}
use Rattle.layer_assign.specs.NodeOrder.{sinking}
use Rattle.layer_assign.proofs.ColumnLemmas.{vias, Sunk, free_still, column-out, spread-all, on_ok-one}
use Rattle.layer_assign.proofs.columns.spread.Goals as goal

pub sink-requires-clause-free : goal.sink-requires-clause-free
sink-requires-clause-free c = λ layer le lt.
    let g = c.args.tree.now.shape in
    let up = c.requires.below in
    let top = c.requires.high in
    let widened : Grows c.args.tree.now c.rise.new.tree (in_column g c.args.tile (c.args.layer + 1) (c.args.span.high + 1)) (vias g c.args.tile c.args.layer c.args.span.high) = c.in_ok-rise.ensures.grows in
    subst (λ (s : Shape). holds c.rise.new.tree (cell_on s c.args.tile layer) ≡ false) (sym widened.shape)
    (free_still c.args.tree.now c.rise.new.tree (in_column g c.args.tile (c.args.layer + 1) (c.args.span.high + 1)) (vias g c.args.tile c.args.layer c.args.span.high) (cell_on g c.args.tile layer) widened
    (c.requires.free layer (λ e. omega arith) (omega arith)) (column-out g c.args.tile (c.args.layer + 1) (c.args.span.high + 1) layer c.requires.tile (λ a b. omega arith)))

pub returns-clause-grows : goal.returns-clause-grows
returns-clause-grows c =
    let g = c.args.tree.now.shape in
    let widened : Grows c.args.tree.now c.rise.new.tree (in_column g c.args.tile (c.args.layer + 1) (c.args.span.high + 1)) (vias g c.args.tile c.args.layer c.args.span.high) = c.in_ok-rise.ensures.grows in
    on_ok-one c.sink.result _ _ c.sink.ensures.grows
    (λ sunk.
    spread-all g c.args.tree.now c.rise.new.tree c.sink.new.tree c.args.tile c.args.layer c.args.span c.requires.tile c.requires.above c.requires.below c.requires.on widened
    (subst (λ (s : Shape). Sunk s c.rise.new.tree c.sink.new.tree c.args.tile c.args.layer c.args.span.low) widened.shape sunk))

pub returns-clause-nodes : goal.returns-clause-nodes
returns-clause-nodes c =
    let g = c.args.tree.now.shape in
    let count = c.args.layer - c.args.span.low in
    let widened : Grows c.args.tree.now c.rise.new.tree (in_column g c.args.tile (c.args.layer + 1) (c.args.span.high + 1)) (vias g c.args.tile c.args.layer c.args.span.high) = c.in_ok-rise.ensures.grows in
    on_ok-one c.sink.result _ _ c.sink.ensures.nodes
    (λ sunk.
    sunk ∙ ap (λ (s : Shape). sinking s c.args.tile c.args.span.low count c.rise.new.tree) widened.shape
    ∙ ap (sinking g c.args.tile c.args.span.low count) c.in_ok-rise.ensures.nodes)
