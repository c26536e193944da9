use Rattle.std.proofs.Common.{◌++◌, List, count_by, filter, sum_by, ap, ◌∙◌}
use Rattle.cut_bounds.specs.BoundsOf.{is_box, is_column, is_row}
use Rattle.cut_bounds.specs.Taken.{excess_of}
use Rattle.cut_bounds.specs.declared.wall.MeasuredWall.{MeasuredWall}
use Rattle.cut_bounds.proofs.OrderLemmas.{figures-are}
use Rattle.cut_bounds.proofs.bounding.bounds_shown.Goals as goal

pub returns : goal.returns
returns c =
    figures-are c.args.wire.wirelength c.args.wire.usable c.args.walls.straight.items c.args.walls.taken.items c.push_boxes.new.found.items
    c.deref-4.result.now c.in_ok-fullest_of.field-0.items c.total_excess-overflow.result
    c.count_kinds-counts.result.columns c.count_kinds-counts.result.rows c.count_kinds-counts.result.boxes
    (c.total_excess-overflow.ensures ∙ ap (λ (ms : List MeasuredWall). sum_by excess_of ms) c.deref-2.ensures.value)
    (c.count_kinds-counts.ensures.columns ∙ ap (λ (ms : List MeasuredWall). count_by is_column ms) c.deref.ensures.value)
    (c.count_kinds-counts.ensures.rows ∙ ap (λ (ms : List MeasuredWall). count_by is_row ms) c.deref.ensures.value)
    (c.count_kinds-counts.ensures.boxes ∙ ap (λ (ms : List MeasuredWall). count_by is_box ms) c.deref.ensures.value)
    (c.in_ok-push_boxes.ensures ∙ ap (λ (ms : List MeasuredWall). c.args.walls.straight.items ++ filter is_box ms) c.deref-3.ensures.value)
    c.deref-4.ensures.value c.in_ok-fullest_of.ensures
