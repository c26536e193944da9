use Rattle.std.proofs.Common.{ℕ, List, ◌++◌, codes, ap, ◌∙◌}
use Rattle.std.specs.List.{flat_map}
use Rattle.gr_text.specs.Lines.{number_line}
use Rattle.cut_bounds.proofs.TextLemmas.{six-pieces}
use Rattle.cut_bounds.specs.Bounds.{BoundsView, taken_text, wall_line}
use Rattle.cut_bounds.specs.declared.wall.MeasuredWall.{MeasuredWall}
use Rattle.cut_bounds.proofs.text.bounds_text.Goals as goal

pub returns : goal.returns
returns c =
    let b = c.args.bounds.now in
    let first = c.put_number_line.new.self in
    let second = c.put_number_line-2.new.self in
    let third = c.put_number_line-3.new.self in
    six-pieces (number_line (codes "overflow at least") b.overflow) (number_line (codes "wirelength at least") b.wirelength)
    (number_line (codes "usable wirelength at least") b.usable_wirelength) c.args.further.now (taken_text b) (flat_map wall_line b.fullest) first second third
    c.put.new.self c.put_taken.new.text c.put_walls.new.text
    (c.in_ok-put_number_line.ensures
    ∙ ap (λ (t : List ℕ). t ++ number_line (codes "overflow at least") c.bounds.inside.overflow) c.new-text.ensures
    ∙ ap (λ (v : BoundsView). number_line (codes "overflow at least") v.overflow) c.bounds.view_is)
    (c.in_ok-put_number_line-2.ensures ∙ ap (λ (v : BoundsView). first ++ number_line (codes "wirelength at least") v.wirelength) c.bounds.view_is)
    (c.in_ok-put_number_line-3.ensures
    ∙ ap (λ (v : BoundsView). second ++ number_line (codes "usable wirelength at least") v.usable_wirelength) c.bounds.view_is)
    c.in_ok-put.ensures.put
    c.in_ok-put_taken.ensures
    (c.in_ok-put_walls.ensures ∙ ap (λ (ws : List MeasuredWall). c.put_taken.new.text ++ flat_map wall_line ws) c.deref.ensures.value
    ∙ ap (λ (v : BoundsView). c.put_taken.new.text ++ flat_map wall_line v.fullest) c.bounds.view_is)
