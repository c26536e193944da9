use Rattle.std.proofs.Common.{ℕ, ◌++◌, codes, ap, ◌∙◌}
use Rattle.gr_text.specs.Lines.{number_line}
use Rattle.cut_bounds.specs.Bounds.{BoundsView}
use Rattle.cut_bounds.proofs.TextLemmas.{three-pieces}
use Rattle.cut_bounds.proofs.text.put_taken.Goals as goal

pub returns : goal.returns
returns c =
    let b = c.args.bounds.now in
    let old = c.args.text.now in
    three-pieces old (number_line (codes "column cuts") b.columns) (number_line (codes "row cuts") b.rows) (number_line (codes "boxes") b.boxes)
    c.put_number_line.new.self c.put_number_line-2.new.self c.put_number_line-3.new.self
    (c.in_ok-put_number_line.ensures ∙ ap (λ (n : ℕ). old ++ number_line (codes "column cuts") n) (c.from.ensures ∙ ap (λ (v : BoundsView). v.columns) c.bounds.view_is))
    (c.in_ok-put_number_line-2.ensures ∙ ap (λ (n : ℕ). c.put_number_line.new.self ++ number_line (codes "row cuts") n) (c.from-2.ensures ∙ ap (λ (v : BoundsView). v.rows) c.bounds.view_is))
    (c.in_ok-put_number_line-3.ensures ∙ ap (λ (n : ℕ). c.put_number_line-2.new.self ++ number_line (codes "boxes") n) (c.from-3.ensures ∙ ap (λ (v : BoundsView). v.boxes) c.bounds.view_is))
