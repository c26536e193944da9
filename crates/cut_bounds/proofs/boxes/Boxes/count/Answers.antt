use Rattle.std.proofs.Common.{ℕ, ◌+◌, ◌-◌, ◌*◌, ◌/◌, ◌^◌, ap, ◌∙◌, arith}
use Rattle.cut_bounds.proofs.BoxLemmas.{count-most}
use Rattle.cut_bounds.proofs.boxes.Boxes.count.Goals as goal

pub returns-clause-most : goal.returns-clause-most
returns-clause-most c =
    let g = c.args.self.shape in
    let level = c.args.self.level in
    let a = ap (λ (n : ℕ). n * ((c.rows.result - 1) / 2 ^ level + 1)) c.args.self.wide in
    let b = ap (λ (n : ℕ). ((g.columns - 1) / 2 ^ level + 1) * ((n - 1) / 2 ^ level + 1)) c.rows.ensures.rows in
    let most = count-most g level in
    let e = a ∙ b in
    omega (arith, e, most)
