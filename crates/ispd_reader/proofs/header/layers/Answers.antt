use Rattle.std.proofs.Common.{ℕ, List, ◌<◌, ◌≤◌, Any, take, sym, subst, arith}
use Rattle.gr_base.specs.declared.frame.Layer.{Layer}
use Rattle.ispd_reader.specs.Header.{IsStack}
use Rattle.ispd_reader.proofs.HeaderLemmas.{IsStack-of}
use Rattle.ispd_reader.proofs.header.layers.Goals as goal

pub returns-clause-stack : goal.returns-clause-stack
returns-clause-stack g c =
    let vertical = c.in_ok-vertical.ensures in
    let horizontal = c.in_ok-horizontal.ensures in
    let width = c.in_ok-width.ensures in
    let spacing = c.in_ok-spacing.ensures in
    let via = c.in_ok-via.ensures in
    let across : 1 < c.args.shape.columns → Any (λ n. 0 < n) (take c.args.shape.layers c.in_ok-horizontal.horizontal) =
    λ wide. subst (λ (n : ℕ). Any (λ m. 0 < m) (take n c.in_ok-horizontal.horizontal)) c.layers-2.ensures.layers (horizontal.some (omega arith)) in
    let along : 1 < c.args.shape.rows → Any (λ n. 0 < n) (take c.args.shape.layers c.in_ok-vertical.vertical) =
    λ wide. subst (λ (n : ℕ). Any (λ m. 0 < m) (take n c.in_ok-vertical.vertical)) c.layers.ensures.layers (vertical.some (omega arith)) in
    let few : c.args.shape.layers ≤ 16 = omega arith in
    subst (λ (stack : List Layer). IsStack c.args.shape stack) (sym c.stacked.ensures)
    (IsStack-of c.args.shape c.in_ok-vertical.vertical c.in_ok-horizontal.horizontal c.in_ok-width.width c.in_ok-spacing.spacing c.in_ok-via.via few
    vertical.count horizontal.count width.count spacing.count via.count
    vertical.most horizontal.most width.most spacing.most via.most
    across along)
