use Rattle.std.proofs.Common.{ℕ, ◌*◌, ◌≤◌, List, ◌++◌, take, ap, ◌∙◌, arith}
use Rattle.layer_assign.proofs.ClimbLemmas.{climbs-more}
use Rattle.layer_assign.proofs.climbs.ClimbRows.copy_to.Goals as goal

pub loop-done-preserved : goal.loop-done-preserved
loop-done-preserved c =
    let layers = c.args.self.now.shape.layers in
    let old = c.loop-done.costs.items in
    let rows = c.min-rows.result in
    let lt = c.loop-done-test.true in
    let few : rows ≤ 64 = let e = c.min-rows.ensures in omega arith in
    let copied = c.in_ok-extend_from_slice.ensures.items
    ∙ ap (λ (xs : List ℕ). old ++ take (rows * c.spans_of-spans.result) xs) c.deref.ensures.value
    ∙ ap (λ (n : ℕ). old ++ take (rows * n) c.args.self.now.costs.items) c.spans_of-spans.ensures.count in
    record {
      most = let e = c.min-rows.ensures in omega arith;
      climbs = climbs-more layers c.loop-done.done 64 rows old c.args.self.now.costs.items c.extend_from_slice.new.self.items few c.loop-done.invariant.climbs c.args.self.now.rows copied;
    }
