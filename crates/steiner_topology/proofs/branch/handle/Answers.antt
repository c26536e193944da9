use Rattle.std.proofs.Common.{◌≡◌, Some, List, OnOk, sym, ap, subst, ◌∙◌}
use Rattle.steiner_topology.specs.declared.point.Point.{Point}
use Rattle.steiner_topology.specs.Topology.{saving, branched, handled}
use Rattle.steiner_topology.proofs.TopologyLemmas.{handled-by, branched_if-no, branched_if-yes}
use Rattle.steiner_topology.proofs.BestLemmas.{best-found, best_neighbour-is}
use Rattle.steiner_topology.proofs.branch.handle.Goals as goal

pub returns-then-saving-eq0-clause-points : goal.returns-then-saving-eq0-clause-points
returns-then-saving-eq0-clause-points c =
    let points = c.args.points.now.items in
    let j = c.args.join.point in
    let q = c.in-Some.q in
    let found = best-found points c.deref.result.now j q c.best_neighbour.result c.in-Some.is c.best_neighbour.ensures.best c.deref.ensures.value in
    let none : saving points j q ≡ 0 =
    sym (c.saving.ensures ∙ ap (λ (xs : List Point). saving xs j q) c.deref-3.ensures.value) ∙ c.if-saving-eq0.true in
    sym (handled-by points c.args.join (Some q) found ∙ branched_if-no points j q none)

pub add_branch-requires-clause-neighbour : goal.add_branch-requires-clause-neighbour
add_branch-requires-clause-neighbour c =
    let points = c.args.points.now.items in
    let j = c.args.join.point in
    let q = c.in-Some.q in
    best_neighbour-is points j q (best-found points c.deref.result.now j q c.best_neighbour.result c.in-Some.is c.best_neighbour.ensures.best c.deref.ensures.value)

pub returns-clause-points : goal.returns-clause-points
returns-clause-points c =
    let points = c.args.points.now.items in
    let join = c.args.join in
    let q = c.in-Some.q in
    let found = best-found points c.deref.result.now join.point q c.best_neighbour.result c.in-Some.is c.best_neighbour.ensures.best c.deref.ensures.value in
    let some : saving points join.point q ≡ 0 → ⊥ =
    λ none. c.if-saving-eq0.false (c.saving.ensures ∙ ap (λ (xs : List Point). saving xs join.point q) c.deref-3.ensures.value ∙ none) in
    let same : handled points join ≡ branched points join.point q =
    handled-by points join (Some q) found ∙ branched_if-yes points join.point q some in
    let P : List Point → Type 0 = λ xs. OnOk c.add_branch.result (c.add_branch.new.points.items ≡ xs) in
    subst P (sym same) c.add_branch.ensures.points
