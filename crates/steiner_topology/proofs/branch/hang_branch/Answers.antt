use Rattle.std.proofs.Common.{◌≡◌, ℕ, ◌<◌, List, Result, Ok, Err, OnOk, length, All, sym, subst, ap, ◌∙◌, arith}
use Rattle.std.specs.declared.alloc.AllocError.{AllocError}
use Rattle.steiner_topology.specs.declared.point.Point.{Point}
use Rattle.steiner_topology.specs.Topology.{parent_of, with_branch}
use Rattle.steiner_topology.specs.Children.{AreChildren, lists_of, branch_listed}
use Rattle.steiner_topology.proofs.TopologyLemmas.{read_parent}
use Rattle.steiner_topology.proofs.TreeLemmas.{with_branch-branches}
use Rattle.steiner_topology.proofs.ChildLemmas.{branch-children}
use Rattle.steiner_topology.proofs.branch.hang_branch.Goals as goal

on_ok : {A : Type 0} (result : Result A AllocError) (P Q : Type 0) → (P → Q) → OnOk result P → OnOk result Q
on_ok (Ok x) P Q step holds = step holds
on_ok (Err e) P Q step holds = tt

pub returns-clause-children : goal.returns-clause-children
returns-clause-children c =
    let points = c.args.points.now.items in
    let lists = lists_of c.args.children.now.items in
    let b = c.args.branch in
    let lower = c.args.lower in
    let j = c.args.j in
    let kept = c.args.points.now.ok.0 in
    let upper_in : b.parent < length points = let below = c.requires.upper in omega arith in
    let lower_in : lower < length points = let below = c.requires.lower in omega arith in
    let j_in : j < length points = let below = c.requires.j in omega arith in
    let parents : All (λ p. p.parent < length points) points = λ k d below. let inside = c.requires.parents k d below in omega arith in
    let new = with_branch points b.tile b.parent lower j in
    let branch = with_branch-branches points b.tile b.parent lower j upper_in lower_in j_in c.requires.apart parents in
    let are = branch-children points new b.tile b.parent lower j lists branch parents c.requires.children upper_in lower_in j_in c.requires.hangs in
    let i_is = read_parent points j c.index.result.now j_in c.index.ensures in
    let listed : lists_of c.list_branch.new.children.items ≡ branch_listed lists (parent_of points j) b.parent lower j =
    c.in_ok-list_branch.ensures ∙ ap (λ i. branch_listed lists i b.parent lower j) i_is in
    let A : List (List ℕ) → Type 0 = λ xs. AreChildren new xs in
    let B : List Point → Type 0 = λ xs. AreChildren xs (lists_of c.list_branch.new.children.items) in
    on_ok c.hang_points.result (c.hang_points.new.points.items ≡ new) (AreChildren c.hang_points.new.points.items (lists_of c.list_branch.new.children.items))
    (λ is. subst B (sym is) (subst A (sym listed) are)) c.hang_points.ensures
