use Rattle.std.proofs.Common.{ℕ, ◌<◌, inl, inr, Option, List, length, All, sym, subst, ap, ◌∙◌}
use Rattle.steiner_topology.specs.Topology.{point, parent_of}
use Rattle.steiner_topology.specs.Children.{lists_of, without, preferred, best_of}
use Rattle.steiner_topology.proofs.BestLemmas.{best-alone, best-with_above}
use Rattle.steiner_topology.proofs.ChildLemmas.{children-inside, list-read}
use Rattle.steiner_topology.proofs.branch.best_neighbour.Goals as goal

pub best_child-best-requires-clause-children : goal.best_child-best-requires-clause-children
best_child-best-requires-clause-children c =
    let points = c.args.points.now in
    let vectors = c.args.children.now in
    let i = parent_of points c.args.j in
    let i_in = c.requires.parents c.args.j (point (0, 0) 0) c.requires.inside in
    let read = list-read points vectors i c.index-children-i.result _ c.as_slice.result.now c.requires.children i_in c.index-children-i.is c.as_slice.ensures in
    let A : List ℕ → Type 0 = λ xs. All (λ q. q < length points) xs in
    subst A (sym read) (children-inside points (lists_of vectors) i c.requires.children i_in)

pub returns-then-above-i-clause-best : goal.returns-then-above-i-clause-best
returns-then-above-i-clause-best c =
    let points = c.args.points.now in
    let vectors = c.args.children.now in
    let j = c.args.j in
    let i_in = c.requires.parents j (point (0, 0) 0) c.requires.inside in
    let read = list-read points vectors (parent_of points j) c.index-children-i.result _ c.as_slice.result.now c.requires.children i_in c.index-children-i.is c.as_slice.ensures in
    c.best_child-best.ensures.best ∙ ap (λ (xs : List ℕ). best_of points j (without j xs)) read ∙
    best-alone points (lists_of vectors) j c.requires.children i_in (elim c.then-above-i.either [ inl own ↦ inl own | inr other ↦ inr other.1 ])

pub returns-clause-best : goal.returns-clause-best
returns-clause-best c =
    let points = c.args.points.now in
    let vectors = c.args.children.now in
    let j = c.args.j in
    let i = parent_of points j in
    let i_in = c.requires.parents j (point (0, 0) 0) c.requires.inside in
    let read = list-read points vectors i c.index-children-i.result _ c.as_slice.result.now c.requires.children i_in c.index-children-i.is c.as_slice.ensures in
    c.better.ensures.better ∙
    ap (λ (o : Option ℕ). preferred points j o (parent_of points i)) (c.best_child-best.ensures.best ∙ ap (λ (xs : List ℕ). best_of points j (without j xs)) read) ∙
    best-with_above points (lists_of vectors) j c.requires.children i_in (c.requires.parents i (point (0, 0) 0) i_in) c.if-above-i.false c.if-above-j.false
