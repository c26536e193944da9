use Rattle.std.proofs.Common.{◌≡◌, ℕ, ◌<◌, ◌≤◌, inl, inr, Bool, true, false, List, length, get_or, sym, ap, subst, ◌∙◌, arith}
use Rattle.std.proofs.lemmas.Bool.{cases_Bool, cases_eq}
use Rattle.std.proofs.lemmas.List.{length-set}
use Rattle.gr_base.specs.Trees.{cell_at, holds}
use Rattle.gr_base.specs.declared.grid.Shape.{Shape}
use Rattle.layer_assign.specs.Spans.{span_in}
use Rattle.layer_assign.specs.Assignments.{cell_on, tile_at}
use Rattle.layer_assign.specs.Raising.{end_of, is_done, IsEarly, IsRaised, AreEnds}
use Rattle.layer_assign.proofs.RaisingLemmas.{column_of, raised-free, raised-up, done-set, done-kept, done-some, ends-more, grows-at}
use Rattle.layer_assign.proofs.FlatLemmas.{parent-at}
use Rattle.layer_assign.proofs.OrderLemmas.{visited-at, climbing-next, climbing-end}
use Rattle.layer_assign.proofs.raised.raise_ancestors.Goals as goal

-- a node before all that are done isn't done
not_yet : (done : ℕ → Bool) (node parent : ℕ) → parent < node → ((u : ℕ) → done u ≡ true → node ≤ u) → done parent ≡ false
not_yet done node parent lt only = elim (cases_Bool (done parent)) [ inl is ↦ let h = only parent is in absurd (omega arith) | inr is ↦ is ]

pub visit-requires-clause-on : goal.visit-requires-clause-on
visit-requires-clause-on c =
    let a : ℕ → ℕ = λ node. get_or c.args.layers.now node 0 in
    let other = c.loop-node-test.true in
    let cell : Shape → ℕ = λ s. cell_on s (tile_at c.args.flat.now c.loop-node.node) (a c.loop-node.node) in
    subst (λ (s : Shape). IsEarly c.loop-node.tree (end_of c.loop-node.ends.items c.loop-node.node) (cell s)) (sym c.loop-node.invariant.raised.shape)
    (c.loop-node.invariant.ends.early c.loop-node.node (a c.loop-node.node) c.loop-node.invariant.inside c.loop-node.invariant.own
    (c.requires.spans.own c.loop-node.node (omega arith) c.loop-node.invariant.inside))

pub visit-requires-clause-free : goal.visit-requires-clause-free
visit-requires-clause-free c = λ layer lt.
    let g = c.args.tree.now.shape in
    let a : ℕ → ℕ = λ node. get_or c.args.layers.now node 0 in
    let other = c.loop-node-test.true in
    let early = c.parent-parent.ensures.earlier (omega arith) in
    let inside = c.loop-node.invariant.inside in
    subst (λ (s : Shape). holds c.loop-node.tree (cell_on s (tile_at c.args.flat.now c.parent-parent.result) layer) ≡ false) (sym c.loop-node.invariant.raised.shape)
    (raised-free g c.args.flat.now a (span_in c.args.spans.now) (cell_at c.args.tree.now.nodes 0) (is_done c.loop-node.ends.items) c.loop-node.node c.loop-node.tree c.parent-parent.result layer
    c.requires.flat c.parent-parent.ensures.tree c.loop-node.invariant.raised (omega arith)
    (not_yet (is_done c.loop-node.ends.items) c.loop-node.node c.parent-parent.result early c.loop-node.invariant.only))

pub loop-node-preserved : goal.loop-node-preserved
loop-node-preserved c =
    let g = c.args.tree.now.shape in
    let t = c.args.flat.now in
    let a : ℕ → ℕ = λ node. get_or c.args.layers.now node 0 in
    let other = c.loop-node-test.true in
    let early = c.parent-parent.ensures.earlier (omega arith) in
    let inside = c.loop-node.invariant.inside in
    let spans = span_in c.args.spans.now in
    let up = c.parent-parent.result in
    let old = c.loop-node.ends.items in
    let long : length old ≡ length t.nodes = c.loop-node.invariant.marks in
    let marked = c.in_ok-visit.ensures.ends in
    let grows = grows-at g c.loop-node.tree.shape t a spans c.loop-node.tree c.visit.new.tree c.loop-node.node up c.loop-node.invariant.raised.shape c.in_ok-visit.ensures.grows in
    let some = done-some g t spans old c.loop-node.node c.loop-node.tree c.visit.new.tree (λ cell. column_of g t spans cell up) _ c.loop-node.invariant.ends c.loop-node.invariant.own grows in
    let done : List ℕ → ℕ → Type 0 = λ xs u. is_done xs u ≡ true in
    record {
      inside = omega arith;
      marks = ap (λ (xs : List ℕ). length xs) marked ∙ length-set old up (length c.visit.new.tree.nodes) ∙ long;
      own = subst (λ (xs : List ℕ). done xs up) (sym marked) (done-set old up (length c.visit.new.tree.nodes) (omega arith) some);
      only = λ u is.
          elim (cases_eq u up) [
            | inl same ↦ omega arith
            | inr apart ↦
                let h = c.loop-node.invariant.only u (sym (done-kept old up u (length c.visit.new.tree.nodes) apart) ∙ subst (λ (xs : List ℕ). done xs u) marked is) in omega arith
          ];
      raised =
          subst (λ (xs : List ℕ). IsRaised g t a spans (cell_at c.args.tree.now.nodes 0) (is_done xs) up c.visit.new.tree) (sym marked)
          (raised-up g t a spans (cell_at c.args.tree.now.nodes 0) old c.loop-node.node up (length c.visit.new.tree.nodes) c.loop-node.tree c.visit.new.tree
          c.loop-node.invariant.raised some inside early long c.loop-node.invariant.own
          (not_yet (is_done old) c.loop-node.node up early c.loop-node.invariant.only) grows);
      same =
          climbing-next g t a spans c.loop-node.node up c.loop-node.tree c.visit.new.tree c.parent-parent.ensures.tree (omega arith) inside
          (parent-at t c.loop-node.node up c.parent-parent.ensures.parent)
          (visited-at g c.loop-node.tree.shape t a spans c.loop-node.node c.loop-node.node up c.loop-node.tree c.visit.new.tree c.loop-node.invariant.raised.shape c.in_ok-visit.ensures.nodes)
          ∙ c.loop-node.invariant.same;
      ends =
          subst (λ (xs : List ℕ). AreEnds g t spans xs c.visit.new.tree) (sym marked)
          (ends-more g t spans old up c.loop-node.tree c.visit.new.tree _ c.requires.flat c.parent-parent.ensures.tree long (omega arith) grows c.loop-node.invariant.ends);
    }

pub returns-clause-raised : goal.returns-clause-raised
returns-clause-raised c =
    let g = c.args.tree.now.shape in
    let a : ℕ → ℕ = λ node. get_or c.args.layers.now node 0 in
    let zero_node : c.loop-node.node ≡ 0 = c.loop-node-test.false in
    subst (λ (n : ℕ). IsRaised g c.args.flat.now a (span_in c.args.spans.now) (cell_at c.args.tree.now.nodes 0) (is_done c.loop-node.ends.items) n c.loop-node.tree) zero_node c.loop-node.invariant.raised

pub returns-clause-nodes : goal.returns-clause-nodes
returns-clause-nodes c =
    let zero_node : c.loop-node.node ≡ 0 = c.loop-node-test.false in
    climbing-end c.args.tree.now.shape c.args.flat.now (λ node. get_or c.args.layers.now node 0) (span_in c.args.spans.now) c.loop-node.node c.loop-node.tree zero_node
    ∙ c.loop-node.invariant.same
