use Rattle.std.proofs.Common.{◌≡◌, ℕ, ◌+◌, ◌-◌, ◌<◌, ◌≤◌, inl, inr, true, false, nat_lt, List, length, set, get_or, Option, unwrap_or, refl, sym, ap, subst, ◌∙◌, arith}
use Rattle.std.proofs.lemmas.Bool.{cases_eq}
use Rattle.std.proofs.lemmas.Bool.Decides.{nat_tests}
use Rattle.std.proofs.lemmas.List.{length-set}
use Rattle.std.proofs.lemmas.Option.{slice_get_read}
use Rattle.gr_base.specs.Trees.{cell_at, holds}
use Rattle.gr_base.specs.declared.grid.Shape.{Shape}
use Rattle.layer_assign.specs.Spans.{span_in}
use Rattle.layer_assign.specs.Assignments.{cell_on, tile_at}
use Rattle.layer_assign.specs.Raising.{end_of, is_done, IsEarly, IsIn, IsRaised, AreEnds}
use Rattle.layer_assign.proofs.FlatLemmas.{parent-at}
use Rattle.layer_assign.proofs.RaisingLemmas.{column_of, raised-free, raised-on, raised-down, raised-all, done-set, done-kept, done-some, ends-more, grows-at}
use Rattle.layer_assign.proofs.OrderLemmas.{visited-at, low-in, filling-kept, filling-next, filling-end}
use Rattle.layer_assign.proofs.raised.raise_others.Goals as goal

-- a tile without an end isn't done
not_done : (ends : List ℕ) (node end : ℕ) → node < length ends → end ≡ get_or ends node end → end ≤ 0 → is_done ends node ≡ false
not_done ends node end below read none =
    let at = slice_get_read ends (length ends) node end refl below read in
    ap (λ (o : Option ℕ). nat_lt 0 (unwrap_or o 0)) at ∙ zero_end end none
  where
    zero_end : (n : ℕ) → n ≤ 0 → nat_lt 0 n ≡ false
    zero_end n none = let e : n ≡ 0 = omega arith in ap (λ (k : ℕ). nat_lt 0 k) e

pub visit-requires-clause-on : goal.visit-requires-clause-on
visit-requires-clause-on c =
    let t = c.args.flat.now in
    let a : ℕ → ℕ = λ node. get_or c.args.layers.now node 0 in
    let later = c.loop-node.invariant.later in
    let lt = c.loop-node-test.true in
    let long = c.len-node-end.ensures.len in
    let early = c.parent-parent.ensures.earlier later in
    let up = parent-at t c.loop-node.node c.parent-parent.result c.parent-parent.ensures.parent in
    let inside = subst (λ (p : ℕ). IsIn (span_in c.args.spans.now p) (a c.loop-node.node)) up (c.requires.spans.above c.loop-node.node later (omega arith)) in
    let cell : Shape → ℕ = λ s. cell_on s (tile_at t c.parent-parent.result) (a c.loop-node.node) in
    subst (λ (s : Shape). IsEarly c.loop-node.tree (end_of c.loop-node.ends.items c.parent-parent.result) (cell s)) (sym c.loop-node.invariant.raised.shape)
    (c.loop-node.invariant.ends.early c.parent-parent.result (a c.loop-node.node) (omega arith) (c.loop-node.invariant.before c.parent-parent.result early) inside)

pub visit-requires-clause-free : goal.visit-requires-clause-free
visit-requires-clause-free c = λ layer below.
    let g = c.args.tree.now.shape in
    let t = c.args.flat.now in
    let a : ℕ → ℕ = λ node. get_or c.args.layers.now node 0 in
    let lt = c.loop-node-test.true in
    let long = c.len-node-end.ensures.len in
    let marks : length c.loop-node.ends.items ≡ length t.nodes = c.loop-node.invariant.marks in
    let open_is = not_done c.loop-node.ends.items c.loop-node.node c.index.result.now (omega arith) c.index.ensures c.if-index-gt0.false in
    subst (λ (s : Shape). holds c.loop-node.tree (cell_on s (tile_at t c.loop-node.node) layer) ≡ false) (sym c.loop-node.invariant.raised.shape)
    (raised-free g t a (span_in c.args.spans.now) (cell_at c.args.tree.now.nodes 0) (is_done c.loop-node.ends.items) 0 c.loop-node.tree c.loop-node.node layer
    c.requires.flat c.len-node-end.ensures.tree c.loop-node.invariant.raised (omega arith) open_is)

-- and one with an end is
yet_done : (ends : List ℕ) (node end : ℕ) → node < length ends → end ≡ get_or ends node end → 0 < end → is_done ends node ≡ true
yet_done ends node end below read some =
    let at = slice_get_read ends (length ends) node end refl below read in
    ap (λ (o : Option ℕ). nat_lt 0 (unwrap_or o 0)) at ∙ some_end end some
  where
    some_end : (n : ℕ) → 0 < n → nat_lt 0 n ≡ true
    some_end n some = grind (arith, nat_tests)

pub loop-node-preserved-then-index-gt0 : goal.loop-node-preserved-then-index-gt0
loop-node-preserved-then-index-gt0 c =
    let g = c.args.tree.now.shape in
    let t = c.args.flat.now in
    let a : ℕ → ℕ = λ node. get_or c.args.layers.now node 0 in
    let spans = span_in c.args.spans.now in
    let lt = c.loop-node-test.true in
    let size = c.len-node-end.ensures.len in
    let long : length c.loop-node.ends.items ≡ length c.args.flat.now.nodes = c.loop-node.invariant.marks in
    let done = yet_done c.loop-node.ends.items c.loop-node.node c.index.result.now (omega arith) c.index.ensures c.if-index-gt0.true in
    record {
      later = omega arith;
      marks = long;
      before = λ u less.
          elim (cases_eq u c.loop-node.node) [
            | inl same ↦ ap (λ (k : ℕ). is_done c.loop-node.ends.items k) same ∙ done
            | inr apart ↦ c.loop-node.invariant.before u (omega arith)
          ];
      raised = c.loop-node.invariant.raised;
      within = omega arith;
      same =
          filling-kept g t a spans c.loop-node.node (length t.nodes - (c.loop-node.node + 1)) (length t.nodes - c.loop-node.node) c.loop-node.tree (omega arith)
          (raised-on g t a spans (cell_at c.args.tree.now.nodes 0) (is_done c.loop-node.ends.items) 0 c.loop-node.tree c.loop-node.node (spans c.loop-node.node).low c.requires.flat
          c.len-node-end.ensures.tree c.loop-node.invariant.raised (omega arith) done (low-in g t a spans c.loop-node.node c.requires.spans (omega arith)))
          ∙ c.loop-node.invariant.same;
      ends = c.loop-node.invariant.ends;
    }

pub loop-node-preserved : goal.loop-node-preserved
loop-node-preserved c =
    let g = c.args.tree.now.shape in
    let t = c.args.flat.now in
    let a : ℕ → ℕ = λ node. get_or c.args.layers.now node 0 in
    let later = c.loop-node.invariant.later in
    let lt = c.loop-node-test.true in
    let size = c.len-node-end.ensures.len in
    let node = c.loop-node.node in
    let spans = span_in c.args.spans.now in
    let old = c.loop-node.ends.items in
    let long : length old ≡ length t.nodes = c.loop-node.invariant.marks in
    let open_is = not_done old node c.index.result.now (omega arith) c.index.ensures c.if-index-gt0.false in
    let marked = c.in_ok-visit.ensures.ends in
    let count = length c.visit.new.tree.nodes in
    let grows = grows-at g c.loop-node.tree.shape t a spans c.loop-node.tree c.visit.new.tree node node c.loop-node.invariant.raised.shape c.in_ok-visit.ensures.grows in
    let some = done-some g t spans old 0 c.loop-node.tree c.visit.new.tree (λ cell. column_of g t spans cell node) _ c.loop-node.invariant.ends (c.loop-node.invariant.before 0 later) grows in
    record {
      later = omega arith;
      marks = ap (λ (xs : List ℕ). length xs) marked ∙ length-set old node count ∙ long;
      before = λ u less.
          subst (λ (xs : List ℕ). is_done xs u ≡ true) (sym marked)
          (elim (cases_eq u node) [
            | inl same ↦ ap (λ (k : ℕ). is_done (set old node count) k) same ∙ done-set old node count (omega arith) some
            | inr apart ↦ done-kept old node u count apart ∙ c.loop-node.invariant.before u (omega arith)
          ]);
      raised =
          subst (λ (xs : List ℕ). IsRaised g t a spans (cell_at c.args.tree.now.nodes 0) (is_done xs) 0 c.visit.new.tree) (sym marked)
          (raised-down g t a spans (cell_at c.args.tree.now.nodes 0) old node count c.loop-node.tree c.visit.new.tree
          c.loop-node.invariant.raised some later (omega arith) long open_is grows);
      within = omega arith;
      same =
          filling-next g t a spans node c.parent-parent.result (length t.nodes - (node + 1)) (length t.nodes - node) c.loop-node.tree c.visit.new.tree (omega arith)
          (raised-free g t a spans (cell_at c.args.tree.now.nodes 0) (is_done old) 0 c.loop-node.tree node (spans node).low c.requires.flat c.len-node-end.ensures.tree
          c.loop-node.invariant.raised (omega arith) open_is)
          (parent-at t node c.parent-parent.result c.parent-parent.ensures.parent)
          (visited-at g c.loop-node.tree.shape t a spans node c.parent-parent.result node c.loop-node.tree c.visit.new.tree c.loop-node.invariant.raised.shape c.in_ok-visit.ensures.nodes)
          ∙ c.loop-node.invariant.same;
      ends =
          subst (λ (xs : List ℕ). AreEnds g t spans xs c.visit.new.tree) (sym marked)
          (ends-more g t spans old node c.loop-node.tree c.visit.new.tree _ c.requires.flat c.len-node-end.ensures.tree long (omega arith) grows c.loop-node.invariant.ends);
    }

pub returns-clause-raised : goal.returns-clause-raised
returns-clause-raised c =
    let g = c.args.tree.now.shape in
    let t = c.args.flat.now in
    let a : ℕ → ℕ = λ node. get_or c.args.layers.now node 0 in
    let end = c.loop-node-test.false in
    let long = c.len-node-end.ensures.len in
    raised-all g t a (span_in c.args.spans.now) (cell_at c.args.tree.now.nodes 0) (is_done c.loop-node.ends.items) c.loop-node.tree c.loop-node.invariant.raised
    (λ u lt. c.loop-node.invariant.before u (omega arith))

pub returns-clause-nodes : goal.returns-clause-nodes
returns-clause-nodes c =
    let t = c.args.flat.now in
    let end = c.loop-node-test.false in
    let size = c.len-node-end.ensures.len in
    filling-end c.args.tree.now.shape t (λ node. get_or c.args.layers.now node 0) (span_in c.args.spans.now) c.loop-node.node (length t.nodes - c.loop-node.node) c.loop-node.tree (omega arith)
    ∙ c.loop-node.invariant.same
