use Rattle.std.proofs.Common.{◌≡◌, ℕ, ◌<◌, List, length, slice_get, slice_index, Option, Some, IsTrue, sym, ap, subst, ◌∙◌, arith}
use Rattle.gr_base.specs.Capacities.{need_along}
use Rattle.gr_base.specs.Grid.{has_edge, place_at}
use Rattle.gr_base.specs.ParentEdges.{wire_to_parent}
use Rattle.gr_base.specs.Sums.{wire_number}
use Rattle.gr_base.specs.Trees.{TreeView, IsTree}
use Rattle.grid_demand.specs.declared.loads.Change.{Change}
use Rattle.gr_base.specs.declared.grid.Edge.{Edge}
use Rattle.gr_base.specs.declared.grid.Shape.{Shape}
use Rattle.grid_demand.specs.LoadSums.{changed_by, Fits}
use Rattle.grid_demand.specs.Planes.{place_of, by_number}
use Rattle.grid_demand.specs.Tables.{need_at}
use Rattle.grid_demand.proofs.PlaneLemmas.{length-by_number}
use Rattle.grid_demand.proofs.LoadSteps.{IsTurn, adds, changed, changed-none, changed-all, next-via, turn, turn-written}
use Rattle.grid_demand.proofs.TreeTimes.{edges_before}
use Rattle.grid_demand.proofs.loads.change_along.Goals as goal

pub loop-node-init : goal.loop-node-init
loop-node-init c = (
  changed-none c.args.tree.now.shape (changed_by c.args.change) (by_number 0 c.args.demands.now) (need_at c.args.capacity.now c.args.net) (adds c.args.change)
      (length-by_number 0 c.args.demands.now ∙ c.requires.long),
  c.none-layer.ensures c.args.capacity.now c.width-width.result,
)

-- the turn that comes to an edge
here : (t : TreeView) (k count : ℕ) (change : Change) (base now : List ℕ) (need : Edge → ℕ) (e : Edge) (wires place : ℕ) (o : Option Edge) →
    by_number 0 now ≡ changed t.shape (changed_by change) base need (edges_before t k) → count ≡ length t.nodes → IsTree t → k < count →
    o ≡ wire_to_parent t k → o ≡ Some e → wires ≡ length now → place ≡ place_of wires (wire_number e) → IsTurn t k base now e place
here t k count change base now need e wires place o so_far all tree below edge some whole at =
    turn t k (changed_by change) base now need e wires place (adds change) so_far tree (omega arith) (sym edge ∙ some) whole at

pub at-demand-requires : goal.at-demand-requires
at-demand-requires c =
    let t = here c.args.tree.now c.loop-node.node c.len-node-end.result c.args.change (by_number 0 c.args.demands.now) c.loop-node.demands (need_at c.args.capacity.now c.args.net)
    c.in-Some.e c.len.result c.place-at.result c.wire_to_parent.result c.loop-node.invariant.0 c.len-node-end.ensures.len c.len-node-end.ensures.tree c.loop-node-test.true
    c.wire_to_parent.ensures.edge c.in-Some.is c.len.ensures c.place-at.ensures in
    t.stands.below

pub need_on_layer-layer-requires-clause-edge : goal.need_on_layer-layer-requires-clause-edge
need_on_layer-layer-requires-clause-edge c =
    let t = here c.args.tree.now c.loop-node.node c.len-node-end.result c.args.change (by_number 0 c.args.demands.now) c.loop-node.demands (need_at c.args.capacity.now c.args.net)
    c.in-Some.e c.len.result c.place-at.result c.wire_to_parent.result c.loop-node.invariant.0 c.len-node-end.ensures.len c.len-node-end.ensures.tree c.loop-node-test.true
    c.wire_to_parent.ensures.edge c.in-Some.is c.len.ensures c.place-at.ensures in
    subst (λ (g : Shape). IsTrue (has_edge g c.in-Some.e)) (sym c.requires.shape) t.next.edge

pub changed-requires-clause-fits : goal.changed-requires-clause-fits
changed-requires-clause-fits c =
    let t = here c.args.tree.now c.loop-node.node c.len-node-end.result c.args.change (by_number 0 c.args.demands.now) c.loop-node.demands (need_at c.args.capacity.now c.args.net)
    c.in-Some.e c.len.result c.place-at.result c.wire_to_parent.result c.loop-node.invariant.0 c.len-node-end.ensures.len c.len-node-end.ensures.tree c.loop-node-test.true
    c.wire_to_parent.ensures.edge c.in-Some.is c.len.ensures c.place-at.ensures in
    let read = c.at-demand.ensures.value ∙ t.before in
    let P : ℕ → Type 0 = λ n. Fits c.args.change n c.need_on_layer-layer.result.need in
    let Q : ℕ → Type 0 = λ n. Fits c.args.change (slice_index (by_number 0 c.args.demands.now) (wire_number c.in-Some.e)) n in
    subst P (sym read) (subst Q (sym (c.need_on_layer-layer.ensures.value ∙ ap (λ (w : ℕ). need_along c.in-Some.e.way w (slice_get c.args.capacity.now.layers (place_at c.args.capacity.now.shape c.in-Some.e.low).layer)) c.width-width.ensures.width)) (c.requires.fits c.in-Some.e t.next.inside t.next.wire))

pub put-requires-clause-place : goal.put-requires-clause-place
put-requires-clause-place c =
    let t = here c.args.tree.now c.loop-node.node c.len-node-end.result c.args.change (by_number 0 c.args.demands.now) c.loop-node.demands (need_at c.args.capacity.now c.args.net)
    c.in-Some.e c.len.result c.place-at.result c.wire_to_parent.result c.loop-node.invariant.0 c.len-node-end.ensures.len c.len-node-end.ensures.tree c.loop-node-test.true
    c.wire_to_parent.ensures.edge c.in-Some.is c.len.ensures c.place-at.ensures in
    t.stands.below

pub loop-node-preserved-in_default : goal.loop-node-preserved-in_default
loop-node-preserved-in_default c = (
  c.loop-node.invariant.0
      ∙ next-via c.args.tree.now c.loop-node.node (changed_by c.args.change) (by_number 0 c.args.demands.now) (need_at c.args.capacity.now c.args.net)
      (omega (arith, c.loop-node-test.true, c.len-node-end.ensures.len)) (sym c.wire_to_parent.ensures.edge ∙ c.in_default.is),
  c.loop-node.invariant.1,
)

pub loop-node-preserved : goal.loop-node-preserved
loop-node-preserved c =
    let t = here c.args.tree.now c.loop-node.node c.len-node-end.result c.args.change (by_number 0 c.args.demands.now) c.loop-node.demands (need_at c.args.capacity.now c.args.net)
    c.in-Some.e c.len.result c.place-at.result c.wire_to_parent.result c.loop-node.invariant.0 c.len-node-end.ensures.len c.len-node-end.ensures.tree c.loop-node-test.true
    c.wire_to_parent.ensures.edge c.in-Some.is c.len.ensures c.place-at.ensures in (
      ap (λ (xs : List ℕ). by_number 0 xs) c.put.ensures
          ∙ turn-written c.args.tree.now c.loop-node.node (changed_by c.args.change) (by_number 0 c.args.demands.now) c.loop-node.demands (need_at c.args.capacity.now c.args.net)
          c.in-Some.e c.place-at.result c.at-demand.result c.need_on_layer-layer.result.need c.changed.result (adds c.args.change) c.loop-node.invariant.0 t
          c.at-demand.ensures.value (c.need_on_layer-layer.ensures.value ∙ ap (λ (w : ℕ). need_along c.in-Some.e.way w (slice_get c.args.capacity.now.layers (place_at c.args.capacity.now.shape c.in-Some.e.low).layer)) c.width-width.ensures.width) c.changed.ensures.value,
      c.need_on_layer-layer.ensures.layer,
    )

pub returns-clause-demands : goal.returns-clause-demands
returns-clause-demands c =
    let t = c.args.tree.now in
    let all : c.loop-node.node ≡ length t.nodes = omega (arith, c.loop-node-test.false, c.loop-node.auto.node-end, c.len-node-end.ensures.len) in
    c.loop-node.invariant.0
    ∙ changed-all t c.loop-node.node (changed_by c.args.change) (by_number 0 c.args.demands.now) (need_at c.args.capacity.now c.args.net) c.len-node-end.ensures.tree all
