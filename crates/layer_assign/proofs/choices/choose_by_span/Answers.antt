use Rattle.std.proofs.Common.{◌≡◌, ℕ, ◌+◌, false, nat_lt, sym, ap, ◌∙◌, arith}
use Rattle.std.proofs.lemmas.Bool.Decides.{nat_tests}
use Rattle.gr_base.proofs.GridLemmas.{some_layers}
use Rattle.layer_assign.specs.Spans.{widened, span_number, span_at}
use Rattle.layer_assign.specs.Chosen.{may_precede}
use Rattle.layer_assign.specs.Assignments.{parent_of}
use Rattle.layer_assign.specs.Tables.{priced, offer, best_below}
use Rattle.layer_assign.proofs.ChoiceLemmas.{no-wires}
use Rattle.layer_assign.proofs.Choosing.{choosing-start, choosing-skip, choosing-turn, choosing-done, numbered_below, adds-number, all-numbered, still_small, finds, prices-at}
use Rattle.layer_assign.proofs.Elimination.{widened-within}
use Rattle.layer_assign.proofs.FlatLemmas.{few, parent-at}
use Rattle.layer_assign.proofs.TableLemmas.{span_at-number, turn-within, turn-numbered, turn-next}
use Rattle.layer_assign.proofs.choices.choose_by_span.Goals as goal

not-below : (n m : ℕ) → n ≡ m → nat_lt n m ≡ false
not-below n m same = grind (arith, nat_tests)

pub loop-init : goal.loop-init
loop-init g c = record {
  next = sym (ap (span_at c.args.shape.layers) c.span_number-counter.ensures.number ∙ span_at-number c.args.shape.layers c.args.above (some_layers c.args.shape) c.requires.above);
  so_far =
      choosing-start c.args.shape (g.C.Costs.ways c.args.costs.now) (g.C.Costs.price c.args.costs.now) c.args.flat.now c.args.node c.args.base c.args.above
      c.args.least.now.items c.args.choices.now.items c.span_number-counter.result c.requires.costs c.requires.choices c.span_number-counter.ensures.number c.requires.above;
  wires = no-wires c.args.shape (g.C.Costs.price c.args.costs.now) c.limb_of.new.limb.edge 16;
}

pub next_span-next-requires : goal.next_span-next-requires
next_span-next-requires g c = turn-within c.args.shape c.loop.next c.loop.counter c.loop.invariant.next

pub may_precede-requires : goal.may_precede-requires
may_precede-requires g c =
    let many = few c.args.flat.now c.parent-parent.ensures.tree in
    let b = c.requires.node.inside in
    let e = c.parent-parent.ensures.earlier c.requires.node.later in
    omega arith

pub choose_layer-requires-clause-span : goal.choose_layer-requires-clause-span
choose_layer-requires-clause-span g c = turn-within c.args.shape c.loop.next c.loop.counter c.loop.invariant.next

pub choose_layer-requires-clause-parent : goal.choose_layer-requires-clause-parent
choose_layer-requires-clause-parent g c =
    let many = few c.args.flat.now c.parent-parent.ensures.tree in
    let b = c.requires.node.inside in
    let e = c.parent-parent.ensures.earlier c.requires.node.later in
    omega arith

pub choose_layer-requires-clause-node : goal.choose_layer-requires-clause-node
choose_layer-requires-clause-node g c = let many = few c.args.flat.now c.parent-parent.ensures.tree in let b = c.requires.node.inside in omega arith

pub choose_layer-requires-clause-small : goal.choose_layer-requires-clause-small
choose_layer-requires-clause-small g c = λ other lt.
    let within = turn-within c.args.shape c.loop.next c.loop.counter c.loop.invariant.next in
    let up = (sym (parent-at c.args.flat.now c.args.node c.parent-parent.result c.parent-parent.ensures.parent)) in
    let below = c.loop-test.true in
    let number = turn-numbered c.args.shape c.loop.next c.loop.counter c.loop.invariant.next (omega (arith, c.spans_of-end.ensures.count)) in
    let kept =
    still_small c.args.shape (g.C.Costs.ways c.args.costs.now) (g.C.Costs.price c.args.costs.now) c.args.flat.now c.args.node c.parent-parent.result c.args.base c.args.above c.args.least.now.items
    c.args.choices.now.items c.loop.least.items c.loop.choices.items c.loop.counter c.loop.next other up c.loop.invariant.so_far within lt number in
    let small = c.requires.parent (widened c.loop.next other) (widened-within c.args.shape.layers c.loop.next other within lt) in
    omega (arith, kept, small)

pub choose_layer-requires-clause-some : goal.choose_layer-requires-clause-some
choose_layer-requires-clause-some g c =
    let below = c.loop-test.true in
    let found =
    finds c.args.shape (g.C.Costs.ways c.args.costs.now) (g.C.Costs.price c.args.costs.now) c.args.flat.now c.args.node c.parent-parent.result c.args.base c.args.above c.args.least.now.items
    c.args.choices.now.items c.loop.least.items c.loop.choices.items c.deref.result.now c.loop.counter c.loop.next (priced c.args.shape (g.C.Costs.price c.args.costs.now) c.limb_of.new.limb)
    (prices-at (g.C.Costs.grid c.args.costs.now) c.args.shape (g.C.Costs.ways c.args.costs.now) (g.C.Costs.price c.args.costs.now) c.requires.grid (g.met.C.Costs.prices c.args.costs.now))
    c.requires.flat c.parent-parent.ensures.tree c.requires.node.later c.requires.node.inside (sym (parent-at c.args.flat.now c.args.node c.parent-parent.result c.parent-parent.ensures.parent))
    c.deref.ensures.value c.limb_of.ensures.costs c.loop.invariant.so_far (turn-within c.args.shape c.loop.next c.loop.counter c.loop.invariant.next)
    (turn-numbered c.args.shape c.loop.next c.loop.counter c.loop.invariant.next (omega (arith, c.spans_of-end.ensures.count))) c.requires.node.layer in
    found.some

pub loop-preserved-then-not-may_precede : goal.loop-preserved-then-not-may_precede
loop-preserved-then-not-may_precede g c =
    let below = c.loop-test.true in
    let within = turn-within c.args.shape c.loop.next c.loop.counter c.loop.invariant.next in
    let number = turn-numbered c.args.shape c.loop.next c.loop.counter c.loop.invariant.next (omega (arith, c.spans_of-end.ensures.count)) in
    let parent = parent-at c.args.flat.now c.args.node c.parent-parent.result c.parent-parent.ensures.parent in
    let never : may_precede (parent_of c.args.flat.now c.args.node) c.args.node c.args.above c.loop.next ≡ false =
    ap (λ (up : ℕ). may_precede up c.args.node c.args.above c.loop.next) parent ∙ sym c.may_precede.ensures ∙ c.if-not-may_precede.true in
    record {
      next = turn-next c.args.shape.layers c.loop.next c.next_span-next.result c.loop.counter c.loop.invariant.next c.next_span-next.ensures;
      so_far =
          choosing-skip c.args.shape (g.C.Costs.ways c.args.costs.now) (g.C.Costs.price c.args.costs.now) c.args.flat.now c.args.node c.args.base c.args.above
          c.args.least.now.items c.args.choices.now.items c.loop.least.items c.loop.choices.items
          (numbered_below c.args.shape.layers c.loop.counter) (numbered_below c.args.shape.layers (c.loop.counter + 1)) c.loop.next
          (adds-number c.args.shape.layers c.loop.counter c.loop.next within number) never c.loop.invariant.so_far within (not-below (span_number c.args.shape.layers c.loop.next) c.loop.counter number);
      wires = c.loop.invariant.wires;
    }

pub loop-preserved : goal.loop-preserved
loop-preserved g c =
    let below = c.loop-test.true in
    let node = c.requires.node.inside in
    let early = c.parent-parent.ensures.earlier c.requires.node.later in
    let up = (sym (parent-at c.args.flat.now c.args.node c.parent-parent.result c.parent-parent.ensures.parent)) in
    let within = turn-within c.args.shape c.loop.next c.loop.counter c.loop.invariant.next in
    let number = turn-numbered c.args.shape c.loop.next c.loop.counter c.loop.invariant.next (omega (arith, c.spans_of-end.ensures.count)) in
    record {
      next = turn-next c.args.shape.layers c.loop.next c.next_span-next.result c.loop.counter c.loop.invariant.next c.next_span-next.ensures;
      so_far =
          choosing-turn c.args.shape (g.C.Costs.ways c.args.costs.now) (g.C.Costs.price c.args.costs.now) c.args.flat.now c.args.node c.parent-parent.result c.args.base c.args.above
          c.args.least.now.items c.args.choices.now.items c.loop.least.items c.loop.choices.items c.choose_layer.new.least.items c.choose_layer.new.choices.items
          (numbered_below c.args.shape.layers c.loop.counter) (numbered_below c.args.shape.layers (c.loop.counter + 1))
          c.loop.next (best_below (offer c.args.shape (priced c.args.shape (g.C.Costs.price c.args.costs.now) c.limb_of.new.limb) c.loop.least.items c.parent-parent.result c.loop.next) c.args.shape.layers) up node (omega arith) within
          (adds-number c.args.shape.layers c.loop.counter c.loop.next within number) c.choose_layer.ensures.writes
          (finds c.args.shape (g.C.Costs.ways c.args.costs.now) (g.C.Costs.price c.args.costs.now) c.args.flat.now c.args.node c.parent-parent.result c.args.base c.args.above c.args.least.now.items
          c.args.choices.now.items c.loop.least.items c.loop.choices.items c.deref.result.now c.loop.counter c.loop.next (priced c.args.shape (g.C.Costs.price c.args.costs.now) c.limb_of.new.limb)
          (prices-at (g.C.Costs.grid c.args.costs.now) c.args.shape (g.C.Costs.ways c.args.costs.now) (g.C.Costs.price c.args.costs.now) c.requires.grid (g.met.C.Costs.prices c.args.costs.now))
          c.requires.flat c.parent-parent.ensures.tree c.requires.node.later node up c.deref.ensures.value c.limb_of.ensures.costs c.loop.invariant.so_far within number c.requires.node.layer)
          c.loop.invariant.so_far;
      wires = c.choose_layer.ensures.wires;
    }

pub returns : goal.returns
returns g c =
    choosing-done c.args.shape (g.C.Costs.ways c.args.costs.now) (g.C.Costs.price c.args.costs.now) c.args.flat.now c.args.node c.args.base c.args.above c.args.least.now.items
    c.args.choices.now.items c.loop.least.items c.loop.choices.items (numbered_below c.args.shape.layers c.loop.counter)
    (all-numbered c.args.shape.layers c.loop.counter (may_precede (parent_of c.args.flat.now c.args.node) c.args.node c.args.above)
    (let e = c.loop-test.false in omega (arith, c.spans_of-end.ensures.count))) c.loop.invariant.so_far
