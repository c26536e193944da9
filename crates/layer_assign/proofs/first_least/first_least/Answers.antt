use Rattle.std.proofs.Common.{◌≡◌, ℕ, ◌-◌, ◌*◌, ◌<◌, zero, suc, Bool, true, false, List, length, set, replicate, get_or, Option, Result, Ok, Err, IfOk, refl, sym, ap, subst, ◌∙◌, arith}
use Rattle.std.proofs.lemmas.List.{length-replicate}
use Rattle.layer_assign.proofs.Choosing.{prices-at}
use Rattle.gr_base.specs.declared.grid.Shape.{Shape}
use Rattle.layer_assign.specs.declared.span.Span.{Span}
use Rattle.layer_assign.specs.Spans.{IsWithin, growing, spans_of}
use Rattle.layer_assign.specs.Choices.{entry, FollowsFrom}
use Rattle.layer_assign.specs.Tables.{AreClimbs}
use Rattle.layer_assign.specs.Assignments.{parent_of}
use Rattle.layer_assign.proofs.FlatLemmas.{parent-before, parent-at}
use Rattle.layer_assign.proofs.Problems.{pin_span, pin_span-within}
use Rattle.layer_assign.proofs.Turns.{chosen-none, chosen-more, chosen-small, chosen-best, followed}
use Rattle.layer_assign.proofs.first_least.first_least.Goals as goal

rows_at : (long nodes n count spans : ℕ) → long ≡ nodes * count → nodes ≡ n → count ≡ spans → long ≡ n * spans
rows_at long nodes n count spans is first second = is ∙ ap (λ (k : ℕ). k * count) first ∙ ap (λ (k : ℕ). n * k) second

if_ok-both : {X E : Type 0} (r : Result X E) (P Q R : X → Type 0) → ((x : X) → P x → Q x → R x) → IfOk r P → IfOk r Q → IfOk r R
if_ok-both (Ok x) P Q R follows p q = follows x p q
if_ok-both (Err e) P Q R follows p q = tt

zeros : (n place : ℕ) → ◌≡◌ {A = ℕ} (get_or (replicate n 0) place 0) 0
zeros zero place = refl
zeros (suc n) zero = refl
zeros (suc n) (suc place) = zeros n place

pub loop-node-init : goal.loop-node-init
loop-node-init g c =
    let ways = g.C.Costs.ways c.args.costs.now in
    let price = g.C.Costs.price c.args.costs.now in
    let t = c.args.flat.now in
    let n = c.len-nodes.result in
    let choices : c.refill.new.list.items ≡ replicate (n * c.spans_of.result) 0 = c.in_ok-refill.ensures in
    let joined : c.refill-2.new.list.items ≡ replicate n false = c.in_ok-refill-2.ensures in
    let climbs : AreClimbs c.args.shape.layers (length t.nodes) c.copy_to.new.costs.items =
    subst (λ (k : ℕ). AreClimbs c.args.shape.layers k c.copy_to.new.costs.items) c.len-nodes.ensures.len
    (subst (λ (s : Shape). AreClimbs s.layers n c.copy_to.new.costs.items) c.in_ok-fit.ensures c.in_ok-copy_to.ensures) in
    let long : length c.refill.new.list.items ≡ n * c.spans_of.result = ap (λ (xs : List ℕ). length xs) choices ∙ length-replicate (n * c.spans_of.result) 0 in
    let marks : length c.refill-2.new.list.items ≡ n = ap (λ (xs : List Bool). length xs) joined ∙ length-replicate n false in
    record {
      size = c.extend.ensures.cells ∙ c.room.view_is;
      count = c.in_ok-pin_spans.ensures.count;
      spans = c.in_ok-pin_spans.ensures.spans;
      chosen =
          chosen-none c.args.shape ways price t c.args.pins.now c.copy_to.new.costs.items c.refill.new.list.items c.refill-2.new.list.items n c.len-nodes.ensures.tree c.requires.pins.cells
          c.len-nodes.ensures.len climbs.rows
          (rows_at (length c.refill.new.list.items) n (length t.nodes) c.spans_of.result (spans_of c.args.shape.layers) long c.len-nodes.ensures.len c.spans_of.ensures.count)
          (marks ∙ c.len-nodes.ensures.len)
          climbs.climbs
          (λ place. ap (λ (xs : List ℕ). get_or xs place 0) choices ∙ zeros (n * c.spans_of.result) place);
    }

pub choose_layers-requires-clause-within : goal.choose_layers-requires-clause-within
choose_layers-requires-clause-within g c = λ u below.
    let pins = subst (λ (s : Option Span). IsWithin c.args.shape.layers s) (sym (c.loop-node.invariant.spans u below))
    (pin_span-within c.args.shape c.args.flat.now c.args.pins.now u c.requires.pins.cells) in
    subst (λ (xs : List (Option Span)). IsWithin c.args.shape.layers (growing xs u)) (sym c.deref.ensures.value) pins

pub choose_layers-requires-clause-own : goal.choose_layers-requires-clause-own
choose_layers-requires-clause-own g c =
    let lt = c.loop-node-test.true in
    let room = c.loop-node.room-inside in
    chosen-small c.args.shape (g.C.Costs.ways c.args.costs.now) (g.C.Costs.price c.args.costs.now) c.args.flat.now c.args.pins.now room.least.items room.choices.items
    room.joined.items c.loop-node.node (c.loop-node.node - 1) c.len-nodes.ensures.tree c.loop-node.invariant.chosen (omega arith)

pub choose_layers-requires-clause-parent : goal.choose_layers-requires-clause-parent
choose_layers-requires-clause-parent g c =
    let lt = c.loop-node-test.true in
    let most = c.loop-node.invariant.chosen.most in
    let room = c.loop-node.room-inside in
    let early = parent-before c.args.flat.now (c.loop-node.node - 1) c.len-nodes.ensures.tree (omega arith) (omega arith) in
    chosen-small c.args.shape (g.C.Costs.ways c.args.costs.now) (g.C.Costs.price c.args.costs.now) c.args.flat.now c.args.pins.now room.least.items room.choices.items
    room.joined.items c.loop-node.node _ c.len-nodes.ensures.tree c.loop-node.invariant.chosen (omega arith)

pub loop-node-preserved : goal.loop-node-preserved
loop-node-preserved g c =
    let lt = c.loop-node-test.true in
    let most = c.loop-node.invariant.chosen.most in
    let t = c.args.flat.now in
    let v = c.loop-node.node - 1 in
    let room = c.loop-node.room-inside in
    let pins = c.deref.result.now in
    let early = parent-before t v c.len-nodes.ensures.tree (omega arith) (omega arith) in
    let spans : (u : ℕ) → u < length t.nodes → growing pins u ≡ pin_span c.args.shape t c.args.pins.now u =
    λ u below. ap (λ (xs : List (Option Span)). growing xs u) c.deref.ensures.value ∙ c.loop-node.invariant.spans u below in
    record {
      size = c.loop-node.invariant.size;
      count = c.loop-node.invariant.count;
      spans = c.loop-node.invariant.spans;
      chosen =
          chosen-more c.args.shape (g.C.Costs.ways c.args.costs.now) (g.C.Costs.price c.args.costs.now) t c.args.pins.now room.least.items c.choose_layers.new.least.items
          room.choices.items c.choose_layers.new.choices.items room.joined.items (set room.joined.items c.parent.result true) c.loop-node.node v
          (growing pins v) (growing pins (parent_of t v))
          (prices-at (g.C.Costs.grid c.args.costs.now) c.args.shape (g.C.Costs.ways c.args.costs.now) (g.C.Costs.price c.args.costs.now) c.requires.grid (g.met.C.Costs.prices c.args.costs.now))
          c.requires.flat c.len-nodes.ensures.tree c.requires.pins.cells (omega arith) (omega arith) (spans v (omega arith)) (spans (parent_of t v) (omega arith))
          (ap (λ (k : ℕ). set room.joined.items k true) (sym (parent-at t v c.parent.result c.parent.ensures.parent))) c.choose_layers.ensures c.loop-node.invariant.chosen;
    }

pub follow-requires-clause-within : goal.follow-requires-clause-within
follow-requires-clause-within g c = λ node below.
    subst (λ (s : Option Span). IsWithin c.args.shape.layers s) (sym (c.loop-node.invariant.spans node below))
    (pin_span-within c.args.shape c.args.flat.now c.args.pins.now node c.requires.pins.cells)

pub returns-clause-least : goal.returns-clause-least
returns-clause-least g c =
    let lt = c.loop-node-test.false in
    let room = c.loop-node.room-inside in
    let some = c.loop-node.invariant.chosen.some in
    let best =
    chosen-best c.args.shape (g.C.Costs.ways c.args.costs.now) (g.C.Costs.price c.args.costs.now) c.args.flat.now c.args.pins.now room.least.items room.choices.items
    room.joined.items c.loop-node.node c.len-nodes.ensures.tree c.requires.pins.cells (omega arith) c.loop-node.invariant.chosen in
    let at : (xs : List ℕ) → FollowsFrom c.args.flat.now (growing room.spans.items) (entry c.args.shape.layers c.deref-2.result.now) (λ node. get_or xs node 0) →
    FollowsFrom c.args.flat.now (growing room.spans.items) (entry c.args.shape.layers room.choices.items) (λ node. get_or xs node 0) =
    λ xs follows. subst (λ (ys : List ℕ). FollowsFrom c.args.flat.now (growing room.spans.items) (entry c.args.shape.layers ys) (λ node. get_or xs node 0)) c.deref-2.ensures.value follows in
    if_ok-both c.follow.result _ _ _ (λ layers count follows.
    followed c.args.shape (g.C.Costs.ways c.args.costs.now) (g.C.Costs.price c.args.costs.now) c.args.flat.now c.args.pins.now (entry c.args.shape.layers room.choices.items)
    room.spans.items layers.items c.len-nodes.ensures.tree c.requires.pins.cells c.loop-node.invariant.spans best count (at layers.items follows)) c.follow.ensures.count c.follow.ensures.follows
