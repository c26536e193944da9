use Rattle.std.proofs.Common.{◌≡◌, ℕ, true, List, get_or, Some, Result, Ok, Err, IfOk, sym, subst}
use Rattle.layer_assign.specs.declared.span.Span.{Span}
use Rattle.layer_assign.specs.Spans.{span_in}
use Rattle.layer_assign.specs.Assignments.{level_of}
use Rattle.layer_assign.specs.Raising.{IsIn, HoldEdges, IsRaised}
use Rattle.layer_assign.proofs.SpanLemmas.{hold-edges, pin-in, raised-pins, raised-edges}
use Rattle.layer_assign.specs.NodeOrder.{raised_from}
use Rattle.layer_assign.proofs.OrderLemmas.{raised-met}
use Rattle.layer_assign.proofs.raised.raise.Goals as goal

if_ok : {X E : Type 0} (r : Result X E) (P Q : X → Type 0) → ((x : X) → P x → Q x) → IfOk r P → IfOk r Q
if_ok (Ok x) P Q follows p = follows x p
if_ok (Err e) P Q follows p = tt

pub raise_from-requires-clause-spans : goal.raise_from-requires-clause-spans
raise_from-requires-clause-spans c =
    let a : ℕ → ℕ = λ node. get_or c.args.layers.now node 0 in
    subst (λ (xs : List Span). HoldEdges c.args.shape c.args.flat.now a (span_in xs)) (sym c.deref.ensures.value)
    (hold-edges c.args.shape c.args.flat.now c.args.pins.now a (span_in c.met_spans.new.whole.items) c.met_spans.ensures.tree c.requires.pins.cells c.requires.layers.below c.in_ok-met_spans.ensures.spans)

pub raise_from-requires-clause-span : goal.raise_from-requires-clause-span
raise_from-requires-clause-span c = λ node found.
    let a : ℕ → ℕ = λ k. get_or c.args.layers.now k 0 in
    subst (λ (xs : List Span). IsIn (span_in xs node) (level_of c.args.shape (get_or c.args.pins.now 0 0))) (sym c.deref.ensures.value)
    (pin-in c.args.shape c.args.flat.now c.args.pins.now a (span_in c.met_spans.new.whole.items) 0 node c.requires.pins.some found c.in_ok-met_spans.ensures.spans)

pub returns-clause-pins : goal.returns-clause-pins
returns-clause-pins c =
    let a : ℕ → ℕ = λ k. get_or c.args.layers.now k 0 in
    if_ok c.raise_from.result _ _
    (λ r raised.
    raised-pins c.args.shape c.args.flat.now c.args.pins.now a (span_in c.met_spans.new.whole.items) (Some (get_or c.args.pins.now 0 0)) r c.requires.flat c.met_spans.ensures.tree c.requires.pins
    c.in_ok-met_spans.ensures.spans
    (subst (λ (xs : List Span). IsRaised c.args.shape c.args.flat.now a (span_in xs) (Some (get_or c.args.pins.now 0 0)) (λ _. true) 0 r) c.deref.ensures.value raised)) c.raise_from.ensures.raised

pub returns-clause-edges : goal.returns-clause-edges
returns-clause-edges c =
    let a : ℕ → ℕ = λ k. get_or c.args.layers.now k 0 in
    if_ok c.raise_from.result _ _
    (λ r raised e.
    raised-edges c.args.shape c.args.flat.now c.args.pins.now a (span_in c.met_spans.new.whole.items) (Some (get_or c.args.pins.now 0 0)) r c.met_spans.ensures.tree
    c.in_ok-met_spans.ensures.spans
    (subst (λ (xs : List Span). IsRaised c.args.shape c.args.flat.now a (span_in xs) (Some (get_or c.args.pins.now 0 0)) (λ _. true) 0 r) c.deref.ensures.value raised) e) c.raise_from.ensures.raised

pub returns-clause-nodes : goal.returns-clause-nodes
returns-clause-nodes c =
    let a : ℕ → ℕ = λ k. get_or c.args.layers.now k 0 in
    if_ok c.raise_from.result _ _
    (λ r raised.
    raised-met c.args.shape c.args.flat.now c.args.pins.now a c.met_spans.new.whole.items r c.met_spans.ensures.tree c.in_ok-met_spans.ensures.spans
    (subst (λ (xs : List Span). r ≡ raised_from c.args.shape c.args.flat.now a (span_in xs) (get_or c.args.pins.now 0 0)) c.deref.ensures.value raised)) c.raise_from.ensures.nodes
