use Rattle.std.proofs.Common.{◌≡◌, ◌≤◌, ◌<◌, ℕ, List, true, false, length, get_or, take, IsTrue, refl, sym, ap, subst, ◌∙◌, arith}
use Rattle.std.proofs.lemmas.List.{take_all}
use Rattle.gr_base.specs.Grid.{has_edge, is_wire}
use Rattle.gr_base.specs.declared.grid.Edge.{Edge}
use Rattle.gr_base.specs.declared.grid.Shape.{Shape}
use Rattle.grid_demand.specs.LoadSums.{LoadsView}
use Rattle.route_evaluator.specs.EdgeNumbers.{edge_numbered, is_via_number}
use Rattle.route_evaluator.proofs.CountLemmas.{times, numbered-up, numbered-wire, numbers-inside}
use Rattle.route_evaluator.proofs.ChargeSteps.{HasGained, gained-next, gained-via, gained-before, gained-all}
use Rattle.route_evaluator.proofs.tally.charge.Goals as goal
use Rattle.route_evaluator.proofs.tally.charge.Goals.{then-not-is_via, else-not-is_via}

-- the place of a listed number, and its edge
record At (numbers : List ℕ) (i : ℕ) (f : Edge) : Type 0 where
  below : i < length numbers
  is : f ≡ edge_numbered (get_or numbers i 0)

at : (numbers listed : List ℕ) (i : ℕ) (f : Edge) → listed ≡ numbers → i < length listed → f ≡ edge_numbered (get_or listed i 0) → At numbers i f
at numbers listed i f same below is = subst (λ (xs : List ℕ). At xs i f) same (record { below = below; is = is })

wire-at : (numbers listed : List ℕ) (i : ℕ) (f : Edge) → f ≡ edge_numbered (get_or listed i 0) → is_via_number (get_or listed i 0) ≡ false → IsTrue (is_wire f)
wire-at numbers listed i f is wire = subst (λ (e : Edge). IsTrue (is_wire e)) (sym is) (numbered-wire (get_or listed i 0) wire)

pub charge-requires-clause-edge : goal.charge-requires-clause-edge
charge-requires-clause-edge c =
    let here = at c.args.edges.now.numbers c.numbers-number-items.result.now c.loop-number.number-index c.edge_with_number.result
    c.numbers-number-items.ensures.numbers c.loop-number-test.true c.edge_with_number.ensures in
    let inside = numbers-inside c.args.loads.now.shape c.args.edges.now.numbers c.requires.grid c.loop-number.number-index 0 here.below in
    subst (λ (g : Shape). IsTrue (has_edge g c.edge_with_number.result)) (sym c.loop-number.invariant.shape)
    (subst (λ (e : Edge). IsTrue (has_edge c.args.loads.now.shape e)) (sym here.is) inside)

pub charge-requires-clause-wire : goal.charge-requires-clause-wire
charge-requires-clause-wire c =
    wire-at c.args.edges.now.numbers c.numbers-number-items.result.now c.loop-number.number-index c.edge_with_number.result c.edge_with_number.ensures
    (sym c.is_via.ensures ∙ c.if-not-is_via.true)

pub charge-requires-clause-room : goal.charge-requires-clause-room
charge-requires-clause-room c =
    let here = at c.args.edges.now.numbers c.numbers-number-items.result.now c.loop-number.number-index c.edge_with_number.result
    c.numbers-number-items.ensures.numbers c.loop-number-test.true c.edge_with_number.ensures in
    let edge = subst (λ (e : Edge). IsTrue (has_edge c.args.loads.now.shape e)) (sym here.is)
    (numbers-inside c.args.loads.now.shape c.args.edges.now.numbers c.requires.grid c.loop-number.number-index 0 here.below) in
    let wire = wire-at c.args.edges.now.numbers c.numbers-number-items.result.now c.loop-number.number-index c.edge_with_number.result c.edge_with_number.ensures
    (sym c.is_via.ensures ∙ c.if-not-is_via.true) in
    let once = subst (λ (xs : List ℕ). (n : ℕ) → times xs n ≤ 1) c.numbers-number-items.ensures.numbers c.numbers-number-items.ensures.once in
    let same = gained-before c.args.capacity.now c.args.net c.args.edges.now.numbers c.loop-number.number-index c.edge_with_number.result c.args.loads.now c.loop-number.loads
    here.below here.is (once (get_or c.args.edges.now.numbers c.loop-number.number-index 0)) edge wire c.loop-number.invariant.demand in
    let room = c.requires.room c.edge_with_number.result edge wire in
    omega (arith, same, room)

pub loop-number-preserved : goal.loop-number-preserved
loop-number-preserved c =
    let i : ℕ = c.loop-number.number-index in
    let listed : List ℕ = c.numbers-number-items.result.now in
    let numbers : List ℕ = c.args.edges.now.numbers in
    elim c.if-not-is_via.branch [
      | then-not-is_via w ↦
          let here = at numbers listed i w.edge_with_number.result c.numbers-number-items.ensures.numbers c.loop-number-test.true w.edge_with_number.ensures in
          record {
            shape = ap (λ (l : LoadsView). l.shape) (w.loads-is ∙ w.charge.ensures.loads) ∙ c.loop-number.invariant.shape;
            demand =
                gained-next c.args.capacity.now c.args.net numbers i w.edge_with_number.result c.args.loads.now c.loop-number.loads c.if-not-is_via.loads
                here.below here.is c.loop-number.invariant.shape c.loop-number.invariant.demand (w.loads-is ∙ w.charge.ensures.loads);
          }
      | else-not-is_via w ↦
          let f : Edge = edge_numbered (get_or numbers i 0) in
          let here = at numbers listed i (edge_numbered (get_or listed i 0)) c.numbers-number-items.ensures.numbers c.loop-number-test.true refl in
          let up : is_via_number (get_or numbers i 0) ≡ true =
          ap (λ (xs : List ℕ). is_via_number (get_or xs i 0)) (sym c.numbers-number-items.ensures.numbers) ∙ sym c.is_via.ensures ∙ w.if-not-is_via.false in
          record {
            shape = ap (λ (l : LoadsView). l.shape) w.loads-is ∙ c.loop-number.invariant.shape;
            demand =
                gained-via c.args.capacity.now c.args.net numbers i f c.args.loads.now c.loop-number.loads c.if-not-is_via.loads here.below refl
                (ap is_wire (numbered-up (get_or numbers i 0) up)) c.loop-number.invariant.demand w.loads-is;
          }
    ]

pub returns-clause-demand : goal.returns-clause-demand
returns-clause-demand c =
    let once = subst (λ (xs : List ℕ). (n : ℕ) → times xs n ≤ 1) c.numbers-number-items.ensures.numbers c.numbers-number-items.ensures.once in
    let all : take c.loop-number.number-index c.args.edges.now.numbers ≡ c.args.edges.now.numbers =
    take_all c.loop-number.number-index c.args.edges.now.numbers
    (omega (arith, ap (λ (xs : List ℕ). length xs) c.numbers-number-items.ensures.numbers, c.loop-number-test.false)) in
    gained-all c.args.capacity.now c.args.net c.args.edges.now.numbers c.args.loads.now c.loop-number.loads once
    (subst (λ (xs : List ℕ). HasGained c.args.capacity.now c.args.net xs c.args.loads.now c.loop-number.loads) all c.loop-number.invariant.demand)
