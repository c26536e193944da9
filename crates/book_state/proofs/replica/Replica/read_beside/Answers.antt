use Rattle.std.proofs.Common.{◌≡◌, ℕ, List, take, All, sym, subst, ◌∙◌, arith}
use Rattle.std.proofs.lemmas.Bool.{both_ways}
use Rattle.grid_demand.specs.LoadSums.{LoadsView, demand_at}
use Rattle.book_state.specs.Books.{AreLoadsOf}
use Rattle.book_state.specs.Replicas.{StandsFor}
use Rattle.book_state.specs.Still.{StaysBest}
use Rattle.book_state.specs.Touches.{IsSettled}
use Rattle.book_state.specs.declared.touches.Touch.{Touch}
use Rattle.book_state.proofs.StandSteps.{stands-part}
use Rattle.book_state.proofs.TouchSteps.{settled-best}
use Rattle.book_state.proofs.replica.Replica.read_beside.Goals as goal
use Rattle.book_state.proofs.replica.Replica.read_beside.Goals.{then-still-2, else-still-2}

pub returns-clause-stands : goal.returns-clause-stands
returns-clause-stands c =
    let all : c.loop-place.place ≡ c.args.end = omega (arith, c.loop-place-test.false, c.loop-place.auto.place-end) in
    subst (λ (n : ℕ). StandsFor c.args.capacity.now (take n c.args.history.now) c.loop-place.self) all c.loop-place.invariant.0

pub returns-clause-still : goal.returns-clause-still
returns-clause-still c = λ yes.
    let all : c.loop-place.place ≡ c.args.end = omega (arith, c.loop-place-test.false, c.loop-place.auto.place-end) in
    let cap = c.args.capacity.now in
    let net = c.args.sought.now.net in
    let w = c.args.sought.now.window in
    let u = c.args.sought.now.tree.now in
    let first = take c.args.self.now.front c.args.history.now in
    let now = take c.loop-place.place c.args.history.now in
    subst (λ (n : ℕ). StaysBest cap c.args.sought.now.formula net w u first (take n c.args.history.now)) all (elim c.if-still-2.branch [
      | else-still-2 b ↦ absurd (both_ways c.loop-place.still b.if-still-2.false (sym b.result-is ∙ yes))
      | then-still-2 b ↦
          let l = b.loads.result.now in
          let of : AreLoadsOf cap now l = subst (λ (l : LoadsView). AreLoadsOf cap now l) (sym b.loads.ensures) c.loop-place.invariant.0.loads in
          settled-best cap net w u first now l c.loop-place.touches.items (c.loop-place.invariant.1 b.if-still-2.true) of
          (subst (λ (ts : List Touch). All (IsSettled cap c.args.sought.now.formula net u (demand_at l)) ts) b.deref.ensures.value (b.are_settled.ensures (sym b.result-is ∙ yes)))
    ])

pub returns-clause-part : goal.returns-clause-part
returns-clause-part c = stands-part c.args.capacity.now c.args.history.now c.loop-place.place c.loop-place.self c.loop-place.invariant.0
