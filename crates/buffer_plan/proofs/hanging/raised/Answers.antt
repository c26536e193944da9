use Rattle.std.proofs.Common.{◌≡◌, List, All, refl, sym, ap, subst, ◌∙◌}
use Rattle.rc_library.specs.declared.parts.Wire.{Wire}
use Rattle.elmore_delay.specs.Loadings.{wire_at}
use Rattle.ginneken_lists.specs.Candidates.{Candidate, all_along}
use Rattle.ginneken_lists.specs.Pairs.{candidates, IsInRange}
use Rattle.ginneken_lists.specs.declared.pair.Pair.{Pair}
use Rattle.buffer_plan.specs.Picked.{sites_of, all_above}
use Rattle.buffer_plan.proofs.HungLemmas.{above-free, above-blocked}
use Rattle.buffer_plan.proofs.Small.{small-pairs, above-pairs}
use Rattle.buffer_plan.proofs.hanging.raised.Goals as goal
use Rattle.buffer_plan.proofs.hanging.raised.Goals.{then-free+in_ok-offer, else-free}

pub offer-requires-clause-range : goal.offer-requires-clause-range
offer-requires-clause-range g c = small-pairs c.args.trail.now c.args.below (candidates c.args.trail.now c.args.below) refl c.requires.small

pub wire-requires-2-clause-range : goal.wire-requires-2-clause-range
wire-requires-2-clause-range g c =
    let l = c.args.loading.now in
    let all = candidates c.args.trail.now c.args.below in
    elim c.if-free.branch [
      | then-free+in_ok-offer w ↦
          subst (λ (pairs : List Pair). All IsInRange pairs) (sym w.upper-is)
          (above-pairs l c.args.node w.offer.new.trail w.offer.new.self all c.requires.loading c.requires.small
          (w.in_ok-offer.ensures.offered ∙ above-free (sites_of l) c.args.library.now c.args.node all c.requires.library (sym c.free.ensures.free ∙ w.if-free.true)))
      | else-free w ↦ subst (λ (pairs : List Pair). All IsInRange pairs) (sym w.upper-is) (small-pairs c.args.trail.now c.args.below all refl c.requires.small)
    ]

pub returns-clause-upper : goal.returns-clause-upper
returns-clause-upper g c =
    let l = c.args.loading.now in
    let all = candidates c.args.trail.now c.args.below in
    let above : candidates c.if-free.trail c.if-free.upper ≡ all_above (sites_of l) c.args.node all = elim c.if-free.branch [
      | then-free+in_ok-offer w ↦
          rw (w.trail-is, w.upper-is)
          (w.in_ok-offer.ensures.offered ∙ above-free (sites_of l) c.args.library.now c.args.node all c.requires.library (sym c.free.ensures.free ∙ w.if-free.true))
      | else-free w ↦ rw (w.trail-is, w.upper-is) (above-blocked (sites_of l) c.args.node all (sym c.free.ensures.free ∙ w.if-free.false))
    ] in
    c.wire-2.ensures.along c.if-free.trail
    ∙ ap (λ (w : Wire). all_along w (candidates c.if-free.trail c.if-free.upper)) c.wire.ensures.wire
    ∙ ap (λ (os : List Candidate). all_along (wire_at c.args.loading.now c.args.node) os) above
