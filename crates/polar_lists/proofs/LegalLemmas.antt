-- The picked legal placement is best legal, and where none is picked none is legal.
use Rattle.std.proofs.Common.{◌≡◌, ℕ, ◌-◌, inl, inr, true, false, List, length, Contains, Option, Some, None, option_map, if◌then◌else◌, refl, sym, ap, subst, ◌∙◌, arith}
use Rattle.std.proofs.lemmas.Bool.{cases_Bool, cond-true, cond-false}
use Rattle.elmore_delay.specs.RcTrees.{Sink}
use Rattle.elmore_delay.specs.FromLeaves.{seen_whole}
use Rattle.elmore_delay.specs.Loadings.{LoadingView, IsLoading, rc_of, sinks_of}
use Rattle.elmore_delay.specs.Placements.{placed_at, buffers_of}
use Rattle.elmore_delay.proofs.RcLemmas.{rc-tree}
use Rattle.ginneken_lists.specs.Candidates.{Chosen, Nothing, Candidate}
use Rattle.buffer_plan.specs.Best.{has_sinks}
use Rattle.buffer_plan.specs.Picked.{sites_of, placement_of}
use Rattle.buffer_plan.proofs.BestDriven.{best-is, best-some, best-greatest}
use Rattle.buffer_plan.proofs.Served.{IsServed}
use Rattle.buffer_plan.proofs.HungLemmas.{Held}
use Rattle.buffer_plan.proofs.BestLemmas.{allowed-may, real-held, real-root, real-allowed, other-time, no-sinks, empty-allowed, same-time}
use Rattle.polar_lists.specs.Polarity.{is_inverted, IsLegal, IsBestLegal, HasNoLegal}
use Rattle.polar_lists.specs.Signals.{both_of_last, plain_candidates, legal_candidate, picked_legal}
use Rattle.polar_lists.proofs.ServedSinks.{served_of_last, served-same, inverted-root, AreServed, sinks-served, nodes-served}
use Rattle.polar_lists.proofs.BothServed.{both-complete}
use Rattle.polar_lists.proofs.BothReal.{IsRealBoth, both-real}

-- a legal placement is one with which all sinks below node 0 get what they want
module _ (l : LoadingView) (loading : IsLoading l) where
  abbrev rest : ℕ
  rest = length l.tree.nodes - 1

  legal-served : (p : List (Option ℕ)) → IsLegal l p → served_of_last rest (rc_of l) l.library (placed_at p) 0 false ≡ true
  legal-served p legal =
      let rooted = loading.tree.rooted in
      ap (served_of_last rest (rc_of l) l.library (placed_at p) 0) (sym (inverted-root (rc_of l) l.library (placed_at p) legal.allowed.root))
      ∙ nodes-served (rc_of l) l.library (placed_at p) (rc-tree l loading) rest 1 (omega arith) (omega arith) legal.served 0 (omega arith)

  -- then one of the candidates for the plain signal there serves as well
  legal-complete : (p : List (Option ℕ)) → IsLegal l p → IsServed (plain_candidates l) (seen_whole (rc_of l) (buffers_of l.library p))
  legal-complete p legal =
      let rooted = loading.tree.rooted in
      both-complete rest 1 0 (sites_of l) (placed_at p) false (omega arith) (allowed-may l p legal.allowed) (legal-served p legal)

  -- one of them is what some placement gives
  plain-real : (o : Candidate) → Contains (plain_candidates l) o → IsRealBoth rest 1 (sites_of l) (λ v. true) (λ v. false) (λ v. o)
  plain-real o among =
      let rooted = loading.tree.rooted in
      both-real rest 1 (sites_of l) (λ v. true) (λ v. false) (λ v. o) (rc-tree l loading) (omega arith) (omega arith)
      (λ v below. let root : v ≡ 0 = omega arith in subst (λ (u : ℕ). Contains (both_of_last rest (sites_of l) u false) o) (sym root) among)

  -- the candidate that is driven best
  pub legal_real : (o : Candidate) → legal_candidate l ≡ Some o → IsRealBoth rest 1 (sites_of l) (λ v. true) (λ v. false) (λ v. o)
  legal_real o is = plain-real o (best-is (rc_of l).driver (plain_candidates l) o is).among

  -- with a sink its placement is legal
  placed-served : (o : Candidate) → legal_candidate l ≡ Some o → AreServed (is_inverted (rc_of l) l.library (placed_at (placement_of l o.chosen))) (sinks_of l)
  placed-served o is =
      let rooted = loading.tree.rooted in
      let both = legal_real o is in
      let p : Held = placed_at (placement_of l o.chosen) in
      let root : p 0 ≡ None = real-root l loading o both.real None in
      let served : served_of_last rest (rc_of l) l.library p 0 false ≡ true =
      served-same rest 1 0 (rc_of l) l.library p both.real.held false (omega arith) (λ node later inside. real-held l loading o both.real node None (omega arith) inside)
      ∙ both.served 0 (omega arith) refl in
      sinks-served (rc_of l) l.library p (rc-tree l loading) rest 1 (omega arith) (omega arith) (λ v below.
      let zeroth : 0 ≡ v = omega arith in
      subst (λ (u : ℕ). served_of_last rest (rc_of l) l.library p u (is_inverted (rc_of l) l.library p u) ≡ true) zeroth
      (ap (served_of_last rest (rc_of l) l.library p 0) (inverted-root (rc_of l) l.library p root) ∙ served))

  placed-best : (o : Candidate) → has_sinks l ≡ true → legal_candidate l ≡ Some o → IsBestLegal l (placement_of l o.chosen)
  placed-best o sinks is =
      let found = (legal_real o is).real in
      record {
        legal = record { allowed = real-allowed l loading o found sinks; served = placed-served o is };
        greatest = λ q legal.
            let by = legal-complete q legal in
            other-time l loading o found q by.by legal.allowed.root by.well
            (best-greatest (rc_of l).driver (plain_candidates l) o by.by (best-is (rc_of l).driver (plain_candidates l) o is) by.among);
      }

  -- without a sink no buffers are legal, and best
  none-served : (p : List (Option ℕ)) → has_sinks l ≡ false → AreServed (is_inverted (rc_of l) l.library (placed_at p)) (sinks_of l)
  none-served p none = subst (λ (sinks : List Sink). AreServed (is_inverted (rc_of l) l.library (placed_at p)) sinks) (sym (no-sinks l none)) (λ k d inside. absurd (omega arith))

  empty-best : has_sinks l ≡ false → IsBestLegal l (placement_of l Nothing)
  empty-best none = record {
    legal = record { allowed = empty-allowed l; served = none-served (placement_of l Nothing) none };
    greatest = λ q legal. same-time l (placement_of l Nothing) q none;
  }

  pub candidate-best : (o : Candidate) → legal_candidate l ≡ Some o → IsBestLegal l (placement_of l (if has_sinks l then o.chosen else Nothing))
  candidate-best o is = elim (cases_Bool (has_sinks l)) [
    | inl sinks ↦ subst (λ (c : Chosen). IsBestLegal l (placement_of l c)) (sym (cond-true (has_sinks l) o.chosen Nothing sinks)) (placed-best o sinks is)
    | inr none ↦ subst (λ (c : Chosen). IsBestLegal l (placement_of l c)) (sym (cond-false (has_sinks l) o.chosen Nothing none)) (empty-best none)
  ]

  pub picked-best : (p : List (Option ℕ)) → picked_legal l ≡ Some p → IsBestLegal l p
  picked-best p is = by (legal_candidate l) refl is
    where
      by : (o : Option Candidate) → legal_candidate l ≡ o → option_map (λ (c : Candidate). placement_of l (if has_sinks l then c.chosen else Nothing)) o ≡ Some p → IsBestLegal l p
      by None none made = absurd (grind arith)
      by (Some o) some made =
          let same : placement_of l (if has_sinks l then o.chosen else Nothing) ≡ p = cc in
          subst (IsBestLegal l) same (candidate-best o some)

  -- where no candidate is there, no placement is legal
  pub none-legal : legal_candidate l ≡ None → HasNoLegal l
  none-legal none p legal =
      let by = legal-complete p legal in
      let best = best-some (rc_of l).driver (plain_candidates l) by.by by.among in
      let there = best.1 in
      absurd (grind arith)

  pub none-picked : picked_legal l ≡ None → HasNoLegal l
  none-picked is = by (legal_candidate l) refl is
    where
      by : (o : Option Candidate) → legal_candidate l ≡ o → option_map (λ (c : Candidate). placement_of l (if has_sinks l then c.chosen else Nothing)) o ≡ None → HasNoLegal l
      by None none made = none-legal none
      by (Some o) some made = absurd (grind arith)
