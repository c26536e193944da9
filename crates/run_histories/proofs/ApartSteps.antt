-- The turns of several workers stay apart as they go on.
use Rattle.std.proofs.Common.{◌≡◌, ◌⊎◌, ℕ, ◌<◌, inl, inr, Bool, true, false, List, Option, None, is_some, sym, ap, subst, ◌∙◌, arith}
use Rattle.gr_base.specs.Trees.{TreeView}
use Rattle.book_state.proofs.ReplicaSteps.{is_same}
use Rattle.run_histories.specs.Apart.{HasClaimant, InTurns}
use Rattle.run_histories.specs.Attempts.{Stage, Rests, Claiming}

-- one worker goes on at one net, and the others and other nets stay
pub record GoesOn (worker net : ℕ) (held new_held : ℕ → Option TreeView) (stage new_stage : ℕ → Stage) (begun new_begun : ℕ → ℕ) : Type 0 where
  pub stages : (other : ℕ) → (other ≡ worker → ⊥) → new_stage other ≡ stage other
  pub holds : (other : ℕ) → (other ≡ net → ⊥) → new_held other ≡ held other
  pub counts : (other : ℕ) → (other ≡ net → ⊥) → new_begun other ≡ begun other

-- no other worker claims the net. This one claims it or rests, before and now; it claims it now where the net isn't
-- held
pub record IsAlone (worker net : ℕ) (new_held : ℕ → Option TreeView) (stage new_stage : ℕ → Stage) (new_begun : ℕ → ℕ) : Type 0 where
  pub apart : (other : ℕ) (slacks : List (Option ℕ)) → (other ≡ worker → ⊥) → stage other ≡ Claiming net slacks → ⊥
  pub was : (claimed : ℕ) (slacks : List (Option ℕ)) → stage worker ≡ Claiming claimed slacks → claimed ≡ net
  pub own : (claimed : ℕ) (slacks : List (Option ℕ)) → new_stage worker ≡ Claiming claimed slacks → (claimed ≡ net) × (new_held net ≡ None)
  pub goes : new_held net ≡ None → HasClaimant new_stage net
  pub some : 0 < new_begun net

-- the turns are still apart after that
module _ (later : Bool) (routed due : ℕ → Bool) (held new_held : ℕ → Option TreeView) (stage new_stage : ℕ → Stage) (begun new_begun : ℕ → ℕ) (worker net : ℕ)
    (fits : routed net ≡ true) (turns : InTurns later routed due held stage begun) (on : GoesOn worker net held new_held stage new_stage begun new_begun)
    (lone : IsAlone worker net new_held stage new_stage new_begun) where
  claimed-by : (who claimed : ℕ) (slacks : List (Option ℕ)) → new_stage who ≡ Claiming claimed slacks →
      ((who ≡ worker) × (claimed ≡ net) × (new_held net ≡ None)) ⊎ ((stage who ≡ Claiming claimed slacks) × (claimed ≡ net → ⊥))
  claimed-by who claimed slacks is = elim (is_same who worker) [
    | inl same ↦
        let own = lone.own claimed slacks (ap new_stage (sym same) ∙ is) in
        inl (same, own.0, own.1)
    | inr other ↦
        let before : stage who ≡ Claiming claimed slacks = sym (on.stages who other) ∙ is in
        inr (before, λ at. lone.apart who slacks other (subst (λ (n : ℕ). stage who ≡ Claiming n slacks) at before))
  ]

  now-free : (who claimed : ℕ) (slacks : List (Option ℕ)) → new_stage who ≡ Claiming claimed slacks → new_held claimed ≡ None
  now-free who claimed slacks is = elim (claimed-by who claimed slacks is) [
    | inl own ↦ ap new_held own.1 ∙ own.2
    | inr other ↦ on.holds claimed other.1 ∙ turns.free who claimed slacks other.0
  ]

  now-fit : (who claimed : ℕ) (slacks : List (Option ℕ)) → new_stage who ≡ Claiming claimed slacks → routed claimed ≡ true
  now-fit who claimed slacks is = elim (claimed-by who claimed slacks is) [
    | inl own ↦ ap routed own.1 ∙ fits
    | inr other ↦ turns.fit who claimed slacks other.0
  ]

  now-started : (who claimed : ℕ) (slacks : List (Option ℕ)) → new_stage who ≡ Claiming claimed slacks → 0 < new_begun claimed
  now-started who claimed slacks is = elim (claimed-by who claimed slacks is) [
    | inl own ↦ subst (λ (n : ℕ). 0 < new_begun n) (sym own.1) lone.some
    | inr other ↦ subst (λ (n : ℕ). 0 < n) (sym (on.counts claimed other.1)) (turns.started who claimed slacks other.0)
  ]

  now-alone : (who other claimed : ℕ) (slacks again : List (Option ℕ)) → new_stage who ≡ Claiming claimed slacks → new_stage other ≡ Claiming claimed again → who ≡ other
  now-alone who other claimed slacks again is too =
      both (claimed-by who claimed slacks is) (claimed-by other claimed again too)
    where
      both : ((who ≡ worker) × (claimed ≡ net) × (new_held net ≡ None)) ⊎ ((stage who ≡ Claiming claimed slacks) × (claimed ≡ net → ⊥)) →
          ((other ≡ worker) × (claimed ≡ net) × (new_held net ≡ None)) ⊎ ((stage other ≡ Claiming claimed again) × (claimed ≡ net → ⊥)) → who ≡ other
      both (inl one) (inl two) = one.0 ∙ sym two.0
      both (inl one) (inr two) = absurd (two.1 one.1)
      both (inr one) (inl two) = absurd (one.1 two.1)
      both (inr one) (inr two) = turns.alone who other claimed slacks again one.0 two.0

  now-waiting : (other : ℕ) → due other ≡ true → new_begun other ≡ 0 → is_some (new_held other) ≡ later
  now-waiting other is none = elim (is_same other net) [
    | inl same ↦
        let some : 0 < new_begun other = subst (λ (n : ℕ). 0 < new_begun n) (sym same) lone.some in
        absurd (omega (arith, some, none))
    | inr apart ↦ ap (λ (o : Option TreeView). is_some o) (on.holds other apart) ∙ turns.waiting other is (sym (on.counts other apart) ∙ none)
  ]

  now-off : (other : ℕ) → routed other ≡ false → new_held other ≡ None
  now-off other is = elim (is_same other net) [
    | inl same ↦ absurd (routed-both (routed net) fits (ap routed (sym same) ∙ is))
    | inr apart ↦ on.holds other apart ∙ turns.off other is
  ]
    where
      routed-both : (b : Bool) → b ≡ true → b ≡ false → ⊥
      routed-both b on off = cc

  now-missing : (other : ℕ) → routed other ≡ true → new_held other ≡ None → ((due other ≡ true) × (new_begun other ≡ 0)) ⊎ HasClaimant new_stage other
  now-missing other is none = elim (is_same other net) [
    | inl same ↦ inr (subst (HasClaimant new_stage) (sym same) (lone.goes (ap new_held (sym same) ∙ none)))
    | inr apart ↦ still other apart (turns.missing other is (sym (on.holds other apart) ∙ none))
  ]
    where
      still : (other : ℕ) → (other ≡ net → ⊥) → ((due other ≡ true) × (begun other ≡ 0)) ⊎ HasClaimant stage other →
          ((due other ≡ true) × (new_begun other ≡ 0)) ⊎ HasClaimant new_stage other
      still other apart (inl none) = inl (none.0, on.counts other apart ∙ none.1)
      still other apart (inr claimant) = elim (is_same claimant.worker worker) [
        | inl same ↦ absurd (apart (lone.was other claimant.slacks (ap stage (sym same) ∙ claimant.claims)))
        | inr away ↦ inr (record { worker = claimant.worker; slacks = claimant.slacks; claims = on.stages claimant.worker away ∙ claimant.claims })
      ]

  pub still-apart : InTurns later routed due new_held new_stage new_begun
  still-apart = record {
    free = now-free;
    fit = now-fit;
    alone = now-alone;
    started = now-started;
    waiting = now-waiting;
    off = now-off;
    missing = now-missing;
  }

-- a worker that rests claims nothing, and one that claims a net claims that one
rests-claims : (net : ℕ) (slacks : List (Option ℕ)) → Rests ≡ Claiming net slacks → ⊥
rests-claims net slacks is = cc

pub never-rests : (stage : Stage) (net : ℕ) (slacks : List (Option ℕ)) → stage ≡ Rests → stage ≡ Claiming net slacks → ⊥
never-rests stage net slacks rests is = rests-claims net slacks (sym rests ∙ is)

pub one-claim : (stage : Stage) (net claimed : ℕ) (left slacks : List (Option ℕ)) → stage ≡ Claiming net left → stage ≡ Claiming claimed slacks → claimed ≡ net
one-claim stage net claimed left slacks claiming is =
    let same : Claiming claimed slacks ≡ Claiming net left = sym is ∙ claiming in
    cc
