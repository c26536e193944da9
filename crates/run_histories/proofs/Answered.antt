-- What the entries of attempts are answered, as long as the turns of the workers are apart.
use Rattle.std.proofs.Common.{◌≡◌, ℕ, suc, zero, ◌+◌, ◌<◌, inl, inr, Bool, true, false, cond, ◌==◌, nat_lt, List, [], ◌∷◌, ◌++◌, Option, Some, None, is_some, is_none, if◌then◌else◌, refl, sym, ap, subst, ◌∙◌, arith}
use Rattle.std.proofs.lemmas.Bool.{cases_Bool, both_ways, and_parts}
use Rattle.std.proofs.lemmas.Bool.Decides.{nat_tests}
use Rattle.gr_base.specs.Designs.{DesignView, is_routed}
use Rattle.gr_base.specs.Trees.{TreeView}
use Rattle.grid_demand.specs.Tables.{CapacityView}
use Rattle.book_state.proofs.ReplicaSteps.{booked-claim, booked-claim_other, booked-release, booked-release_other}
use Rattle.book_state.specs.Books.{booked, reply_to, reply_to_claim, IsRight}
use Rattle.book_state.specs.Entries.{calls_of}
use Rattle.book_state.specs.declared.entry.Call.{Call}
use Rattle.book_state.specs.declared.entry.Claim.{Claim}
use Rattle.book_state.specs.declared.entry.Entry.{Entry}
use Rattle.book_state.specs.declared.entry.Reply.{Reply}
use Rattle.book_state.specs.declared.entry.Reply.TheVariants.{Claimed, Taken, Full, Released, NotBooked, Marked}
use Rattle.run_histories.specs.Apart.{InTurns, AreApart}
use Rattle.run_histories.specs.Attempts.{Stage, Rests, Claiming, Broken, kind_of, stage_replied, stage_of, is_claim_of, is_release_of, begins, attempts_at, IsGranted}
use Rattle.run_histories.specs.RunHistories.{is_due}
use Rattle.run_histories.specs.Rounds.{IsFull, slacks_of_turn}
use Rattle.run_histories.proofs.ApartSteps.{GoesOn, IsAlone, still-apart, never-rests, one-claim}
use Rattle.run_histories.proofs.StageSteps.{stage-own, stage-other, attempts-push, first-shape, IsFreeing, IsAsking, later-shape}
use Rattle.run_histories.proofs.StandLemmas.{full-booked}
use Rattle.run_histories.proofs.TurnLemmas.{claim-answered, unbounded-claimed}

-- an entry is right after the history, and part of an attempt; where it begins one, that is the first at a net that is
-- due
pub record IsPart (c : CapacityView) (d : DesignView) (r : ℕ) (before h segment : List Entry) (e : Entry) : Type 0 where
  pub right : IsRight c h e
  pub unbroken : stage_of r (calls_of e.number (segment ++ e ∷ [])) ≡ Broken → ⊥
  pub first : (net : ℕ) → begins r net e ≡ true → (is_due d r before net ≡ true) × (attempts_at r net segment ≡ 0)

-- it gets what a turn is to get, and the turns stay apart
pub record GoesWell (d : DesignView) (r : ℕ) (before h segment : List Entry) (e : Entry) : Type 0 where
  pub granted : IsGranted e.call e.reply
  pub apart : AreApart d r before (h ++ e ∷ []) (segment ++ e ∷ [])

pub none-is : (o : Option TreeView) → is_some o ≡ false → o ≡ None
none-is None is = refl
none-is (Some t) is = absurd (both_ways true is refl)

pub is-later : (r : ℕ) → nat_lt 0 (suc r) ≡ true
is-later r = grind (arith, nat_tests)

is-itself : (net : ℕ) → (net == net) ≡ true
is-itself net = grind (arith, nat_tests)

pub is-another : (net other : ℕ) → (other ≡ net → ⊥) → (other == net) ≡ false
is-another net other apart = grind (arith, nat_tests)

-- one entry changes the stage of its number alone
entry-goes : (r : ℕ) (h segment : List Entry) (e : Entry) (net : ℕ) → ((other : ℕ) → (other ≡ net → ⊥) → booked (h ++ e ∷ []) other ≡ booked h other) →
    ((other : ℕ) → (other ≡ net → ⊥) → begins r other e ≡ false) →
    GoesOn e.number net (booked h) (booked (h ++ e ∷ [])) (λ worker. stage_of r (calls_of worker segment)) (λ worker. stage_of r (calls_of worker (segment ++ e ∷ [])))
    (λ n. attempts_at r n segment) (λ n. attempts_at r n (segment ++ e ∷ []))
entry-goes r h segment e net holds begun = record {
  stages = λ other away. stage-other r other segment e (λ is. away (sym is));
  holds = holds;
  counts = λ other away.
      attempts-push r other segment e ∙ ap (λ (b : Bool). attempts_at r other segment + cond {A = ℕ} b 1 0) (begun other away) ∙ omega arith;
}

begun-some : (r net : ℕ) (segment : List Entry) (e : Entry) → begins r net e ≡ true → 0 < attempts_at r net (segment ++ e ∷ [])
begun-some r net segment e begun =
    let more : attempts_at r net (segment ++ e ∷ []) ≡ attempts_at r net segment + 1 =
    attempts-push r net segment e ∙ ap (λ (b : Bool). attempts_at r net segment + cond {A = ℕ} b 1 0) begun in
    omega (arith, more)

kept-some : (r net : ℕ) (segment : List Entry) (e : Entry) → begins r net e ≡ false → 0 < attempts_at r net segment → 0 < attempts_at r net (segment ++ e ∷ [])
kept-some r net segment e begun some =
    let same : attempts_at r net (segment ++ e ∷ []) ≡ attempts_at r net segment + 0 =
    attempts-push r net segment e ∙ ap (λ (b : Bool). attempts_at r net segment + cond {A = ℕ} b 1 0) begun in
    omega (arith, same, some)

-- a net at which nothing was begun is claimed by nobody
none-claims : (later : Bool) (routed due : ℕ → Bool) (held : ℕ → Option TreeView) (stage : ℕ → Stage) (begun : ℕ → ℕ) (net : ℕ) → InTurns later routed due held stage begun → begun net ≡ 0 →
    (worker : ℕ) (slacks : List (Option ℕ)) → stage worker ≡ Claiming net slacks → ⊥
none-claims later routed due held stage begun net turns none worker slacks is =
    let some = turns.started worker net slacks is in
    absurd (omega (arith, some, none))

-- a claim that is answered Full has a slack, and goes on
pub full-slack : (c : CapacityView) (h : List Entry) (claim : Claim) (slack : Option ℕ) → claim.slack ≡ slack → booked h claim.net ≡ None → IsFull (reply_to_claim c h claim) → is_some slack ≡ true
full-slack c h claim None is free full = absurd (both_ways false refl (subst IsFull (unbounded-claimed c h claim free is) full))
full-slack c h claim (Some slack) is free full = refl

pub full-goes : (net : ℕ) (slacks : List (Option ℕ)) (reply : Reply) → IsFull reply → stage_replied net slacks reply ≡ Claiming net slacks
full-goes net slacks Claimed full = absurd (both_ways false refl full)
full-goes net slacks Taken full = absurd (both_ways false refl full)
full-goes net slacks (Full edge demand) full = refl
full-goes net slacks Released full = absurd (both_ways false refl full)
full-goes net slacks NotBooked full = absurd (both_ways false refl full)
full-goes net slacks (Marked overflow) full = absurd (both_ways false refl full)

none-some : (t : TreeView) (o : Option TreeView) → o ≡ Some t → o ≡ None → ⊥
none-some t o some none = let never : Some t ≡ None = sym some ∙ none in cc

-- a held net is routed
pub held-routed : (later : Bool) (routed due : ℕ → Bool) (held : ℕ → Option TreeView) (stage : ℕ → Stage) (begun : ℕ → ℕ) (net : ℕ) → InTurns later routed due held stage begun →
    is_some (held net) ≡ true → routed net ≡ true
held-routed later routed due held stage begun net turns some = elim (cases_Bool (routed net)) [
  | inl on ↦ on
  | inr off ↦ absurd (both_ways (is_some (held net)) (ap (λ (o : Option TreeView). is_some o) (turns.off net off)) some)
]

module _ (d : DesignView) (r : ℕ) (before h segment : List Entry) (e : Entry) where
  abbrev stage_at : ℕ → Stage
  stage_at worker = stage_of r (calls_of worker segment)

  abbrev stage_next : ℕ → Stage
  stage_next worker = stage_of r (calls_of worker (segment ++ e ∷ []))

  -- an entry of a worker that is alone at a net leaves the turns apart
  entry-apart : (net : ℕ) → is_routed d net ≡ true → AreApart d r before h segment →
      ((other : ℕ) → (other ≡ net → ⊥) → booked (h ++ e ∷ []) other ≡ booked h other) → ((other : ℕ) → (other ≡ net → ⊥) → begins r other e ≡ false) →
      IsAlone e.number net (booked (h ++ e ∷ [])) stage_at stage_next (λ n. attempts_at r n (segment ++ e ∷ [])) → AreApart d r before (h ++ e ∷ []) (segment ++ e ∷ [])
  entry-apart net routed turns holds begun lone =
      still-apart (nat_lt 0 r) (is_routed d) (is_due d r before) (booked h) (booked (h ++ e ∷ [])) stage_at stage_next (λ n. attempts_at r n segment)
      (λ n. attempts_at r n (segment ++ e ∷ [])) e.number net routed turns (entry-goes r h segment e net holds begun) lone

  -- of a net at which nothing was begun there is no claim
  none-begun : (net : ℕ) → AreApart d r before h segment → attempts_at r net segment ≡ 0 → (worker : ℕ) (slacks : List (Option ℕ)) → stage_at worker ≡ Claiming net slacks → ⊥
  none-begun net turns none worker slacks is =
      none-claims (nat_lt 0 r) (is_routed d) (is_due d r before) (booked h) stage_at (λ n. attempts_at r n segment) net turns none worker slacks is

module _ (c : CapacityView) (d : DesignView) (before h segment : List Entry) (e : Entry) where
  -- in round 0 a claim is answered Claimed
  first-answer : IsPart c d 0 before h segment e → AreApart d 0 before h segment → GoesWell d 0 before h segment e
  first-answer part turns =
      let own = stage-own 0 e.number segment e refl in
      let stage : Stage = stage_of 0 (calls_of e.number segment) in
      let next : Stage = stage_of 0 (calls_of e.number (segment ++ e ∷ [])) in
      let shape = first-shape stage e.call (λ broken. part.unbroken (own ∙ broken)) in
      let claim : Claim = shape.claim in
      let net : ℕ = claim.net in
      let begun : begins 0 net e ≡ true = ap (λ (k : Call). is_claim_of net k) shape.call_is ∙ is-itself net in
      let first = part.first net begun in
      let free : booked h net ≡ None = none-is (booked h net) (turns.waiting net first.0 first.1) in
      let claimed : e.reply ≡ Claimed =
      part.right.reply ∙ ap (λ (k : Call). reply_to c h k) shape.call_is ∙ unbounded-claimed c h claim free (sym shape.fits.slack_is) in
      record {
        granted = subst (λ (k : Call). IsGranted k e.reply) (sym shape.call_is) (inl claimed);
        apart =
            entry-apart d 0 before h segment e net (and_parts (is_routed d net) (is_none (booked before net)) first.0).0 turns
            (λ other away. booked-claim_other h e claim other shape.call_is claimed away)
            (λ other away. ap (λ (k : Call). is_claim_of other k) shape.call_is ∙ is-another net other away)
            (record {
              apart = λ other slacks away is. none-begun d 0 before h segment e net turns first.1 other slacks is;
              was = λ other slacks is. absurd (never-rests stage other slacks shape.rests is);
              own = λ other slacks is. absurd (never-rests next other slacks (own ∙ shape.after) is);
              goes = λ none. absurd (none-some claim.tree (booked (h ++ e ∷ []) net) (booked-claim h e claim shape.call_is claimed) none);
              some = begun-some 0 net segment e begun;
            });
      }

  -- later a release is answered Released
  released : (r : ℕ) → IsPart c d (suc r) before h segment e → AreApart d (suc r) before h segment →
      IsFreeing (kind_of (suc r)) (stage_of (suc r) (calls_of e.number segment)) e.call e.reply → GoesWell d (suc r) before h segment e
  released r part turns shape =
      let own = stage-own (suc r) e.number segment e refl in
      let stage : Stage = stage_of (suc r) (calls_of e.number segment) in
      let next : Stage = stage_of (suc r) (calls_of e.number (segment ++ e ∷ [])) in
      let net : ℕ = shape.net in
      let begun : begins (suc r) net e ≡ true = ap (λ (k : Call). is_release_of net k) shape.call_is ∙ is-itself net in
      let first = part.first net begun in
      let held : is_some (booked h net) ≡ true = turns.waiting net first.0 first.1 ∙ is-later r in
      let freed : e.reply ≡ Released =
      part.right.reply ∙ ap (λ (k : Call). reply_to c h k) shape.call_is ∙ ap (λ (b : Bool). if b then Released else NotBooked) held in
      let routed = held-routed (nat_lt 0 (suc r)) (is_routed d) (is_due d (suc r) before) (booked h) (λ worker. stage_of (suc r) (calls_of worker segment))
      (λ n. attempts_at (suc r) n segment) net turns held in
      record {
        granted = subst (λ (k : Call). IsGranted k e.reply) (sym shape.call_is) freed;
        apart =
            entry-apart d (suc r) before h segment e net routed turns (λ other away. booked-release_other h e net other shape.call_is freed away)
            (λ other away. ap (λ (k : Call). is_release_of other k) shape.call_is ∙ is-another net other away)
            (record {
              apart = λ other slacks away is. none-begun d (suc r) before h segment e net turns first.1 other slacks is;
              was = λ other slacks is. absurd (never-rests stage other slacks shape.rests is);
              own = λ other slacks is. (one-claim next net other slacks_of_turn slacks (own ∙ shape.after) is, booked-release h e net shape.call_is freed);
              goes = λ none. record { worker = e.number; slacks = slacks_of_turn; claims = own ∙ shape.after };
              some = begun-some (suc r) net segment e begun;
            });
      }

  -- a claim is answered Claimed
  claimed-last : (r : ℕ) → AreApart d (suc r) before h segment →
      (shape : IsAsking (kind_of (suc r)) (stage_of (suc r) (calls_of e.number segment)) e.call e.reply) → e.reply ≡ Claimed → GoesWell d (suc r) before h segment e
  claimed-last r turns shape claimed =
      let own = stage-own (suc r) e.number segment e refl in
      let stage : Stage = stage_of (suc r) (calls_of e.number segment) in
      let next : Stage = stage_of (suc r) (calls_of e.number (segment ++ e ∷ [])) in
      let claim : Claim = shape.claim in
      let net : ℕ = shape.net in
      let begun : (other : ℕ) → begins (suc r) other e ≡ false = λ other. ap (λ (k : Call). is_release_of other k) shape.call_is in
      let rests : next ≡ Rests = own ∙ shape.after ∙ ap (λ (reply : Reply). stage_replied net shape.slacks reply) claimed in
      record {
        granted = subst (λ (k : Call). IsGranted k e.reply) (sym shape.call_is) (inl claimed);
        apart =
            entry-apart d (suc r) before h segment e net (turns.fit e.number net (shape.slack ∷ shape.slacks) shape.claiming) turns
            (λ other away. booked-claim_other h e claim other shape.call_is claimed (λ is. away (is ∙ sym shape.fits.net_is)))
            (λ other away. begun other)
            (record {
              apart = λ other slacks away is. away (turns.alone other e.number net slacks (shape.slack ∷ shape.slacks) is shape.claiming);
              was = λ other slacks is. one-claim stage net other (shape.slack ∷ shape.slacks) slacks shape.claiming is;
              own = λ other slacks is. absurd (never-rests next other slacks rests is);
              goes = λ none. absurd (none-some claim.tree (booked (h ++ e ∷ []) net)
                  (ap (λ (n : ℕ). booked (h ++ e ∷ []) n) shape.fits.net_is ∙ booked-claim h e claim shape.call_is claimed) none);
              some = kept-some (suc r) net segment e (begun net) (turns.started e.number net (shape.slack ∷ shape.slacks) shape.claiming);
            });
      }

  -- or Full, where it has a slack
  full-claim : (r : ℕ) → AreApart d (suc r) before h segment →
      (shape : IsAsking (kind_of (suc r)) (stage_of (suc r) (calls_of e.number segment)) e.call e.reply) → is_some shape.claim.slack ≡ true → IsFull e.reply →
      GoesWell d (suc r) before h segment e
  full-claim r turns shape slack full =
      let own = stage-own (suc r) e.number segment e refl in
      let stage : Stage = stage_of (suc r) (calls_of e.number segment) in
      let next : Stage = stage_of (suc r) (calls_of e.number (segment ++ e ∷ [])) in
      let claim : Claim = shape.claim in
      let net : ℕ = shape.net in
      let begun : (other : ℕ) → begins (suc r) other e ≡ false = λ other. ap (λ (k : Call). is_release_of other k) shape.call_is in
      let free : booked h net ≡ None = turns.free e.number net (shape.slack ∷ shape.slacks) shape.claiming in
      let claims : next ≡ Claiming net shape.slacks = own ∙ shape.after ∙ full-goes net shape.slacks e.reply full in
      record {
        granted = subst (λ (k : Call). IsGranted k e.reply) (sym shape.call_is) (inr (slack, full));
        apart =
            entry-apart d (suc r) before h segment e net (turns.fit e.number net (shape.slack ∷ shape.slacks) shape.claiming) turns
            (λ other away. full-booked h e claim other shape.call_is full) (λ other away. begun other)
            (record {
              apart = λ other slacks away is. away (turns.alone other e.number net slacks (shape.slack ∷ shape.slacks) is shape.claiming);
              was = λ other slacks is. one-claim stage net other (shape.slack ∷ shape.slacks) slacks shape.claiming is;
              own = λ other slacks is. (one-claim next net other shape.slacks slacks claims is, full-booked h e claim net shape.call_is full ∙ free);
              goes = λ none. record { worker = e.number; slacks = shape.slacks; claims = claims };
              some = kept-some (suc r) net segment e (begun net) (turns.started e.number net (shape.slack ∷ shape.slacks) shape.claiming);
            });
      }

  asked : (r : ℕ) → IsPart c d (suc r) before h segment e → AreApart d (suc r) before h segment →
      IsAsking (kind_of (suc r)) (stage_of (suc r) (calls_of e.number segment)) e.call e.reply → GoesWell d (suc r) before h segment e
  asked r part turns shape =
      let claim : Claim = shape.claim in
      let is : e.reply ≡ reply_to_claim c h claim = part.right.reply ∙ ap (λ (k : Call). reply_to c h k) shape.call_is in
      let free : booked h claim.net ≡ None =
      ap (λ (n : ℕ). booked h n) (sym shape.fits.net_is) ∙ turns.free e.number shape.net (shape.slack ∷ shape.slacks) shape.claiming in
      elim (claim-answered c h claim free) [
        | inl got ↦ claimed-last r turns shape (is ∙ got)
        | inr full ↦ full-claim r turns shape (full-slack c h claim claim.slack refl free full) (subst IsFull (sym is) full)
      ]

  later-answer : (r : ℕ) → IsPart c d (suc r) before h segment e → AreApart d (suc r) before h segment → GoesWell d (suc r) before h segment e
  later-answer r part turns =
      let own = stage-own (suc r) e.number segment e refl in
      elim (later-shape (kind_of (suc r)) (stage_of (suc r) (calls_of e.number segment)) e.call e.reply (λ broken. part.unbroken (own ∙ broken))) [
        | inl shape ↦ released r part turns shape
        | inr shape ↦ asked r part turns shape
      ]

  pub answered : (r : ℕ) → IsPart c d r before h segment e → AreApart d r before h segment → GoesWell d r before h segment e
  answered zero part turns = first-answer part turns
  answered (suc r) part turns = later-answer r part turns
