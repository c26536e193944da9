-- Whole attempts that get what a turn is to get are turns, entry by entry.
use Rattle.std.proofs.Common.{◌≡◌, ℕ, suc, zero, inl, inr, true, ◌==◌, List, [], ◌∷◌, ◌++◌, take, Option, None, is_some, All, refl, sym, ap, subst, ◌∙◌, arith}
use Rattle.std.specs.List.{fold}
use Rattle.std.proofs.lemmas.Bool.{both_ways}
use Rattle.std.proofs.lemmas.List.Elements.{All-head, All-tail, All-filter}
use Rattle.std.proofs.lemmas.Option.{slice_get_within}
use Rattle.book_state.specs.Cuts.{cut, AtMarks}
use Rattle.book_state.specs.Entries.{calls_of}
use Rattle.book_state.specs.declared.entry.Call.{Call}
use Rattle.book_state.specs.declared.entry.Call.TheVariants.{Claim as Claims, Release}
use Rattle.book_state.specs.declared.entry.Claim.{Claim}
use Rattle.book_state.specs.declared.entry.Entry.{Entry}
use Rattle.book_state.specs.declared.entry.PlanKind.{PlanKind}
use Rattle.book_state.specs.declared.entry.Reply.{Reply}
use Rattle.book_state.specs.declared.entry.Reply.TheVariants.{Claimed}
use Rattle.run_histories.specs.Attempts.{Stage, Rests, Claiming, Broken, kind_of, stage_replied, stage_after, stage_of, IsGranted}
use Rattle.run_histories.specs.Rounds.{slacks_of_turn}
use Rattle.run_histories.specs.RunHistories.{Setting, AreAttempts}
use Rattle.run_histories.specs.TurnWords.{IsClaimFor, AreClaims, AreTurnsOf, NoTurns, MoreTurns}
use Rattle.run_histories.proofs.Answered.{full-goes}
use Rattle.run_histories.proofs.CutSteps.{segment-all}
use Rattle.run_histories.proofs.JoiningLaw.{attempts-granted}
use Rattle.run_histories.proofs.StageSteps.{broken-stays, rests-broken, IsFor, first-shape, later-shape}

abbrev IsGrantedEntry : Entry → Type 0
IsGrantedEntry e = IsGranted e.call e.reply

-- claims up to the one that is answered Claimed, and turns after it
pub record ClaimsThenTurns (r net : ℕ) (slacks : List (Option ℕ)) (calls : List Entry) : Type 0 where
  pub claims : List Entry
  pub rest : List Entry
  pub is : calls ≡ claims ++ rest
  pub are : AreClaims net (kind_of r) slacks claims
  pub after : AreTurnsOf r rest

-- what is left to come from each stage
abbrev ToCome : ℕ → Stage → List Entry → Type 0
ToCome r Rests calls = AreTurnsOf r calls
ToCome r (Claiming net slacks) calls = ClaimsThenTurns r net slacks calls
ToCome r Broken calls = ⊥

claiming-rests : (net : ℕ) (slacks : List (Option ℕ)) → Claiming net slacks ≡ Rests → ⊥
claiming-rests net slacks is = cc

-- a next entry is part of an attempt
unbroken-next : (r : ℕ) (stage : Stage) (e : Entry) (es : List Entry) → fold (stage_after r) (stage_after r stage e) es ≡ Rests → stage_after r stage e ≡ Broken → ⊥
unbroken-next r stage e es whole broken =
    rests-broken (sym whole ∙ ap (λ (s : Stage). fold (stage_after r) s es) broken ∙ broken-stays r es)

-- a claim at any demand that gets what it is to get is answered Claimed
none-full : (o : Option ℕ) → o ≡ None → is_some o ≡ true → ⊥
none-full o none some = both_ways (is_some o) (ap (λ (p : Option ℕ). is_some p) none) some

free-claimed : (claim : Claim) (reply : Reply) → claim.slack ≡ None → IsGranted (Claims claim) reply → reply ≡ Claimed
free-claimed claim reply none (inl claimed) = claimed
free-claimed claim reply none (inr full) = absurd (none-full claim.slack none full.0)

call-granted : (call other : Call) (reply : Reply) → call ≡ other → IsGranted call reply → IsGranted other reply
call-granted call other reply is granted = subst (λ (k : Call). IsGranted k reply) is granted

is-for : (net : ℕ) (kind : PlanKind) (slack : Option ℕ) (claim : Claim) (e : Entry) → e.call ≡ Claims claim → IsFor net kind slack claim → IsClaimFor net kind slack e
is-for net kind slack claim e call fits =
    record { claim = claim; call = call; net_is = sym fits.net_is; kind_is = sym fits.kind_is; slack_is = sym fits.slack_is }

first-words : (calls : List Entry) (stage : Stage) → fold (stage_after 0) stage calls ≡ Rests → All IsGrantedEntry calls → ToCome 0 stage calls
first-words [] Rests whole granted = NoTurns
first-words [] (Claiming net slacks) whole granted = absurd (claiming-rests net slacks whole)
first-words [] Broken whole granted = absurd (rests-broken (sym whole))
first-words (e ∷ es) stage whole granted =
    let shape = first-shape stage e.call (unbroken-next 0 stage e es whole) in
    let claim : Claim = shape.claim in
    let claimed = free-claimed claim e.reply (sym shape.fits.slack_is) (call-granted e.call (Claims claim) e.reply shape.call_is (All-head IsGrantedEntry e es granted)) in
    let rest : AreTurnsOf 0 es =
    first-words es Rests (subst (λ (s : Stage). fold (stage_after 0) s es ≡ Rests) shape.after whole) (All-tail IsGrantedEntry e es granted) in
    subst (λ (s : Stage). ToCome 0 s (e ∷ es)) (sym shape.rests)
    (MoreTurns claim.net (e ∷ []) es (is-for claim.net (kind_of 0) None claim e shape.call_is shape.fits, inl (claimed, refl)) rest)

later-words : (r : ℕ) (calls : List Entry) (stage : Stage) → fold (stage_after (suc r)) stage calls ≡ Rests → All IsGrantedEntry calls → ToCome (suc r) stage calls
later-words r [] Rests whole granted = NoTurns
later-words r [] (Claiming net slacks) whole granted = absurd (claiming-rests net slacks whole)
later-words r [] Broken whole granted = absurd (rests-broken (sym whole))
later-words r (e ∷ es) stage whole granted =
    let here = All-head IsGrantedEntry e es granted in
    let go : (next : Stage) → stage_after (suc r) stage e ≡ next → ToCome (suc r) next es =
    λ next is. later-words r es next (subst (λ (s : Stage). fold (stage_after (suc r)) s es ≡ Rests) is whole) (All-tail IsGrantedEntry e es granted) in
    elim (later-shape (kind_of (suc r)) stage e.call e.reply (unbroken-next (suc r) stage e es whole)) [
      | inl shape ↦
          let after : ClaimsThenTurns (suc r) shape.net slacks_of_turn es = go (Claiming shape.net slacks_of_turn) shape.after in
          let turns : AreTurnsOf (suc r) (e ∷ after.claims ++ after.rest) =
          MoreTurns shape.net (e ∷ after.claims) after.rest
          (shape.call_is, call-granted e.call (Release shape.net) e.reply shape.call_is here, after.are) after.after in
          subst (λ (s : Stage). ToCome (suc r) s (e ∷ es)) (sym shape.rests)
          (subst (λ (k : List Entry). AreTurnsOf (suc r) (e ∷ k)) (sym after.is) turns)
      | inr shape ↦
          let one = is-for shape.net (kind_of (suc r)) shape.slack shape.claim e shape.call_is shape.fits in
          let both : ClaimsThenTurns (suc r) shape.net (shape.slack ∷ shape.slacks) (e ∷ es) =
          elim (call-granted e.call (Claims shape.claim) e.reply shape.call_is here) [
            | inl claimed ↦ record {
              claims = e ∷ [];
              rest = es;
              is = refl;
              are = (one, inl (claimed, refl));
              after = go Rests (shape.after ∙ ap (λ (reply : Reply). stage_replied shape.net shape.slacks reply) claimed);
            }
            | inr full ↦
                let more : ClaimsThenTurns (suc r) shape.net shape.slacks es =
                go (Claiming shape.net shape.slacks) (shape.after ∙ full-goes shape.net shape.slacks e.reply full.1) in
                record {
                  claims = e ∷ more.claims;
                  rest = more.rest;
                  is = ap (λ (k : List Entry). e ∷ k) more.is;
                  are = (one, inr (full.1, more.are));
                  after = more.after;
                }
          ] in
          subst (λ (s : Stage). ToCome (suc r) s (e ∷ es)) (sym shape.claiming) both
    ]

words : (r : ℕ) (calls : List Entry) → stage_of r calls ≡ Rests → All IsGrantedEntry calls → AreTurnsOf r calls
words zero calls whole granted = first-words calls Rests whole granted
words (suc r) calls whole granted = later-words r calls Rests whole granted

pub attempts-turns : (t : Setting) (h : List Entry) → AreAttempts t h → AtMarks (λ s. (number : ℕ) → AreTurnsOf s.round (calls_of number s.segment)) h
attempts-turns t h attempts = λ p e there mark number.
    let s = cut (take p h) in
    let within = slice_get_within h p e there in
    let all = segment-all IsGrantedEntry h (attempts-granted t h attempts) p (omega (arith, within)) in
    words s.round (calls_of number s.segment) (attempts.whole p e there mark number)
    (All-filter (λ (x : Entry). x.number == number) IsGrantedEntry s.segment all)
