-- Where a caller's entries have led, as entries are added, and which entries are parts of attempts.
use Rattle.std.proofs.Common.{◌≡◌, ◌⊎◌, ℕ, suc, zero, ◌+◌, inl, inr, Bool, true, false, cond, ◌&&◌, ◌==◌, List, [], ◌∷◌, ◌++◌, Option, Some, None, if◌then◌else◌, refl, sym, ap, ◌∙◌, arith}
use Rattle.std.specs.List.{fold}
use Rattle.std.proofs.lemmas.Bool.{both_ways, and_parts}
use Rattle.std.proofs.lemmas.Bool.Decides.{nat_tests}
use Rattle.std.proofs.lemmas.List.{append-nil}
use Rattle.std.proofs.lemmas.List.Elements.{filter-append}
use Rattle.std.proofs.lemmas.List.Sums.{fold_push, fold-append, sum_by-append, sum_by_push}
use Rattle.gr_base.proofs.General.{filter-yes, filter-no}
use Rattle.book_state.specs.Entries.{is_given_kind, calls_of}
use Rattle.book_state.specs.declared.entry.Call.{Call}
use Rattle.book_state.specs.declared.entry.Call.TheVariants.{Claim as Claims, Release, Mark}
use Rattle.book_state.specs.declared.entry.Claim.{Claim}
use Rattle.book_state.specs.declared.entry.Entry.{Entry}
use Rattle.book_state.specs.declared.entry.PlanKind.{PlanKind}
use Rattle.book_state.specs.declared.entry.PlanKind.TheVariants.{Pattern, Maze, Given}
use Rattle.book_state.specs.declared.entry.Reply.{Reply}
use Rattle.run_histories.specs.Attempts.{Stage, Rests, Claiming, Broken, kind_of, is_kind, is_slack, is_claim_for, stage_replied, first_stage, later_stage, stage_after, stage_of, begins, attempts_at}
use Rattle.run_histories.specs.Rounds.{slacks_of_turn}

-- one more entry is the last of its own number, and none of another
calls-own : (number : ℕ) (es : List Entry) (e : Entry) → e.number ≡ number → calls_of number (es ++ e ∷ []) ≡ calls_of number es ++ e ∷ []
calls-own number es e is =
    let same : (e.number == number) ≡ true = grind (arith, nat_tests) in
    filter-append (λ (x : Entry). x.number == number) es (e ∷ [])
    ∙ ap (λ (more : List Entry). calls_of number es ++ more) (filter-yes (λ (x : Entry). x.number == number) e [] same)

calls-other : (number : ℕ) (es : List Entry) (e : Entry) → (e.number ≡ number → ⊥) → calls_of number (es ++ e ∷ []) ≡ calls_of number es
calls-other number es e apart =
    let other : (e.number == number) ≡ false = grind (arith, nat_tests) in
    filter-append (λ (x : Entry). x.number == number) es (e ∷ [])
    ∙ ap (λ (more : List Entry). calls_of number es ++ more) (filter-no (λ (x : Entry). x.number == number) e [] other)
    ∙ append-nil (calls_of number es)

pub stage-own : (r number : ℕ) (es : List Entry) (e : Entry) → e.number ≡ number →
    stage_of r (calls_of number (es ++ e ∷ [])) ≡ stage_after r (stage_of r (calls_of number es)) e
stage-own r number es e is =
    ap (λ (calls : List Entry). stage_of r calls) (calls-own number es e is) ∙ fold_push (stage_after r) Rests (calls_of number es) e

pub stage-other : (r number : ℕ) (es : List Entry) (e : Entry) → (e.number ≡ number → ⊥) →
    stage_of r (calls_of number (es ++ e ∷ [])) ≡ stage_of r (calls_of number es)
stage-other r number es e apart = ap (λ (calls : List Entry). stage_of r calls) (calls-other number es e apart)

-- entries that were no attempts stay so
broken-after : (r : ℕ) (e : Entry) → stage_after r Broken e ≡ Broken
broken-after zero e = refl
broken-after (suc r) e = refl

pub broken-stays : (r : ℕ) (es : List Entry) → fold (stage_after r) Broken es ≡ Broken
broken-stays r [] = refl
broken-stays r (e ∷ es) = ap (λ (stage : Stage). fold (stage_after r) stage es) (broken-after r e) ∙ broken-stays r es

pub rests-broken : Rests ≡ Broken → ⊥
rests-broken is = cc

pub whole-unbroken : (r number : ℕ) (es more : List Entry) → stage_of r (calls_of number (es ++ more)) ≡ Rests →
    stage_of r (calls_of number es) ≡ Broken → ⊥
whole-unbroken r number es more whole broken =
    rests-broken (sym whole
    ∙ ap (λ (calls : List Entry). stage_of r calls) (filter-append (λ (x : Entry). x.number == number) es more)
    ∙ fold-append (stage_after r) Rests (calls_of number es) (calls_of number more)
    ∙ ap (λ (stage : Stage). fold (stage_after r) stage (calls_of number more)) broken
    ∙ broken-stays r (calls_of number more))

-- how many attempts were begun, with one more entry
pub attempts-push : (r net : ℕ) (es : List Entry) (e : Entry) → attempts_at r net (es ++ e ∷ []) ≡ attempts_at r net es + cond (begins r net e) 1 0
attempts-push r net es e = sum_by_push (λ (x : Entry). cond {A = ℕ} (begins r net x) 1 0) es e

-- an attempt that begins is the first at its net, where there is one at each net that is due and none at any other
pub first-begun : (r net : ℕ) (es more : List Entry) (e : Entry) (due : Bool) → attempts_at r net (es ++ e ∷ [] ++ more) ≡ (if due then 1 else 0) →
    begins r net e ≡ true → (due ≡ true) × (attempts_at r net es ≡ 0)
first-begun r net es more e due count begun =
    by due count
  where
    split : attempts_at r net (es ++ e ∷ [] ++ more) ≡ attempts_at r net es + 1 + attempts_at r net more
    split =
        sum_by-append (λ (x : Entry). cond {A = ℕ} (begins r net x) 1 0) (es ++ e ∷ []) more
        ∙ ap (λ (n : ℕ). n + attempts_at r net more)
        (attempts-push r net es e ∙ ap (λ (b : Bool). attempts_at r net es + cond {A = ℕ} b 1 0) begun)

    by : (due : Bool) → attempts_at r net (es ++ e ∷ [] ++ more) ≡ (if due then 1 else 0) → (due ≡ true) × (attempts_at r net es ≡ 0)
    by true is = (refl, omega (arith, is, split))
    by false is = absurd (omega (arith, is, split))

-- no attempt is for a given tree
pub kind-plain : (r : ℕ) → is_given_kind (kind_of r) ≡ false
kind-plain zero = refl
kind-plain (suc r) = refl

pub kind-made : (r : ℕ) (kind : PlanKind) → kind ≡ kind_of r → kind ≡ Given → ⊥
kind-made r kind is given = both_ways (is_given_kind kind) (ap is_given_kind is ∙ kind-plain r) (ap is_given_kind given)

-- kinds and slacks that pass the tests
pub kind-same : (a b : PlanKind) → is_kind a b ≡ true → a ≡ b
kind-same Pattern Pattern is = refl
kind-same Pattern (Maze other) is = absurd (both_ways false refl is)
kind-same Pattern Given is = absurd (both_ways false refl is)
kind-same (Maze margin) Pattern is = absurd (both_ways false refl is)
kind-same (Maze margin) Given is = absurd (both_ways false refl is)
kind-same Given Pattern is = absurd (both_ways false refl is)
kind-same Given (Maze other) is = absurd (both_ways false refl is)
kind-same Given Given is = refl
kind-same (Maze margin) (Maze other) is =
    let same : margin ≡ other = grind (arith, nat_tests) in
    ap (λ (n : ℕ). Maze n) same

pub slack-same : (a b : Option ℕ) → is_slack a b ≡ true → a ≡ b
slack-same None None is = refl
slack-same None (Some other) is = absurd (both_ways false refl is)
slack-same (Some slack) None is = absurd (both_ways false refl is)
slack-same (Some slack) (Some other) is =
    let same : slack ≡ other = grind (arith, nat_tests) in
    ap (λ (n : ℕ). Some n) same

-- a claim that passes the test
pub record IsFor (net : ℕ) (kind : PlanKind) (slack : Option ℕ) (claim : Claim) : Type 0 where
  pub net_is : net ≡ claim.net
  pub kind_is : kind ≡ claim.kind
  pub slack_is : slack ≡ claim.slack

pub claim-for : (net : ℕ) (kind : PlanKind) (slack : Option ℕ) (claim : Claim) → is_claim_for net kind slack claim ≡ true → IsFor net kind slack claim
claim-for net kind slack claim is =
    let parts = and_parts (net == claim.net) (is_kind kind claim.kind && is_slack slack claim.slack) is in
    let rest = and_parts (is_kind kind claim.kind) (is_slack slack claim.slack) parts.1 in
    let net_test = parts.0 in
    record {
      net_is = grind (arith, nat_tests);
      kind_is = kind-same kind claim.kind rest.0;
      slack_is = slack-same slack claim.slack rest.1;
    }

-- an entry of round 0 that is part of an attempt
pub record IsFirst (stage : Stage) (call : Call) : Type 0 where
  pub claim : Claim
  pub call_is : call ≡ Claims claim
  pub fits : IsFor claim.net (kind_of 0) None claim
  pub rests : stage ≡ Rests
  pub after : first_stage stage call ≡ Rests

pub first-shape : (stage : Stage) (call : Call) → (first_stage stage call ≡ Broken → ⊥) → IsFirst stage call
first-shape Rests (Claims claim) fine = by (is_claim_for claim.net (kind_of 0) None claim) refl fine
  where
    by : (b : Bool) → is_claim_for claim.net (kind_of 0) None claim ≡ b → ((if b then Rests else Broken) ≡ Broken → ⊥) → IsFirst Rests (Claims claim)
    by true is unbroken = record {
      claim = claim;
      call_is = refl;
      fits = claim-for claim.net (kind_of 0) None claim is;
      rests = refl;
      after = ap (λ (b : Bool). if b then Rests else Broken) is;
    }
    by false is unbroken = absurd (unbroken refl)
first-shape Rests (Release net) fine = absurd (fine refl)
first-shape Rests Mark fine = absurd (fine refl)
first-shape (Claiming net slacks) call fine = absurd (fine refl)
first-shape Broken call fine = absurd (fine refl)

-- an entry of a later round that is part of an attempt: a release
pub record IsFreeing (kind : PlanKind) (stage : Stage) (call : Call) (reply : Reply) : Type 0 where
  pub net : ℕ
  pub call_is : call ≡ Release net
  pub rests : stage ≡ Rests
  pub after : later_stage kind stage call reply ≡ Claiming net slacks_of_turn

-- or a claim
pub record IsAsking (kind : PlanKind) (stage : Stage) (call : Call) (reply : Reply) : Type 0 where
  pub net : ℕ
  pub slack : Option ℕ
  pub slacks : List (Option ℕ)
  pub claim : Claim
  pub call_is : call ≡ Claims claim
  pub fits : IsFor net kind slack claim
  pub claiming : stage ≡ Claiming net (slack ∷ slacks)
  pub after : later_stage kind stage call reply ≡ stage_replied net slacks reply

pub later-shape : (kind : PlanKind) (stage : Stage) (call : Call) (reply : Reply) → (later_stage kind stage call reply ≡ Broken → ⊥) →
    IsFreeing kind stage call reply ⊎ IsAsking kind stage call reply
later-shape kind Rests (Release net) reply fine = inl (record { net = net; call_is = refl; rests = refl; after = refl })
later-shape kind Rests (Claims claim) reply fine = absurd (fine refl)
later-shape kind Rests Mark reply fine = absurd (fine refl)
later-shape kind (Claiming net (slack ∷ slacks)) (Claims claim) reply fine = by (is_claim_for net kind slack claim) refl fine
  where
    by : (b : Bool) → is_claim_for net kind slack claim ≡ b → ((if b then stage_replied net slacks reply else Broken) ≡ Broken → ⊥) →
        IsFreeing kind (Claiming net (slack ∷ slacks)) (Claims claim) reply ⊎ IsAsking kind (Claiming net (slack ∷ slacks)) (Claims claim) reply
    by true is unbroken = inr (record {
      net = net;
      slack = slack;
      slacks = slacks;
      claim = claim;
      call_is = refl;
      fits = claim-for net kind slack claim is;
      claiming = refl;
      after = ap (λ (b : Bool). if b then stage_replied net slacks reply else Broken) is;
    })
    by false is unbroken = absurd (unbroken refl)
later-shape kind (Claiming net (slack ∷ slacks)) (Release other) reply fine = absurd (fine refl)
later-shape kind (Claiming net (slack ∷ slacks)) Mark reply fine = absurd (fine refl)
later-shape kind (Claiming net []) call reply fine = absurd (fine refl)
later-shape kind Broken call reply fine = absurd (fine refl)
