-- What the claims of given trees leave, and histories that begin with them.
use Rattle.std.proofs.Common.{◌≡◌, ℕ, suc, zero, ◌+◌, ◌<◌, ◌≤◌, inl, inr, Bool, true, false, ◌&&◌, List, [], ◌∷◌, ◌++◌, length, filter, get_or, All, Option, Some, None, is_none, if◌then◌else◌, refl, sym, ap, subst, ◌∙◌, arith, append_assoc}
use Rattle.std.specs.List.{fold, range_with_len}
use Rattle.std.proofs.lemmas.Bool.{cases_Bool, cases_lt, cases_eq}
use Rattle.std.proofs.lemmas.List.{append-nil}
use Rattle.std.proofs.lemmas.List.Elements.{All-nil, All-push, All-append}
use Rattle.std.proofs.lemmas.List.Sums.{fold_push}
use Rattle.std.proofs.lemmas.Option.{same_Some, slice_get_within, slice_get-get_or}
use Rattle.gr_base.proofs.DesignLemmas.{routed-below}
use Rattle.gr_base.proofs.General.{range-more}
use Rattle.gr_base.specs.Designs.{DesignView, is_routed}
use Rattle.gr_base.specs.Trees.{TreeView, tree_at}
use Rattle.book_state.proofs.BookSteps.{booked-none}
use Rattle.book_state.proofs.ReplicaSteps.{booked-claim, booked-claim_other}
use Rattle.book_state.specs.Books.{booked}
use Rattle.book_state.specs.Cuts.{Cut, cut, uncut}
use Rattle.book_state.specs.Entries.{AtEach, is_mark, is_mark_call, is_given, is_given_call, is_given_kind}
use Rattle.book_state.specs.Marks.{overflow_in}
use Rattle.book_state.specs.Views.{entry_of}
use Rattle.book_state.specs.declared.entry.Call.TheVariants.{Claim as Claims}
use Rattle.book_state.specs.declared.entry.Claim.{Claim}
use Rattle.book_state.specs.declared.entry.Entry.{Entry}
use Rattle.book_state.specs.declared.entry.PlanKind.TheVariants.{Given}
use Rattle.book_state.specs.declared.entry.Reply.TheVariants.{Claimed}
use Rattle.run_histories.specs.GivenRoutes.{given_to, is_open, with_given, given_among, given_claims, open_nets}
use Rattle.run_histories.specs.Rounds.{first_worker, claim_of}
use Rattle.run_histories.specs.RunHistories.{Setting, Overflows, no_overflows, overflows_after, overflows_of, claims_given, is_due, BeginsGiven, routed_nets}
use Rattle.run_histories.proofs.CutSteps.{cut-given, marked_last}

-- the claim of a given tree behind a history
abbrev pub given_claim : ℕ → ℕ → TreeView → Claim
given_claim front net tree = claim_of net tree None front Given

abbrev pub given_entry : List Entry → ℕ → TreeView → Entry
given_entry h net tree = entry_of first_worker (Claims (given_claim (length h) net tree)) Claimed

-- an entry that claims a given tree, and gets it
pub record IsOfGiven (e : Entry) : Type 0 where
  pub number_is : e.number ≡ first_worker
  pub claim : Claim
  pub call_is : e.call ≡ Claims claim
  pub kind_is : claim.kind ≡ Given
  pub reply_is : e.reply ≡ Claimed

of-given : (h : List Entry) (net : ℕ) (tree : TreeView) → IsOfGiven (given_entry h net tree)
of-given h net tree = record { number_is = refl; claim = given_claim (length h) net tree; call_is = refl; kind_is = refl; reply_is = refl }

pub given-is : (e : Entry) → IsOfGiven e → is_given e ≡ true
given-is e of = ap is_given_call of.call_is ∙ ap is_given_kind of.kind_is

pub given-no_mark : (e : Entry) → IsOfGiven e → is_mark e ≡ false
given-no_mark e of = ap is_mark_call of.call_is

-- what holds of each entry, at its place
pub each-all : (Q : Entry → Type 0) (h : List Entry) → All Q h → AtEach (λ before e. Q e) h
each-all Q h all p e there =
    let within = slice_get_within h p e there in
    subst Q (same_Some (get_or h p e) e (sym (slice_get-get_or h p e within) ∙ there)) (all p e within)

module _ (d : DesignView) (given : List (Option TreeView)) where
  abbrev among : ℕ → List Entry
  among n = given_among d given n

  pub among-none : among 0 ≡ []
  unfolding given_among
  among-none = refl

  pub among-more : (n : ℕ) → among (n + 1) ≡ with_given (among n) n (given_to d given n)
  unfolding given_among
  among-more n =
      let last : 0 + n ≡ n = omega arith in
      let step : List Entry → ℕ → List Entry = λ h net. with_given h net (given_to d given net) in
      ap (λ (ns : List ℕ). fold step [] ns) (range-more 0 n ∙ ap (λ (k : ℕ). range_with_len 0 n ++ k ∷ []) last)
      ∙ fold_push step [] (range_with_len 0 n) n

  -- what holds of nothing, and goes on with each claim of a given tree, holds of all of them
  each-given : (Q : ℕ → List Entry → Type 0) → Q 0 [] → ((n : ℕ) → given_to d given n ≡ None → Q n (among n) → Q (n + 1) (among n)) →
      ((n : ℕ) (tree : TreeView) → given_to d given n ≡ Some tree → Q n (among n) → Q (n + 1) (among n ++ given_entry (among n) n tree ∷ [])) →
      (n : ℕ) → Q n (among n)
  each-given Q none open_net kept zero = subst (Q 0) (sym among-none) none
  each-given Q none open_net kept (suc n) = by (given_to d given n) refl (each-given Q none open_net kept n)
    where
      more : n + 1 ≡ suc n
      more = omega arith

      by : (o : Option TreeView) → given_to d given n ≡ o → Q n (among n) → Q (suc n) (among (suc n))
      by None is before =
          subst (λ (k : ℕ). Q k (among k)) more
          (subst (Q (n + 1)) (sym (among-more n ∙ ap (λ (o : Option TreeView). with_given (among n) n o) is)) (open_net n is before))
      by (Some tree) is before =
          subst (λ (k : ℕ). Q k (among k)) more
          (subst (Q (n + 1)) (sym (among-more n ∙ ap (λ (o : Option TreeView). with_given (among n) n o) is)) (kept n tree is before))

  pub among-all : (n : ℕ) → All IsOfGiven (among n)
  among-all n =
      each-given (λ k h. All IsOfGiven h) (All-nil IsOfGiven) (λ k is all. all)
      (λ k tree is all. All-push IsOfGiven (among k) (given_entry (among k) k tree) all (of-given (among k) k tree)) n

  -- a net from here on isn't booked yet, and one before by the tree that it is given
  pub among-later : (n net : ℕ) → n ≤ net → booked (among n) net ≡ None
  among-later n =
      each-given (λ k h. (net : ℕ) → k ≤ net → booked h net ≡ None) (λ net from. booked-none net)
      (λ k is free net from. free net (omega (arith, from)))
      (λ k tree is free net from.
      booked-claim_other (among k) (given_entry (among k) k tree) (given_claim (length (among k)) k tree) net refl refl (λ same. absurd (omega (arith, same, from)))
      ∙ free net (omega (arith, from))) n

  pub among-booked : (n net : ℕ) → net < n → booked (among n) net ≡ given_to d given net
  among-booked n =
      each-given (λ k h. (net : ℕ) → net < k → booked h net ≡ given_to d given net) (λ net below. absurd (omega (arith, below)))
      (λ k is old net below. elim (cases_eq net k) [
        | inl same ↦
            among-later k net (omega (arith, same)) ∙ sym is ∙ ap (λ (m : ℕ). given_to d given m) (sym same)
        | inr apart ↦ old net (omega (arith, below, apart))
      ])
      (λ k tree is old net below.
      let e = given_entry (among k) k tree in
      let claim = given_claim (length (among k)) k tree in
      elim (cases_eq net k) [
        | inl same ↦
            ap (λ (m : ℕ). booked (among k ++ e ∷ []) m) same ∙ booked-claim (among k) e claim refl refl ∙ sym is
            ∙ ap (λ (m : ℕ). given_to d given m) (sym same)
        | inr apart ↦ booked-claim_other (among k) e claim net refl refl apart ∙ old net (omega (arith, below, apart))
      ]) n

  unrouted : (net : ℕ) → is_routed d net ≡ false → given_to d given net ≡ None
  unrouted net off = ap (λ (b : Bool). if b then tree_at given net else None) off

  pub given-booked : (net : ℕ) → booked (given_claims d given) net ≡ given_to d given net
  given-booked net = elim (cases_lt net (length d.nets)) [
    | inl below ↦ among-booked (length d.nets) net below
    | inr past ↦
        among-later (length d.nets) net past ∙ sym (unrouted net (elim (cases_Bool (is_routed d net)) [
          | inl on ↦ (let below = routed-below d net on in absurd (omega (arith, below, past)))
          | inr off ↦ off
        ]))
  ]

  pub given-free : (net : ℕ) → is_routed d net ≡ false → booked (given_claims d given) net ≡ None
  given-free net off = given-booked net ∙ unrouted net off

  -- in round 0 the open nets are due
  pub open-due : (net : ℕ) → is_due d 0 (given_claims d given) net ≡ is_open d given net
  open-due net = ap (λ (o : Option TreeView). is_routed d net && is_none o) (given-booked net) ∙ by (is_routed d net)
    where
      by : (b : Bool) → (b && is_none (if b then tree_at given net else None)) ≡ (b && is_none (tree_at given net))
      by true = refl
      by false = refl

  -- round 0 begins with an empty segment
  cut-none : cut [] ≡ uncut
  unfolding cut
  cut-none = refl

  pub among-cut : (n : ℕ) → cut (among n) ≡ record { round = 0; before = among n; segment = [] }
  among-cut n =
      each-given (λ k h. cut h ≡ record { round = 0; before = h; segment = [] }) cut-none (λ k is same. same)
      (λ k tree is same.
      let e = given_entry (among k) k tree in
      cut-given (among k) e refl
      ∙ ap (λ (s : Cut). record { round = s.round; before = s.before ++ s.segment ++ e ∷ []; segment = [] }) same
      ∙ ap (λ (l : List Entry). record { round = 0; before = l ++ e ∷ []; segment = [] }) (append-nil (among k))) n

  -- no overflow is told so far, and no mark is the last entry
  pub among-overflows : (n : ℕ) → overflows_of (among n) ≡ no_overflows
  among-overflows n =
      each-given (λ k h. overflows_of h ≡ no_overflows) refl (λ k is same. same)
      (λ k tree is same. fold_push (λ (o : Overflows) (x : Entry). overflows_after o (overflow_in x.reply)) no_overflows (among k) (given_entry (among k) k tree) ∙ same) n

  pub among-unended : (n : ℕ) → marked_last false (among n) ≡ false
  among-unended n =
      each-given (λ k h. marked_last false h ≡ false) refl (λ k is same. same)
      (λ k tree is same. fold_push (λ (last : Bool) (x : Entry). is_mark x) false (among k) (given_entry (among k) k tree)) n

-- without given trees there are no such claims
pub among-nothing : (d : DesignView) (n : ℕ) → given_among d [] n ≡ []
among-nothing d n = each-given d [] (λ k h. h ≡ []) refl (λ k is same. same) (λ k tree is same. absurd (never k tree (is_routed d k) is)) n
  where
    never : (k : ℕ) (tree : TreeView) (b : Bool) → (if b then tree_at [] k else None) ≡ Some tree → ⊥
    never k tree true is = cc
    never k tree false is = cc

-- and all routed nets are open
pub open-nothing : (d : DesignView) → open_nets d [] ≡ routed_nets d
open-nothing d = ap (λ (p : ℕ → Bool). filter p (range_with_len 0 (length d.nets))) (λ i net. by (is_routed d net) i)
  where
    by : (b : Bool) → (b && true) ≡ b
    by true = refl
    by false = refl

-- histories that begin with the claims of given trees go on
pub begins-more : (t : Setting) (h es : List Entry) → BeginsGiven t h → All (λ (e : Entry). is_given e ≡ false) es → BeginsGiven t (h ++ es)
begins-more t h es begins all = record {
  rest = begins.rest ++ es;
  history_is = ap (λ (l : List Entry). l ++ es) begins.history_is ∙ append_assoc (claims_given t) begins.rest es;
  others = All-append (λ (e : Entry). is_given e ≡ false) begins.rest es begins.others all;
}

pub begins-push : (t : Setting) (h : List Entry) (e : Entry) → BeginsGiven t h → is_given e ≡ false → BeginsGiven t (h ++ e ∷ [])
begins-push t h e begins plain = begins-more t h (e ∷ []) begins (All-push (λ (x : Entry). is_given x ≡ false) [] e (All-nil (λ (x : Entry). is_given x ≡ false)) plain)

-- the claims themselves do, and so does nothing where no trees are given
pub begins-given : (t : Setting) → BeginsGiven t (claims_given t)
begins-given t = record { rest = []; history_is = sym (append-nil (claims_given t)); others = All-nil (λ (e : Entry). is_given e ≡ false) }

pub claims-nothing : (t : Setting) → t.given ≡ [] → claims_given t ≡ []
claims-nothing t none = ap (λ (given : List (Option TreeView)). given_claims t.design given) none ∙ among-nothing t.design (length t.design.nets)

pub begins-nothing : (t : Setting) → t.given ≡ [] → BeginsGiven t []
begins-nothing t none = subst (BeginsGiven t) (claims-nothing t none) (begins-given t)
