-- Claims of open nets behind those of given trees, and what they leave booked.
use Rattle.std.proofs.Common.{◌≡◌, ℕ, inl, inr, Bool, true, false, List, [], ◌∷◌, ◌++◌, All, Option, Some, None, if◌then◌else◌, sym, ap, subst, ◌∙◌, append_assoc}
use Rattle.std.proofs.lemmas.Bool.{both_ways}
use Rattle.std.proofs.lemmas.List.{append-nil}
use Rattle.std.proofs.lemmas.List.Elements.{All-head, All-tail}
use Rattle.std.proofs.lemmas.Option.{none-some, same_Some}
use Rattle.gr_base.specs.Designs.{DesignView, is_routed}
use Rattle.gr_base.specs.Trees.{TreeView, IsTree, tree_at}
use Rattle.batch_rounds.proofs.HeldNets.{claim-books}
use Rattle.book_state.proofs.BookSteps.{booked-push}
use Rattle.book_state.specs.Books.{booked, booked_after, booked_by}
use Rattle.book_state.specs.Entries.{is_mark, is_mark_call}
use Rattle.book_state.specs.declared.entry.Call.{Call}
use Rattle.book_state.specs.declared.entry.Call.TheVariants.{Claim as Claims}
use Rattle.book_state.specs.declared.entry.Claim.{Claim}
use Rattle.book_state.specs.declared.entry.Entry.{Entry}
use Rattle.run_histories.proofs.GivenLemmas.{given-booked}
use Rattle.run_histories.specs.GivenRoutes.{given_claims, given_to, is_open}

-- a tree in the design's grid
abbrev pub IsGridTree : DesignView → TreeView → Type 0
IsGridTree d t = IsTree t × (t.shape ≡ d.frame.shape)

-- each given tree is such a one
abbrev pub AreGridTrees : DesignView → List (Option TreeView) → Type 0
AreGridTrees d given = (net : ℕ) (t : TreeView) → tree_at given net ≡ Some t → IsGridTree d t

-- an entry that claims such a tree for an open net
pub record IsOpenClaim (d : DesignView) (given : List (Option TreeView)) (e : Entry) : Type 0 where
  pub claim : Claim
  pub call_is : e.call ≡ Claims claim
  pub is_of_open : is_open d given claim.net ≡ true
  pub tree : IsGridTree d claim.tree

-- a history that begins with the claims of the given trees, and then with claims of open nets up to its first mark,
-- which is its only one where no rounds are asked for
pub record BeginsOpen (d : DesignView) (given : List (Option TreeView)) (rounds : ℕ) (h : List Entry) : Type 0 where
  pub firsts : List Entry
  pub mark : Entry
  pub rest : List Entry
  pub history_is : h ≡ given_claims d given ++ firsts ++ mark ∷ rest
  pub open_claims : All (IsOpenClaim d given) firsts
  pub marked : is_mark mark ≡ true
  pub alone : rounds ≡ 0 → All (λ (e : Entry). is_mark e ≡ false) rest

module _ (d : DesignView) (given : List (Option TreeView)) where
  pub claim-unmarked : (e : Entry) → IsOpenClaim d given e → is_mark e ≡ false
  claim-unmarked e of = ap is_mark_call of.call_is

  -- what the claim of an open net does to a booking
  after-claim : (net : ℕ) (old : Option TreeView) (e : Entry) → (of : IsOpenClaim d given e) → booked_after net old e ≡ booked_by net old (Claims of.claim) e.reply
  after-claim net old e of = ap (λ (call : Call). booked_by net old call e.reply) of.call_is

  spared-once : (net : ℕ) (old : Option TreeView) (e : Entry) → IsOpenClaim d given e → is_open d given net ≡ false → booked_after net old e ≡ old
  spared-once net old e of shut =
      after-claim net old e of ∙ elim (claim-books net old of.claim e.reply) [
        | inl same ↦ same
        | inr new ↦ absurd (both_ways (is_open d given net) shut (ap (is_open d given) (sym new.0) ∙ of.is_of_open))
      ]

  grid-once : (net : ℕ) (old : Option TreeView) (e : Entry) → IsOpenClaim d given e → ((t : TreeView) → old ≡ Some t → IsGridTree d t) →
      (t : TreeView) → booked_after net old e ≡ Some t → IsGridTree d t
  grid-once net old e of before t is =
      elim (claim-books net old of.claim e.reply) [
        | inl same ↦ before t (sym same ∙ sym (after-claim net old e of) ∙ is)
        | inr new ↦
            subst (IsGridTree d) (same_Some of.claim.tree t (sym new.1 ∙ sym (after-claim net old e of) ∙ is)) of.tree
      ]

  -- the booking of a net that isn't open stays
  pub claims-spare : (h firsts : List Entry) (net : ℕ) → All (IsOpenClaim d given) firsts → is_open d given net ≡ false → booked (h ++ firsts) net ≡ booked h net
  claims-spare h [] net all shut = ap (λ (k : List Entry). booked k net) (append-nil h)
  claims-spare h (e ∷ es) net all shut =
      ap (λ (k : List Entry). booked k net) (sym (append_assoc h (e ∷ []) es))
      ∙ claims-spare (h ++ e ∷ []) es net (All-tail (IsOpenClaim d given) e es all) shut
      ∙ booked-push h e net ∙ spared-once net (booked h net) e (All-head (IsOpenClaim d given) e es all) shut

  -- booked trees stay in the grid
  pub claims-grid : (h firsts : List Entry) (net : ℕ) → All (IsOpenClaim d given) firsts → ((t : TreeView) → booked h net ≡ Some t → IsGridTree d t) →
      (t : TreeView) → booked (h ++ firsts) net ≡ Some t → IsGridTree d t
  claims-grid h [] net all before t is = before t (sym (ap (λ (k : List Entry). booked k net) (append-nil h)) ∙ is)
  claims-grid h (e ∷ es) net all before t is =
      claims-grid (h ++ e ∷ []) es net (All-tail (IsOpenClaim d given) e es all)
      (λ u there. grid-once net (booked h net) e (All-head (IsOpenClaim d given) e es all) before u (sym (booked-push h e net) ∙ there)) t
      (ap (λ (k : List Entry). booked k net) (append_assoc h (e ∷ []) es) ∙ is)

  given-grid : AreGridTrees d given → (net : ℕ) (t : TreeView) → booked (given_claims d given) net ≡ Some t → IsGridTree d t
  given-grid trees net t is = by (is_routed d net) (sym (given-booked d given net) ∙ is)
    where
      by : (b : Bool) → (if b then tree_at given net else None) ≡ Some t → IsGridTree d t
      by true there = trees net t there
      by false there = absurd (none-some t there)

  -- so behind the claims of open nets each other net has the tree that it was given, and all trees are in the grid
  pub firsts-kept : (firsts : List Entry) (net : ℕ) → All (IsOpenClaim d given) firsts → is_open d given net ≡ false →
      booked (given_claims d given ++ firsts) net ≡ given_to d given net
  firsts-kept firsts net all shut = claims-spare (given_claims d given) firsts net all shut ∙ given-booked d given net

  pub firsts-grid : (firsts : List Entry) (net : ℕ) → All (IsOpenClaim d given) firsts → AreGridTrees d given →
      (t : TreeView) → booked (given_claims d given ++ firsts) net ≡ Some t → IsGridTree d t
  firsts-grid firsts net all trees = claims-grid (given_claims d given) firsts net all (given-grid trees net)
