-- At each mark exactly the routed nets are booked, each by a tree that routes it.
use Rattle.std.proofs.Common.{◌≡◌, ◌⊎◌, ℕ, ◌≤◌, inl, inr, Bool, true, false, ◌==◌, List, [], ◌∷◌, ◌++◌, length, take, Option, Some, None, slice_get, if◌then◌else◌, IsTrue, refl, sym, subst, ◌∙◌, arith}
use Rattle.std.proofs.lemmas.Bool.Decides.{nat_tests}
use Rattle.std.proofs.lemmas.Option.{none-some, same_Some, slice_get_within}
use Rattle.gr_base.proofs.General.{some-and, is-some}
use Rattle.gr_base.specs.Plans.{IsRouteOfNet}
use Rattle.gr_base.specs.Trees.{TreeView}
use Rattle.book_state.proofs.BookSteps.{booked-none, booked-push}
use Rattle.book_state.specs.Books.{booked_by, booked}
use Rattle.book_state.specs.Entries.{AtEach, is_mark}
use Rattle.book_state.specs.declared.entry.Call.{Call}
use Rattle.book_state.specs.declared.entry.Call.TheVariants.{Claim as Claims, Release, Mark}
use Rattle.book_state.specs.declared.entry.Claim.{Claim}
use Rattle.book_state.specs.declared.entry.Entry.{Entry}
use Rattle.book_state.specs.declared.entry.Reply.{Reply}
use Rattle.book_state.specs.declared.entry.Reply.TheVariants.{Claimed, Taken, Full, Released, NotBooked, Marked}
use Rattle.run_histories.specs.RunHistories.{Setting, IsPlanned, AreAttempts}
use Rattle.run_histories.specs.Standing.{Stands}
use Rattle.run_histories.proofs.CutSteps.{each-part}
use Rattle.run_histories.proofs.JoiningLaw.{attempts-in_order}

-- a net's tree is that of a claim of the net
pub record IsClaimedBy (net : ℕ) (call : Call) (t : TreeView) : Type 0 where
  pub claim : Claim
  pub call_is : call ≡ Claims claim
  pub net_is : claim.net ≡ net
  pub tree_is : claim.tree ≡ t

-- a tree that is booked after a call was booked before, or is the call's
by-claimed : (net : ℕ) (old : Option TreeView) (claim : Claim) (t : TreeView) (b : Bool) → (claim.net == net) ≡ b → (if b then Some claim.tree else old) ≡ Some t →
    (old ≡ Some t) ⊎ IsClaimedBy net (Claims claim) t
by-claimed net old claim t true test is =
    inr (record { claim = claim; call_is = refl; net_is = grind (arith, nat_tests); tree_is = same_Some claim.tree t is })
by-claimed net old claim t false test is = inl is

by-released : (old : Option TreeView) (t : TreeView) (b : Bool) → (if b then None else old) ≡ Some t → old ≡ Some t
by-released old t true is = absurd (none-some t is)
by-released old t false is = is

booked-from : (net : ℕ) (old : Option TreeView) (call : Call) (reply : Reply) (t : TreeView) → booked_by net old call reply ≡ Some t → (old ≡ Some t) ⊎ IsClaimedBy net call t
booked-from net old (Claims claim) Claimed t is = by-claimed net old claim t (claim.net == net) refl is
booked-from net old (Claims claim) Taken t is = inl is
booked-from net old (Claims claim) (Full edge demand) t is = inl is
booked-from net old (Claims claim) Released t is = inl is
booked-from net old (Claims claim) NotBooked t is = inl is
booked-from net old (Claims claim) (Marked overflow) t is = inl is
booked-from net old (Release other) Claimed t is = inl is
booked-from net old (Release other) Taken t is = inl is
booked-from net old (Release other) (Full edge demand) t is = inl is
booked-from net old (Release other) Released t is = inl (by-released old t (other == net) is)
booked-from net old (Release other) NotBooked t is = inl is
booked-from net old (Release other) (Marked overflow) t is = inl is
booked-from net old Mark reply t is = inl is

-- booked trees route their nets
trees-route : (t : Setting) (h : List Entry) → AtEach (λ before e. (claim : Claim) → e.call ≡ Claims claim → IsPlanned t before e.number claim) h →
    (n : ℕ) → n ≤ length h → (net : ℕ) (tree : TreeView) → booked (take n h) net ≡ Some tree → IsRouteOfNet t.design net tree
trees-route t h plans n most = each-part (λ (k : List Entry). (net : ℕ) (tree : TreeView) → booked k net ≡ Some tree → IsRouteOfNet t.design net tree) h none more n most
  where
    none : (net : ℕ) (tree : TreeView) → booked [] net ≡ Some tree → IsRouteOfNet t.design net tree
    none net tree is = absurd (none-some tree (sym (booked-none net) ∙ is))

    more : (p : ℕ) (e : Entry) → slice_get h p ≡ Some e → ((net : ℕ) (tree : TreeView) → booked (take p h) net ≡ Some tree → IsRouteOfNet t.design net tree) →
        (net : ℕ) (tree : TreeView) → booked (take p h ++ e ∷ []) net ≡ Some tree → IsRouteOfNet t.design net tree
    more p e there before net tree is =
        elim (booked-from net (booked (take p h) net) e.call e.reply tree (sym (booked-push (take p h) e net) ∙ is)) [
          | inl old ↦ before net tree old
          | inr new ↦
              subst (λ (k : TreeView). IsRouteOfNet t.design net k) new.tree_is
              (subst (λ (k : ℕ). IsRouteOfNet t.design k new.claim.tree) new.net_is (plans p e there new.claim new.call_is).tree.routes)
        ]

pub attempts-stand : (t : Setting) (h : List Entry) → AreAttempts t h → AtEach (λ before e. IsTrue (is_mark e) → Stands t.design before) h
attempts-stand t h attempts = λ p e there mark.
    let all = (attempts-in_order t h attempts p e there).held mark in
    let within = slice_get_within h p e there in
    record {
      held = λ net routed.
          let booked_is = is-some (booked (take p h) net) (all.held net routed) in
          some-and (IsRouteOfNet t.design net) (booked (take p h) net) booked_is.0 booked_is.1
          (trees-route t h attempts.plans p (omega (arith, within)) net booked_is.0 booked_is.1);
      free = all.off;
    }
