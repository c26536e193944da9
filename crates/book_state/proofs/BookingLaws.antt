-- The laws of replies and bookings.
use Rattle.std.proofs.Common.{◌≡◌, ◌↔◌, ℕ, Bool, true, false, List, [], ◌∷◌, ◌++◌, Option, Some, None, is_some, IsSome, IsTrue, if◌then◌else◌, refl, sym, ap, ◌∙◌}
use Rattle.std.proofs.lemmas.Bool.{both_ways}
use Rattle.std.proofs.lemmas.List.Sums.{fold_push}
use Rattle.gr_base.specs.Trees.{TreeView}
use Rattle.gr_base.specs.declared.grid.Edge.{Edge}
use Rattle.grid_demand.specs.Tables.{CapacityView}
use Rattle.book_state.proofs.BookSteps.{demand-same}
use Rattle.book_state.specs.Books.{booked, demand, is_crowded, reply_by_full, reply_to_free, reply_to_claim}
use Rattle.book_state.specs.Cuts.{cut, cut_after, uncut}
use Rattle.book_state.specs.declared.entry.Claim.{Claim}
use Rattle.book_state.specs.declared.entry.Entry.{Entry}
use Rattle.book_state.specs.declared.entry.Reply.{Reply}
use Rattle.book_state.specs.declared.entry.Reply.TheVariants.{Claimed, Taken, Full}

-- a net that isn't booked is never answered Taken
full-untaken : (demands : Edge → ℕ) (o : Option Edge) → reply_by_full demands o ≡ Taken → ⊥
full-untaken demands None is = cc
full-untaken demands (Some e) is = cc

free-untaken : (c : CapacityView) (demands : Edge → ℕ) (claim : Claim) (slack : Option ℕ) → reply_to_free c demands claim slack ≡ Taken → ⊥
free-untaken c demands claim None is = cc
free-untaken c demands claim (Some slack) is = full-untaken demands _ is

pub taken-booked : (c : CapacityView) (h : List Entry) (claim : Claim) → (reply_to_claim c h claim ≡ Taken) ↔ IsSome (booked h claim.net)
taken-booked c h claim = (λ is. to (is_some (booked h claim.net)) refl is, λ some. ap (λ (b : Bool). if b then Taken else reply_to_free c (demand c h) claim claim.slack) some)
  where
    to : (b : Bool) → is_some (booked h claim.net) ≡ b → (if is_some (booked h claim.net) then Taken else reply_to_free c (demand c h) claim claim.slack) ≡ Taken → is_some (booked h claim.net) ≡ true
    to true is said = is
    to false is said =
        absurd (free-untaken c (demand c h) claim claim.slack
        (sym (ap (λ (b : Bool). if b then Taken else reply_to_free c (demand c h) claim claim.slack) is) ∙ said))

-- a claim without a slack is never answered Full
pub unbounded : (c : CapacityView) (h : List Entry) (claim : Claim) → claim.slack ≡ None → (e : Edge) (n : ℕ) → reply_to_claim c h claim ≡ Full e n → ⊥
unbounded c h claim none e n is =
    let P : Option ℕ → Reply = λ slack. if is_some (booked h claim.net) then Taken else reply_to_free c (demand c h) claim slack in
    never (is_some (booked h claim.net)) (ap P (sym none) ∙ is)
  where
    never : (b : Bool) → (if b then Taken else Claimed) ≡ Full e n → ⊥
    never true said = cc
    never false said = cc

pub mark-demand : (c : CapacityView) (h : List Entry) (e : Entry) (edge : Edge) → ((net : ℕ) → booked (h ++ e ∷ []) net ≡ booked h net) → demand c (h ++ e ∷ []) edge ≡ demand c h edge
mark-demand c h e edge same = demand-same c h (h ++ e ∷ []) edge same

-- a victim is booked
crowded-some : (c : CapacityView) (demands : Edge → ℕ) (o : Option TreeView) → IsTrue (is_crowded c demands o) → is_some o ≡ true
crowded-some c demands None is = absurd (both_ways false refl is)
crowded-some c demands (Some t) is = refl

pub victim-booked : (c : CapacityView) (h : List Entry) (net : ℕ) → IsTrue (is_crowded c (demand c h) (booked h net)) → IsSome (booked h net)
victim-booked c h net is = crowded-some c (demand c h) (booked h net) is

-- the cut of a history with one more entry
pub cut-push : (h : List Entry) (e : Entry) → cut (h ++ e ∷ []) ≡ cut_after (cut h) e
unfolding cut
cut-push h e = fold_push cut_after uncut h e
