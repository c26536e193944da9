-- The entries of histories.
use Rattle.std.specs.Prelude.{◌≡◌, ℕ, Bool, true, false, ◌==◌, List, take, Option, Some, None, slice_get}
use Rattle.std.specs.List.{filter}
use Rattle.book_state.specs.declared.entry.Call.{Call}
use Rattle.book_state.specs.declared.entry.Call.TheVariants.{Claim as Claims, Mark}
use Rattle.book_state.specs.declared.entry.Entry.{Entry}
use Rattle.book_state.specs.declared.entry.PlanKind.{PlanKind}
use Rattle.book_state.specs.declared.entry.PlanKind.TheVariants.{Given}
use Rattle.book_state.specs.declared.entry.Reply.{Reply}
use Rattle.book_state.specs.declared.entry.Reply.TheVariants.{Full}

-- the call is a mark
abbrev pub is_mark_call : Call → Bool
is_mark_call Mark = true
is_mark_call _ = false

abbrev pub is_mark : Entry → Bool
is_mark e = is_mark_call e.call

abbrev pub is_claim_call : Call → Bool
is_claim_call (Claims claim) = true
is_claim_call _ = false

-- the call claims a tree that was given
abbrev pub is_given_kind : PlanKind → Bool
is_given_kind Given = true
is_given_kind _ = false

abbrev pub is_given_call : Call → Bool
is_given_call (Claims claim) = is_given_kind claim.kind
is_given_call _ = false

abbrev pub is_given : Entry → Bool
is_given e = is_given_call e.call

-- the reply says that a claim found no room
abbrev pub is_full_reply : Reply → Bool
is_full_reply (Full edge demand) = true
is_full_reply _ = false

-- P holds of each entry and the history before it
abbrev pub AtEach : (List Entry → Entry → Type 0) → List Entry → Type 0
AtEach P h = (p : ℕ) → (e : Entry) → slice_get h p ≡ Some e → P (take p h) e

-- the entry at a place is a mark's
abbrev pub is_mark_in : Option Entry → Bool
is_mark_in None = false
is_mark_in (Some e) = is_mark e

abbrev pub is_mark_at : List Entry → ℕ → Bool
is_mark_at h p = is_mark_in (slice_get h p)

-- the entries of a history that a number added, in order
abbrev pub calls_of : ℕ → List Entry → List Entry
calls_of number h = filter (λ (e : Entry). e.number == number) h
