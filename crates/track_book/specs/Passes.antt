-- What passes know of a shared book, and what calls make of it.
use Rattle.std.specs.Prelude.{◌≡◌, ℕ, ◌<◌, List, [], ◌∷◌, ◌++◌, length, All, Some, slice_get, Result, IfOk, IfErr, OnErr}
use mathlib.Core.List.{IsPrefix}
use Rattle.atomic_table.specs.Seated.{TableId}
use Rattle.book_state.specs.Books.{IsLegal}
use Rattle.book_state.specs.Entries.{calls_of}
use Rattle.book_state.specs.Views.{entry_of}
use Rattle.book_state.specs.declared.book.ClaimRefused.{ClaimRefused}
use Rattle.book_state.specs.declared.entry.Call.{Call}
use Rattle.book_state.specs.declared.entry.Call.TheVariants.{Claim as Claims}
use Rattle.book_state.specs.declared.entry.Claim.{Claim}
use Rattle.book_state.specs.declared.entry.Entry.{Entry}
use Rattle.book_state.specs.declared.entry.Reply.{Reply}
use Rattle.grid_demand.specs.Tables.{CapacityView}

-- a pass: its number, the first part of the history that it has seen, and its own entries; and how many entries of
-- that part it holds itself
pub record PassView : Type 0 where
  pub number : ℕ
  pub seen : List Entry
  pub mine : List Entry
  pub held : ℕ

-- what is true of every pass: it has seen a legal history, in which its own entries are those of its number
pub record IsPass (c : CapacityView) (p : PassView) : Type 0 where
  pub legal : IsLegal c p.seen
  pub calls : p.mine ≡ calls_of p.number p.seen

-- a history with one more call and its reply
abbrev pub with_answer : List Entry → ℕ → Call → Reply → List Entry
with_answer h number call reply = h ++ entry_of number call reply ∷ []

-- after a call the pass has seen a legal history that begins with what it had seen and ends with the call and its
-- reply, and its own entries grew by this one alone
pub record IsAnswered (c : CapacityView) (old new : PassView) (call : Call) (reply : Reply) : Type 0 where
  pub before : List Entry
  pub begins : IsPrefix old.seen before
  pub seen : new.seen ≡ with_answer before old.number call reply
  pub mine : new.mine ≡ with_answer old.mine old.number call reply
  pub number : new.number ≡ old.number
  pub legal : IsLegal c new.seen

-- the pass has seen a legal history that begins with what it had seen, and has added nothing
pub record HasLearnt (c : CapacityView) (old new : PassView) : Type 0 where
  pub begins : IsPrefix old.seen new.seen
  pub mine : new.mine ≡ old.mine
  pub number : new.number ≡ old.number
  pub legal : IsLegal c new.seen

-- a pass that has seen nothing
pub record IsNew (number : ℕ) (p : PassView) : Type 0 where
  pub number_is : p.number ≡ number
  pub seen : p.seen ≡ []
  pub mine : p.mine ≡ []

-- the passes of a book that has just begun
pub record AreBegun (passes : ℕ) (all : List PassView) : Type 0 where
  pub count : length all ≡ passes
  pub each : (at : ℕ) (p : PassView) → slice_get all at ≡ Some p → IsNew at p

-- all passes of a book, by number
pub record AreAll (passes : ℕ) (all : List PassView) : Type 0 where
  pub count : length all ≡ passes
  pub each : (at : ℕ) (p : PassView) → slice_get all at ≡ Some p → p.number ≡ at

-- what a pass had seen begins the history, and its own entries are all of its number there
pub record IsIn (h : List Entry) (p : PassView) : Type 0 where
  pub begins : IsPrefix p.seen h
  pub mine : p.mine ≡ calls_of p.number h

-- the history is legal; what each pass had seen begins it, and its entries are those of the passes
pub record IsClosed (c : CapacityView) (all : List PassView) (h : List Entry) : Type 0 where
  pub legal : IsLegal c h
  pub passes : (at : ℕ) (p : PassView) → slice_get all at ≡ Some p → IsIn h p
  pub numbers : All (λ (e : Entry). e.number < length all) h

-- a book that isn't begun: its word, the capacity of its design, and how many passes it has
pub record BlankView : Type 0 where
  pub word : TableId
  pub capacity : CapacityView
  pub passes : ℕ

-- a claim has its answer, or comes back for want of memory and leaves the pass as it was
pub record IsClaimMade (c : CapacityView) (old new : PassView) (claim : Claim) (result : Result Reply ClaimRefused)
    : Type 0 where
  pub reply : IfOk result (λ reply. IsAnswered c old new (Claims claim) reply)
  pub err : OnErr result (new ≡ old)
  pub back : IfErr result (λ refused. refused.claim ≡ claim)
