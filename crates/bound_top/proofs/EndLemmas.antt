-- Which statuses come, and that out gained nothing where memory was wanting.
use Rattle.std.proofs.Common.{◌≡◌, ℕ, inl, inr, nat_eq, [], ◌∷◌, Option, Some, None, Result, Ok, Err, IsTrue, refl, sym, ap, subst, ◌∙◌, arith}
use Rattle.std.specs.List.{list_any}
use Rattle.gr_io.specs.Devices.{Device, Reading, IsUntouched}
use Rattle.gr_io.specs.declared.shelf.Slot.TheVariants.{Design, Library, Solution}
use Rattle.command_form.specs.Ends.{LeavesFor}
use Rattle.command_form.specs.Leaving.{Leaves}
use Rattle.command_form.specs.Stops.{status_of, Finishes, IsToldOrNot}
use Rattle.command_form.specs.declared.stop.Outcome.{Outcome}
use Rattle.command_form.specs.declared.stop.Outcome.TheVariants.{Whole, Open}
use Rattle.command_form.specs.declared.stop.Stop.{Stop}
use Rattle.command_form.specs.declared.stop.Stop.TheVariants.{Usage, Fault, NotTree, ReadFailed, WriteFailed, NoMemory}
use Rattle.command_form.proofs.LeavingLemmas.{open-whole}
use Rattle.word_reader.specs.Orders.{Order, Route, Evaluate, Buffer, Make, Trial, Panels, Bound}
use Rattle.word_reader.specs.declared.program.Program.{Program}
use Rattle.bound_top.specs.Bounding.{asked_by, bounding, IsUnwritten, LeavesNoPart}

abbrev is_known : ℕ → Type 0
is_known status = IsTrue (list_any (nat_eq status) (0 ∷ 2 ∷ 3 ∷ 6 ∷ 7 ∷ 8 ∷ []))

-- a known status, where out gained nothing or it isn't 8
at-status : (out : Device) (status known : ℕ) → status ≡ known → is_known known → (known ≡ 8 → IsUntouched out) → LeavesNoPart out status
at-status out status known is among unwritten = record {
  known = subst is_known (sym is) among;
  unwritten = λ wants. unwritten (sym is ∙ wants);
}

-- a stop that was told
at-stop : (out : Device) (stop told : Stop) (status : ℕ) → told ≡ stop → status ≡ status_of told → is_known (status_of stop) →
    (status_of stop ≡ 8 → IsUntouched out) → LeavesNoPart out status
at-stop out stop told status same is among unwritten = at-status out status (status_of stop) (is ∙ ap status_of same) among unwritten

module _ (program : Program) (shelf : Reading) (out err told_err : Device) where
  -- or of which nobody was told for want of memory
  told-or-not : (stop told : Stop) (status : ℕ) → IsToldOrNot program told_err stop told → status ≡ status_of told → is_known (status_of stop) →
      IsUntouched out → LeavesNoPart out status
  told-or-not stop told status is_told is among unwritten =
      elim is_told [
        | inl h ↦ at-stop out stop told status h.0 is among (λ same. unwritten)
        | inr h ↦ at-stop out NoMemory told status h.0 is refl (λ same. unwritten)
      ]

  by-end : (design : _) (via_cost steps : ℕ) (end : Result Outcome Stop) (status : ℕ) → Leaves (bounding design via_cost steps) shelf out err None end →
      IsUnwritten out end → Finishes program told_err end status → LeavesNoPart out status
  by-end design via_cost steps (Ok Whole) status leaves unwritten is = at-status out status 0 is.0 refl (λ same. absurd (omega (arith, same)))
  by-end design via_cost steps (Ok Open) status leaves unwritten is = absurd (open-whole leaves.says.2.bounds.whole)
  by-end design via_cost steps (Err Usage) status leaves unwritten is = absurd leaves
  by-end design via_cost steps (Err (Fault Design number token)) status leaves unwritten is =
      told-or-not (Fault Design number token) is.0 status is.1 is.2 refl leaves.0.unwritten
  by-end design via_cost steps (Err (Fault Library number token)) status leaves unwritten is = absurd (let read = leaves.0.read in cc)
  by-end design via_cost steps (Err (Fault Solution number token)) status leaves unwritten is = absurd (let read = leaves.0.read in cc)
  by-end design via_cost steps (Err (NotTree id)) status leaves unwritten is = absurd leaves.0.refuses
  by-end design via_cost steps (Err ReadFailed) status leaves unwritten is = at-stop out ReadFailed is.0 status is.1.0 is.2 refl (λ same. leaves.0.unwritten)
  by-end design via_cost steps (Err WriteFailed) status leaves unwritten is = at-stop out WriteFailed is.0 status is.1.0 is.2 refl (λ same. absurd (omega (arith, same)))
  by-end design via_cost steps (Err NoMemory) status leaves unwritten is = at-stop out NoMemory is.0 status is.1.0 is.2 refl (λ same. unwritten)

  -- words that ask for nothing
  by-usage : (end : Result Outcome Stop) (status : ℕ) → end ≡ Err Usage → IsUntouched out → Finishes program told_err end status → LeavesNoPart out status
  by-usage end status is unwritten finishes =
      let usage : Finishes program told_err (Err Usage) status = subst (λ (e : Result Outcome Stop). Finishes program told_err e status) is finishes in
      at-stop out Usage usage.0 status usage.1.0 usage.2 refl (λ same. unwritten)

  pub no-part : (order : Option Order) (end : Result Outcome Stop) (status : ℕ) → LeavesFor (asked_by order) shelf out err None end →
      IsUnwritten out end → Finishes program told_err end status → LeavesNoPart out status
  no-part None end status leaves unwritten is = by-usage end status leaves.0 leaves.1 is
  no-part (Some (Route design library from options)) end status leaves unwritten is = by-usage end status leaves.0 leaves.1 is
  no-part (Some (Evaluate design solution via_cost)) end status leaves unwritten is = by-usage end status leaves.0 leaves.1 is
  no-part (Some (Buffer design library solution)) end status leaves unwritten is = by-usage end status leaves.0 leaves.1 is
  no-part (Some (Make made)) end status leaves unwritten is = by-usage end status leaves.0 leaves.1 is
  no-part (Some (Trial made options)) end status leaves unwritten is = by-usage end status leaves.0 leaves.1 is
  no-part (Some (Panels design solution)) end status leaves unwritten is = by-usage end status leaves.0 leaves.1 is
  no-part (Some (Bound design via_cost steps workers)) end status leaves unwritten is = by-end design via_cost steps end status leaves unwritten is
