-- The laws of the commands: what the texts that one writes say of its files.
use Rattle.std.proofs.Common.{◌≡◌, ℕ, Bool, List, Option, Some, None, Result, Ok, IsTrue, refl, sym, ap, subst, ◌∙◌}
use Rattle.command_form.specs.Commands.{IsLawful, checked}
use Rattle.command_form.specs.Ends.{LeavesFor}
use Rattle.command_form.specs.Said.{design_fault, library_fault, library_said, solution_fault}
use Rattle.command_form.specs.declared.stop.Outcome.{Outcome}
use Rattle.command_form.specs.declared.stop.Stop.{Stop}
use Rattle.command_form.proofs.EndLemmas.{IsLawfully}
use Rattle.command_form.proofs.LeavingLemmas.{open-whole}
use Rattle.design_maker.specs.declared.made.Made.{Made}
use Rattle.gr_base.specs.Designs.{DesignView}
use Rattle.gr_io.specs.Devices.{Device, IsUntouched, Reading, device_of}
use Rattle.ispd_reader.specs.declared.fault.DesignFault.{DesignFault as DesignFaultKind}
use Rattle.rc_library.specs.Libraries.{LibraryView}
use Rattle.rc_library.specs.declared.fault.LibraryFault.{LibraryFault as LibraryFaultKind}
use Rattle.route_reader.specs.Solutions.{SolutionView}
use Rattle.router_top.specs.Beginning.{beginning_files, IsBegunFrom}
use Rattle.router_top.specs.Orders.{asked_by}
use Rattle.router_top.specs.Routing.{routing}
use Rattle.router_top.specs.Trying.{trying}
use Rattle.router_top.specs.declared.beginning.Beginning.{Beginning}
use Rattle.router_top.specs.declared.kept.Kept.{Kept}
use Rattle.solution_text.specs.declared.fault.SolutionFault.{SolutionFault as SolutionFaultKind}
use Rattle.text_commands.proofs.BufferingLemmas.{buffering-lawful}
use Rattle.text_commands.proofs.JudgingLemmas.{judging-lawful}
use Rattle.text_commands.proofs.MakingLemmas.{making-lawful}
use Rattle.text_commands.proofs.TrackingLemmas.{tracking-lawful}
use Rattle.word_reader.specs.Orders.{Order, Route, Evaluate, Buffer, Make, Trial, Panels, Bound, named}
use Rattle.word_reader.specs.declared.order.Order.{Order as Given}
use Rattle.word_reader.specs.declared.order.Options.{Options}

-- what a solution's text says that was read
beginning-read : (shelf : Reading) (from : Option (List ℕ)) (d : DesignView) (b : Beginning) → IsBegunFrom shelf d from b → IsTrue shelf.tells →
    beginning_files shelf from d ≡ Some (Ok tt)
beginning-read shelf None d b begun tells = refl
beginning-read shelf (Some name) d b begun tells =
    ap (λ (o : Option (Result SolutionView (SolutionFaultKind × ℕ))). checked o solution_fault (λ s. Some (Ok tt))) (begun.said tells)

routing-accepts : (design library : List ℕ) (from : Option (List ℕ)) (options : Options) (shelf : Reading) (kept : Option Kept) (outcome : Outcome) (text report : List ℕ) →
    (routing design library from options).says shelf kept outcome text report → IsTrue shelf.tells →
    (routing design library from options).files shelf ≡ Some (Ok tt)
routing-accepts design library from options shelf None outcome text report says tells = absurd says.1
routing-accepts design library from options shelf (Some k) outcome text report says tells =
    ap (λ (o : Option (Result DesignView (DesignFaultKind × ℕ))). checked o design_fault (λ d. checked (library_said shelf.held library d) library_fault (λ lib. beginning_files shelf from d))) (says.1.said tells)
    ∙ ap (λ (o : Option (Result LibraryView (LibraryFaultKind × ℕ))). checked o library_fault (λ lib. beginning_files shelf from says.1.design)) (says.1.read tells)
    ∙ beginning-read shelf from says.1.design says.1.beginning says.1.begun tells

pub routing-lawful : (design library : List ℕ) (from : Option (List ℕ)) (options : Options) → IsLawful (routing design library from options)
routing-lawful design library from options = record {
  refuses = λ shelf stop refused. absurd refused;
  accepts = routing-accepts design library from options;
  opens = λ shelf kept text report says tells. absurd (open-whole says.0);
  closes = λ shelf kept text report says tells left. left;
  unkept = λ shelf kept text report says. absurd (open-whole says.0);
  refuses_read = λ shelf stop refused. absurd refused;
  opens_read = λ shelf kept text report says. absurd (open-whole says.0);
}

trying-lawful : (made : Made) (options : Options) → IsLawful (trying made options)
trying-lawful made options = record {
  refuses = λ shelf stop refused. absurd refused;
  accepts = λ shelf kept outcome text report says tells. refl;
  opens = λ shelf kept text report says tells. absurd (open-whole says.0);
  closes = λ shelf kept text report says tells left. left;
  unkept = λ shelf kept text report says. absurd (open-whole says.0);
  refuses_read = λ shelf stop refused. absurd refused;
  opens_read = λ shelf kept text report says. absurd (open-whole says.0);
}

pub asked-lawful : (order : Option Order) → IsLawfully (asked_by order)
asked-lawful None = tt
asked-lawful (Some (Route design library from options)) = routing-lawful design library from options
asked-lawful (Some (Evaluate design solution via_cost)) = judging-lawful design solution via_cost
asked-lawful (Some (Buffer design library solution)) = buffering-lawful design library solution
asked-lawful (Some (Make made)) = making-lawful made
asked-lawful (Some (Trial made options)) = trying-lawful made options
asked-lawful (Some (Panels design solution)) = tracking-lawful design solution
asked-lawful (Some (Bound design via_cost steps workers)) = tt

-- what the command of an order leaves, where it is given these devices
pub for-order : (given order : Given) (shelf : Reading) (out err : Device) (kept : Option Kept) (end : Result Outcome Stop) → order ≡ given →
    LeavesFor (asked_by (Some (named given))) shelf out err kept end → LeavesFor (asked_by (Some (named order))) shelf out err kept end
for-order given order shelf out err kept end is leaves =
    subst (λ (o : Given). LeavesFor (asked_by (Some (named o))) shelf out err kept end) (sym is) leaves

-- a sink that it isn't given
pub untouched : {E : Type 0} (tells : Bool) (faults : E → ℕ) (written : E → List ℕ) (err : E) → IsUntouched (device_of tells faults written err err)
untouched tells faults written err = record { faults = refl; written = λ told. refl }
