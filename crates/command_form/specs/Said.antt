-- What the texts that are held under names say, and the stops at their faults.
use Rattle.std.specs.Prelude.{ℕ, List, Option, Result}
use Rattle.std.specs.Option.{option_map}
use Rattle.gr_base.specs.Designs.{DesignView}
use Rattle.gr_io.specs.declared.shelf.Slot.TheVariants.{Design, Library, Solution}
use Rattle.ispd_reader.specs.DesignText.{design_of}
use Rattle.ispd_reader.specs.declared.fault.DesignFault.{DesignFault as Fault}
use Rattle.rc_library.specs.Libraries.{LibraryView}
use Rattle.rc_library.specs.LibraryText.{library_of}
use Rattle.rc_library.specs.declared.fault.LibraryFault.{LibraryFault}
use Rattle.route_reader.specs.Solutions.{SolutionView}
use Rattle.route_reader.specs.SolutionText.{solution_of}
use Rattle.solution_text.specs.declared.fault.SolutionFault.{SolutionFault}
use Rattle.gr_io.specs.declared.shelf.Slot.{Slot}
use Rattle.ispd_reader.specs.Faults.{fault_number as design_number}
use Rattle.rc_library.specs.Faults.{fault_number as library_number}
use Rattle.solution_text.specs.Faults.{fault_number as solution_number}
use Rattle.command_form.specs.Stops.{fault_of}
use Rattle.command_form.specs.declared.stop.Stop.{Stop}

-- what the text that is held under a name says: a design or its first fault; None where the name isn't held
abbrev pub design_said : (held : Slot → List ℕ → Option (List ℕ)) → List ℕ → Option (Result DesignView (Fault × ℕ))
design_said held name = option_map design_of (held Design name)

-- likewise of a library for a design
abbrev pub library_said : (held : Slot → List ℕ → Option (List ℕ)) → List ℕ → DesignView →
    Option (Result LibraryView (LibraryFault × ℕ))
library_said held name d = option_map (library_of d) (held Library name)

-- and of a solution
abbrev pub solution_said : (held : Slot → List ℕ → Option (List ℕ)) → List ℕ → DesignView →
    Option (Result SolutionView (SolutionFault × ℕ))
solution_said held name d = option_map (solution_of d) (held Solution name)

-- the stops at the faults of the three texts
abbrev pub design_fault : Fault → ℕ → Stop
design_fault = fault_of Design design_number

abbrev pub library_fault : LibraryFault → ℕ → Stop
library_fault = fault_of Library library_number

abbrev pub solution_fault : SolutionFault → ℕ → Stop
solution_fault = fault_of Solution solution_number
