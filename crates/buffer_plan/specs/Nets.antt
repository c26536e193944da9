-- The routed nets of a design.
use Rattle.rc_library.specs.Libraries.{IsLibraryOf}
use Rattle.buffer_plan.specs.Plans.{AreRoutesOf}
use Rattle.buffer_plan.specs.declared.routed_nets.RoutedNets.{RoutedNets}

-- the library is one for the design, and each routed net has a tree that routes it
pub record HaveTrees (nets : RoutedNets) : Type 0 where
  pub library : IsLibraryOf nets.design.now nets.library.now
  pub routes : AreRoutesOf nets.design.now nets.routes.now
