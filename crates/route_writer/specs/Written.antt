-- What a call that writes routes leaves on a sink that tells its bytes.
use Rattle.std.specs.Prelude.{◌≡◌, ℕ, Bool, List, ◌++◌, Option, IsTrue}
use Rattle.gr_base.specs.Designs.{DesignView}
use Rattle.gr_base.specs.Trees.{TreeView}
use Rattle.gr_io.specs.Parts.{AppendsPart}
use Rattle.route_writer.specs.RouteTexts.{routes_text}

-- the sink gained the text of the routes
abbrev pub AddsRoutes : {K : Type 0} → Bool → (K → List ℕ) → DesignView → List (Option TreeView) → (old new : K) → Type 0
AddsRoutes tells written d trees old new = IsTrue tells → written new ≡ written old ++ routes_text d trees

-- the sink gained a first part of it, and no more
abbrev pub AddsPart : {K : Type 0} → Bool → (K → List ℕ) → DesignView → List (Option TreeView) → (old new : K) → Type 0
AddsPart tells written d trees old new = IsTrue tells → AppendsPart (written old) (written new) (routes_text d trees)
