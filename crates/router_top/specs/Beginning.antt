-- What a design's rounds begin from, and how that is told.
use Rattle.std.specs.Prelude.{◌≡◌, ℕ, false, true, List, [], Option, Some, None, Result, Ok, Err, is_some, length, count_by, if◌then◌else◌, IsTrue, IsSomeAnd, codes}
use Rattle.std.specs.List.{range_with_len}
use Rattle.gr_base.specs.Designs.{DesignView}
use Rattle.gr_base.specs.Trees.{TreeView, tree_at}
use Rattle.gr_io.specs.Devices.{Reading}
use Rattle.gr_io.specs.declared.shelf.Slot.TheVariants.{Solution}
use Rattle.gr_text.specs.Lines.{number_line}
use Rattle.command_form.specs.Commands.{checked}
use Rattle.command_form.specs.Opening.{Opens}
use Rattle.command_form.specs.Said.{solution_fault, solution_said}
use Rattle.command_form.specs.declared.stop.Stop.{Stop}
use Rattle.command_form.specs.declared.stop.Stop.TheVariants.{NoMemory}
use Rattle.kept_routes.specs.Kept.{AreKept}
use Rattle.route_reader.specs.Solutions.{SolutionView, edges_by}
use Rattle.router_top.specs.declared.beginning.Beginning.{Beginning}
use Rattle.solution_text.specs.Cover.{cover}

-- the trees of the nets that can be kept as a solution that was read routes them; where the shelf tells, as its bytes
-- cover them
pub record IsFromSolution (shelf : Reading) (d : DesignView) (name : List ℕ) (b : Beginning) : Type 0 where
  pub told : b.from_solution ≡ true
  pub solution : SolutionView
  pub said : IsTrue shelf.tells → solution_said shelf.held name d ≡ Some (Ok solution)
  pub kept : AreKept d (edges_by solution) b.given
  pub covered : IsTrue shelf.tells → IsSomeAnd (shelf.held Solution name) (λ bytes. AreKept d (cover d bytes) b.given)

-- no net is given a tree, where no solution is named
abbrev pub IsBegunFrom : Reading → DesignView → (from : Option (List ℕ)) → Beginning → Type 0
IsBegunFrom shelf d None b = (b.from_solution ≡ false) × (b.given ≡ [])
IsBegunFrom shelf d (Some name) b = IsFromSolution shelf d name b

-- what the solution's text says, where one is named: all is well, or its first fault
abbrev pub beginning_files : Reading → (from : Option (List ℕ)) → DesignView → Option (Result (Unit {0}) Stop)
beginning_files shelf None d = Some (Ok tt)
beginning_files shelf (Some name) d = checked (solution_said shelf.held name d) solution_fault (λ s. Some (Ok tt))

-- how many nets are given a tree
abbrev pub kept_nets : DesignView → List (Option TreeView) → ℕ
kept_nets d given = count_by (λ net. is_some (tree_at given net)) (range_with_len 0 (length d.nets))

-- the line that tells it, where rounds begin from a solution
abbrev pub kept_told : DesignView → Beginning → List ℕ
kept_told d b = if b.from_solution then number_line (codes "kept") (kept_nets d b.given) else []

-- what rounds begin from, or why it wasn't read
abbrev pub OpensBeginning : Reading → DesignView → (from : Option (List ℕ)) → Result Beginning Stop → Type 0
OpensBeginning shelf d from (Ok b) =
    (shelf.faults_after ≡ shelf.faults) × (shelf.misses_after ≡ shelf.misses) × IsBegunFrom shelf d from b
OpensBeginning shelf d None (Err stop) = stop ≡ NoMemory
OpensBeginning shelf d (Some name) (Err stop) =
    Opens {V = SolutionView} shelf (shelf.held Solution name) (solution_said shelf.held name d) solution_fault (Err stop)
