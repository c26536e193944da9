-- What was gathered of a text so far, beside what the grammar has read of it.
use Rattle.std.specs.Prelude.{◌≡◌, ℕ, ◌<◌, ◌==◌, Bool, true, false, List, [], length, slice_index_or, All, Option, Some, None, Result, Ok, Err, IfSome, IsTrue}
use Rattle.std.specs.List.{list_any}
use Rattle.gr_base.specs.Designs.{DesignView}
use Rattle.gr_text.specs.declared.source.ReadError.{ReadError}
use Rattle.gr_text.specs.declared.source.ReadError.TheVariants as reading
use Rattle.gr_text.specs.Tokens.{Place, AtEnd}
use Rattle.solution_text.specs.declared.fault.SolutionFault.{SolutionFault}
use Rattle.solution_text.specs.declared.run.Run.{Run}
use Rattle.solution_text.specs.Grammar.{Checked, Mode, Between, Named, First, Within, Progress}
use Rattle.route_reader.specs.declared.solution.Stretch.{Stretch}
use Rattle.route_reader.specs.declared.gathering.Position.{Position}
use Rattle.route_reader.specs.declared.gathering.Position.TheVariants as at
use Rattle.route_reader.specs.declared.gathering.Gathering.{Gathering}
use Rattle.route_reader.specs.declared.gathering.Refusal.{Refusal}
use Rattle.route_reader.specs.declared.gathering.Refusal.TheVariants.{Fault, NoMemory}
use Rattle.route_reader.specs.Solutions.{SolutionView, IsRun}
use Rattle.route_reader.specs.SolutionStore.{runs_between, IsStretch}
use Rattle.route_reader.specs.SolutionText.{Said, runs_of_net, end_of, solution_at, solution_from}

-- the place in a record, as the grammar has it
abbrev pub mode_of : List ℕ → Position → Mode
mode_of name at.Between = Between
mode_of name at.Named = Named name
mode_of name (at.First net) = First net
mode_of name (at.Within net) = Within net

-- the net whose record is in hand
abbrev pub net_in : Mode → Option ℕ
net_in Between = None
net_in (Named name) = None
net_in (First net) = Some net
net_in (Within net) = Some net

-- there is a flag and a stretch for each net, the stretches lie within the runs, and the runs are the grid's
pub record Fits (d : DesignView) (g : Gathering) : Type 0 where
  pub met : length g.met.items ≡ length d.nets
  pub stretches : length g.stretches.items ≡ length d.nets
  pub inside : All (IsStretch (length g.runs.items)) g.stretches.items
  pub runs : All (IsRun d.frame.shape) g.runs.items
  pub net : IfSome (net_in (mode_of g.name.items g.position)) (λ net. net < length d.nets)

-- the flags name the nets that have a record
abbrev pub Flags : (nets : ℕ) → List ℕ → List Bool → Type 0
Flags nets met flags =
    (net : ℕ) → (b : Bool) → net < nets → list_any (λ other. other == net) met ≡ slice_index_or flags net b

-- the runs of each net stand between the ends of its stretch
abbrev pub Stretches : (nets : ℕ) → List (ℕ × Run) → List Run → List Stretch → Type 0
Stretches nets found runs stretches =
    (net : ℕ) → (s : Stretch) → net < nets → runs_between runs (slice_index_or stretches net s) ≡ runs_of_net found net

-- the last run stands at the end of the stretch of the net whose record is in hand
abbrev pub Open : Mode → List Run → List Stretch → Type 0
Open mode runs stretches =
    IfSome (net_in mode) (λ net. (s : Stretch) → (slice_index_or stretches net s).end ≡ length runs)

-- what was gathered is what the grammar has read
pub record Gathers (d : DesignView) (s : Progress) (g : Gathering) : Type 0 where
  pub fits : Fits d g
  pub mode : s.mode ≡ mode_of g.name.items g.position
  pub met : Flags (length d.nets) s.met g.met.items
  pub stretches : Stretches (length d.nets) s.found g.runs.items g.stretches.items
  pub fresh : (net : ℕ) → list_any (λ other. other == net) s.met ≡ false → runs_of_net s.found net ≡ []
  pub current : IfSome (net_in s.mode) (λ net. list_any (λ other. other == net) s.met ≡ true)
  pub open_end : Open s.mode g.runs.items g.stretches.items

-- a token passes its checks, and what holds then; or its first check that fails has this fault
abbrev pub Steps : Checked Progress → (Progress → Type 0) → Result (Unit {0}) Refusal → Type 0
Steps read holds (Ok done) = (next : Progress) × (read ≡ Ok next) × holds next
Steps read holds (Err (Fault fault)) = read ≡ Err fault
Steps read holds (Err NoMemory) = Unit {0}

-- what the rest of a text says behind a step: more, or that the text ends here
abbrev pub rest_says : DesignView → Progress → Bool → Place → Said SolutionView
rest_says d s true place = solution_at d s place
rest_says d s false place = solution_from d (end_of s place.number AtEnd)

-- the next token was gathered, if there was one, and the text says what its rest says then; or it is at fault here
abbrev pub Takes : DesignView → Progress → (tells : Bool) → (before after : Place) → Gathering →
    Result Bool (ReadError SolutionFault) → Type 0
Takes d s tells before after g (Ok more) =
    (t : Progress) × Gathers d t g × (IsTrue tells → solution_at d s before ≡ rest_says d t more after)
Takes d s tells before after g (Err (reading.Fault fault token)) =
    IsTrue tells → solution_at d s before ≡ Err (fault, token)
Takes d s tells before after g (Err reading.Failed) = Unit {0}
Takes d s tells before after g (Err reading.NoMemory) = Unit {0}
