-- The order that words give.
use Rattle.std.specs.Prelude.{◌≡◌, ℕ, ◌≤◌, Bool, ◌&&◌, ◌||◌, ◌==◌, true, false, nat_le, List, [], ◌∷◌, length, get_or, Option, Some, None, Result, Ok, Err, slice_get, IfSome, if◌then◌else◌}
use Rattle.std.specs.Borrow.{Bor}
use Rattle.std.specs.Option.{option_map, option_map_or, option_and_then}
use Rattle.std.specs.List.{list_all}
use Rattle.cost_rules.specs.declared.site.Formula.{Formula}
use Rattle.cost_rules.specs.declared.site.Formula.TheVariants.{First, Steep, Flat, Near}
use Rattle.design_maker.specs.Ranges.{is_made, IsMade}
use Rattle.design_maker.specs.declared.made.Made.{Made}
use Rattle.design_maker.specs.Ranges.{most_made_nets, most_side}
use Rattle.gr_base.specs.Limits.{most_layers, most_rounds, most_workers}
use Rattle.gr_text.specs.Numbers.{natural_in}
use Rattle.word_reader.specs.Forms.{command_of, command_row, has, every_option, option_row, most_batch, most_steps, most_via_cost}
use Rattle.word_reader.specs.Numbers.{most_digits, most_number}
use Rattle.word_reader.specs.Sorting.{Sorted, sorted}
use Rattle.word_reader.specs.Values.{Value, Absent, Choice, Count, Named, Present, number_of, value_of}
use Rattle.word_reader.specs.declared.error.WordError.{WordError}
use Rattle.word_reader.specs.declared.error.WordError.TheVariants.{Usage}
use Rattle.word_reader.specs.declared.form.Command.{Command}
use Rattle.word_reader.specs.declared.form.Command.TheVariants.{Route as Routes, Evaluate as Evaluates, Buffer as Buffers, Make as Makes, Trial as Tries, Panels as Tracks, Bound as Bounds}
use Rattle.word_reader.specs.declared.form.OptionKind.{OptionKind}
use Rattle.word_reader.specs.declared.form.OptionKind.TheVariants.{Workers, ViaCost, Batch, Rule, Stop, From, Trace, Steps}
use Rattle.word_reader.specs.declared.order.Options.{Options}
use Rattle.word_reader.specs.declared.order.Order.{Order as Given}
use Rattle.word_reader.specs.declared.order.Stopping.{Stopping}
use Rattle.word_reader.specs.declared.order.Stopping.TheVariants.{Never, Still, Goal}
use Rattle.word_reader.specs.declared.program.Program.{Program}
use Rattle.word_reader.specs.declared.program.Program.TheVariants.{Groute, Grbound}
use Rattle.word_reader.specs.declared.sorted.Next.TheVariants.{Any}

-- what words ask for, with the names of the texts that it needs
pub data Order : Type 0 where
  Route : (design library : List ℕ) → (from : Option (List ℕ)) → Options → Order
  Evaluate : (design solution : List ℕ) → (via_cost : ℕ) → Order
  Buffer : (design library solution : List ℕ) → Order
  Make : Made → Order
  Trial : Made → Options → Order
  Panels : (design solution : List ℕ) → Order
  Bound : (design : List ℕ) → (via_cost steps workers : ℕ) → Order

infixl 10 ◌>>=◌
abbrev ◌>>=◌ : {A B : Type 0} → Option A → (A → Option B) → Option B
o >>= f = option_and_then f o

-- a positional, counted from 0
abbrev pub positional : Sorted → ℕ → List ℕ
positional sorted number = get_or sorted.positionals number []

-- how often an option may stand
abbrev pub most_times : Command → OptionKind → ℕ
most_times command option = if has command option then 1 else 0

abbrev pub suits : Command → Sorted → OptionKind → Bool
suits command sorted option = nat_le (length (sorted.values option)) (most_times command option)

-- each option that is given is one of the command's, and stands once
abbrev pub has_all : Command → Sorted → Bool
has_all command sorted = list_all (suits command sorted) every_option

-- an option isn't given
abbrev pub is_absent : Sorted → OptionKind → Bool
is_absent sorted option = length (sorted.values option) == 0

-- an option isn't given beside the one that it excludes
abbrev pub agrees : Sorted → OptionKind → Bool
agrees sorted option =
    option_map_or (λ other. is_absent sorted option || is_absent sorted other) (option_row option).excludes true

-- no option is given beside one that it excludes
abbrev pub go_together : Sorted → Bool
go_together sorted = list_all (agrees sorted) every_option

-- there are as many positionals as the command has
abbrev pub fills : Command → Sorted → Bool
fills command sorted = length sorted.positionals == (command_row command).positionals

-- the words are as many positionals as the command has, and options of its own that can be given beside each other
abbrev pub fits : Command → Sorted → Bool
fits command sorted = fills command sorted && has_all command sorted && go_together sorted

-- how many nets a batch has, if there are batches
abbrev pub batch_as : Value → Option ℕ
batch_as Absent = None
batch_as (Choice place) = None
batch_as (Count number) = Some number
batch_as (Named name) = None
batch_as Present = None

abbrev pub batch_of : Sorted → Option (Option ℕ)
batch_of sorted = option_map batch_as (value_of Batch sorted)

-- the rules, in the order of the words that name them
abbrev pub every_rule : List Formula
every_rule = First ∷ Steep ∷ Flat ∷ Near ∷ []

-- the rule that a value names
abbrev pub rule_as : Value → Option Formula
rule_as Absent = None
rule_as (Choice place) = slice_get every_rule place
rule_as (Count number) = None
rule_as (Named name) = None
rule_as Present = None

abbrev pub rule_of : Sorted → Option Formula
rule_of sorted = option_and_then rule_as (value_of Rule sorted)

-- when rounds are to stop early: never, once the overflow stands still, or once it is at most a number
abbrev pub stop_as : Value → Stopping
stop_as Absent = Never
stop_as (Choice place) = Still
stop_as (Count number) = Goal number
stop_as (Named name) = Never
stop_as Present = Never

abbrev pub stop_of : Sorted → Option Stopping
stop_of sorted = option_map stop_as (value_of Stop sorted)

-- the name of the solution whose routes are begun from, if there is one
abbrev pub from_as : Value → Option (List ℕ)
from_as (Named name) = Some name
from_as Absent = None
from_as (Choice place) = None
from_as (Count number) = None
from_as Present = None

abbrev pub from_of : Sorted → Option (Option (List ℕ))
from_of sorted = option_map from_as (value_of From sorted)

-- whether what each round did is told
abbrev pub trace_as : Value → Bool
trace_as Present = true
trace_as Absent = false
trace_as (Choice place) = false
trace_as (Count number) = false
trace_as (Named name) = false

abbrev pub trace_of : Sorted → Option Bool
trace_of sorted = option_map trace_as (value_of Trace sorted)

-- how a design is routed, where ROUNDS is the positional at a place
unfoldable pub options_of : Sorted → ℕ → Option Options
options_of sorted place = do
  rounds ← natural_in most_digits most_rounds (positional sorted place)
  workers ← number_of Workers sorted
  via_cost ← number_of ViaCost sorted
  batch ← batch_of sorted
  rule ← rule_of sorted
  stop ← stop_of sorted
  trace ← trace_of sorted
  Some (record {
    rounds = rounds;
    workers = workers;
    via_cost = via_cost;
    batch = batch;
    rule = rule;
    stop = stop;
    trace = trace;
  })

-- the numbers, if a design can be made of them
abbrev pub in_range : Made → Option Made
in_range made = if is_made made then Some made else None

-- from which solution's routes a design is routed, and how
unfoldable pub route_of : Sorted → Option Order
route_of sorted = do
  from ← from_of sorted
  options ← options_of sorted 2
  Some (Route (positional sorted 0) (positional sorted 1) from options)

-- what a design is made of: SEED X Y L NETS
unfoldable pub made_of : Sorted → Option Made
made_of sorted = do
  seed ← natural_in most_digits most_number (positional sorted 0)
  columns ← natural_in most_digits most_side (positional sorted 1)
  rows ← natural_in most_digits most_side (positional sorted 2)
  layers ← natural_in most_digits most_layers (positional sorted 3)
  nets ← natural_in most_digits most_made_nets (positional sorted 4)
  in_range (record { seed = seed; columns = columns; rows = rows; layers = layers; nets = nets })

-- how a made design is routed
unfoldable pub trial_of : Sorted → Option Order
trial_of sorted = do
  made ← made_of sorted
  options ← options_of sorted 5
  Some (Trial made options)

-- what is bounded, by how many steps, and by how many workers
unfoldable pub bound_of : Sorted → Option Order
bound_of sorted = do
  via_cost ← number_of ViaCost sorted
  steps ← number_of Steps sorted
  workers ← number_of Workers sorted
  Some (Bound (positional sorted 0) via_cost steps workers)

-- what each command asks for: `route DESIGN LIBRARY ROUNDS`, `evaluate DESIGN SOLUTION`,
-- `buffer DESIGN LIBRARY SOLUTION`, `make SEED X Y L NETS`, `trial SEED X Y L NETS ROUNDS`, `panels DESIGN SOLUTION`,
-- and grbound's one, `DESIGN`
abbrev pub order_as : Command → Sorted → Option Order
order_as Routes sorted = route_of sorted
order_as Evaluates sorted =
    option_map (Evaluate (positional sorted 0) (positional sorted 1)) (number_of ViaCost sorted)
order_as Buffers sorted = Some (Buffer (positional sorted 0) (positional sorted 1) (positional sorted 2))
order_as Makes sorted = option_map Make (made_of sorted)
order_as Tries sorted = trial_of sorted
order_as Tracks sorted = Some (Panels (positional sorted 0) (positional sorted 1))
order_as Bounds sorted = bound_of sorted

-- the order of a command by the words behind its own
abbrev pub order_by : Command → Sorted → Option Order
order_by command sorted = if fits command sorted then order_as command sorted else None

-- the order of a command by the words that are all its own
abbrev pub order_with : Command → List (List ℕ) → Option Order
order_with command words = option_and_then (order_by command) (sorted Any words)

-- the order whose command the first word names, where the others are its own
unfoldable pub named_order : List (List ℕ) → Option Order
named_order [] = None
named_order (first ∷ rest) = do
  command ← command_of first
  order_with command rest

-- the order that the words of a program give
abbrev pub order_of : Program → List (List ℕ) → Option Order
order_of Groute words = named_order words
order_of Grbound words = order_with Bounds words

-- the order that was read
abbrev pub named : Given → Order
named (Given.Route design library from options) =
    Route design.now library.now (option_map (λ (name : Bor (List ℕ)). name.now) from) options
named (Given.Evaluate design solution via_cost) = Evaluate design.now solution.now via_cost
named (Given.Buffer design library solution) = Buffer design.now library.now solution.now
named (Given.Make made) = Make made
named (Given.Trial made options) = Trial made options
named (Given.Panels design solution) = Panels design.now solution.now
named (Given.Bound design via_cost steps workers) = Bound design.now via_cost steps workers

-- the order of the words, or that they give none
abbrev pub Answers : Option Order → Result Given WordError → Type 0
Answers order (Ok given) = order ≡ Some (named given)
Answers order (Err Usage) = order ≡ None

-- the options are in range
pub record AreInRange (options : Options) : Type 0 where
  pub rounds : options.rounds ≤ most_rounds
  pub worker : 1 ≤ options.workers
  pub workers : options.workers ≤ most_workers
  pub via_cost : options.via_cost ≤ most_via_cost
  pub batch : IfSome options.batch (λ batch. (1 ≤ batch) × (batch ≤ most_batch))

-- the numbers of an order are in range
abbrev pub AsksInRange : Given → Type 0
AsksInRange (Given.Route design library from options) = AreInRange options
AsksInRange (Given.Evaluate design solution via_cost) = via_cost ≤ most_via_cost
AsksInRange (Given.Buffer design library solution) = Unit {0}
AsksInRange (Given.Make made) = IsMade made
AsksInRange (Given.Trial made options) = IsMade made × AreInRange options
AsksInRange (Given.Panels design solution) = Unit {0}
AsksInRange (Given.Bound design via_cost steps workers) =
    (via_cost ≤ most_via_cost) × (steps ≤ most_steps) × (1 ≤ workers) × (workers ≤ most_workers)
