-- The tables of commands and options.
use Rattle.std.specs.Prelude.{ℕ, Bool, true, false, ◌==◌, List, [], ◌∷◌, Option, Some, None, codes}
use Rattle.std.specs.List.{find, list_any}
use Rattle.std.specs.Str.{bytes_eq}
use Rattle.gr_base.specs.Limits.{most_workers}
use Rattle.word_reader.specs.Numbers.{most_number}
use Rattle.word_reader.specs.declared.form.Command.{Command}
use Rattle.word_reader.specs.declared.form.Command.TheVariants.{Route, Evaluate, Buffer, Make, Trial, Panels, Bound}
use Rattle.word_reader.specs.declared.form.OptionKind.{OptionKind}
use Rattle.word_reader.specs.declared.form.OptionKind.TheVariants.{Workers, ViaCost, Batch, Rule, Stop, From, Trace, Steps}

-- the most wire edges as which a via edge may count in a report, the most steps by which a bound may be raised,
-- and the most nets of a batch
abbrev pub most_via_cost : ℕ
most_via_cost = 1000

abbrev pub most_steps : ℕ
most_steps = 10000

abbrev pub most_batch : ℕ
most_batch = 65536

-- what an option takes as its value
pub data ValueForm : Type 0 where
  -- a number from the least to the most
  Number : (least most : ℕ) → ValueForm
  -- one of these words
  Word : (words : List (List ℕ)) → ValueForm
  -- one of these words, or a number from the least to the most
  WordOrNumber : (words : List (List ℕ)) → (least most : ℕ) → ValueForm
  -- any word, which is a name
  Name : ValueForm
  -- none: it is given, or it isn't
  Nothing : ValueForm

-- whether an option takes a value
abbrev pub takes_value : ValueForm → Bool
takes_value (Number least most) = true
takes_value (Word words) = true
takes_value (WordOrNumber words least most) = true
takes_value Name = true
takes_value Nothing = false

-- an option's word, what it takes as its value, the value that it has where none is given, if it then has one, and the
-- option beside which it can't be given, if there is one
pub record OptionRow : Type 0 where
  pub word : List ℕ
  pub takes : ValueForm
  pub default : Option (List ℕ)
  pub excludes : Option OptionKind

-- the row of each option
abbrev pub option_row : OptionKind → OptionRow
option_row Workers = record {
  word = codes "--workers";
  takes = Number 1 most_workers;
  default = Some (codes "1");
  excludes = None;
}
option_row ViaCost = record {
  word = codes "--via-cost";
  takes = Number 0 most_via_cost;
  default = Some (codes "1");
  excludes = None;
}
option_row Batch = record {
  word = codes "--batch";
  takes = Number 1 most_batch;
  default = None;
  excludes = Some Stop;
}
option_row Rule = record {
  word = codes "--rule";
  takes = Word (codes "first" ∷ codes "steep" ∷ codes "flat" ∷ codes "near" ∷ []);
  default = Some (codes "first");
  excludes = None;
}
option_row Stop = record {
  word = codes "--stop";
  takes = WordOrNumber (codes "still" ∷ []) 0 most_number;
  default = None;
  excludes = None;
}
option_row From = record { word = codes "--from"; takes = Name; default = None; excludes = None }
option_row Trace = record { word = codes "--trace"; takes = Nothing; default = None; excludes = None }
option_row Steps = record {
  word = codes "--steps";
  takes = Number 0 most_steps;
  default = Some (codes "0");
  excludes = None;
}

-- the options, each once
abbrev pub every_option : List OptionKind
every_option = Workers ∷ ViaCost ∷ Batch ∷ Rule ∷ Stop ∷ From ∷ Trace ∷ Steps ∷ []

-- the place of an option among them
abbrev pub place : OptionKind → ℕ
place Workers = 0
place ViaCost = 1
place Batch = 2
place Rule = 3
place Stop = 4
place From = 5
place Trace = 6
place Steps = 7

-- two options are one
abbrev pub is_option : OptionKind → OptionKind → Bool
is_option one other = place one == place other

-- the option that a word names
abbrev pub option_of : List ℕ → Option OptionKind
option_of word = find (λ option. bytes_eq word (option_row option).word) every_option

-- a command's word (none names grbound's), how many words behind it are no options, and which options it has
pub record CommandRow : Type 0 where
  pub word : List ℕ
  pub positionals : ℕ
  pub options : List OptionKind

-- the row of each command
abbrev pub command_row : Command → CommandRow
command_row Route = record {
  word = codes "route";
  positionals = 3;
  options = Workers ∷ ViaCost ∷ Batch ∷ Rule ∷ Stop ∷ From ∷ Trace ∷ [];
}
command_row Evaluate = record { word = codes "evaluate"; positionals = 2; options = ViaCost ∷ [] }
command_row Buffer = record { word = codes "buffer"; positionals = 3; options = [] }
command_row Make = record { word = codes "make"; positionals = 5; options = [] }
command_row Trial = record { word = codes "trial"; positionals = 6; options = Workers ∷ Rule ∷ Trace ∷ [] }
command_row Panels = record { word = codes "panels"; positionals = 2; options = [] }
command_row Bound = record { word = []; positionals = 1; options = ViaCost ∷ Steps ∷ Workers ∷ [] }

-- the commands that words name, each once
abbrev pub every_command : List Command
every_command = Route ∷ Evaluate ∷ Buffer ∷ Make ∷ Trial ∷ Panels ∷ []

-- the command that a word names
abbrev pub command_of : List ℕ → Option Command
command_of word = find (λ command. bytes_eq word (command_row command).word) every_command

-- the command has the option
abbrev pub has : Command → OptionKind → Bool
has command option = list_any (is_option option) (command_row command).options
