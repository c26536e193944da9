-- What the code keeps of the tables' lines, and of words while it sorts them.
use Rattle.std.specs.Prelude.{◌≡◌, ℕ, ◌<◌, ◌≤◌, List, [], ◌∷◌, ◌++◌, map, length, get_or, Option, Some, None, if◌then◌else◌}
use Rattle.std.specs.Borrow.{Bor}
use Rattle.std.specs.Option.{option_map, option_and_then, option_to_list}
use Rattle.word_reader.specs.Forms.{CommandRow, OptionRow, ValueForm, Number, Word, WordOrNumber, Name, Nothing, is_option, place}
use Rattle.word_reader.specs.Meanings.{Meaning, Divides, Positional, Awaits, Holds, Unknown}
use Rattle.word_reader.specs.Orders.{Order, order_by}
use Rattle.word_reader.specs.Sorting.{Sorted, sorted}
use Rattle.word_reader.specs.Values.{Value, Absent, Choice, Count, Named, Present}
use Rattle.word_reader.specs.declared.form.TheConstants.{MOST_POSITIONALS, OPTION_COUNT}
use Rattle.word_reader.specs.declared.form.Command.{Command}
use Rattle.word_reader.specs.declared.form.CommandRow.{CommandRow as KeptCommand}
use Rattle.word_reader.specs.declared.form.OptionKind.{OptionKind}
use Rattle.word_reader.specs.declared.form.OptionRow.{OptionRow as KeptOption}
use Rattle.word_reader.specs.declared.form.ValueForm.{ValueForm as KeptForm}
use Rattle.word_reader.specs.declared.meaning.Meaning.{Meaning as Given}
use Rattle.word_reader.specs.declared.sorted.Next.{Next}
use Rattle.word_reader.specs.declared.sorted.Next.TheVariants.{Any}
use Rattle.word_reader.specs.declared.sorted.Sorted.{Sorted as Kept}
use Rattle.word_reader.specs.declared.values.Value.{Value as KeptValue}

-- for how many positionals there is room, and for the values of how many options
abbrev pub most_positionals : ℕ
most_positionals = MOST_POSITIONALS

abbrev pub option_count : ℕ
option_count = OPTION_COUNT

-- what is kept, as the definitions see it: words, rows, what a word means, a value
abbrev pub texts_seen : List (Bor (List ℕ)) → List (List ℕ)
texts_seen = map (λ (text : Bor (List ℕ)). text.now)

abbrev pub takes_seen : KeptForm → ValueForm
takes_seen (KeptForm.Number least most) = Number least most
takes_seen (KeptForm.Word words) = Word (texts_seen words.now)
takes_seen (KeptForm.WordOrNumber words least most) = WordOrNumber (texts_seen words.now) least most
takes_seen KeptForm.Name = Name
takes_seen KeptForm.Nothing = Nothing

abbrev pub option_seen : KeptOption → OptionRow
option_seen row = record {
  word = row.word.now;
  takes = takes_seen row.takes;
  default = option_map (λ (word : Bor (List ℕ)). word.now) row.default;
  excludes = row.excludes;
}

abbrev pub command_seen : KeptCommand → CommandRow
command_seen row = record { word = row.word.now; positionals = row.positionals; options = row.options.now }

abbrev pub meaning_seen : Given → Meaning
meaning_seen Given.Divides = Divides
meaning_seen Given.Positional = Positional
meaning_seen (Given.Awaits option) = Awaits option
meaning_seen (Given.Holds option value) = Holds option value.now
meaning_seen Given.Unknown = Unknown

abbrev pub value_seen : KeptValue → Value
value_seen KeptValue.Absent = Absent
value_seen (KeptValue.Choice place) = Choice place
value_seen (KeptValue.Count number) = Count number
value_seen (KeptValue.Named name) = Named name.now
value_seen KeptValue.Present = Present

-- the values that stand with an option: one at most is kept, at the option's place
abbrev pub values_seen : Option (Bor (List ℕ)) → List (List ℕ)
values_seen value = option_to_list (option_map (λ (v : Bor (List ℕ)). v.now) value)

abbrev pub values_at : List (Option (Bor (List ℕ))) → OptionKind → List (List ℕ)
values_at by_place option = values_seen (get_or by_place (place option) None)

abbrev pub kept_values : Kept → OptionKind → List (List ℕ)
kept_values kept = values_at kept.values.by_place

-- the words that are kept
abbrev pub words_seen : Kept → Sorted
words_seen kept = record {
  positionals = texts_seen kept.positionals.items;
  values = kept_values kept;
}

-- a positional was added, or there is no room for one
abbrev pub Adds : Kept → List ℕ → Option (Unit {0}) → Kept → Type 0
Adds old word (Some done) new =
    ((words_seen new).positionals ≡ (words_seen old).positionals ++ word ∷ []) × (kept_values new ≡ kept_values old)
Adds old word None new = most_positionals ≤ length (words_seen old).positionals

-- an option has this value, and the others are as before
abbrev pub SetsAt : (old : List (Option (Bor (List ℕ)))) → OptionKind → List ℕ →
    (new : List (Option (Bor (List ℕ)))) → Type 0
SetsAt old option value new =
    (other : OptionKind) → values_at new other ≡ (if is_option option other then value ∷ [] else values_at old other)

-- an option that had no value has this one, and the others are as before; or it had one
abbrev pub Sets : Kept → OptionKind → List ℕ → Option (Unit {0}) → Kept → Type 0
Sets old option value (Some done) new =
    ((words_seen new).positionals ≡ (words_seen old).positionals) ×
    (kept_values old option ≡ []) ×
    SetsAt old.values.by_place option value new.values.by_place
Sets old option value None new = 0 < length (kept_values old option)

-- sorted words, those of the front before those behind
abbrev pub joined : Sorted → Sorted → Sorted
joined front back = record {
  positionals = front.positionals ++ back.positionals;
  values = λ option. front.values option ++ back.values option;
}

-- the order of a command by the words that are sorted and those that are left
abbrev pub order_after : Command → Kept → Next → List (List ℕ) → Option Order
order_after command kept next rest =
    option_and_then (λ back. order_by command (joined (words_seen kept) back)) (sorted next rest)

-- a word was taken, which changes no order; or there is none with it
abbrev pub TakesWord : Kept → Next → List ℕ → Option Next → Kept → Type 0
TakesWord old next word (Some after) new =
    (command : Command) → (rest : List (List ℕ)) →
    order_after command old next (word ∷ rest) ≡ order_after command new after rest
TakesWord old next word None new =
    (command : Command) → (rest : List (List ℕ)) → order_after command old next (word ∷ rest) ≡ None

-- the order of a command, by words and by what is kept of them once they are sorted
abbrev pub order_kept : Command → Option Kept → Option Order
order_kept command kept = option_and_then (λ words. order_by command (words_seen words)) kept

-- what is kept of the words gives the orders that they do
abbrev pub Sorts : List (List ℕ) → Option Kept → Type 0
Sorts words kept =
    (command : Command) → order_kept command kept ≡ option_and_then (order_by command) (sorted Any words)
