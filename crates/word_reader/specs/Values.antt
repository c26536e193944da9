-- The values that options have.
use Rattle.std.specs.Prelude.{ℕ, ◌<◌, ◌≤◌, List, [], ◌∷◌, length, Option, Some, None}
use Rattle.std.specs.List.{position}
use Rattle.std.specs.Option.{option_map, option_map_or, option_or, option_and_then}
use Rattle.std.specs.Str.{bytes_eq}
use Rattle.word_reader.specs.Forms.{OptionRow, ValueForm, Number, Word, WordOrNumber, Name, Nothing, option_row}
use Rattle.word_reader.specs.Numbers.{number_in}
use Rattle.word_reader.specs.Sorting.{Sorted}
use Rattle.word_reader.specs.declared.form.OptionKind.{OptionKind}

-- what value an option has
pub data Value : Type 0 where
  -- the option isn't given, and has no default
  Absent : Value
  -- the word at this place of those that the option takes
  Choice : (place : ℕ) → Value
  Count : (number : ℕ) → Value
  -- a name
  Named : (name : List ℕ) → Value
  -- the option is given, and takes no value
  Present : Value

-- one of the words, and a number of the range
abbrev pub choice_in : List (List ℕ) → List ℕ → Option Value
choice_in words word = option_map Choice (position (bytes_eq word) words)

abbrev pub count_in : (least most : ℕ) → List ℕ → Option Value
count_in least most word = option_map Count (number_in least most word)

-- the value that a word is, if the option takes it
abbrev pub value_in : ValueForm → List ℕ → Option Value
value_in (Number least most) word = count_in least most word
value_in (Word words) word = choice_in words word
value_in (WordOrNumber words least most) word = option_or (choice_in words word) (count_in least most word)
value_in Name word = Some (Named word)
value_in Nothing word = Some Present

-- the value by what stands with an option, or by its default where nothing does
abbrev pub value_by : OptionRow → List (List ℕ) → Option Value
value_by row [] = option_map_or (value_in row.takes) row.default (Some Absent)
value_by row (word ∷ others) = value_in row.takes word

-- the value of an option
abbrev pub value_of : OptionKind → Sorted → Option Value
value_of option sorted = value_by (option_row option) (sorted.values option)

-- the number that a value is
abbrev pub as_number : Value → Option ℕ
as_number Absent = None
as_number (Choice place) = None
as_number (Count number) = Some number
as_number (Named name) = None
as_number Present = None

-- the number that an option has as its value
abbrev pub number_of : OptionKind → Sorted → Option ℕ
number_of option sorted = option_and_then as_number (value_of option sorted)

-- the value is one that the option takes, or none
abbrev pub IsTaken : ValueForm → Value → Type 0
IsTaken takes Absent = Unit {0}
IsTaken (Number least most) (Count number) = (least ≤ number) × (number ≤ most)
IsTaken (Word words) (Choice place) = place < length words
IsTaken (WordOrNumber words least most) (Choice place) = place < length words
IsTaken (WordOrNumber words least most) (Count number) = (least ≤ number) × (number ≤ most)
IsTaken Name (Named name) = Unit {0}
IsTaken Nothing Present = Unit {0}
IsTaken takes value = ⊥
