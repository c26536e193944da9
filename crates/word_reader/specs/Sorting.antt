-- The words behind a command's, sorted into positionals and options with their values.
use Rattle.std.specs.Prelude.{◌≡◌, ℕ, ◌↔◌, not, List, [], ◌∷◌, ◌++◌, Option, Some, None, IsTrue, if◌then◌else◌, codes}
use Rattle.std.specs.Option.{option_map}
use Rattle.word_reader.specs.Forms.{is_option, option_of, option_row, takes_value}
use Rattle.word_reader.specs.Meanings.{Meaning, Divides, Positional, Awaits, Holds, Unknown, is_positional, meaning_of}
use Rattle.word_reader.specs.declared.form.OptionKind.{OptionKind}
use Rattle.word_reader.specs.declared.sorted.Next.{Next}
use Rattle.word_reader.specs.declared.sorted.Next.TheVariants.{Any, Value, Positional as Name}

pub record Sorted : Type 0 where
  pub positionals : List (List ℕ)
  -- the values that stand with each option, in order
  pub values : OptionKind → List (List ℕ)

abbrev pub nothing : Sorted
nothing = record { positionals = []; values = λ option. [] }

-- a positional before those that are sorted, and a value before those of its option
abbrev pub with_positional : List ℕ → Sorted → Sorted
with_positional word sorted = record { positionals = word ∷ sorted.positionals; values = sorted.values }

abbrev pub with_value : OptionKind → List ℕ → Sorted → Sorted
with_value option value sorted = record {
  positionals = sorted.positionals;
  values = λ other. if is_option option other then value ∷ sorted.values other else sorted.values other;
}

-- the word is that of an option which takes a value, and of one which takes none
abbrev pub NamesTaker : List ℕ → OptionKind → Type 0
NamesTaker word option = (option_of word ≡ Some option) × IsTrue (takes_value (option_row option).takes)

abbrev pub NamesAlone : List ℕ → OptionKind → Type 0
NamesAlone word option = (option_of word ≡ Some option) × IsTrue (not (takes_value (option_row option).takes))

-- words that all are positionals
abbrev pub all_positionals : List (List ℕ) → Sorted
all_positionals words = record { positionals = words; values = λ option. [] }

-- the words are these positionals and options with their values
pub data AreSorted : List (List ℕ) → Sorted → Type 0 where
  Ended : AreSorted [] nothing
  -- each word behind `--` is a positional
  Divided : (words : List (List ℕ)) → AreSorted (codes "--" ∷ words) (all_positionals words)
  -- a word that doesn't begin with a hyphen, or is one, is a positional
  Stands : {rest : List (List ℕ)} {behind : Sorted} (word : List ℕ) → IsTrue (is_positional word) →
      AreSorted rest behind → AreSorted (word ∷ rest) (with_positional word behind)
  -- the word of an option that takes a value takes the next word as it
  Apart : {rest : List (List ℕ)} {behind : Sorted} (word value : List ℕ) (option : OptionKind) →
      NamesTaker word option →
      AreSorted rest behind → AreSorted (word ∷ value ∷ rest) (with_value option value behind)
  -- or holds it behind `=`
  Held : {rest : List (List ℕ)} {behind : Sorted} (word value : List ℕ) (option : OptionKind) →
      NamesTaker word option →
      AreSorted rest behind → AreSorted ((word ++ codes "=" ++ value) ∷ rest) (with_value option value behind)
  -- the word of one that takes none stands alone
  Alone : {rest : List (List ℕ)} {behind : Sorted} (word : List ℕ) (option : OptionKind) →
      NamesAlone word option →
      AreSorted rest behind → AreSorted (word ∷ rest) (with_value option [] behind)

-- a word and those behind it, by what it means; these are sorted by what their first is taken for
abbrev pub sorted_by : Meaning → List ℕ → (behind : Next → Option Sorted) → Option Sorted
sorted_by Divides word behind = behind Name
sorted_by Positional word behind = option_map (with_positional word) (behind Any)
sorted_by (Awaits option) word behind = behind (Value option)
sorted_by (Holds option value) word behind = option_map (with_value option value) (behind Any)
sorted_by Unknown word behind = None

-- the words sorted, by what the first of them is taken for: what it means by itself, the value of an option, or a
-- positional
abbrev pub sorted : Next → List (List ℕ) → Option Sorted
sorted Any [] = Some nothing
sorted (Value option) [] = None
sorted Name [] = Some nothing
sorted Any (word ∷ rest) = sorted_by (meaning_of word) word (λ next. sorted next rest)
sorted (Value option) (word ∷ rest) = option_map (with_value option word) (sorted Any rest)
sorted Name (word ∷ rest) = option_map (with_positional word) (sorted Name rest)

-- the words are sorted as the rule says
abbrev pub SortsByRule : List (List ℕ) → Type 0
SortsByRule words = (s : Sorted) → (sorted Any words ≡ Some s) ↔ AreSorted words s
