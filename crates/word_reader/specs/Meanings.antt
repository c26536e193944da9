-- What a word before the first `--` is taken for.
use Rattle.std.specs.Prelude.{ℕ, Bool, false, ◌==◌, ◌||◌, not, List, [], ◌∷◌, Option, Some, None, if◌then◌else◌, codes}
use Rattle.std.specs.List.{list_any, before_first, after_first}
use Rattle.std.specs.Str.{bytes_eq}
use Rattle.word_reader.specs.Forms.{option_of, option_row, takes_value}
use Rattle.word_reader.specs.declared.form.OptionKind.{OptionKind}

pub data Meaning : Type 0 where
  -- the word `--`: each word behind it is a positional
  Divides : Meaning
  Positional : Meaning
  -- an option, with the next word as its value
  Awaits : OptionKind → Meaning
  -- an option with its value, which stands behind `=`; the empty word is the value of one that takes none
  Holds : OptionKind → (value : List ℕ) → Meaning
  -- a word that no order has
  Unknown : Meaning

-- a word that begins with `-`
abbrev pub has_hyphen : List ℕ → Bool
has_hyphen [] = false
has_hyphen (byte ∷ rest) = byte == 45

-- a word that doesn't begin with a hyphen, or is a hyphen alone
abbrev pub is_positional : List ℕ → Bool
is_positional word = bytes_eq word (codes "-") || not (has_hyphen word)

-- the byte `=`
abbrev pub is_equals : ℕ → Bool
is_equals byte = byte == 61

-- an option's word, with or without a value
abbrev pub option_meaning : List ℕ → Option OptionKind → Meaning
option_meaning word None = Unknown
option_meaning word (Some option) =
    if takes_value (option_row option).takes
    then (if list_any is_equals word then Holds option (after_first is_equals word) else Awaits option)
    else (if list_any is_equals word then Unknown else Holds option [])

-- what a word means by itself
abbrev pub meaning_of : List ℕ → Meaning
meaning_of word =
    if bytes_eq word (codes "--") then Divides else
    if is_positional word then Positional else option_meaning word (option_of (before_first is_equals word))
