-- Words that are sorted one after another.
use Rattle.std.proofs.Common.{◌≡◌, ℕ, ◌⊎◌, inl, inr, Bool, true, false, List, [], ◌∷◌, ◌++◌, length, get_or, Option, Some, None, if◌then◌else◌, refl, sym, ap, ◌∙◌, arith, append-nil}
use Rattle.std.proofs.Math.Path.{fun_ext}
use Rattle.std.proofs.lemmas.Bool.Decides.{nat_tests}
use Rattle.std.proofs.lemmas.List.{append_assoc, length-append}
use Rattle.std.specs.Option.{option_map, option_and_then}
use Rattle.word_reader.specs.Forms.{is_option, place}
use Rattle.word_reader.specs.Kept.{kept_values, values_seen, words_seen, joined, order_after, Adds, Sets, TakesWord}
use Rattle.word_reader.specs.Meanings.{Meaning, meaning_of, Divides, Positional, Awaits, Holds, Unknown}
use Rattle.word_reader.specs.Orders.{order_by}
use Rattle.word_reader.specs.Sorting.{Sorted, nothing, sorted, sorted_by, with_positional, with_value}
use Rattle.word_reader.specs.declared.form.Command.{Command}
use Rattle.word_reader.specs.declared.form.OptionKind.{OptionKind}
use Rattle.word_reader.specs.declared.sorted.Next.{Next}
use Rattle.word_reader.specs.declared.sorted.Next.TheVariants.{Any, Value, Positional as Name}
use Rattle.word_reader.specs.declared.sorted.Sorted.{Sorted as Kept}
use Rattle.word_reader.proofs.FormLemmas.{too-many, twice}

-- words with equal parts
pub same-words : (words others : Sorted) → words.positionals ≡ others.positionals →
    ((option : OptionKind) → words.values option ≡ others.values option) → words ≡ others
same-words words others positionals values =
    ap (λ (p : List (List ℕ)). record { positionals = p; values = words.values }) positionals ∙
    ap (λ (v : OptionKind → List (List ℕ)). record { positionals = others.positionals; values = v }) (fun_ext values)

same-place : (one other : OptionKind) → is_option one other ≡ true → place one ≡ place other
same-place one other is = grind (arith, nat_tests)

itself : (option : OptionKind) → is_option option option ≡ true
itself option = grind (arith, nat_tests)

-- words before none, and none before words
pub joined-nothing : (words : Sorted) → joined words nothing ≡ words
joined-nothing words = same-words (joined words nothing) words (append-nil words.positionals) (λ option. append-nil (words.values option))

module _ (command : Command) where
  -- a positional that was added
  added : (old new : Kept) (word : List ℕ) (back : Option Sorted) → Adds old word (Some tt) new →
      option_and_then (λ b. order_by command (joined (words_seen old) b)) (option_map (with_positional word) back) ≡
      option_and_then (λ b. order_by command (joined (words_seen new) b)) back
  added old new word None adds = refl
  added old new word (Some back) adds =
      ap (order_by command)
      (same-words (joined (words_seen old) (with_positional word back)) (joined (words_seen new) back)
      (sym (append_assoc (words_seen old).positionals (word ∷ []) back.positionals) ∙
      ap (λ (p : List (List ℕ)). p ++ back.positionals) (sym adds.0))
      (λ option. ap (λ (v : OptionKind → List (List ℕ)). v option ++ back.values option) (sym adds.1)))

  -- one for which there is no room
  not-added : (old new : Kept) (word : List ℕ) (back : Option Sorted) → Adds old word None new →
      option_and_then (λ b. order_by command (joined (words_seen old) b)) (option_map (with_positional word) back) ≡ None
  not-added old new word None full = refl
  not-added old new word (Some back) full =
      let size = length-append (words_seen old).positionals (word ∷ back.positionals) in
      too-many command (joined (words_seen old) (with_positional word back)) (grind arith)

  -- a value that was set
  set : (old new : Kept) (option : OptionKind) (value : List ℕ) (back : Option Sorted) → Sets old option value (Some tt) new →
      option_and_then (λ b. order_by command (joined (words_seen old) b)) (option_map (with_value option value) back) ≡
      option_and_then (λ b. order_by command (joined (words_seen new) b)) back
  set old new option value None sets = refl
  set old new option value (Some back) sets =
      ap (order_by command)
      (same-words (joined (words_seen old) (with_value option value back)) (joined (words_seen new) back)
      (ap (λ (p : List (List ℕ)). p ++ back.positionals) (sym sets.0)) values)
    where
      by : (other : OptionKind) (b : Bool) → is_option option other ≡ b →
          kept_values old other ++ (if b then value ∷ back.values other else back.values other) ≡
          (if b then value ∷ [] else kept_values old other) ++ back.values other
      by other true is =
          let none : kept_values old other ≡ [] =
          ap (λ (at : ℕ). values_seen (get_or old.values.by_place at None)) (sym (same-place option other is)) ∙ sets.1 in
          ap (λ (v : List (List ℕ)). v ++ (value ∷ back.values other)) none
      by other false is = refl

      values : (other : OptionKind) → kept_values old other ++ (with_value option value back).values other ≡ kept_values new other ++ back.values other
      values other =
          by other (is_option option other) refl ∙ ap (λ (v : List (List ℕ)). v ++ back.values other) (sym (sets.2 other))

  -- one of an option that has a value
  not-set : (old new : Kept) (option : OptionKind) (value : List ℕ) (back : Option Sorted) → Sets old option value None new →
      option_and_then (λ b. order_by command (joined (words_seen old) b)) (option_map (with_value option value) back) ≡ None
  not-set old new option value None given = refl
  not-set old new option value (Some back) given =
      let own : (with_value option value back).values option ≡ value ∷ back.values option =
      ap (λ (b : Bool). if b then value ∷ back.values option else back.values option) (itself option) in
      let size = length-append (kept_values old option) (value ∷ back.values option) in
      let whole : length ((joined (words_seen old) (with_value option value back)).values option) ≡
      length (kept_values old option ++ (value ∷ back.values option)) =
      ap (λ (v : List (List ℕ)). length (kept_values old option ++ v)) own in
      twice command (joined (words_seen old) (with_value option value back)) option (grind arith)

  -- words before which none stand
  pub behind-nothing : (front : Kept) (back : Option Sorted) → words_seen front ≡ nothing →
      option_and_then (λ b. order_by command (joined (words_seen front) b)) back ≡ option_and_then (order_by command) back
  behind-nothing front None is = refl
  behind-nothing front (Some back) is = ap (λ (f : Sorted). order_by command (joined f back)) is

-- what was taken for what it means by itself
module _ (old new : Kept) (word : List ℕ) where
  by-meaning : (command : Command) (rest : List (List ℕ)) (meaning : Meaning) → meaning ≡ meaning_of word →
      order_after command old Any (word ∷ rest) ≡
      option_and_then (λ b. order_by command (joined (words_seen old) b)) (sorted_by meaning word (λ next. sorted next rest))
  by-meaning command rest meaning is =
      ap (λ (m : Meaning). option_and_then (λ b. order_by command (joined (words_seen old) b)) (sorted_by m word (λ next. sorted next rest))) (sym is)

  pub divides : Divides ≡ meaning_of word → TakesWord old Any word (Some Name) old
  divides is = λ command rest. by-meaning command rest Divides is

  pub stands : Positional ≡ meaning_of word → Adds old word (Some tt) new → TakesWord old Any word (Some Any) new
  stands is adds = λ command rest. by-meaning command rest Positional is ∙ added command old new word (sorted Any rest) adds

  pub stands-too-many : Positional ≡ meaning_of word → Adds old word None new → TakesWord old Any word None new
  stands-too-many is full = λ command rest. by-meaning command rest Positional is ∙ not-added command old new word (sorted Any rest) full

  pub awaits : (option : OptionKind) → Awaits option ≡ meaning_of word → TakesWord old Any word (Some (Value option)) old
  awaits option is = λ command rest. by-meaning command rest (Awaits option) is

  pub holds : (option : OptionKind) (value : List ℕ) → Holds option value ≡ meaning_of word → Sets old option value (Some tt) new →
      TakesWord old Any word (Some Any) new
  holds option value is sets = λ command rest. by-meaning command rest (Holds option value) is ∙ set command old new option value (sorted Any rest) sets

  pub holds-twice : (option : OptionKind) (value : List ℕ) → Holds option value ≡ meaning_of word → Sets old option value None new →
      TakesWord old Any word None new
  holds-twice option value is given = λ command rest. by-meaning command rest (Holds option value) is ∙ not-set command old new option value (sorted Any rest) given

  pub unknown : Unknown ≡ meaning_of word → TakesWord old Any word None old
  unknown is = λ command rest. by-meaning command rest Unknown is

  -- what was taken for a value, and for a positional
  pub value : (option : OptionKind) → Sets old option word (Some tt) new → TakesWord old (Value option) word (Some Any) new
  value option sets = λ command rest. set command old new option word (sorted Any rest) sets

  pub value-twice : (option : OptionKind) → Sets old option word None new → TakesWord old (Value option) word None new
  value-twice option given = λ command rest. not-set command old new option word (sorted Any rest) given

  pub name : Adds old word (Some tt) new → TakesWord old Name word (Some Name) new
  name adds = λ command rest. added command old new word (sorted Name rest) adds

  pub name-too-many : Adds old word None new → TakesWord old Name word None new
  name-too-many full = λ command rest. not-added command old new word (sorted Name rest) full

-- where no word is left
module _ (command : Command) (kept : Kept) where
  end-kept : (next : Next) → sorted next [] ≡ Some nothing → order_by command (words_seen kept) ≡ order_after command kept next []
  end-kept next is =
      ap (order_by command) (sym (joined-nothing (words_seen kept))) ∙
      ap (option_and_then (λ b. order_by command (joined (words_seen kept) b))) (sym is)

  pub at-end : (next : Next) → (next ≡ Any) ⊎ (next ≡ Name) → order_by command (words_seen kept) ≡ order_after command kept next []
  at-end next (inl any) = end-kept next (ap (λ (n : Next). sorted n []) any)
  at-end next (inr name) = end-kept next (ap (λ (n : Next). sorted n []) name)

  pub without-value : (next : Next) (option : OptionKind) → next ≡ Value option → None ≡ order_after command kept next []
  without-value next option is = ap (λ (n : Next). order_after command kept n []) (sym is)
