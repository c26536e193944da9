-- What words mean, and the words that mean it.
use Rattle.std.proofs.Common.{◌≡◌, ℕ, ◌+◌, ◌<◌, ◌≤◌, ◌⊎◌, inl, inr, Bool, true, false, not, ◌&&◌, ◌||◌, cond, nat_lt, take, drop, List, [], ◌∷◌, ◌++◌, length, get_or, Option, Some, None, if◌then◌else◌, codes, refl, sym, ap, ◌∙◌, arith}
use Rattle.std.proofs.lemmas.Bool.{cases_Bool}
use Rattle.std.proofs.lemmas.Bool.Decides.{nat_tests}
use Rattle.std.proofs.lemmas.List.{take_all, take_at, drop_at, append_assoc, length-append}
use Rattle.std.proofs.lemmas.List.Folds.{list_any-append}
use Rattle.std.proofs.lemmas.List.Sums.{split_at_first, passes_at_first}
use Rattle.std.proofs.lemmas.Slice.Eq.{bytes_eq-Decides}
use Rattle.std.specs.List.{list_all, list_any, position_or_len, before_first, after_first}
use Rattle.std.specs.Str.{bytes_eq}
use Rattle.word_reader.specs.Forms.{every_option, option_of, option_row, takes_value}
use Rattle.word_reader.specs.Meanings.{Meaning, Divides, Positional, Awaits, Holds, Unknown, has_hyphen, is_equals, option_meaning, is_positional, meaning_of}
use Rattle.word_reader.specs.Sorting.{NamesTaker, NamesAlone}
use Rattle.word_reader.specs.declared.form.OptionKind.{OptionKind}
use Rattle.word_reader.proofs.TableLemmas.{found}

same_bytes : (xs ys : List ℕ) → bytes_eq xs ys ≡ true → xs ≡ ys
same_bytes xs ys is = (bytes_eq-Decides xs ys).0 is

pub is-positional : (word : List ℕ) → is_positional word ≡ true → meaning_of word ≡ Positional
is-positional word is =
    elim (cases_Bool (bytes_eq word (codes "--"))) [
      | inl dashes ↦ absurd (none (same_bytes word (codes "--") dashes))
      | inr other ↦ rw other (rw is refl)
    ]
  where
    none : word ≡ codes "--" → ⊥
    none same = let e : false ≡ true = ap is_positional (sym same) ∙ is in cc

-- the place of the first `=`
module _ (byte : ℕ) (rest : List ℕ) where
  place-behind : is_equals byte ≡ false → position_or_len is_equals (byte ∷ rest) ≡ 1 + position_or_len is_equals rest
  place-behind is = ap (λ (b : Bool). cond (not b) (1 + position_or_len is_equals rest) 0) is

  place-first : is_equals byte ≡ true → position_or_len is_equals (byte ∷ rest) ≡ 0
  place-first is = ap (λ (b : Bool). cond (not b) (1 + position_or_len is_equals rest) 0) is

place-below : (word : List ℕ) → list_any is_equals word ≡ true → position_or_len is_equals word < length word
place-below [] is = absurd cc
place-below (byte ∷ rest) is = by (place-below rest) (is_equals byte) refl is
  where
    by : (list_any is_equals rest ≡ true → position_or_len is_equals rest < length rest) → (b : Bool) → is_equals byte ≡ b →
        (b || list_any is_equals rest) ≡ true → position_or_len is_equals (byte ∷ rest) < length (byte ∷ rest)
    by below true h any = let at = place-first byte rest h in omega arith
    by below false h any = let at = place-behind byte rest h in let more = below any in omega arith

place-past : (word : List ℕ) → list_any is_equals word ≡ false → length word ≤ position_or_len is_equals word
place-past [] is = omega arith
place-past (byte ∷ rest) is = by (place-past rest) (is_equals byte) refl is
  where
    by : (list_any is_equals rest ≡ false → length rest ≤ position_or_len is_equals rest) → (b : Bool) → is_equals byte ≡ b →
        (b || list_any is_equals rest) ≡ false → length (byte ∷ rest) ≤ position_or_len is_equals (byte ∷ rest)
    by past true h any = absurd cc
    by past false h any = let at = place-behind byte rest h in let more = past any in omega arith

-- a word that isn't a positional or `--`
abbrev IsLong : List ℕ → Type 0
IsLong word = (has_hyphen word ≡ true) × (2 < length word)

-- a word as each option has one: it begins with a hyphen, has at least three bytes, and no `=`
abbrev is_name : List ℕ → Bool
is_name word = has_hyphen word && (nat_lt 2 (length word) && not (list_any is_equals word))

names-are : list_all (λ option. is_name (option_row option).word) every_option ≡ true
names-are = refl

-- a word that names an option is one
name-of : (word : List ℕ) (option : OptionKind) → option_of word ≡ Some option → is_name word ≡ true
name-of word option names =
    let is =
    found (λ (o : OptionKind). bytes_eq word (option_row o).word) (λ o. is_name (option_row o).word) every_option
    option names names-are in
    ap is_name (same_bytes word (option_row option).word is.0) ∙ is.1

name-is : (word : List ℕ) → is_name word ≡ true → IsLong word × (list_any is_equals word ≡ false)
name-is word is = by (has_hyphen word) (nat_lt 2 (length word)) (list_any is_equals word) refl refl refl is
  where
    by : (a b c : Bool) → has_hyphen word ≡ a → nat_lt 2 (length word) ≡ b → list_any is_equals word ≡ c →
        (a && (b && not c)) ≡ true → IsLong word × (list_any is_equals word ≡ false)
    by true true false first second third h = ((first, grind (arith, nat_tests)), third)
    by true true true first second third h = absurd cc
    by true false c first second third h = absurd cc
    by false b c first second third h = absurd cc

other-word : (word short : List ℕ) → 2 < length word → length short ≤ 2 → bytes_eq word short ≡ false
other-word word short long few =
    elim (cases_Bool (bytes_eq word short)) [
      | inl same ↦ absurd (unequal (same_bytes word short same))
      | inr other ↦ other
    ]
  where
    unequal : word ≡ short → ⊥
    unequal same = let e : length word ≡ length short = ap (λ (w : List ℕ). length w) same in omega arith

-- a long word with an option's name before its first `=`
by-name : (word : List ℕ) (option : OptionKind) → IsLong word → option_of (before_first is_equals word) ≡ Some option →
    meaning_of word ≡ option_meaning word (Some option)
by-name word option long names =
    by (bytes_eq word (codes "--")) (bytes_eq word (codes "-")) (has_hyphen word) (option_of (before_first is_equals word))
    (other-word word (codes "--") long.1 (omega arith)) (other-word word (codes "-") long.1 (omega arith)) long.0 names
  where
    by : (a b c : Bool) (o : Option OptionKind) → a ≡ false → b ≡ false → c ≡ true → o ≡ Some option →
        (if a then Divides else (if b || not c then Positional else option_meaning word o)) ≡ option_meaning word (Some option)
    by false false true o p q r names = ap (option_meaning word) names
    by true b c o p q r names = absurd cc
    by false true c o p q r names = absurd cc
    by false false false o p q r names = absurd cc

long-before : (word behind : List ℕ) → IsLong word → IsLong (word ++ behind)
long-before [] behind is = absurd cc
long-before (byte ∷ rest) behind is = (is.0, let size = length-append (byte ∷ rest) behind in let long = is.1 in omega arith)

place-of-equals : (word value : List ℕ) → list_any is_equals word ≡ false →
    position_or_len is_equals (word ++ codes "=" ++ value) ≡ length word
place-of-equals [] value none = refl
place-of-equals (byte ∷ rest) value none = by (place-of-equals rest value) (is_equals byte) refl none
  where
    by : (list_any is_equals rest ≡ false → position_or_len is_equals (rest ++ codes "=" ++ value) ≡ length rest) →
        (b : Bool) → is_equals byte ≡ b → (b || list_any is_equals rest) ≡ false →
        position_or_len is_equals (byte ∷ (rest ++ codes "=" ++ value)) ≡ length (byte ∷ rest)
    by behind true first h = absurd cc
    by behind false first h =
        let at = place-behind byte (rest ++ codes "=" ++ value) first in let more = behind h in omega arith

-- what an option's word means, by whether the option takes a value, and whether the word has one
abbrev meaning-by : OptionKind → List ℕ → (takes has : Bool) → Meaning
meaning-by option value takes has =
    if takes then (if has then Holds option value else Awaits option) else (if has then Unknown else Holds option [])

-- the word of an option, without a value
pub by-itself : (word : List ℕ) (option : OptionKind) → option_of word ≡ Some option → (takes : Bool) →
    takes_value (option_row option).takes ≡ takes → meaning_of word ≡ (if takes then Awaits option else Holds option [])
by-itself word option names takes is_taker =
    let is = name-is word (name-of word option names) in
    let whole = take_all (position_or_len is_equals word) word (place-past word is.1) in
    by-name word option is.0 (ap option_of whole ∙ names) ∙
    ap (λ (b : Bool). meaning-by option (after_first is_equals word) (takes_value (option_row option).takes) b) is.1 ∙
    ap (λ (b : Bool). if b then Awaits option else Holds option []) is_taker

pub awaits-value : (word : List ℕ) (option : OptionKind) → NamesTaker word option → meaning_of word ≡ Awaits option
awaits-value word option names = by-itself word option names.0 true names.1

not-true : (b : Bool) → not b ≡ true → b ≡ false
not-true true is = absurd cc
not-true false is = refl

pub stands-alone : (word : List ℕ) (option : OptionKind) → NamesAlone word option → meaning_of word ≡ Holds option []
stands-alone word option names = by-itself word option names.0 false (not-true (takes_value (option_row option).takes) names.1)

pub holds-value : (value : List ℕ) (word : List ℕ) (option : OptionKind) → NamesTaker word option →
    meaning_of (word ++ codes "=" ++ value) ≡ Holds option value
holds-value value word option names =
    let is = name-is word (name-of word option names.0) in
    let whole : List ℕ = word ++ codes "=" ++ value in
    let first = place-of-equals word value is.1 in
    let same = append_assoc word (codes "=") value in
    let before : before_first is_equals whole ≡ word =
    ap (λ (n : ℕ). take n whole) first ∙ ap (λ (w : List ℕ). take (length word) w) same ∙ take_at word (codes "=" ++ value) (length word) refl in
    let after : after_first is_equals whole ≡ value =
    ap (λ (n : ℕ). drop (n + 1) whole) first ∙ drop_at (word ++ codes "=") value (length word + 1) (length-append word (codes "=")) in
    let any : list_any is_equals whole ≡ true =
    ap (λ (w : List ℕ). list_any is_equals w) same ∙ list_any-append is_equals word (codes "=" ++ value) ∙ ap (λ (b : Bool). b || true) is.1 in
    by-name whole option (long-before (word ++ codes "=") value (long-before word (codes "=") is.0)) (ap option_of before ∙ names.0) ∙
    ap (λ (b : Bool). meaning-by option (after_first is_equals whole) (takes_value (option_row option).takes) b) any ∙
    ap (λ (b : Bool). if b then Holds option (after_first is_equals whole) else Unknown) names.1 ∙ ap (Holds option) after

-- a word round its first `=`
round-equals : (word : List ℕ) → list_any is_equals word ≡ true → word ≡ before_first is_equals word ++ codes "=" ++ after_first is_equals word
round-equals word any =
    let below = place-below word any in
    let passes = passes_at_first is_equals word 0 below in
    let equals : get_or word (position_or_len is_equals word) 0 ≡ 61 = grind (arith, nat_tests) in
    split_at_first is_equals word 0 below ∙ ap (λ (byte : ℕ). before_first is_equals word ++ (byte ∷ after_first is_equals word)) equals ∙
    sym (append_assoc (before_first is_equals word) (codes "=") (after_first is_equals word))

-- the words that have a meaning
abbrev pub Means : List ℕ → Meaning → Type 0
Means word Divides = word ≡ codes "--"
Means word Positional = is_positional word ≡ true
Means word (Awaits option) = NamesTaker word option
Means word (Holds option value) =
    ((name : List ℕ) × NamesTaker name option × (word ≡ name ++ codes "=" ++ value)) ⊎ (NamesAlone word option × (value ≡ []))
Means word Unknown = Unit {0}

pub means : (word : List ℕ) → Means word (meaning_of word)
means word = by (bytes_eq word (codes "--")) refl
  where
    name : List ℕ
    name = before_first is_equals word

    whole : list_any is_equals word ≡ false → option_of word ≡ option_of name
    whole none = ap option_of (sym (take_all (position_or_len is_equals word) word (place-past word none)))

    of-option : (option : OptionKind) → option_of name ≡ Some option →
        (takes : Bool) → takes_value (option_row option).takes ≡ takes → (b : Bool) → list_any is_equals word ≡ b →
        Means word (meaning-by option (after_first is_equals word) takes b)
    of-option option names true taker true any = inl (name, (names, taker), round-equals word any)
    of-option option names true taker false none = (whole none ∙ names, taker)
    of-option option names false alone true any = tt
    of-option option names false alone false none = inr ((whole none ∙ names, ap not alone), refl)

    of-name : (o : Option OptionKind) → option_of name ≡ o → Means word (option_meaning word o)
    of-name None none = tt
    of-name (Some option) names =
        of-option option names (takes_value (option_row option).takes) refl (list_any is_equals word) refl

    of-other : (b : Bool) → is_positional word ≡ b → Means word (if b then Positional else option_meaning word (option_of name))
    of-other true is = is
    of-other false is = of-name (option_of name) refl

    by : (b : Bool) → bytes_eq word (codes "--") ≡ b →
        Means word (if b then Divides else (if is_positional word then Positional else option_meaning word (option_of name)))
    by true is = same_bytes word (codes "--") is
    by false is = of-other (is_positional word) refl
