-- Words are sorted as the rule says.
use Rattle.std.proofs.Common.{◌≡◌, ℕ, inl, inr, List, [], ◌∷◌, ◌++◌, Option, Some, None, codes, refl, sym, ap, subst, ◌∙◌}
use Rattle.std.proofs.lemmas.Option.{none-some, same_Some}
use Rattle.std.specs.Option.{option_map}
use Rattle.word_reader.specs.Meanings.{Meaning, Divides, Positional, Awaits, Holds, Unknown, meaning_of}
use Rattle.word_reader.specs.Sorting.{Sorted, nothing, all_positionals, with_positional, with_value, AreSorted, Ended, Divided, Stands, Apart, Held, Alone, NamesTaker, sorted, sorted_by, SortsByRule}
use Rattle.word_reader.specs.declared.sorted.Next.{Next}
use Rattle.word_reader.specs.declared.sorted.Next.TheVariants.{Any, Value, Positional as Name}
use Rattle.word_reader.proofs.MeaningLemmas.{Means, means, awaits-value, holds-value, is-positional, stands-alone}

all-names : (words : List (List ℕ)) → sorted Name words ≡ Some (all_positionals words)
all-names [] = refl
all-names (word ∷ rest) = ap (option_map (with_positional word)) (all-names rest)

-- by what the first word means
first-means : (word : List ℕ) (rest : List (List ℕ)) (meaning : Meaning) → meaning_of word ≡ meaning →
    sorted Any (word ∷ rest) ≡ sorted_by meaning word (λ next. sorted next rest)
first-means word rest meaning is = ap (λ (m : Meaning). sorted_by m word (λ next. sorted next rest)) is

by-rule : (words : List (List ℕ)) (s : Sorted) → AreSorted words s → sorted Any words ≡ Some s
by-rule words s Ended = refl
by-rule words s (Divided rest) = all-names rest
by-rule words s (Stands {rest = rest} word is behind) =
    first-means word rest Positional (is-positional word is) ∙ ap (option_map (with_positional word)) (by-rule rest _ behind)
by-rule words s (Apart {rest = rest} word value option names behind) =
    first-means word (value ∷ rest) (Awaits option) (awaits-value word option names) ∙
    ap (option_map (with_value option value)) (by-rule rest _ behind)
by-rule words s (Held {rest = rest} word value option names behind) =
    first-means (word ++ codes "=" ++ value) rest (Holds option value) (holds-value value word option names) ∙
    ap (option_map (with_value option value)) (by-rule rest _ behind)
by-rule words s (Alone {rest = rest} word option names behind) =
    first-means word rest (Holds option []) (stands-alone word option names) ∙
    ap (option_map (with_value option [])) (by-rule rest _ behind)

-- what words say that are sorted, by what the first of them is taken for
abbrev Says : Next → List (List ℕ) → Sorted → Type 0
Says Any words s = AreSorted words s
Says (Value option) words s = (word : List ℕ) → NamesTaker word option → AreSorted (word ∷ words) s
Says Name words s = all_positionals words ≡ s

-- where one more stands before words that are sorted
with-one : (add : Sorted → Sorted) (o : Option Sorted) (s : Sorted) (P : Sorted → Type 0) → option_map add o ≡ Some s →
    ((t : Sorted) → o ≡ Some t → P (add t)) → P s
with-one add None s P is holds = absurd (none-some s is)
with-one add (Some t) s P is holds = subst P (same_Some (add t) s is) (holds t refl)

module _ (word : List ℕ) (rest : List (List ℕ)) (behind : (next : Next) (t : Sorted) → sorted next rest ≡ Some t → Says next rest t) where
  by-meaning : (meaning : Meaning) → Means word meaning → (s : Sorted) → sorted_by meaning word (λ next. sorted next rest) ≡ Some s →
      AreSorted (word ∷ rest) s
  by-meaning Divides is s says =
      subst (λ (t : Sorted). AreSorted (word ∷ rest) t) (behind Name s says)
      (subst (λ (w : List ℕ). AreSorted (w ∷ rest) (all_positionals rest)) (sym is) (Divided rest))
  by-meaning Positional is s says =
      with-one (with_positional word) (sorted Any rest) s (AreSorted (word ∷ rest)) says (λ t h. Stands word is (behind Any t h))
  by-meaning (Awaits option) is s says = behind (Value option) s says word is
  by-meaning (Holds option value) (inl is) s says =
      with-one (with_value option value) (sorted Any rest) s (AreSorted (word ∷ rest)) says
      (λ t h. subst (λ (w : List ℕ). AreSorted (w ∷ rest) (with_value option value t)) (sym is.2) (Held is.0 value option is.1 (behind Any t h)))
  by-meaning (Holds option value) (inr is) s says =
      with-one (with_value option value) (sorted Any rest) s (AreSorted (word ∷ rest)) says
      (λ t h. subst (λ (v : List ℕ). AreSorted (word ∷ rest) (with_value option v t)) (sym is.1) (Alone word option is.0 (behind Any t h)))
  by-meaning Unknown is s says = absurd (none-some s says)

from-sorted : (next : Next) (words : List (List ℕ)) (s : Sorted) → sorted next words ≡ Some s → Says next words s
from-sorted Any [] s is = subst (AreSorted []) (same_Some nothing s is) Ended
from-sorted (Value option) [] s is = absurd (none-some s is)
from-sorted Name [] s is = same_Some nothing s is
from-sorted Any (word ∷ rest) s is =
    by-meaning word rest (λ next t h. from-sorted next rest t h) (meaning_of word) (means word) s is
from-sorted (Value option) (value ∷ rest) s is = λ word names.
    with-one (with_value option value) (sorted Any rest) s (AreSorted (word ∷ value ∷ rest)) is
    (λ t h. Apart word value option names (from-sorted Any rest t h))
from-sorted Name (word ∷ rest) s is =
    with-one (with_positional word) (sorted Name rest) s (λ t. all_positionals (word ∷ rest) ≡ t) is
    (λ t h. ap (with_positional word) (from-sorted Name rest t h))

pub sorts-by-rule : (words : List (List ℕ)) → SortsByRule words
sorts-by-rule words = λ s. (from-sorted Any words s, by-rule words s)
