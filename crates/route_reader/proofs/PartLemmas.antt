-- How a segment's token is taken apart at its marks.
use Rattle.std.proofs.Common.{◌≡◌, ℕ, ◌+◌, ◌-◌, ◌<◌, inl, inr, Bool, true, false, nat_eq, nat_lt, List, [], ◌∷◌, ◌++◌, length, take, drop, get_or, position, All, Some, None, option_map, refl, sym, ap, ◌∙◌, if◌then◌else◌, arith}
use Rattle.std.specs.List.{AllByRecursion, filter, position_or_len, slice_split}
use Rattle.std.specs.Str.{bytes_eq}
use Rattle.std.proofs.lemmas.Bool.{cases_lt}
use Rattle.std.proofs.lemmas.Bool.Decides.{nat_tests}
use Rattle.std.proofs.lemmas.List.{take-append-drop, get_or-take, get_or_default, length-take-le, length-drop, take_all}
use Rattle.std.proofs.lemmas.List.Elements.{filter-append, recursion_from_All}
use Rattle.std.proofs.lemmas.List.Quantifiers.{position-Some}
use Rattle.std.proofs.lemmas.List.Sums.{fails_before_first}
use Rattle.std.proofs.lemmas.List.Splits.{slice_split_at}
use Rattle.std.proofs.Math.Seq.{drop-cons}
use Rattle.std.proofs.Math.Numerals.{suc-eq-add-one}
use Rattle.solution_text.specs.Grammar.{is_mark}
use Rattle.route_reader.specs.Segments.{parted}

abbrev Clear : ℕ → Type 0
Clear byte = is_mark byte ≡ false

no_marks : (text : List ℕ) → AllByRecursion Clear text → filter is_mark text ≡ []
no_marks [] clear = refl
no_marks (byte ∷ text) clear = rw (clear.0) (no_marks text clear.1)

-- the first mark, with what stands before it and behind it
record FirstMark (text : List ℕ) (at mark : ℕ) : Type 0 where
  clear : All Clear (take at text)
  is : is_mark mark ≡ true
  parts : text ≡ take at text ++ mark ∷ drop (at + 1) text

mark_found : (text : List ℕ) (at mark : ℕ) → position is_mark text ≡ Some at → get_or text at 0 ≡ mark → FirstMark text at mark
mark_found text at mark found is =
    let f = position-Some is_mark text at 0 found in
    let inside : at < length text = f.0 in
    record {
      clear = λ k d below.
          let few : length (take at text) ≡ at = length-take-le at text (omega arith) in
          let lt : k < at = omega arith in
          ap is_mark (get_or-take at text k d lt ∙ get_or_default text k d 0 (omega arith)) ∙ (position-Some is_mark text at 0 found).2 k lt;
      is = ap is_mark (sym is) ∙ f.1;
      parts = sym (take-append-drop at text) ∙ ap (λ (rest : List ℕ). take at text ++ rest)
          (drop-cons text at 0 inside ∙ ap (λ (k : ℕ). get_or text at 0 ∷ drop k text) (suc-eq-add-one at) ∙ ap (λ (byte : ℕ). byte ∷ drop (at + 1) text) is);
    }

marks-are : (text : List ℕ) (at mark : ℕ) → FirstMark text at mark → filter is_mark text ≡ mark ∷ filter is_mark (drop (at + 1) text)
marks-are text at mark first =
    ap (filter is_mark) first.parts
    ∙ filter-append is_mark (take at text) (mark ∷ drop (at + 1) text)
    ∙ ap (λ (before : List ℕ). before ++ filter is_mark (mark ∷ drop (at + 1) text)) (no_marks (take at text) (recursion_from_All Clear (take at text) first.clear))
    ∙ rw (first.is) refl

parts-are : (text : List ℕ) (at mark : ℕ) → FirstMark text at mark → slice_split is_mark text ≡ take at text ∷ slice_split is_mark (drop (at + 1) text)
parts-are text at mark first =
    ap (slice_split is_mark) first.parts ∙ slice_split_at is_mark (take at text) mark (drop (at + 1) text) first.clear first.is

same_mark : (mark : ℕ) (found marks : List ℕ) → bytes_eq (mark ∷ found) (mark ∷ marks) ≡ bytes_eq found marks
same_mark mark found marks = let e : nat_eq mark mark ≡ true = grind (arith, nat_tests) in rw e refl

other_mark : (mark other : ℕ) (found marks : List ℕ) → (other ≡ mark → ⊥) → bytes_eq (other ∷ found) (mark ∷ marks) ≡ false
other_mark mark other found marks not = let e : nat_eq other mark ≡ false = grind (arith, nat_tests) in rw e refl

clear-text : (text : List ℕ) → position is_mark text ≡ None → All Clear text
clear-text text none k d below =
    elim (cases_lt (position_or_len is_mark text) (length text)) [
      | inl found ↦
          let within : nat_lt (position_or_len is_mark text) (length text) ≡ true = grind (arith, nat_tests) in
          let some : position is_mark text ≡ Some (position_or_len is_mark text) = rw within refl in
          let no = sym some ∙ none in absurd cc
      | inr past ↦ ap is_mark (get_or_default text k d 0 below) ∙ fails_before_first is_mark text k 0 (omega arith)
    ]

-- a text with no mark has not the marks of a list that isn't empty
pub cut-none : (text : List ℕ) (mark : ℕ) (marks : List ℕ) → position is_mark text ≡ None → parted (mark ∷ marks) text ≡ None
cut-none text mark marks none = rw (no_marks text (recursion_from_All Clear text (clear-text text none))) refl

-- nor has one that begins with another mark
pub cut-other : (text : List ℕ) (at mark : ℕ) (marks : List ℕ) → position is_mark text ≡ Some at → (get_or text at 0 ≡ mark → ⊥) →
    parted (mark ∷ marks) text ≡ None
cut-other text at mark marks found not =
    let other : ℕ = get_or text at 0 in
    rw (marks-are text at other (mark_found text at other found refl)) (rw (other_mark mark other (filter is_mark (drop (at + 1) text)) marks not) refl)

when : (holds : Bool) (part : List ℕ) (parts : List (List ℕ)) →
    (if holds then Some (part ∷ parts) else None) ≡ option_map (λ (all : List (List ℕ)). part ∷ all) (if holds then Some parts else None)
when true part parts = refl
when false part parts = refl

-- the part before the first mark
pub cut-is : (text : List ℕ) (at mark : ℕ) (marks : List ℕ) → position is_mark text ≡ Some at → get_or text at 0 ≡ mark →
    parted (mark ∷ marks) text ≡ option_map (λ (parts : List (List ℕ)). take at text ∷ parts) (parted marks (take (length text - (at + 1)) (drop (at + 1) text)))
cut-is text at mark marks found is =
    let first = mark_found text at mark found is in
    let behind : List ℕ = drop (at + 1) text in
    let rest : take (length text - (at + 1)) behind ≡ behind = take_all (length text - (at + 1)) behind (let e = length-drop (at + 1) text in omega arith) in
    rw rest (rw (marks-are text at mark first) (rw (same_mark mark (filter is_mark behind) marks) (rw (parts-are text at mark first)
    (when (bytes_eq (filter is_mark behind) marks) (take at text) (slice_split is_mark behind)))))
