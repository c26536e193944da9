-- What the tokens from a place on say, by the next one.
use Rattle.std.proofs.Common.{◌≡◌, ℕ, ◌+◌, Bool, false, List, [], ◌∷◌, Option, Some, None, Result, Ok, Err, IsErr, IsErrAnd, IsTrue, refl, sym, subst, ap, ◌∙◌}
use Rattle.gr_base.specs.Designs.{DesignView}
use Rattle.gr_text.specs.declared.source.ReadError.{ReadError}
use Rattle.gr_text.specs.declared.source.ReadError.TheVariants as reading
use Rattle.gr_text.specs.Reads.{Reads}
use Rattle.gr_text.specs.Tokens.{Place, Ending, AtEnd, PastLimit}
use Rattle.gr_text.specs.Reading.{Read, next_or_end, token_or_end}
use Rattle.solution_text.specs.declared.fault.SolutionFault.{SolutionFault}
use Rattle.solution_text.specs.Grammar.{Progress, step}
use Rattle.route_reader.specs.SolutionText.{go_on, records, solution_from, solution_at}
use Rattle.solution_text.specs.Faults.{ends}
use Rattle.route_reader.specs.Gathered.{rest_says, Takes}
use Rattle.route_reader.specs.declared.gathering.Gathering.{Gathering}

-- what a step of reading gives, part by part
read-is : (p q : Option (List ℕ) × Place) → (let x : Read SolutionFault (Option (List ℕ)) = Ok p in x) ≡ Ok q → (p.0 ≡ q.0) × (p.1 ≡ q.1)
read-is p q is = let same : p ≡ q = cc in (ap (λ (r : Option (List ℕ) × Place). r.0) same, ap (λ (r : Option (List ℕ) × Place). r.1) same)

module _ (d : DesignView) (s : Progress) (place : Place) where
  past-limit : (rest : List (List ℕ)) (ending : Ending) (fault : SolutionFault × ℕ) → next_or_end ends place rest ending ≡ Err fault →
      solution_from d (records d s place.number rest ending) ≡ Err fault
  past-limit [] AtEnd fault is = absurd cc
  past-limit [] PastLimit fault is = ap Err (let same : (ends.too_long, place.number + 1) ≡ fault = cc in same)
  past-limit (token ∷ rest) ending fault is = absurd cc

  -- no further token may be read
  pub says-past : (fault : SolutionFault × ℕ) → token_or_end ends place ≡ Err fault → solution_at d s place ≡ Err fault
  unfolding token_or_end
  says-past fault is = past-limit place.rest place.ending fault is

  at-end : (rest : List (List ℕ)) (ending : Ending) (after : Place) → next_or_end ends place rest ending ≡ Ok (None, after) →
      solution_from d (records d s place.number rest ending) ≡ rest_says d s false after
  at-end [] AtEnd after is = ap (λ (p : Place). rest_says d s false p) (read-is (None, place) (None, after) is).1
  at-end [] PastLimit after is = absurd cc
  at-end (token ∷ rest) ending after is =
      let no = (read-is (Some token, record { number = place.number + 1; rest = rest; ending = ending }) (None, after) is).0 in absurd cc

  -- the text ends
  pub says-end : (after : Place) → token_or_end ends place ≡ Ok (None, after) → solution_at d s place ≡ rest_says d s false after
  unfolding token_or_end
  says-end after is = at-end place.rest place.ending after is

  next : (rest : List (List ℕ)) (ending : Ending) (word : List ℕ) (after : Place) → next_or_end ends place rest ending ≡ Ok (Some word, after) →
      solution_from d (records d s place.number rest ending)
      ≡ solution_from d (go_on (step d s word) after.number (λ progress. records d progress after.number after.rest after.ending))
  next [] AtEnd word after is = let no = (read-is (None, place) (Some word, after) is).0 in absurd cc
  next [] PastLimit word after is = absurd cc
  next (token ∷ rest) ending word after is =
      let there : Place = record { number = place.number + 1; rest = rest; ending = ending } in
      let same = read-is (Some token, there) (Some word, after) is in
      let same_word : token ≡ word = let e = same.0 in cc in
      ap (λ (t : List ℕ). solution_from d (go_on (step d s t) there.number (λ progress. records d progress there.number there.rest there.ending))) same_word
      ∙ ap (λ (p : Place). solution_from d (go_on (step d s word) p.number (λ progress. records d progress p.number p.rest p.ending))) same.1

  -- the next token is taken
  pub says-next : (word : List ℕ) (after : Place) (t : Progress) → token_or_end ends place ≡ Ok (Some word, after) → step d s word ≡ Ok t →
      solution_at d s place ≡ solution_at d t after
  unfolding token_or_end
  says-next word after t is taken = next place.rest place.ending word after is ∙ rw taken refl

  -- the next token is at fault
  pub says-fault : (word : List ℕ) (after : Place) (fault : SolutionFault) → token_or_end ends place ≡ Ok (Some word, after) → step d s word ≡ Err fault →
      solution_at d s place ≡ Err (fault, after.number)
  unfolding token_or_end
  says-fault word after fault is refused = next place.rest place.ending word after is ∙ rw refused refl

failed : (d : DesignView) (s : Progress) (tells : Bool) (place there after : Place) (g : Gathering) (view : Bool → Option (List ℕ)) (e : ReadError SolutionFault) →
    (IsTrue tells → Reads (token_or_end ends place) view (Err e) there) → Takes d s tells place after g (Err e)
failed d s tells place there after g view (reading.Fault fault token) reads = λ told. says-past d s place (fault, token) (reads told)
failed d s tells place there after g view reading.Failed reads = tt
failed d s tells place there after g view reading.NoMemory reads = tt

-- the error of a token is the text's
pub takes-fails : (d : DesignView) (s : Progress) (tells : Bool) (place there after : Place) (g : Gathering) (view : Bool → Option (List ℕ)) (result : Result Bool (ReadError SolutionFault))
    (e : ReadError SolutionFault) → IsErr result × IsErrAnd result (λ made. made ≡ e) →
    (IsTrue tells → Reads (token_or_end ends place) view (Err e) there) → Takes d s tells place after g result
takes-fails d s tells place there after g view (Ok more) e made reads = let no = made.0 in cc
takes-fails d s tells place there after g view (Err other) e made reads =
    subst (λ (x : ReadError SolutionFault). Takes d s tells place after g (Err x)) (sym made.1) (failed d s tells place there after g view e reads)
