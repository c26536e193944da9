-- A whole solution's text and its tokens.
use Rattle.std.proofs.Common.{◌≡◌, ℕ, zero, suc, ◌+◌, ◌-◌, ◌≤◌, Bool, true, false, List, [], ◌∷◌, take, Ok, Err, if◌then◌else◌, sym, ap, subst, ◌∙◌, arith}
use Rattle.gr_base.specs.Designs.{DesignView}
use Rattle.gr_text.specs.Tokens.{tokens, AtEnd}
use Rattle.solution_text.specs.Grammar.{Checked, Progress, start, step}
use Rattle.solution_text.specs.declared.fault.SolutionFault.{SolutionFault}
use Rattle.solution_text.specs.declared.fault.SolutionFault.TheVariants.{Ended}
use Rattle.route_reader.specs.SolutionText.{Said, is_between, go_on, records, solution_from, solution_at, solution_of}
use Rattle.text_laws.specs.EarlySolutionFaults.{SolutionFaultsAreDecidedEarly, TokensDecideSolutions}
use Rattle.text_laws.proofs.EarlyLemmas.{head-same}
use Rattle.text_laws.proofs.WholeLemmas.{place_in-whole, same-whole}

fault-number : (f g : SolutionFault) (m n : ℕ) → ◌≡◌ {A = Said Progress} (Err (f, m)) (Err (g, n)) → m ≡ n
fault-number f g m n is = let same : (f, m) ≡ (g, n) = cc in ap (λ (e : SolutionFault × ℕ). e.1) same

-- a text that ends within a record
end-number : (b : Bool) (s : Progress) (number : ℕ) (f : SolutionFault) (token : ℕ) →
    ◌≡◌ {A = Said Progress} (if b then Ok s else Err (Ended, number + 1)) (Err (f, token)) → number + 1 ≡ token
end-number true s number f token is = cc
end-number false s number f token is = fault-number Ended f (number + 1) token is

module _ (d : DesignView) where
  -- a fault comes at a token that is read here or later
  go-late : (r : Checked Progress) (number : ℕ) (rest : List (List ℕ)) (f : SolutionFault) (token : ℕ) →
      ((p : Progress) → records d p (number + 1) rest AtEnd ≡ Err (f, token) → number + 1 + 1 ≤ token) →
      go_on r (number + 1) (λ p. records d p (number + 1) rest AtEnd) ≡ Err (f, token) → number + 1 ≤ token
  go-late (Ok p) number rest f token later is = let two = later p is in omega arith
  go-late (Err e) number rest f token later is = let one = fault-number e f (number + 1) token is in omega arith

  late : (s : Progress) (number : ℕ) (rest : List (List ℕ)) (f : SolutionFault) (token : ℕ) → records d s number rest AtEnd ≡ Err (f, token) →
      number + 1 ≤ token
  late s number [] f token is = let one = end-number (is_between s.mode) s number f token is in omega arith
  late s number (t ∷ rest) f token is = go-late (step d s t) number rest f token (λ p said. late p (number + 1) rest f token said) is

  go-early : (r : Checked Progress) (number : ℕ) (rest there : List (List ℕ)) (f : SolutionFault) (token : ℕ) →
      ((p : Progress) → records d p (number + 1) rest AtEnd ≡ Err (f, token) → records d p (number + 1) there AtEnd ≡ Err (f, token)) →
      go_on r (number + 1) (λ p. records d p (number + 1) rest AtEnd) ≡ Err (f, token) →
      go_on r (number + 1) (λ p. records d p (number + 1) there AtEnd) ≡ Err (f, token)
  go-early (Ok p) number rest there f token each is = each p is
  go-early (Err e) number rest there f token each is = is

  -- and depends on the tokens up to it
  early : (s : Progress) (number : ℕ) (rest there : List (List ℕ)) (f : SolutionFault) (token : ℕ) →
      take (token - number) rest ≡ take (token - number) there → records d s number rest AtEnd ≡ Err (f, token) → records d s number there AtEnd ≡ Err (f, token)
  early s number [] [] f token same is = is
  early s number [] (t ∷ there) f token same is =
      let e = end-number (is_between s.mode) s number f token is in
      let one : token - number ≡ suc zero = omega arith in
      let no : [] ≡ t ∷ [] = rw one at same in
      cc
  early s number (t ∷ rest) [] f token same is =
      let e = late s number (t ∷ rest) f token is in
      let more : token - number ≡ suc (token - (number + 1)) = omega arith in
      let no : t ∷ take (token - (number + 1)) rest ≡ [] = rw more at same in
      cc
  early s number (t ∷ rest) (u ∷ there) f token same is =
      let e = late s number (t ∷ rest) f token is in
      let more : token - number ≡ suc (token - (number + 1)) = omega arith in
      let parts = head-same t u (take (token - (number + 1)) rest) (take (token - (number + 1)) there) (rw more at same) in
      subst (λ (w : List ℕ). go_on (step d s w) (number + 1) (λ p. records d p (number + 1) there AtEnd) ≡ Err (f, token)) parts.0
      (go-early (step d s t) number rest there f token (λ p said. early p (number + 1) rest there f token parts.1 said) is)

  solution_from-err : (said : Said Progress) (e : SolutionFault × ℕ) → solution_from d said ≡ Err e → said ≡ Err e
  solution_from-err (Ok s) e is = cc
  solution_from-err (Err g) e is = let same : g ≡ e = cc in ap Err same

pub early-solution-faults : SolutionFaultsAreDecidedEarly
unfolding solution_of
early-solution-faults d text other fault token short other_short same is =
    let all : token - 0 ≡ token = omega arith in
    let read : records d start 0 (tokens text) AtEnd ≡ Err (fault, token) =
    solution_from-err d (records d start 0 (tokens text) AtEnd) (fault, token) (ap (solution_at d start) (sym (place_in-whole text short)) ∙ is) in
    ap (solution_at d start) (place_in-whole other other_short)
    ∙ ap (solution_from d) (early d start 0 (tokens text) (tokens other) fault token (rw all same) read)

pub tokens-decide : TokensDecideSolutions
unfolding solution_of
tokens-decide d text other short other_short same = ap (solution_at d start) (same-whole text other short other_short same)
