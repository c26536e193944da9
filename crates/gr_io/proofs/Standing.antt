-- How far the bytes of a text are written.
use Rattle.std.proofs.Common.{◌≡◌, ◌+◌, ◌<◌, Bool, ℕ, List, [], ◌++◌, ◌-◌, length, take, drop, IsTrue, refl, sym, ap, ◌∙◌, append_assoc, arith, length-append}
use Rattle.std.proofs.lemmas.List.{append-nil, take-append-drop, take_rest}
use Rattle.gr_io.specs.Parts.{AppendsPart}

-- a sink got all of a text but its rest, where the sink tells
pub record Standing (tells : Bool) (old new rest text : List ℕ) : Type 0 where
  pub done : List ℕ
  pub whole : done ++ rest ≡ text
  pub written : IsTrue tells → new ≡ old ++ done

-- nothing is written yet
pub Standing-start : (tells : Bool) (old text : List ℕ) → Standing tells old old text text
Standing-start tells old text = record { done = []; whole = refl; written = λ _. sym (append-nil old) }

-- some more bytes are written
pub Standing-step : {tells : Bool} {old new rest text : List ℕ} (count : ℕ) (newer : List ℕ) → Standing tells old new rest text → (IsTrue tells → newer ≡ new ++ take count rest) → Standing tells old newer (take (length rest - count) (drop count rest)) text
Standing-step {old = old} {rest = rest} count newer s more = record {
  done = s.done ++ take count rest;
  whole = append_assoc s.done (take count rest) (take (length rest - count) (drop count rest)) ∙ ap (λ xs. s.done ++ (take count rest ++ xs)) (take_rest rest count) ∙ ap (λ xs. s.done ++ xs) (take-append-drop count rest) ∙ s.whole;
  written = λ t. more t ∙ ap (λ xs. xs ++ take count rest) (s.written t) ∙ append_assoc old s.done (take count rest);
}

-- a first part of the text is written
pub Standing-part : {tells : Bool} {old new rest text : List ℕ} → Standing tells old new rest text → IsTrue tells → AppendsPart old new text
Standing-part {rest = rest} s t = record { done = s.done; rest = rest; written = s.written t; whole = s.whole }

-- all of the text is written
pub Standing-end : {tells : Bool} {old new rest text : List ℕ} → Standing tells old new rest text → rest ≡ [] → IsTrue tells → new ≡ old ++ text
Standing-end {old = old} s e t = s.written t ∙ ap (λ xs. old ++ xs) (sym (append-nil s.done) ∙ ap (λ xs. s.done ++ xs) (sym e) ∙ s.whole)

-- where bytes are left, the text isn't empty
pub Standing-nonempty : {tells : Bool} {old new rest text : List ℕ} → Standing tells old new rest text → 0 < length rest → text ≡ [] → ⊥
Standing-nonempty {rest = rest} s more e =
    let l : length s.done + length rest ≡ 0 = sym (length-append s.done rest) ∙ ap length (s.whole ∙ e) in
    omega arith
