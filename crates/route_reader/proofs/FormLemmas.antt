-- The form of a segment's token: its marks, and what stands between them.
use Rattle.std.specs.Prelude.{codes}
use Rattle.std.proofs.Common.{◌≡◌, ℕ, ◌==◌, not, inl, inr, true, false, List, [], ◌∷◌, length, Option, Some, None, option_map, Err, refl, sym, ap, ◌∙◌, arith}
use Rattle.std.specs.List.{filter, slice_split, onto_first}
use Rattle.std.specs.Str.{bytes_eq}
use Rattle.std.proofs.lemmas.Bool.{cases_Bool, not-true, not-false, false≢true}
use Rattle.std.proofs.lemmas.Bool.Decides.{nat_tests}
use Rattle.gr_base.specs.declared.frame.Frame.{Frame}
use Rattle.solution_text.specs.declared.run.Run.{Run}
use Rattle.solution_text.specs.declared.fault.SolutionFault.TheVariants.{Form}
use Rattle.solution_text.specs.Grammar.{Checked, ◌>>=◌, spot_of, run_between, is_mark, run_of_parts, segment}
use Rattle.route_reader.specs.Segments.{parted, after_point}
use Rattle.route_reader.specs.declared.segment.Written.{Written}

-- the run of the parts, if the marks are a segment's
abbrev pub run_of_parted : Frame → Option (List (List ℕ)) → Checked Run
run_of_parted frame None = Err Form
run_of_parted frame (Some parts) = run_of_parts frame parts

segment-parted : (frame : Frame) (token : List ℕ) → segment frame token ≡ run_of_parted frame (parted (codes "(,,)(,,)") token)
unfolding segment
segment-parted frame token =
    elim (cases_Bool (bytes_eq (filter is_mark token) (codes "(,,)(,,)"))) [
      | inl same ↦ rw same refl
      | inr other ↦ rw other refl
    ]

-- a point's parts before others
abbrev pub onto : (lead x y layer : List ℕ) → Option (List (List ℕ)) → Option (List (List ℕ))
onto lead x y layer = option_map (λ parts. lead ∷ x ∷ y ∷ layer ∷ parts)

wrong-first : (frame : Frame) (byte : ℕ) (lead x y layer : List ℕ) (parts : Option (List (List ℕ))) →
    run_of_parted frame (onto (byte ∷ lead) x y layer parts) ≡ Err Form
wrong-first frame byte lead x y layer None = refl
wrong-first frame byte lead x y layer (Some parts) = refl

-- nothing may stand before the first bracket
wrong-lead : (frame : Frame) (lead x y layer : List ℕ) (parts : Option (List (List ℕ))) → false ≡ (length lead == 0) →
    run_of_parted frame (onto lead x y layer parts) ≡ Err Form
wrong-lead frame [] x y layer parts some = absurd (false≢true some)
wrong-lead frame (byte ∷ lead) x y layer parts some = wrong-first frame byte lead x y layer parts

-- a hyphen alone stands between the points
wrong-hyphen : (frame : Frame) (lead x y layer hyphen u v level : List ℕ) (parts : Option (List (List ℕ))) → true ≡ not (bytes_eq hyphen (codes "-")) →
    run_of_parted frame (onto lead x y layer (onto hyphen u v level parts)) ≡ Err Form
wrong-hyphen frame (byte ∷ lead) x y layer hyphen u v level parts other = wrong-first frame byte lead x y layer (onto hyphen u v level parts)
wrong-hyphen frame [] x y layer hyphen u v level None other = refl
wrong-hyphen frame [] x y layer hyphen u v level (Some []) other = refl
wrong-hyphen frame [] x y layer hyphen u v level (Some ([] ∷ [])) other = rw (not-true (bytes_eq hyphen (codes "-")) (sym other)) refl
wrong-hyphen frame [] x y layer hyphen u v level (Some ([] ∷ part ∷ parts)) other = refl
wrong-hyphen frame [] x y layer hyphen u v level (Some ((byte ∷ part) ∷ parts)) other = refl

-- nothing may follow the last bracket
wrong-rest : (frame : Frame) (lead x y layer hyphen u v level rest : List ℕ) → false ≡ (length rest == 0) →
    run_of_parted frame (onto lead x y layer (onto hyphen u v level (parted [] rest))) ≡ Err Form
wrong-rest frame (byte ∷ lead) x y layer hyphen u v level rest some = wrong-first frame byte lead x y layer (onto hyphen u v level (parted [] rest))
wrong-rest frame [] x y layer hyphen u v level [] some = absurd (false≢true some)
wrong-rest frame [] x y layer hyphen u v level (byte ∷ rest) some =
    elim (cases_Bool (is_mark byte)) [
      | inl mark ↦ rw mark refl
      | inr clear ↦ rw clear (elim (cases_Bool (bytes_eq (filter is_mark rest) [])) [
        | inl none ↦ rw none (longer (slice_split is_mark rest))
        | inr more ↦ rw more refl
      ])
    ]
  where
    longer : (parts : List (List ℕ)) → run_of_parted frame (onto [] x y layer (onto hyphen u v level (Some (onto_first byte parts)))) ≡ Err Form
    longer [] = refl
    longer (part ∷ parts) = refl

-- else the numbers are checked
right : (frame : Frame) (lead x y layer hyphen u v level rest : List ℕ) → true ≡ (length lead == 0) → false ≡ not (bytes_eq hyphen (codes "-")) → true ≡ (length rest == 0) →
    run_of_parted frame (onto lead x y layer (onto hyphen u v level (parted [] rest))) ≡ (spot_of x y layer >>= (λ a. spot_of u v level >>= (λ b. run_between frame a b)))
right frame [] x y layer hyphen u v level [] first same last = rw (not-false (bytes_eq hyphen (codes "-")) (sym same)) refl
right frame [] x y layer hyphen u v level (byte ∷ rest) first same last = absurd (grind (arith, nat_tests))
right frame (byte ∷ lead) x y layer hyphen u v level rest first same last = absurd (grind (arith, nat_tests))

-- what is to be shown of a point that a text begins with
abbrev Begins : List ℕ → Written → Type 0
Begins text point = (marks : List ℕ) → parted (40 ∷ 44 ∷ 44 ∷ 41 ∷ marks) text ≡ after_point marks (Some point)

pub of-none : (frame : Frame) (token : List ℕ) → parted (codes "(,,)(,,)") token ≡ None → segment frame token ≡ Err Form
of-none frame token none = segment-parted frame token ∙ ap (run_of_parted frame) none

-- a token of one point
pub of-point : (frame : Frame) (token : List ℕ) (from : Written) → Begins token from → parted (codes "(,,)") from.rest.now ≡ None →
    segment frame token ≡ Err Form
of-point frame token from first none =
    segment-parted frame token ∙ ap (run_of_parted frame) (first (codes "(,,)") ∙ ap (onto from.lead.now from.x.now from.y.now from.layer.now) none)

module _ (frame : Frame) (token : List ℕ) (from to : Written) (first : Begins token from) (second : Begins from.rest.now to) where
  abbrev all_parts : Option (List (List ℕ))
  all_parts = onto from.lead.now from.x.now from.y.now from.layer.now (onto to.lead.now to.x.now to.y.now to.layer.now (parted [] to.rest.now))

  of-points : segment frame token ≡ run_of_parted frame all_parts
  of-points = segment-parted frame token ∙ ap (run_of_parted frame) (first (codes "(,,)") ∙ ap (onto from.lead.now from.x.now from.y.now from.layer.now) (second []))

  pub with-lead : false ≡ (length from.lead.now == 0) → segment frame token ≡ Err Form
  with-lead some =
      of-points ∙ wrong-lead frame from.lead.now from.x.now from.y.now from.layer.now
      (onto to.lead.now to.x.now to.y.now to.layer.now (parted [] to.rest.now)) some

  pub with-other : true ≡ not (bytes_eq to.lead.now (codes "-")) → segment frame token ≡ Err Form
  with-other other =
      of-points ∙ wrong-hyphen frame from.lead.now from.x.now from.y.now from.layer.now to.lead.now to.x.now to.y.now to.layer.now (parted [] to.rest.now) other

  pub with-rest : false ≡ (length to.rest.now == 0) → segment frame token ≡ Err Form
  with-rest some =
      of-points ∙ wrong-rest frame from.lead.now from.x.now from.y.now from.layer.now to.lead.now to.x.now to.y.now to.layer.now to.rest.now some

  pub with-numbers : true ≡ (length from.lead.now == 0) → false ≡ not (bytes_eq to.lead.now (codes "-")) → true ≡ (length to.rest.now == 0) →
      segment frame token
      ≡ (spot_of from.x.now from.y.now from.layer.now >>= (λ a. spot_of to.x.now to.y.now to.layer.now >>= (λ b. run_between frame a b)))
  with-numbers none same last =
      of-points ∙ right frame from.lead.now from.x.now from.y.now from.layer.now to.lead.now to.x.now to.y.now to.layer.now to.rest.now none same last
