-- The edges of the solution that was read are those that the text covers.
use Rattle.std.proofs.Common.{◌≡◌, ℕ, ◌+◌, ◌<◌, ◌≤◌, inl, inr, ◌||◌, ◌==◌, nat_le, List, [], ◌∷◌, ◌++◌, length, map, take, unwrap_or, Option, IfSome, IfOk, IsTrue, Bool, Result, Ok, Err, refl, sym, subst, ap, ◌∙◌, arith}
use Rattle.std.specs.List.{list_any, range_with_len}
use Rattle.std.proofs.lemmas.Bool.{cases_Bool, cases_lt}
use Rattle.std.proofs.lemmas.Option.{slice_get-get_or, slice_get_past}
use Rattle.std.proofs.lemmas.List.FromFn.{get_or-map-range_with_len, length-map-range_with_len}
use Rattle.gr_base.specs.declared.grid.Edge.{Edge}
use Rattle.gr_base.specs.declared.grid.Shape.{Shape}
use Rattle.gr_base.specs.Limits.{most_bytes}
use Rattle.gr_base.specs.Designs.{DesignView}
use Rattle.gr_text.specs.declared.source.ReadError.{ReadError}
use Rattle.gr_text.specs.Reads.{Says}
use Rattle.gr_text.specs.Tokens.{Ending, AtEnd, PastLimit, tokens, closed_tokens, place_in}
use Rattle.solution_text.specs.declared.fault.SolutionFault.{SolutionFault}
use Rattle.solution_text.specs.declared.run.Run.{Run}
use Rattle.solution_text.specs.Covers.{covers}
use Rattle.solution_text.specs.Grammar.{Checked, ◌>>=◌, Mode, Between, Named, First, Within, Progress, start, net_of, segment, is_end, is_number, with_run, step_in, step}
use Rattle.solution_text.specs.Cover.{go_on as read_on, read, edges_in, cover}
use Rattle.route_reader.proofs.PushLemmas.{found-other}
use Rattle.route_reader.proofs.StepLemmas.{net_of-within}
use Rattle.route_reader.specs.Gathered.{net_in}
use Rattle.route_reader.specs.Solutions.{SolutionView, runs_at, edges_by}
use Rattle.route_reader.specs.SolutionText.{Said, is_between, go_on, records, runs_of_net, solution_in, solution_from, solution_of}

-- ---- what was found for a net

found-edges : (g : Shape) (found : List (ℕ × Run)) (net : ℕ) (e : Edge) → list_any (λ run. covers g run e) (runs_of_net found net) ≡ edges_in g found net e
found-edges g [] net e = refl
found-edges g (f ∷ found) net e =
    elim (cases_Bool (f.0 == net)) [
      | inl here ↦ rw here (ap (λ b. covers g f.1 e || b) (found-edges g found net e))
      | inr away ↦ rw away (found-edges g found net e)
    ]

-- ---- a text that is read is read to its end

module _ (d : DesignView) where
  whole : (rest : List (List ℕ)) (s t : Progress) (number : ℕ) (ending : Ending) → records d s number rest ending ≡ Ok t → (read d s rest ≡ t) × (ending ≡ AtEnd)
  whole [] s t number AtEnd is =
      elim (cases_Bool (is_between s.mode)) [
        | inl between ↦ let e : Ok s ≡ Ok t = sym (rw between refl) ∙ is in (cc, refl)
        | inr inside ↦ absurd (ended (rw inside at is))
      ]
    where
      ended : {E : Type 0} {e : E} {t : Progress} → (let x : Result Progress E = Err e in x) ≡ Ok t → ⊥
      ended is = cc
  whole [] s t number PastLimit is = absurd cc
  whole (token ∷ rest) s t number ending is = by_step (λ progress. whole rest progress t (number + 1) ending) (step d s token) is
    where
      by_step : ((progress : Progress) → records d progress (number + 1) rest ending ≡ Ok t → (read d progress rest ≡ t) × (ending ≡ AtEnd)) →
          (checked : Checked Progress) → go_on checked (number + 1) (λ progress. records d progress (number + 1) rest ending) ≡ Ok t →
          (read_on s (λ progress. read d progress rest) checked ≡ t) × (ending ≡ AtEnd)
      by_step later (Ok progress) is = later progress is
      by_step later (Err fault) is = absurd cc

  -- ---- runs are found for nets of the design alone

  abbrev IsBelow : ℕ → Type 0
  IsBelow net = net < length d.nets

  record Inside (s : Progress) : Type 0 where
    net : IfSome (net_in s.mode) IsBelow
    others : (net : ℕ) → length d.nets ≤ net → runs_of_net s.found net ≡ []

  with_run-inside : (s t : Progress) (net : ℕ) (token : List ℕ) → IsBelow net → Inside s → with_run d s net token ≡ Ok t → Inside t
  with_run-inside s t net token below inside is = by_run (segment d.frame token) is
    where
      by_run : (run : Checked Run) → (run >>= (λ run. Ok (record { mode = Within net; met = s.met; found = s.found ++ (net, run) ∷ [] }))) ≡ Ok t → Inside t
      by_run (Ok run) is =
          subst Inside (let same : (record { mode = Within net; met = s.met; found = s.found ++ (net, run) ∷ [] }) ≡ t = cc in same) (record {
            net = below;
            others = λ other past. found-other s.found net other run (λ same. absurd (omega arith)) ∙ inside.others other past;
          })
      by_run (Err fault) is = absurd cc

  step_in-inside : (s t : Progress) (token : List ℕ) (mode : Mode) → IfSome (net_in mode) IsBelow → Inside s → step_in d s token mode ≡ Ok t → Inside t
  step_in-inside s t token Between below inside is =
      subst Inside (let same : (record { mode = Named token; met = s.met; found = s.found }) ≡ t = cc in same) (record { net = tt; others = inside.others })
  step_in-inside s t token (Named name) below inside is = by_net (net_of d s.met name token) (net_of-within d s.met name token) is
    where
      by_net : (net : Checked ℕ) → ((n : ℕ) → net ≡ Ok n → n < length d.nets) →
          (net >>= (λ net. Ok (record { mode = First net; met = net ∷ s.met; found = s.found }))) ≡ Ok t → Inside t
      by_net (Ok net) few is =
          subst Inside (let same : (record { mode = First net; met = net ∷ s.met; found = s.found }) ≡ t = cc in same) (record { net = few net refl; others = inside.others })
      by_net (Err fault) few is = absurd cc
  step_in-inside s t token (First net) below inside is =
      elim (cases_Bool (is_end token)) [
        | inl end ↦ ended (rw end at is)
        | inr more ↦ elim (cases_Bool (is_number token)) [
          | inl number ↦ numbered (rw (more, number) at is)
          | inr other ↦ with_run-inside s t net token below inside (rw (more, other) at is)
        ]
      ]
    where
      ended : (let x : Checked Progress = Ok (record { mode = Between; met = s.met; found = s.found }) in x) ≡ Ok t → Inside t
      ended is = subst Inside (let same : (record { mode = Between; met = s.met; found = s.found }) ≡ t = cc in same) (record { net = tt; others = inside.others })

      numbered : (let x : Checked Progress = Ok (record { mode = Within net; met = s.met; found = s.found }) in x) ≡ Ok t → Inside t
      numbered is = subst Inside (let same : (record { mode = Within net; met = s.met; found = s.found }) ≡ t = cc in same) (record { net = below; others = inside.others })
  step_in-inside s t token (Within net) below inside is =
      elim (cases_Bool (is_end token)) [
        | inl end ↦ ended (rw end at is)
        | inr more ↦ with_run-inside s t net token below inside (rw more at is)
      ]
    where
      ended : (let x : Checked Progress = Ok (record { mode = Between; met = s.met; found = s.found }) in x) ≡ Ok t → Inside t
      ended is = subst Inside (let same : (record { mode = Between; met = s.met; found = s.found }) ≡ t = cc in same) (record { net = tt; others = inside.others })

  records-inside : (rest : List (List ℕ)) (s t : Progress) (number : ℕ) (ending : Ending) → Inside s → records d s number rest ending ≡ Ok t → Inside t
  records-inside [] s t number ending inside is = subst Inside (whole [] s t number ending is).0 inside
  records-inside (token ∷ rest) s t number ending inside is =
      by_step (λ progress. records-inside rest progress t (number + 1) ending) (step d s token) (λ progress. step_in-inside s progress token s.mode inside.net inside) is
    where
      by_step : ((progress : Progress) → Inside progress → records d progress (number + 1) rest ending ≡ Ok t → Inside t) →
          (checked : Checked Progress) → ((progress : Progress) → checked ≡ Ok progress → Inside progress) →
          go_on checked (number + 1) (λ progress. records d progress (number + 1) rest ending) ≡ Ok t → Inside t
      by_step later (Ok progress) stays is = later progress (stays progress refl) is
      by_step later (Err fault) stays is = absurd cc

-- ---- the edges of the solution

pub solution-edges : (d : DesignView) (s : Progress) → ((net : ℕ) → length d.nets ≤ net → runs_of_net s.found net ≡ []) → (net : ℕ) (e : Edge) →
    edges_by (solution_in d s) net e ≡ edges_in d.frame.shape s.found net e
solution-edges d s others net e =
    let all : List (List Run) = map (runs_of_net s.found) (range_with_len 0 (length d.nets)) in
    let count : length all ≡ length d.nets = length-map-range_with_len (runs_of_net s.found) 0 (length d.nets) in
    let here : runs_at (solution_in d s) net ≡ runs_of_net s.found net =
    elim (cases_lt net (length d.nets)) [
      | inl below ↦
          ap (λ (found : Option (List Run)). unwrap_or found []) (slice_get-get_or all net [] (omega arith))
          ∙ get_or-map-range_with_len (runs_of_net s.found) 0 (length d.nets) net net [] below (omega arith)
      | inr past ↦ ap (λ (found : Option (List Run)). unwrap_or found []) (slice_get_past all net (omega arith)) ∙ sym (others net past)
    ] in
    ap (list_any (λ run. covers d.frame.shape run e)) here ∙ found-edges d.frame.shape s.found net e

module _ (d : DesignView) (view : SolutionView) (net : ℕ) (e : Edge) where
  from-records : (text : List (List ℕ)) (ending : Ending) → solution_from d (records d start 0 text ending) ≡ Ok view →
      (edges_by view net e ≡ edges_in d.frame.shape (read d start text).found net e) × (ending ≡ AtEnd)
  from-records text ending is = by_said (records d start 0 text ending) refl is
    where
      by_said : (said : Said Progress) → records d start 0 text ending ≡ said → solution_from d said ≡ Ok view →
          (edges_by view net e ≡ edges_in d.frame.shape (read d start text).found net e) × (ending ≡ AtEnd)
      by_said (Ok s) made is =
          let ends = whole d text start s 0 ending made in
          let same : solution_in d s ≡ view = cc in
          let inside = records-inside d text start s 0 ending (record { net = tt; others = λ n past. refl }) made in (
            ap (λ (v : SolutionView). edges_by v net e) (sym same) ∙ solution-edges d s inside.others net e
                ∙ ap (λ (p : Progress). edges_in d.frame.shape p.found net e) (sym ends.0),
            ends.1,
          )
      by_said (Err fault) made is = absurd cc

  -- a text that says a solution covers the solution's edges
  pub solution-covers : (bytes : List ℕ) → solution_of d bytes ≡ Ok view → edges_by view net e ≡ cover d bytes net e
  unfolding solution_of place_in
  solution-covers bytes is =
      elim (cases_Bool (nat_le (length bytes) most_bytes)) [
        | inl short ↦ (from-records (tokens bytes) AtEnd (rw short at is)).0
        | inr long ↦ let no = (from-records (closed_tokens (take most_bytes bytes)) PastLimit (rw long at is)).1 in absurd cc
      ]

-- a solution that a text says gives each net the edges that the text covers
pub read-covers : (d : DesignView) (tells : Bool) (bytes : List ℕ) (result : Result SolutionView (ReadError SolutionFault)) →
    (IsTrue tells → Says (solution_of d bytes) result) →
    IfOk result (λ solution. IsTrue tells → (net : ℕ) → (e : Edge) → edges_by solution net e ≡ cover d bytes net e)
read-covers d tells bytes (Ok view) says = λ told net e. solution-covers d view net e bytes (says told)
read-covers d tells bytes (Err e) says = tt
