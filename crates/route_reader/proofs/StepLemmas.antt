-- The steps from token to token, as the grammar makes them.
use Rattle.std.specs.Prelude.{codes}
use Rattle.std.proofs.Common.{◌≡◌, ℕ, ◌+◌, ◌<◌, inl, inr, Bool, true, false, ◌==◌, not, ℤ, pos, nat_abs, List, [], ◌∷◌, length, slice_get, Option, Some, None, IfSome, Ok, Err, refl, sym, subst, ap, ◌∙◌, arith}
use Rattle.std.specs.List.{list_any}
use Rattle.std.proofs.lemmas.Bool.{cases_Bool, false≢true}
use Rattle.std.proofs.lemmas.Slice.Eq.{bytes_eq-Decides}
use Rattle.gr_base.specs.declared.frame.Net.{Net}
use Rattle.gr_base.specs.Designs.{DesignView, net_from, net_with_id}
use Rattle.gr_text.specs.Numbers.{decimal_value, number_in}
use Rattle.solution_text.specs.declared.fault.SolutionFault.TheVariants.{Number, UnknownId, Name, RepeatedNet}
use Rattle.solution_text.specs.Grammar.{Checked, ◌>>=◌, ◌>>◌, check, given, Progress, Between, Named, First, Within, is_name, net_of, is_end, is_number, step}
use Rattle.route_reader.specs.declared.gathering.Position.TheVariants as at
use Rattle.route_reader.specs.declared.gathering.Gathering.{Gathering}
use Rattle.route_reader.specs.Gathered.{mode_of, Gathers}

-- the number of a net that is found is below the number of nets
net_from-within : (number id : ℕ) (nets : List Net) → IfSome (net_from number id nets) (λ net. net < number + length nets)
net_from-within number id [] = tt
net_from-within number id (net ∷ nets) =
    elim (cases_Bool (id == net.id)) [
      | inl here ↦ rw here (omega arith)
      | inr other ↦ rw other (later (net_from (number + 1) id nets) (net_from-within (number + 1) id nets))
    ]
  where
    later : (found : Option ℕ) → IfSome found (λ n. n < number + 1 + length nets) → IfSome found (λ n. n < number + length (net ∷ nets))
    later None within = tt
    later (Some n) within = omega arith

pub net-within : (d : DesignView) (id : ℕ) → IfSome (net_with_id d id) (λ net. net < length d.nets)
net-within d id = subst (λ (n : ℕ). IfSome (net_with_id d id) (λ net. net < n)) (omega arith) (net_from-within 0 id d.nets)

-- the checks of a record's name and id, of which each is passed where a net comes out
module _ (nets : ℤ → Option ℕ) (named met : ℕ → Bool) (few : ℕ) (all : (id : ℤ) → IfSome (nets id) (λ n. n < few)) (net : ℕ) where
  abbrev checks : Option ℤ → Checked ℕ
  checks id = given id Number >>= (λ id. given (nets id) UnknownId >>= (λ net. check (named net) Name >> (check (not (met net)) RepeatedNet >> Ok net)))

  record Passes : Type 0 where
    first : met net ≡ false
    within : net < few

  passes : (id : Option ℤ) → checks id ≡ Ok net → Passes
  passes None is = absurd cc
  passes (Some id) is = by_net (nets id) (all id) is
    where
      by_net : (found : Option ℕ) → IfSome found (λ n. n < few) →
          (given found UnknownId >>= (λ net. check (named net) Name >> (check (not (met net)) RepeatedNet >> Ok net))) ≡ Ok net → Passes
      by_net None below is = absurd cc
      by_net (Some n) below is =
          elim (cases_Bool (named n)) [
            | inl same ↦ elim (cases_Bool (met n)) [
              | inl again ↦ let e : Err RepeatedNet ≡ Ok net = sym (rw same (rw again refl)) ∙ is in absurd cc
              | inr first ↦
                  let e : Ok n ≡ Ok net = sym (rw same (rw first refl)) ∙ is in
                  let here : n ≡ net = cc in
                  record { first = subst (λ (m : ℕ). met m ≡ false) here first; within = subst (λ (m : ℕ). m < few) here below }
            ]
            | inr other ↦ let e : Err Name ≡ Ok net = sym (rw other refl) ∙ is in absurd cc
          ]

module _ (d : DesignView) (met name id : List ℕ) (net : ℕ) (is : net_of d met name id ≡ Ok net) where
  net_of-passes : Passes (λ (n : ℤ). net_with_id d (nat_abs n)) (λ n. is_name name (slice_get d.nets n)) (λ n. list_any (λ other. other == n) met) (length d.nets)
      (λ n. net-within d (nat_abs n)) net
  net_of-passes =
      passes (λ (n : ℤ). net_with_id d (nat_abs n)) (λ n. is_name name (slice_get d.nets n)) (λ n. list_any (λ other. other == n) met) (length d.nets)
      (λ n. net-within d (nat_abs n)) net (number_in (pos 0) (pos 2147483647) id) is

  -- a net whose record begins has none yet
  pub net-unmet : list_any (λ other. other == net) met ≡ false
  net-unmet = net_of-passes.first

  -- and is one of the design's
  pub net_of-within : net < length d.nets
  net_of-within = net_of-passes.within

-- the step of a record's id
pub id-step : (d : DesignView) (s : Progress) (name id : List ℕ) (net : ℕ) → s.mode ≡ Named name → net_of d s.met name id ≡ Ok net →
    step d s id ≡ Ok (record { mode = First net; met = net ∷ s.met; found = s.found })
id-step d s name id net mode is = rw mode (rw is refl)

none : is_number (codes "!") ≡ true → false ≡ true
unfolding number_in decimal_value
none number = number

-- the end of a record is no number
number-no-end : (token : List ℕ) → is_number token ≡ true → is_end token ≡ false
number-no-end token number =
    elim (cases_Bool (is_end token)) [
      | inl end ↦
          let P : List ℕ → Type 0 = λ text. is_number text ≡ true in
          absurd (false≢true (none (subst P ((bytes_eq-Decides token (codes "!")).0 end) number)))
      | inr other ↦ other
    ]

pub number-step : (d : DesignView) (s : Progress) (token : List ℕ) (net : ℕ) → s.mode ≡ First net → is_number token ≡ true →
    step d s token ≡ Ok (record { mode = Within net; met = s.met; found = s.found })
number-step d s token net mode number = rw mode (rw (number-no-end token number) (rw number refl))

-- behind the number of a record
pub gathers-within : (d : DesignView) (s : Progress) (g : Gathering) (net : ℕ) → Gathers d s g → g.position ≡ at.First net →
    Gathers d (record { mode = Within net; met = s.met; found = s.found }) (record g { position = at.Within net })
gathers-within d s g net gathers position =
    let mode : s.mode ≡ First net = gathers.mode ∙ ap (mode_of g.name.items) position in
    record {
      fits = record { met = gathers.fits.met; stretches = gathers.fits.stretches; inside = gathers.fits.inside; runs = gathers.fits.runs; net = rw position at gathers.fits.net };
      mode = refl;
      met = gathers.met;
      stretches = gathers.stretches;
      fresh = gathers.fresh;
      current = rw mode at gathers.current;
      open_end = rw mode at gathers.open_end;
    }

-- behind a record
pub gathers-end : (d : DesignView) (s : Progress) (g : Gathering) → Gathers d s g →
    Gathers d (record { mode = Between; met = s.met; found = s.found }) (record g { position = at.Between })
gathers-end d s g gathers =
    record {
      fits = record { met = gathers.fits.met; stretches = gathers.fits.stretches; inside = gathers.fits.inside; runs = gathers.fits.runs; net = tt };
      mode = refl;
      met = gathers.met;
      stretches = gathers.stretches;
      fresh = gathers.fresh;
      current = tt;
      open_end = tt;
    }
