-- The keeper gives out a number.
use Rattle.std.proofs.Common.{◌≡◌, ◌≢◌, ℕ, ◌+◌, ◌<◌, ◌==◌, Bool, true, false, if◌then◌else◌, List, [], ◌∷◌, ◌++◌, length, set, All, refl, sym, ap, subst, ◌∙◌, arith}
use Rattle.std.proofs.lemmas.Bool.Decides.{nat_tests}
use Rattle.std.proofs.lemmas.List.Elements.{All-head, All-tail, All-weaker}
use mathlib.Core.List.{IsPrefix}
use mathlib.Core.Option.{some}
use lib.ListN.{get_elem?}
use Rattle.atomic_table.specs.Table.{Splits}
use Rattle.atomic_table.proofs.Lists.{at_last}
use Rattle.gr_base.proofs.General.{filter-no}
use Rattle.book_state.specs.Entries.{calls_of}
use Rattle.book_state.specs.declared.entry.Entry.{Entry}
use Rattle.book_front.specs.Rule.{Holder, Standing, IsHeldBy, Fits, HasHolder, HasKeeper, Kept, Seat, Gone}
use Rattle.book_front.specs.Views.{with_pass, new_pass}
use Rattle.book_front.specs.declared.view.View.{View}
use Rattle.book_front.proofs.Prefixes.{prefix-all, prefix-none}
use Rattle.book_front.proofs.Holding.{off, fits-set, fits-push, only-keeper, holder-set, holder-longer, keeper-set, keeper-longer}
use Rattle.book_front.proofs.Looking.{rule}

-- a history whose entries have lesser numbers has none of this one
pub calls-none : (number : ℕ) (h : List Entry) → All (λ (e : Entry). e.number < number) h → calls_of number h ≡ []
calls-none number [] less = refl
calls-none number (e ∷ es) less =
    let first = All-head (λ (x : Entry). x.number < number) e es less in
    let not : (e.number == number) ≡ false = grind (arith, nat_tests) in
    filter-no (λ (x : Entry). x.number == number) e es not ∙ calls-none number es (All-tail (λ (x : Entry). x.number < number) e es less)

-- the seat at a place gets the next number
abbrev with_number : Standing → ℕ → Standing
with_number s place = record {
  keeper = s.keeper;
  log = s.log;
  made = s.made + 1;
  holder = λ n. if n == s.made then Seat place else s.holder n;
  ended = s.ended;
}

held-still : (s : Standing) (place : ℕ) (who : Holder) (n : ℕ) (seen mine : List Entry) → IsHeldBy s who n seen mine → IsHeldBy (with_number s place) who n seen mine
held-still s place who n seen mine held =
    let given = held.given in
    let not : (n == s.made) ≡ false = grind (arith, nat_tests) in
    record { given = omega (arith, given); alone = rw not held.alone; begins = held.begins; known = held.known; whole = held.whole }

held-first : (s : Standing) (place : ℕ) (seen : List Entry) → seen ≡ s.log → All (λ (e : Entry). e.number < s.made) s.log → IsHeldBy (with_number s place) (Seat place) s.made seen []
held-first s place seen is numbers =
    let here : (s.made == s.made) ≡ true = grind (arith, nat_tests) in
    record {
      given = omega arith;
      alone = rw here refl;
      begins = subst (λ (h : List Entry). IsPrefix h s.log) (sym is) (prefix-all s.log);
      known = sym (ap (λ (h : List Entry). calls_of s.made h) is ∙ calls-none s.made s.log numbers);
      whole = sym (calls-none s.made s.log numbers);
    }

module _ (words : List ℕ) (views : List View) (at : ℕ) (v : View) (kept : Kept words views) (there : get_elem? views at ≡ some v) (keeping : v.keeps ≡ true) where
  abbrev place : ℕ
  place = length (set views at (with_pass v))

  abbrev now : Standing
  now = with_number kept.now place

  keeper-fits : Fits now at (with_pass v)
  keeper-fits =
      let fits = kept.seats at v there in
      let role = fits.role keeping in
      record {
        role = λ _. record { keeper = role.keeper; seen = role.seen; made = ap (λ (n : ℕ). n + 1) role.made; ended = role.ended };
        pass = λ numbered. held-still kept.now place (Seat at) v.number v.seen v.mine (fits.pass numbered);
        old = fits.old;
      }

  new-fits : Fits now place (new_pass v)
  new-fits =
      let role = (kept.seats at v there).role keeping in
      record {
        role = λ is. off is;
        pass = λ _. subst (λ (n : ℕ). IsHeldBy now (Seat place) n v.seen []) (sym role.made) (held-first kept.now place v.seen role.seen kept.numbers);
        old = prefix-none v.seen;
      }

  other-fits : (p : ℕ) (u : View) → p ≢ at → get_elem? views p ≡ some u → Fits now p u
  other-fits p u not e =
      let fits = kept.seats p u e in
      record {
        role = λ is. only-keeper kept.now at p v u ((kept.seats at v there).role keeping) fits not is;
        pass = λ numbered. held-still kept.now place (Seat p) u.number u.seen u.mine (fits.pass numbered);
        old = fits.old;
      }

  holder-there : (n : ℕ) → n < kept.now.made + 1 → (b : Bool) → (n == kept.now.made) ≡ b → HasHolder (set views at (with_pass v) ++ new_pass v ∷ []) kept.now.ended n (if b then Seat place else kept.now.holder n)
  holder-there n less true is =
      let role = (kept.seats at v there).role keeping in
      let same : n ≡ kept.now.made = grind (arith, nat_tests) in
      record { v = new_pass v; there = at_last (set views at (with_pass v)) (new_pass v) place refl; numbered = refl; has = role.made ∙ sym same }
  holder-there n less false is =
      let below : n < kept.now.made = grind (arith, nat_tests) in
      holder-longer (set views at (with_pass v)) (new_pass v ∷ []) kept.now.ended n (kept.now.holder n)
      (holder-set views kept.now.ended at v (with_pass v) n (kept.now.holder n) there (λ numbered is. (numbered, is)) (kept.holders n below))

  pub pass-made : Kept words (set views at (with_pass v) ++ new_pass v ∷ [])
  pass-made =
      let role = (kept.seats at v there).role keeping in
      record {
        now = now;
        word = kept.word;
        keeper = subst (λ (p : ℕ). HasKeeper (set views at (with_pass v) ++ new_pass v ∷ []) p) role.keeper
            (keeper-longer (set views at (with_pass v)) (new_pass v ∷ []) at (keeper-set views at v (with_pass v) there keeping));
        seats = fits-push now (set views at (with_pass v)) (new_pass v) (fits-set now views at (with_pass v) other-fits keeper-fits) new-fits;
        gone = λ p e is. held-still kept.now place (Gone p) e.number e.seen e.mine (kept.gone p e is);
        holders = λ n less. holder-there n less (n == kept.now.made) refl;
        numbers = All-weaker (λ (e : Entry). e.number < kept.now.made) (λ (e : Entry). e.number < kept.now.made + 1) (λ e less. omega (arith, less)) kept.now.log kept.numbers;
      }

pub splits-pass : (at : ℕ) (v : View) → v.keeps ≡ true → Splits rule at v (with_pass v) (new_pass v)
splits-pass at v keeping s kept there = pass-made s.words s.views at v kept there keeping
