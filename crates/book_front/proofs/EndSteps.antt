-- The first state, and passes that end.
use Rattle.std.proofs.Common.{◌≡◌, ◌≢◌, ℕ, zero, suc, ◌<◌, ◌==◌, Bool, true, false, if◌then◌else◌, List, [], ◌∷◌, ◌++◌, length, set, Some, slice_get, refl, sym, ap, subst, ◌∙◌, ⊎_elim, arith}
use Rattle.std.proofs.lemmas.Bool.Decides.{nat_tests}
use Rattle.std.proofs.lemmas.List.Elements.{All-nil}
use mathlib.Core.Option.{some, some-injective, some-ne-none}
use lib.ListN.{get_elem?}
use Rattle.atomic_table.specs.Table.{Joins}
use Rattle.atomic_table.proofs.Lists.{set_else}
use Rattle.book_state.specs.declared.entry.Entry.{Entry}
use Rattle.book_front.specs.Rule.{Holder, Standing, IsHeldBy, IsKeeping, Fits, FitsGone, HasHolder, HasKeeper, Kept, Seat, Gone}
use Rattle.book_front.specs.Views.{first_keeper, with_ended, ended_of, nobody}
use Rattle.book_front.specs.declared.view.Ended.{Ended}
use Rattle.book_front.specs.declared.view.View.{View}
use Rattle.book_front.proofs.Prefixes.{prefix-none}
use Rattle.book_front.proofs.Holding.{off, get-push, get-last, fits-set, fits-set-but, only-keeper, holder-set, holder-more-gone, keeper-set, keeper-else}
use Rattle.book_front.proofs.Looking.{rule}
use Rattle.book_front.proofs.RoleSteps.{nobody-fits}

abbrev first : Standing
first = record { keeper = 0; log = []; made = 0; holder = λ n. Seat 0; ended = [] }

first-fits : Fits first 0 first_keeper
first-fits = record {
  role = λ _. record { keeper = refl; seen = refl; made = refl; ended = refl };
  pass = λ is. off is;
  old = prefix-none [];
}

one-fits : (place : ℕ) (v : View) → get_elem? (first_keeper ∷ []) place ≡ some v → Fits first place v
one-fits zero v e = subst (λ (u : View). Fits first 0 u) (some-injective first_keeper v e) first-fits
one-fits (suc place) v e = absurd (some-ne-none v (sym e))

-- the word is 0, and the keeper has seen nothing
pub begins : Kept (0 ∷ []) (first_keeper ∷ [])
begins = record {
  now = first;
  word = refl;
  keeper = record { v = first_keeper; there = refl; keeps = refl };
  seats = one-fits;
  gone = λ place e is. absurd (cc (is));
  holders = λ n less. absurd (omega (arith, less));
  numbers = All-nil (λ (e : Entry). e.number < 0);
}

-- a pass has ended
abbrev with_gone : Standing → Ended → Standing
with_gone s e = record {
  keeper = s.keeper;
  log = s.log;
  made = s.made;
  holder = λ n. if n == e.number then Gone (length s.ended) else s.holder n;
  ended = s.ended ++ e ∷ [];
}

held-other : (s : Standing) (e : Ended) (own who : Holder) (n : ℕ) (seen mine : List Entry) → s.holder e.number ≡ own → own ≢ who → IsHeldBy s who n seen mine → IsHeldBy (with_gone s e) who n seen mine
held-other s e own who n seen mine alone apart held =
    let differs : n ≢ e.number = λ same. apart (sym alone ∙ ap s.holder (sym same) ∙ held.alone) in
    let not : (n == e.number) ≡ false = grind (arith, nat_tests) in
    record { given = held.given; alone = rw not held.alone; begins = held.begins; known = held.known; whole = held.whole }

held-gone : (s : Standing) (e : Ended) (own : Holder) → IsHeldBy s own e.number e.seen e.mine → IsHeldBy (with_gone s e) (Gone (length s.ended)) e.number e.seen e.mine
held-gone s e own held =
    let here : (e.number == e.number) ≡ true = grind (arith, nat_tests) in
    record { given = held.given; alone = rw here refl; begins = held.begins; known = held.known; whole = held.whole }

module _ (words : List ℕ) (views : List View) (at other : ℕ) (v u : View) (kept : Kept words views) (there : get_elem? views at ≡ some v) (apart : other ≢ at) (pass-there : get_elem? (set views at (with_ended v u)) other ≡ some u) (keeping : v.keeps ≡ true) (unnumbered : v.numbered ≡ false) (numbered : u.numbered ≡ true) where
  abbrev e : Ended
  e = ended_of u

  abbrev now : Standing
  now = with_gone kept.now e

  was-there : get_elem? views other ≡ some u
  was-there = sym (set_else views at other (with_ended v u) apart) ∙ pass-there

  role : IsKeeping kept.now at v
  role = (kept.seats at v there).role keeping

  held : IsHeldBy kept.now (Seat other) u.number u.seen u.mine
  held = (kept.seats other u was-there).pass numbered

  keeper-fits : Fits now at (with_ended v u)
  keeper-fits = record {
    role = λ _. record { keeper = role.keeper; seen = role.seen; made = role.made; ended = ap (λ (l : List Ended). l ++ e ∷ []) role.ended };
    pass = λ is. off (sym unnumbered ∙ is);
    old = (kept.seats at v there).old;
  }

  other-fits : (p : ℕ) (w : View) → p ≢ at → p ≢ other → get_elem? views p ≡ some w → Fits now p w
  other-fits p w not-at not here =
      let fits = kept.seats p w here in
      record {
        role = λ is. only-keeper kept.now at p v w role fits not-at is;
        pass = λ is. held-other kept.now e (Seat other) (Seat p) w.number w.seen w.mine held.alone (λ same. not (cc (same))) (fits.pass is);
        old = fits.old;
      }

  gone-fits : (p : ℕ) (x : Ended) → slice_get (kept.now.ended ++ e ∷ []) p ≡ Some x → FitsGone now p x
  gone-fits p x is =
      ⊎_elim
      (λ (before : slice_get kept.now.ended p ≡ Some x). held-other kept.now e (Seat other) (Gone p) x.number x.seen x.mine held.alone (λ same. absurd (cc (same))) (kept.gone p x before))
      (λ (last : (p ≡ length kept.now.ended) × (e ≡ x)). subst (λ (y : ℕ × Ended). FitsGone now y.0 y.1) (λ i. (sym last.0 i, last.1 i)) (held-gone kept.now e (Seat other) held))
      (get-push kept.now.ended e x p is)

  holder-there : (n : ℕ) → n < kept.now.made → (b : Bool) → (n == u.number) ≡ b → HasHolder (set (set views at (with_ended v u)) other nobody) (kept.now.ended ++ e ∷ []) n (if b then Gone (length kept.now.ended) else kept.now.holder n)
  holder-there n less true is =
      let same : n ≡ u.number = grind (arith, nat_tests) in
      record { e = e; there = get-last kept.now.ended e; has = sym same }
  holder-there n less false is =
      let differs : u.number ≢ n = λ same. off (sym is ∙ grind (arith, nat_tests)) in
      holder-more-gone (set (set views at (with_ended v u)) other nobody) kept.now.ended (e ∷ []) n (kept.now.holder n)
      (holder-set (set views at (with_ended v u)) kept.now.ended other u nobody n (kept.now.holder n) pass-there (λ _ same. absurd (differs same))
      (holder-set views kept.now.ended at v (with_ended v u) n (kept.now.holder n) there (λ is same. (is, same)) (kept.holders n less)))

  pub pass-ended : Kept words (set (set views at (with_ended v u)) other nobody)
  pass-ended = record {
    now = now;
    word = kept.word;
    keeper = subst (λ (p : ℕ). HasKeeper (set (set views at (with_ended v u)) other nobody) p) role.keeper
        (keeper-else (set views at (with_ended v u)) other at nobody (λ is. apart (sym is)) (keeper-set views at v (with_ended v u) there keeping));
    seats = fits-set now (set views at (with_ended v u)) other nobody (fits-set-but now views at other (with_ended v u) other-fits keeper-fits) (nobody-fits now other);
    gone = gone-fits;
    holders = λ n less. holder-there n less (n == u.number) refl;
    numbers = kept.numbers;
  }

pub joins-ended : (at other : ℕ) (v u : View) → v.keeps ≡ true → v.numbered ≡ false → u.numbered ≡ true → Joins rule at v other u (with_ended v u) nobody
joins-ended at other v u keeping unnumbered numbered s kept there apart pass-there = pass-ended s.words s.views at other v u kept there apart pass-there keeping unnumbered numbered
