-- A pass takes the keeper's role, and gives it back.
use Rattle.std.proofs.Common.{◌≡◌, ◌≢◌, ℕ, true, false, List, [], ◌∷◌, ◌++◌, length, set, refl, sym, ap, subst, ◌∙◌}
use mathlib.Core.List.{IsPrefix}
use mathlib.Core.Option.{some}
use lib.ListN.{get_elem?}
use Rattle.atomic_table.specs.Table.{Splits, Joins}
use Rattle.atomic_table.proofs.Lists.{at_last, set_else}
use Rattle.book_state.specs.Entries.{calls_of}
use Rattle.book_state.specs.declared.entry.Entry.{Entry}
use Rattle.book_front.specs.Rule.{Holder, Standing, IsHeldBy, IsKeeping, Fits, Kept, Seat, Gone}
use Rattle.book_front.specs.Views.{with_role, without_role, role_of, nobody}
use Rattle.book_front.specs.declared.view.View.{View}
use Rattle.book_front.proofs.Prefixes.{prefix-all, prefix-none}
use Rattle.book_front.proofs.Holding.{off, fits-set, fits-set-but, fits-push, only-keeper, holder-set, holder-longer, keeper-set, keeper-else}
use Rattle.book_front.proofs.Looking.{rule}

-- the role is at a place
abbrev moved : Standing → ℕ → Standing
moved s place = record { keeper = place; log = s.log; made = s.made; holder = s.holder; ended = s.ended }

held-still : (s : Standing) (place : ℕ) (who : Holder) (n : ℕ) (seen mine : List Entry) → IsHeldBy s who n seen mine → IsHeldBy (moved s place) who n seen mine
held-still s place who n seen mine held = record { given = held.given; alone = held.alone; begins = held.begins; known = held.known; whole = held.whole }

pub nobody-fits : (s : Standing) (place : ℕ) → Fits s place nobody
nobody-fits s place = record { role = λ is. off is; pass = λ is. off is; old = prefix-none [] }

module _ (words : List ℕ) (views : List View) (at other : ℕ) (v k : View) (kept : Kept words views) (there : get_elem? views at ≡ some v) (apart : other ≢ at) (keeper-there : get_elem? (set views at (with_role v k)) other ≡ some k) (numbered : v.numbered ≡ true) (keeping : k.keeps ≡ true) (unnumbered : k.numbered ≡ false) where
  abbrev now : Standing
  now = moved kept.now at

  was-there : get_elem? views other ≡ some k
  was-there = sym (set_else views at other (with_role v k) apart) ∙ keeper-there

  role : IsKeeping kept.now other k
  role = (kept.seats other k was-there).role keeping

  taker-fits : Fits now at (with_role v k)
  taker-fits =
      let pass = (kept.seats at v there).pass numbered in
      record {
        role = λ _. record { keeper = refl; seen = role.seen; made = role.made; ended = role.ended };
        pass = λ _. record {
          given = pass.given;
          alone = pass.alone;
          begins = subst (λ (h : List Entry). IsPrefix h kept.now.log) (sym role.seen) (prefix-all kept.now.log);
          known = pass.whole ∙ ap (λ (h : List Entry). calls_of v.number h) (sym role.seen);
          whole = pass.whole;
        };
        old = subst (λ (h : List Entry). IsPrefix v.seen h) (sym role.seen) pass.begins;
      }

  other-fits : (p : ℕ) (u : View) → p ≢ at → p ≢ other → get_elem? views p ≡ some u → Fits now p u
  other-fits p u not-at not e =
      let fits = kept.seats p u e in
      record {
        role = λ is. only-keeper kept.now other p k u role fits not is;
        pass = λ is. held-still kept.now at (Seat p) u.number u.seen u.mine (fits.pass is);
        old = fits.old;
      }

  pub role-taken : Kept words (set (set views at (with_role v k)) other nobody)
  role-taken =
      record {
        now = now;
        word = kept.word;
        keeper = keeper-else (set views at (with_role v k)) other at nobody (λ is. apart (sym is)) (keeper-set views at v (with_role v k) there refl);
        seats = fits-set now (set views at (with_role v k)) other nobody (fits-set-but now views at other (with_role v k) other-fits taker-fits) (nobody-fits now other);
        gone = λ p e is. held-still kept.now at (Gone p) e.number e.seen e.mine (kept.gone p e is);
        holders = λ n less.
            holder-set (set views at (with_role v k)) kept.now.ended other k nobody n (kept.now.holder n) keeper-there (λ is _. off (sym unnumbered ∙ is))
            (holder-set views kept.now.ended at v (with_role v k) n (kept.now.holder n) there (λ is same. (is, same)) (kept.holders n less));
        numbers = kept.numbers;
      }

pub joins-role : (at other : ℕ) (v k : View) → v.numbered ≡ true → k.keeps ≡ true → k.numbered ≡ false → Joins rule at v other k (with_role v k) nobody
joins-role at other v k numbered keeping unnumbered s kept there apart keeper-there = role-taken s.words s.views at other v k kept there apart keeper-there numbered keeping unnumbered

module _ (words : List ℕ) (views : List View) (at : ℕ) (v : View) (kept : Kept words views) (there : get_elem? views at ≡ some v) (keeping : v.keeps ≡ true) where
  abbrev place : ℕ
  place = length (set views at (without_role v))

  abbrev given : Standing
  given = moved kept.now place

  had : IsKeeping kept.now at v
  had = (kept.seats at v there).role keeping

  giver-fits : Fits given at (without_role v)
  giver-fits =
      let fits = kept.seats at v there in
      record {
        role = λ is. off is;
        pass = λ is. held-still kept.now place (Seat at) v.number v.seen v.mine (fits.pass is);
        old = fits.old;
      }

  keeper-fits : Fits given place (role_of v)
  keeper-fits = record {
    role = λ _. record { keeper = refl; seen = had.seen; made = had.made; ended = had.ended };
    pass = λ is. off is;
    old = prefix-none v.seen;
  }

  others-fit : (p : ℕ) (u : View) → p ≢ at → get_elem? views p ≡ some u → Fits given p u
  others-fit p u not e =
      let fits = kept.seats p u e in
      record {
        role = λ is. only-keeper kept.now at p v u had fits not is;
        pass = λ is. held-still kept.now place (Seat p) u.number u.seen u.mine (fits.pass is);
        old = fits.old;
      }

  pub role-given : Kept words (set views at (without_role v) ++ role_of v ∷ [])
  role-given =
      record {
        now = given;
        word = kept.word;
        keeper = record { v = role_of v; there = at_last (set views at (without_role v)) (role_of v) place refl; keeps = refl };
        seats = fits-push given (set views at (without_role v)) (role_of v) (fits-set given views at (without_role v) others-fit giver-fits) keeper-fits;
        gone = λ p e is. held-still kept.now place (Gone p) e.number e.seen e.mine (kept.gone p e is);
        holders = λ n less.
            holder-longer (set views at (without_role v)) (role_of v ∷ []) kept.now.ended n (kept.now.holder n)
            (holder-set views kept.now.ended at v (without_role v) n (kept.now.holder n) there (λ is same. (is, same)) (kept.holders n less));
        numbers = kept.numbers;
      }

pub splits-role : (at : ℕ) (v : View) → v.keeps ≡ true → Splits rule at v (without_role v) (role_of v)
splits-role at v keeping s kept there = role-given s.words s.views at v kept there keeping
