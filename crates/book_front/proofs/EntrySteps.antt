-- A pass that has the role adds an entry.
use Rattle.std.proofs.Common.{◌≡◌, ◌≢◌, ℕ, ◌+◌, ◌%◌, ◌^◌, ◌<◌, ◌==◌, true, false, List, [], ◌∷◌, ◌++◌, length, set, Some, slice_get, refl, sym, ap, subst, ◌∙◌, arith, length-append}
use Rattle.std.specs.Prelude.{slice_index, slice_set}
use Rattle.std.proofs.lemmas.Bool.Decides.{nat_tests}
use Rattle.std.proofs.lemmas.List.{append-nil}
use Rattle.std.proofs.lemmas.List.Elements.{filter-append, All-push}
use mathlib.Core.List.{IsPrefix}
use mathlib.Core.Option.{some}
use lib.ListN.{get_elem?}
use Rattle.atomic_table.specs.Table.{Me, Allows, keeps}
use Rattle.gr_base.proofs.General.{filter-yes, filter-no}
use Rattle.book_state.specs.Entries.{calls_of}
use Rattle.book_state.specs.declared.entry.Entry.{Entry}
use Rattle.book_front.specs.Rule.{Holder, Standing, IsHeldBy, IsKeeping, Fits, HasKeeper, Kept, Seat, Gone}
use Rattle.book_front.specs.Steps.{Appends}
use Rattle.book_front.specs.Views.{with_entry}
use Rattle.book_front.specs.declared.view.Ended.{Ended}
use Rattle.book_front.specs.declared.view.View.{View}
use Rattle.book_front.proofs.Prefixes.{prefix-all, prefix-more, prefix-then}
use Rattle.book_front.proofs.Holding.{fits-set, only-keeper, holder-set, keeper-set}
use Rattle.book_front.proofs.Looking.{rule}

-- the entries of a number, with one more of it or of another
pub calls-push : (n : ℕ) (h : List Entry) (e : Entry) → e.number ≡ n → calls_of n (h ++ e ∷ []) ≡ calls_of n h ++ e ∷ []
calls-push n h e is =
    let own : (e.number == n) ≡ true = grind (arith, nat_tests) in
    filter-append (λ (x : Entry). x.number == n) h (e ∷ []) ∙ ap (λ (l : List Entry). calls_of n h ++ l) (filter-yes (λ (x : Entry). x.number == n) e [] own)

pub calls-other : (n : ℕ) (h : List Entry) (e : Entry) → e.number ≢ n → calls_of n (h ++ e ∷ []) ≡ calls_of n h
calls-other n h e not =
    let other : (e.number == n) ≡ false = grind (arith, nat_tests) in
    filter-append (λ (x : Entry). x.number == n) h (e ∷ []) ∙ ap (λ (l : List Entry). calls_of n h ++ l) (filter-no (λ (x : Entry). x.number == n) e [] other) ∙ append-nil (calls_of n h)

-- the history with one more entry
abbrev longer : Standing → Entry → Standing
longer s e = record { keeper = s.keeper; log = s.log ++ e ∷ []; made = s.made; holder = s.holder; ended = s.ended }

held-other : (s : Standing) (e : Entry) (who : Holder) (n : ℕ) (seen mine : List Entry) → IsHeldBy s who n seen mine → e.number ≢ n → IsHeldBy (longer s e) who n seen mine
held-other s e who n seen mine held not = record {
  given = held.given;
  alone = held.alone;
  begins = prefix-then seen s.log (s.log ++ e ∷ []) held.begins (prefix-more s.log (e ∷ []));
  known = held.known;
  whole = held.whole ∙ sym (calls-other n s.log e not);
}

held-own : (s : Standing) (e : Entry) (who : Holder) (n : ℕ) (seen mine : List Entry) → IsHeldBy s who n seen mine → seen ≡ s.log → e.number ≡ n → IsHeldBy (longer s e) who n (seen ++ e ∷ []) (mine ++ e ∷ [])
held-own s e who n seen mine held all is = record {
  given = held.given;
  alone = held.alone;
  begins = subst (λ (h : List Entry). IsPrefix (h ++ e ∷ []) (s.log ++ e ∷ [])) (sym all) (prefix-all (s.log ++ e ∷ []));
  known = ap (λ (l : List Entry). l ++ e ∷ []) held.known ∙ sym (calls-push n seen e is);
  whole = ap (λ (l : List Entry). l ++ e ∷ []) held.whole ∙ sym (calls-push n s.log e is);
}

-- two holders of one number are one
same-holder : (s : Standing) (n m : ℕ) (one other : Holder) → s.holder n ≡ one → s.holder m ≡ other → n ≡ m → one ≡ other
same-holder s n m one other is there same = sym is ∙ ap s.holder same ∙ there

word-more : (words : List ℕ) (log : List Entry) (e : Entry) → words ≡ length log ∷ [] → length log < 2 ^ 62 → slice_set words 0 ((slice_index words 0 + 1) % 2 ^ 64) ≡ length (log ++ e ∷ []) ∷ []
word-more words log e is few =
    let more = length-append log (e ∷ []) in
    let next : (length log + 1) % 2 ^ 64 ≡ length (log ++ e ∷ []) = omega (arith, more, few) in
    subst (λ (ws : List ℕ). slice_set ws 0 ((slice_index ws 0 + 1) % 2 ^ 64) ≡ length (log ++ e ∷ []) ∷ []) (sym is) (ap (λ (n : ℕ). n ∷ []) next)

module _ (words : List ℕ) (views : List View) (at : ℕ) (v : View) (e : Entry) (kept : Kept words views) (there : get_elem? views at ≡ some v) (keeping : v.keeps ≡ true) (numbered : v.numbered ≡ true) (own : e.number ≡ v.number) (few : length v.seen < 2 ^ 62) where
  abbrev now : Standing
  now = longer kept.now e

  role : IsKeeping kept.now at v
  role = (kept.seats at v there).role keeping

  held : IsHeldBy kept.now (Seat at) v.number v.seen v.mine
  held = (kept.seats at v there).pass numbered

  pub adder-fits : Fits now at (with_entry v e)
  adder-fits =
      record {
        role = λ _. record { keeper = role.keeper; seen = ap (λ (h : List Entry). h ++ e ∷ []) role.seen; made = role.made; ended = role.ended };
        pass = λ _. held-own kept.now e (Seat at) v.number v.seen v.mine held role.seen own;
        old = prefix-then v.old v.seen (v.seen ++ e ∷ []) (kept.seats at v there).old (prefix-more v.seen (e ∷ []));
      }

  other-number : (who : Holder) (n : ℕ) (seen mine : List Entry) → IsHeldBy kept.now who n seen mine → Seat at ≢ who → e.number ≢ n
  other-number who n seen mine other apart is = apart (same-holder kept.now v.number n (Seat at) who held.alone other.alone (sym own ∙ is))

  other-fits : (p : ℕ) (u : View) → p ≢ at → get_elem? views p ≡ some u → Fits now p u
  other-fits p u not here =
      let fits = kept.seats p u here in
      record {
        role = λ is. only-keeper kept.now at p v u role fits not is;
        pass = λ is.
            let other = fits.pass is in
            held-other kept.now e (Seat p) u.number u.seen u.mine other (other-number (Seat p) u.number u.seen u.mine other (λ same. not (cc (same))));
        old = fits.old;
      }

  gone-fits : (p : ℕ) (x : Ended) → slice_get kept.now.ended p ≡ Some x → IsHeldBy now (Gone p) x.number x.seen x.mine
  gone-fits p x is =
      let other = kept.gone p x is in
      held-other kept.now e (Gone p) x.number x.seen x.mine other (other-number (Gone p) x.number x.seen x.mine other (λ same. absurd (cc (same))))

  pub entry-added : Kept (slice_set words 0 ((slice_index words 0 + 1) % 2 ^ 64)) (set views at (with_entry v e))
  entry-added =
      let given = held.given in
      let few-there : length kept.now.log < 2 ^ 62 = subst (λ (h : List Entry). length h < 2 ^ 62) role.seen few in
      record {
        now = now;
        word = word-more words kept.now.log e kept.word few-there;
        keeper = subst (λ (p : ℕ). HasKeeper (set views at (with_entry v e)) p) role.keeper (keeper-set views at v (with_entry v e) there keeping);
        seats = fits-set now views at (with_entry v e) other-fits adder-fits;
        gone = gone-fits;
        holders = λ n less. holder-set views kept.now.ended at v (with_entry v e) n (kept.now.holder n) there (λ is same. (is, same)) (kept.holders n less);
        numbers = All-push (λ (x : Entry). x.number < kept.now.made) kept.now.log e kept.numbers (omega (arith, own, given));
      }

-- the entry is counted, and the pass knows it, beside all that it had seen before
pub pass-appends : (slots at : ℕ) (me : Me (Unit {0}) View) (e : Entry) → me.0.keeps ≡ true → me.0.numbered ≡ true → e.number ≡ me.0.number → length me.0.seen < 2 ^ 62 → Allows rule slots at me 0 (λ n. (n + 1) % 2 ^ 64) (λ n after. Appends e me after)
pass-appends slots at me e keeping numbered own few s kept count there small =
    let fits = adder-fits s.words s.views at me.0 e kept there keeping numbered own few in (
      with_entry me.0 e,
      keeps,
      tt,
      entry-added s.words s.views at me.0 e kept there keeping numbered own few,
      record { slots = refl; view = refl; old = (kept.seats at me.0 there).old; mine = (fits.pass numbered).known },
    )
