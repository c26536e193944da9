-- The callers' passes, as lists.
use Rattle.std.proofs.Common.{◌≡◌, ℕ, suc, zero, ◌+◌, ◌<◌, List, [], ◌∷◌, ◌++◌, map, length, get_or, slice_index_or, All, Some, slice_get, remove, refl, sym, ap, subst, ◌∙◌, arith}
use Rattle.std.proofs.lemmas.List.{append-nil}
use Rattle.std.proofs.lemmas.Option.{same_Some, slice_get-get_or}
use Rattle.run_histories.specs.RunHistories.{Setting}
use Rattle.track_book.specs.Passes.{PassView, IsNew, AreBegun, AreAll}
use Rattle.ripup_workers.specs.Closing.{AreNew}
use Rattle.ripup_workers.specs.Rounding.{HaveRun}

-- passes of a book that has just begun have seen nothing
pub rest-seen : (count : ℕ) (all : List PassView) (first : PassView) (rest : List PassView) → AreBegun count all → first ∷ rest ≡ all → All (λ (p : PassView). p.seen ≡ []) rest
rest-seen count all first rest begun is = λ i d within.
    (begun.each (suc i) (get_or rest i d) (ap (λ (l : List PassView). slice_get l (suc i)) (sym is) ∙ slice_get-get_or rest i d within)).seen

-- the first pass and those that are left when it is removed
pub first-rest : (all : List PassView) (first : PassView) → 0 < length all → first ≡ slice_index_or all 0 first → first ∷ remove all 0 ≡ all
first-rest [] first some is = absurd (omega (arith, some))
first-rest (p ∷ rest) first some is = ap (λ (k : PassView). k ∷ rest) is

-- the workers as they are made of the passes, one by one
map-push : {W : Type 0} (seen : W → PassView) (ws : List W) (w : W) (rest : List PassView) → map seen (ws ++ w ∷ []) ++ rest ≡ map seen ws ++ seen w ∷ rest
map-push seen [] w rest = refl
map-push seen (x ∷ ws) w rest = ap (λ (l : List PassView). seen x ∷ l) (map-push seen ws w rest)

pub workers-next : {W : Type 0} (seen : W → PassView) (ws new : List W) (w : W) (q : PassView) (rest before all : List PassView) → map seen ws ++ before ≡ all → before ≡ q ∷ rest →
    new ≡ ws ++ w ∷ [] → seen w ≡ q → map seen new ++ rest ≡ all
workers-next seen ws new w q rest before all whole first more is =
    ap (λ (us : List _). map seen us ++ rest) more ∙ map-push seen ws w rest
    ∙ ap (λ (k : PassView). map seen ws ++ k ∷ rest) is ∙ ap (λ (l : List PassView). map seen ws ++ l) (sym first) ∙ whole

-- and taken apart again
pub passes-last : {W : Type 0} (seen : W → PassView) (xs : List PassView) (rest : List W) (all : List PassView) → xs ++ map seen rest ≡ all → rest ≡ [] → xs ≡ all
passes-last seen xs rest all whole none =
    sym (append-nil xs) ∙ ap (λ (us : List _). xs ++ map seen us) (sym none) ∙ whole

next-place : (at : ℕ) → suc at ≡ at + 1
next-place at = omega arith

pub are-new : (t : Setting) (count : ℕ) (p : PassView) (ws all : List PassView) → AreBegun count all → p ∷ ws ≡ all → count ≡ t.workers + 1 → AreNew t p ws
are-new t count p ws all begun is count_is =
    let own : AreBegun count (p ∷ ws) = subst (AreBegun count) (sym is) begun in
    let long = own.count in
    record {
      count = omega (arith, long, count_is);
      first = own.each 0 p refl;
      each = λ at q there. subst (λ (n : ℕ). IsNew n q) (next-place at) (own.each (suc at) q there);
    }

pub are-all : (t : Setting) (count : ℕ) (p : PassView) (ws : List PassView) → HaveRun t p ws → count ≡ t.workers + 1 → AreAll count (p ∷ ws)
are-all t count p ws run is = record {
  count = (let long = run.at.count in omega (arith, long, is));
  each = λ at q there. by at q there;
}
  where
    by : (at : ℕ) (q : PassView) → slice_get (p ∷ ws) at ≡ Some q → q.number ≡ at
    by zero q there = ap (λ (k : PassView). k.number) (sym (same_Some p q there)) ∙ run.at.number
    by (suc at) q there = (run.at.each at q there).number_is ∙ sym (next-place at)
