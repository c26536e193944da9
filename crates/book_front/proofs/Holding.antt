-- Views and holders in lists that change at a place.
use Rattle.std.proofs.Common.{◌≡◌, ◌≢◌, ◌⊎◌, ℕ, zero, suc, ◌<◌, true, false, true≢false, List, [], ◌∷◌, ◌++◌, length, set, Some, slice_get, refl, sym, ap, subst, ◌∙◌, inl, inr, ⊎_elim, arith}
use Rattle.std.proofs.lemmas.Bool.{cases_eq}
use mathlib.Core.Option.{some, some-injective, some-ne-none}
use lib.ListN.{get_elem?}
use Rattle.atomic_table.proofs.Lists.{at_set, set_here, set_else, at_longer}
use Rattle.book_front.specs.Rule.{Holder, Standing, IsKeeping, Fits, HasSeat, HasHolder, HasKeeper}
use Rattle.book_front.specs.Rule.{Seat, Gone}
use Rattle.book_front.specs.declared.view.Ended.{Ended}
use Rattle.book_front.specs.declared.view.View.{View}

pub off : {A : Type 0} → false ≡ true → A
off is = absurd (true≢false (sym is))

pub at-within : {A : Type 0} (l : List A) (i : ℕ) (a : A) → get_elem? l i ≡ some a → i < length l
at-within [] i a e = absurd (some-ne-none a (sym e))
at-within (x ∷ xs) zero a e = omega arith
at-within (x ∷ xs) (suc i) a e = let h = at-within xs i a e in omega arith

pub at-push : {A : Type 0} (l : List A) (a b : A) (j : ℕ) → get_elem? (l ++ a ∷ []) j ≡ some b → (get_elem? l j ≡ some b) ⊎ ((j ≡ length l) × (a ≡ b))
at-push [] a b zero e = inr (refl, some-injective a b e)
at-push [] a b (suc j) e = absurd (some-ne-none b (sym e))
at-push (x ∷ xs) a b zero e = inl e
at-push (x ∷ xs) a b (suc j) e = ⊎_elim (λ here. inl here) (λ (last : (j ≡ length xs) × (a ≡ b)). inr (ap suc last.0, last.1)) (at-push xs a b j e)

pub get-push : {A : Type 0} (l : List A) (a b : A) (j : ℕ) → slice_get (l ++ a ∷ []) j ≡ Some b → (slice_get l j ≡ Some b) ⊎ ((j ≡ length l) × (a ≡ b))
get-push [] a b zero e = inr (refl, cc)
get-push [] a b (suc j) e = absurd (cc (e))
get-push (x ∷ xs) a b zero e = inl e
get-push (x ∷ xs) a b (suc j) e = ⊎_elim (λ here. inl here) (λ (last : (j ≡ length xs) × (a ≡ b)). inr (ap suc last.0, last.1)) (get-push xs a b j e)

pub get-longer : {A : Type 0} (l m : List A) (j : ℕ) (b : A) → slice_get l j ≡ Some b → slice_get (l ++ m) j ≡ Some b
get-longer [] m j b e = absurd (cc (e))
get-longer (x ∷ xs) m zero b e = e
get-longer (x ∷ xs) m (suc j) b e = get-longer xs m j b e

pub get-last : {A : Type 0} (l : List A) (a : A) → slice_get (l ++ a ∷ []) (length l) ≡ Some a
get-last [] a = refl
get-last (x ∷ xs) a = get-last xs a

abbrev pub AllFit : Standing → List View → Type 0
AllFit s views = (place : ℕ) (v : View) → get_elem? views place ≡ some v → Fits s place v

abbrev pub OthersFit : Standing → List View → ℕ → Type 0
OthersFit s views at = (place : ℕ) (v : View) → place ≢ at → get_elem? views place ≡ some v → Fits s place v

pub fits-set : (s : Standing) (views : List View) (at : ℕ) (w : View) → OthersFit s views at → Fits s at w → AllFit s (set views at w)
fits-set s views at w others mine place v e =
    ⊎_elim
    (λ (here : (place ≡ at) × (w ≡ v)). subst (λ (x : ℕ × View). Fits s x.0 x.1) (λ i. (sym here.0 i, here.1 i)) mine)
    (λ (else : (place ≢ at) × (get_elem? views place ≡ some v)). others place v else.0 else.1)
    (at_set views at place w v e)

pub fits-push : (s : Standing) (views : List View) (w : View) → AllFit s views → Fits s (length views) w → AllFit s (views ++ w ∷ [])
fits-push s views w all last place v e =
    ⊎_elim
    (λ (here : get_elem? views place ≡ some v). all place v here)
    (λ (end : (place ≡ length views) × (w ≡ v)). subst (λ (x : ℕ × View). Fits s x.0 x.1) (λ i. (sym end.0 i, end.1 i)) last)
    (at-push views w v place e)

-- the same where the view at one more place is left out
pub fits-set-but : (s : Standing) (views : List View) (at but : ℕ) (w : View) → ((place : ℕ) (v : View) → place ≢ at → place ≢ but → get_elem? views place ≡ some v → Fits s place v) → Fits s at w → OthersFit s (set views at w) but
fits-set-but s views at but w others mine place v not e =
    ⊎_elim
    (λ (here : (place ≡ at) × (w ≡ v)). subst (λ (x : ℕ × View). Fits s x.0 x.1) (λ i. (sym here.0 i, here.1 i)) mine)
    (λ (else : (place ≢ at) × (get_elem? views place ≡ some v)). others place v else.0 not else.1)
    (at_set views at place w v e)

-- a place beside the keeper's doesn't have the role
pub only-keeper : (s : Standing) (at place : ℕ) (v u : View) → IsKeeping s at v → Fits s place u → place ≢ at → {A : Type 0} → u.keeps ≡ true → A
only-keeper s at place v u keeping fits not keeps = absurd (not ((fits.role keeps).keeper ∙ sym keeping.keeper))

-- the view at a place, read twice
pub at-same : (views : List View) (at : ℕ) (v w : View) → get_elem? views at ≡ some v → get_elem? views at ≡ some w → v ≡ w
at-same views at v w one two = some-injective v w (sym one ∙ two)

-- a number still has its holder where the view at a place changes and holds it still, if it did
pub holder-set : (views : List View) (ended : List Ended) (at : ℕ) (v w : View) (n : ℕ) (h : Holder) → get_elem? views at ≡ some v → (v.numbered ≡ true → v.number ≡ n → (w.numbered ≡ true) × (w.number ≡ n)) → HasHolder views ended n h → HasHolder (set views at w) ended n h
holder-set views ended at v w n (Gone place) here keep has = has
holder-set views ended at v w n (Seat place) here keep has = ⊎_elim same else (cases_eq place at)
  where
    same : place ≡ at → HasSeat (set views at w) n place
    same is =
        let v-is : v ≡ has.v = at-same views at v has.v here (ap (λ (p : ℕ). get_elem? views p) (sym is) ∙ has.there) in
        let kept = keep (ap (λ (x : View). x.numbered) v-is ∙ has.numbered) (ap (λ (x : View). x.number) v-is ∙ has.has) in
        record {
          v = w;
          there = ap (λ (p : ℕ). get_elem? (set views at w) p) is ∙ set_here views at w (at-within views at v here);
          numbered = kept.0;
          has = kept.1;
        }

    else : place ≢ at → HasSeat (set views at w) n place
    else not = record { v = has.v; there = set_else views at place w not ∙ has.there; numbered = has.numbered; has = has.has }

pub holder-longer : (views more : List View) (ended : List Ended) (n : ℕ) (h : Holder) → HasHolder views ended n h → HasHolder (views ++ more) ended n h
holder-longer views more ended n (Gone place) has = has
holder-longer views more ended n (Seat place) has = record { v = has.v; there = at_longer views more place has.v has.there; numbered = has.numbered; has = has.has }

pub holder-more-gone : (views : List View) (ended more : List Ended) (n : ℕ) (h : Holder) → HasHolder views ended n h → HasHolder views (ended ++ more) n h
holder-more-gone views ended more n (Seat place) has = has
holder-more-gone views ended more n (Gone place) has = record { e = has.e; there = get-longer ended more place has.e has.there; has = has.has }

-- the keeper after its place changed, and where it stays
pub keeper-set : (views : List View) (at : ℕ) (v w : View) → get_elem? views at ≡ some v → w.keeps ≡ true → HasKeeper (set views at w) at
keeper-set views at v w here keeps = record { v = w; there = set_here views at w (at-within views at v here); keeps = keeps }

pub keeper-else : (views : List View) (at place : ℕ) (w : View) → place ≢ at → HasKeeper views place → HasKeeper (set views at w) place
keeper-else views at place w not has = record { v = has.v; there = set_else views at place w not ∙ has.there; keeps = has.keeps }

pub keeper-longer : (views more : List View) (place : ℕ) → HasKeeper views place → HasKeeper (views ++ more) place
keeper-longer views more place has = record { v = has.v; there = at_longer views more place has.v has.there; keeps = has.keeps }
