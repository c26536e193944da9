-- Pairs that are put into places and taken out.
use Rattle.std.proofs.Common.{◌≡◌, ◌≢◌, ℕ, zero, suc, true, false, ◌==◌, ◌||◌, List, [], ◌∷◌, ◌++◌, length, Option, Some, None, IsSomeAnd, IsTrue, slice_get, slice_set, if◌then◌else◌, refl, sym, ap, subst, ◌∙◌, arith}
use Rattle.std.specs.List.{filter_map, cons_option}
use Rattle.std.specs.List.Sorted.{IsPermutation}
use Rattle.std.proofs.lemmas.Bool.{both_ways}
use Rattle.std.proofs.lemmas.Bool.Decides.{nat_tests}
use Rattle.std.proofs.lemmas.Option.{none-some, same_Some, slice_get_within}
use Rattle.std.proofs.lemmas.List.Sorted.{IsPermutation-refl, IsPermutation-cons, IsPermutation-trans, IsPermutation-sym, IsPermutation-middle}
use Rattle.gr_base.specs.Trees.{is_among}
use Rattle.maze_route.specs.Buckets.{pair_in, IsChain}
use Rattle.maze_route.specs.Places.{IsPut, HasFree}
use Rattle.maze_route.specs.declared.slot.Slot.{Slot}
use Rattle.maze_route.proofs.ChainLemmas.{some-and, make-some-and, chain-once, or-none, or-right}
use Rattle.maze_route.proofs.LabelLemmas.{slice_get-set}
use Rattle.maze_route.proofs.SpreadingLemmas.{chain-long}

-- a chain reads its own places alone
pub chain-other : (slots after : List Slot) (head : Option ℕ) (ps : List ℕ) (place : ℕ) → ((q : ℕ) → q ≢ place → slice_get after q ≡ slice_get slots q) → is_among ps place ≡ false →
    IsChain slots head ps → IsChain after head ps
chain-other slots after head [] place others isnt chain = chain
chain-other slots after head (q ∷ ps) place others isnt chain =
    let a = some-and (slice_get slots q) (λ s. IsChain slots s.next ps) chain.1 in
    let parts = or-none (q == place) (is_among ps place) isnt in
    let test = parts.0 in
    let apart : q ≢ place = grind (arith, nat_tests) in
    (chain.0, make-some-and (slice_get after q) (λ s. IsChain after s.next ps) a.0 (others q apart ∙ a.1.0) (chain-other slots after a.0.next ps place others parts.1 a.1.1))

pub pair-taken : (slot : Slot) → slot.taken ≡ true → pair_in slot ≡ Some (slot.key, slot.cell)
pair-taken slot taken = ap (λ b. if b then Some (slot.key, slot.cell) else None) taken

pub pair-free : (slot : Slot) → slot.taken ≡ false → pair_in slot ≡ None
pair-free slot free = ap (λ b. if b then Some (slot.key, slot.cell) else None) free

swap-two : (a b : ℕ × ℕ) (xs : List (ℕ × ℕ)) → IsPermutation (a ∷ b ∷ xs) (b ∷ a ∷ xs)
swap-two a b xs = IsPermutation-sym (b ∷ a ∷ xs) (a ∷ b ∷ xs) (IsPermutation-middle (b ∷ []) a xs)

under-cons : (pair : ℕ × ℕ) (o : Option (ℕ × ℕ)) (xs ys : List (ℕ × ℕ)) → IsPermutation (pair ∷ xs) ys → IsPermutation (pair ∷ cons_option o xs) (cons_option o ys)
under-cons pair None xs ys moved = moved
under-cons pair (Some x) xs ys moved = IsPermutation-trans (pair ∷ x ∷ xs) (x ∷ pair ∷ xs) (x ∷ ys) (swap-two pair x xs) (IsPermutation-cons x (pair ∷ xs) ys moved)

-- a pair more, where there was none
pub pairs-set : (slots : List Slot) (place : ℕ) (old new : Slot) (pair : ℕ × ℕ) → slice_get slots place ≡ Some old → pair_in old ≡ None → pair_in new ≡ Some pair →
    IsPermutation (pair ∷ filter_map pair_in slots) (filter_map pair_in (slice_set slots place new))
pairs-set [] place old new pair at none some = absurd (none-some old at)
pairs-set (x ∷ xs) zero old new pair at none some =
    let e : x ≡ old = same_Some x old at in
    let before : filter_map pair_in (x ∷ xs) ≡ filter_map pair_in xs = ap (λ (o : Option (ℕ × ℕ)). cons_option o (filter_map pair_in xs)) (ap (λ (s : Slot). pair_in s) e ∙ none) in
    let after : filter_map pair_in (new ∷ xs) ≡ pair ∷ filter_map pair_in xs = ap (λ (o : Option (ℕ × ℕ)). cons_option o (filter_map pair_in xs)) some in
    let P : List (ℕ × ℕ) → Type 0 = λ ys. IsPermutation (pair ∷ ys) (filter_map pair_in (new ∷ xs)) in
    let Q : List (ℕ × ℕ) → Type 0 = λ ys. IsPermutation (pair ∷ filter_map pair_in xs) ys in
    subst P (sym before) (subst Q (sym after) (IsPermutation-refl (pair ∷ filter_map pair_in xs)))
pairs-set (x ∷ xs) (suc place) old new pair at none some =
    under-cons pair (pair_in x) (filter_map pair_in xs) (filter_map pair_in (slice_set xs place new)) (pairs-set xs place old new pair at none some)

pub pairs-push : (slots : List Slot) (new : Slot) (pair : ℕ × ℕ) → pair_in new ≡ Some pair → IsPermutation (pair ∷ filter_map pair_in slots) (filter_map pair_in (slots ++ new ∷ []))
pairs-push [] new pair some =
    let after : filter_map pair_in (new ∷ []) ≡ pair ∷ [] = ap (λ (o : Option (ℕ × ℕ)). cons_option o []) some in
    let Q : List (ℕ × ℕ) → Type 0 = λ ys. IsPermutation (pair ∷ []) ys in
    subst Q (sym after) (IsPermutation-refl (pair ∷ []))
pairs-push (x ∷ xs) new pair some = under-cons pair (pair_in x) (filter_map pair_in xs) (filter_map pair_in (xs ++ new ∷ [])) (pairs-push xs new pair some)

slice_get-push : (slots : List Slot) (new : Slot) → slice_get (slots ++ new ∷ []) (length slots) ≡ Some new
slice_get-push [] new = refl
slice_get-push (x ∷ xs) new = slice_get-push xs new

slice_get-push_other : (slots : List Slot) (new : Slot) (q : ℕ) → q ≢ length slots → slice_get (slots ++ new ∷ []) q ≡ slice_get slots q
slice_get-push_other [] new zero other = absurd (other refl)
slice_get-push_other [] new (suc q) other = refl
slice_get-push_other (x ∷ xs) new zero other = refl
slice_get-push_other (x ∷ xs) new (suc q) other = slice_get-push_other xs new q (λ same. other (ap (λ (n : ℕ). suc n) same))

pub put-push : (slots after : List Slot) (place : ℕ) (slot : Slot) → slot.taken ≡ true → place ≡ length slots → after ≡ slots ++ slot ∷ [] → IsPut slots after place slot
put-push slots after place slot taken is pushed =
    let P : List Slot → Type 0 = λ xs. IsPut slots xs place slot in
    let Q : ℕ → Type 0 = λ n. IsPut slots (slots ++ slot ∷ []) n slot in
    subst P (sym pushed) (subst Q (sym is) (record {
      at = slice_get-push slots slot;
      others = λ q other. slice_get-push_other slots slot q other;
      fresh = λ old read. let h = slice_get_within slots (length slots) old read in absurd (omega arith);
      pairs = pairs-push slots slot (slot.key, slot.cell) (pair-taken slot taken);
    }))

-- what it is to put a pair into the first free place
pub record IsReuse (slots after : List Slot) (place : ℕ) (free_after : Option ℕ) (slot : Slot) : Type 0 where
  pub put : IsPut slots after place slot
  pub free : HasFree after free_after

pub put-free : (slots after : List Slot) (free : Option ℕ) (place : ℕ) (old slot : Slot) → slot.taken ≡ true → HasFree slots free → free ≡ Some place → slice_get slots place ≡ Some old → after ≡ slice_set slots place slot →
    IsReuse slots after place old.next slot
put-free slots after free place old slot taken has is read set =
    let below = slice_get_within slots place old read in
    let P : Option ℕ → Type 0 = λ o. IsChain slots o has.places in
    let long = chain-long slots place old has.places read (subst P is has.are_free.linked) in
    let rest = long.rest in
    let A : List ℕ → Type 0 = λ xs. (q : ℕ) → IsTrue (is_among xs q) → IsSomeAnd (slice_get slots q) (λ s. s.taken ≡ false) in
    let frees = subst A long.are has.are_free.only in
    let own : (place == place) ≡ true = grind (arith, nat_tests) in
    let mine = some-and (slice_get slots place) (λ s. s.taken ≡ false) (frees place (ap (λ b. b || is_among rest place) own)) in
    let e : mine.0 ≡ old = same_Some mine.0 old (sym mine.1.0 ∙ read) in
    let old_free : old.taken ≡ false = sym (ap (λ (s : Slot). s.taken) e) ∙ mine.1.1 in
    let once = chain-once slots place old rest read long.linked in
    let others = λ (q : ℕ) (other : q ≢ place).
    let test : (q == place) ≡ false = grind (arith, nat_tests) in
    ap (λ (xs : List Slot). slice_get xs q) set ∙ slice_get-set slots place q slot below ∙ ap (λ b. if b then Some slot else slice_get slots q) test in
    record {
      put = record {
        at = ap (λ (xs : List Slot). slice_get xs place) set ∙ slice_get-set slots place place slot below ∙ ap (λ b. if b then Some slot else slice_get slots place) own;
        others = others;
        fresh = λ s at. ap (λ (t : Slot). t.taken) (same_Some s old (sym at ∙ read)) ∙ old_free;
        pairs = let Q : List Slot → Type 0 = λ xs. IsPermutation ((slot.key, slot.cell) ∷ filter_map pair_in slots) (filter_map pair_in xs) in
            subst Q (sym set) (pairs-set slots place old slot (slot.key, slot.cell) read (pair-free old old_free) (pair-taken slot taken));
      };
      free = record {
        places = rest;
        are_free = record {
          linked = chain-other slots after old.next rest place others once long.linked;
          only = λ q among.
              let apart : q ≢ place = λ same. both_ways true (sym (ap (λ (n : ℕ). is_among rest n) (sym same) ∙ among) ∙ once) refl in
              let found = some-and (slice_get slots q) (λ s. s.taken ≡ false) (frees q (or-right (place == q) (is_among rest q) among)) in
              make-some-and (slice_get after q) (λ s. s.taken ≡ false) found.0 (others q apart ∙ found.1.0) found.1.1;
        };
      };
    }

-- a pair less
unset-by : (slots : List Slot) (place : ℕ) (old new : Slot) (pair : ℕ × ℕ) → slice_get slots place ≡ Some old → pair_in old ≡ Some pair → pair_in new ≡ None →
    IsPermutation (pair ∷ filter_map pair_in (slice_set slots place new)) (filter_map pair_in slots)
unset-by [] place old new pair at some none = absurd (none-some old at)
unset-by (x ∷ xs) zero old new pair at some none =
    let e : x ≡ old = same_Some x old at in
    let before : filter_map pair_in (x ∷ xs) ≡ pair ∷ filter_map pair_in xs = ap (λ (o : Option (ℕ × ℕ)). cons_option o (filter_map pair_in xs)) (ap (λ (s : Slot). pair_in s) e ∙ some) in
    let after : filter_map pair_in (new ∷ xs) ≡ filter_map pair_in xs = ap (λ (o : Option (ℕ × ℕ)). cons_option o (filter_map pair_in xs)) none in
    let P : List (ℕ × ℕ) → Type 0 = λ ys. IsPermutation (pair ∷ ys) (filter_map pair_in (x ∷ xs)) in
    let Q : List (ℕ × ℕ) → Type 0 = λ ys. IsPermutation (pair ∷ filter_map pair_in xs) ys in
    subst P (sym after) (subst Q (sym before) (IsPermutation-refl (pair ∷ filter_map pair_in xs)))
unset-by (x ∷ xs) (suc place) old new pair at some none =
    under-cons pair (pair_in x) (filter_map pair_in (slice_set xs place new)) (filter_map pair_in xs) (unset-by xs place old new pair at some none)

pub pairs-unset : (slots : List Slot) (place : ℕ) (old new : Slot) (pair : ℕ × ℕ) → slice_get slots place ≡ Some old → pair_in old ≡ Some pair → pair_in new ≡ None →
    IsPermutation (filter_map pair_in slots) (pair ∷ filter_map pair_in (slice_set slots place new))
pairs-unset slots place old new pair at some none =
    IsPermutation-sym (pair ∷ filter_map pair_in (slice_set slots place new)) (filter_map pair_in slots) (unset-by slots place old new pair at some none)
