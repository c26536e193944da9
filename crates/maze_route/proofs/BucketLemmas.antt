-- A pair that is linked into another bucket.
use Rattle.std.proofs.Common.{◌≡◌, ℕ, zero, suc, inl, inr, true, false, ◌==◌, List, [], ◌∷◌, Option, Some, None, slice_get, slice_set, if◌then◌else◌, refl, sym, ap, subst, ◌∙◌, arith}
use Rattle.std.specs.List.{filter_map, cons_option}
use Rattle.std.proofs.lemmas.Bool.{cases_eq}
use Rattle.std.proofs.lemmas.Bool.Decides.{nat_tests}
use Rattle.std.proofs.lemmas.Option.{same_Some, slice_get_within}
use Rattle.maze_route.specs.Buckets.{pair_in, IsBucket, IsOf}
use Rattle.maze_route.specs.declared.slot.Slot.{Slot}
use Rattle.maze_route.proofs.LabelLemmas.{slice_get-set}

-- a slot that is given another link only
pub record IsRelink (slots after : List Slot) (place : ℕ) (old new : Slot) : Type 0 where
  pub at : slice_get slots place ≡ Some old
  pub set : after ≡ slice_set slots place new
  pub key : new.key ≡ old.key
  pub cell : new.cell ≡ old.cell
  pub taken : new.taken ≡ old.taken

pub relink-at : (slots after : List Slot) (place other : ℕ) (old new slot : Slot) → IsRelink slots after place old new → slice_get slots other ≡ Some slot →
    (as_slot : Slot) × ((slice_get after other ≡ Some as_slot) × ((as_slot.key ≡ slot.key) × (as_slot.taken ≡ slot.taken)))
relink-at slots after place other old new slot re is =
    let below = slice_get_within slots place old re.at in
    let read = ap (λ (xs : List Slot). slice_get xs other) re.set ∙ slice_get-set slots place other new below in
    elim (cases_eq other place) [
      | inl same ↦
          let test : (other == place) ≡ true = grind (arith, nat_tests) in
          let e : old ≡ slot = same_Some old slot (sym re.at ∙ ap (λ (n : ℕ). slice_get slots n) (sym same) ∙ is) in
          (new, (read ∙ ap (λ b. if b then Some new else slice_get slots other) test, (re.key ∙ ap (λ (s : Slot). s.key) e, re.taken ∙ ap (λ (s : Slot). s.taken) e)))
      | inr apart ↦
          let test : (other == place) ≡ false = grind (arith, nat_tests) in
          (slot, (read ∙ ap (λ b. if b then Some new else slice_get slots other) test ∙ is, (refl, refl)))
    ]

set-back : (xs : List Slot) (place : ℕ) (old new : Slot) → slice_get xs place ≡ Some old → slice_set (slice_set xs place new) place old ≡ xs
set-back [] place old new is = refl
set-back (x ∷ xs) zero old new is = ap (λ (y : Slot). y ∷ xs) (sym (same_Some x old is))
set-back (x ∷ xs) (suc place) old new is = ap (λ (ys : List Slot). x ∷ ys) (set-back xs place old new is)

-- the slot is given its old link back
relink-swap : (slots after : List Slot) (place : ℕ) (old new : Slot) → IsRelink slots after place old new → IsRelink after slots place new old
relink-swap slots after place old new re =
    let read = ap (λ (xs : List Slot). slice_get xs place) re.set ∙ slice_get-set slots place place new (slice_get_within slots place old re.at) in
    let test : (place == place) ≡ true = grind (arith, nat_tests) in
    record {
      at = read ∙ ap (λ b. if b then Some new else slice_get slots place) test;
      set = sym (set-back slots place old new re.at) ∙ ap (λ (xs : List Slot). slice_set xs place old) (sym re.set);
      key = sym re.key;
      cell = sym re.cell;
      taken = sym re.taken;
    }

pub relink-back : (slots after : List Slot) (place other : ℕ) (old new slot : Slot) → IsRelink slots after place old new → slice_get after other ≡ Some slot →
    (as_slot : Slot) × ((slice_get slots other ≡ Some as_slot) × ((as_slot.key ≡ slot.key) × (as_slot.taken ≡ slot.taken)))
relink-back slots after place other old new slot re is = relink-at after slots place other new old slot (relink-swap slots after place old new re) is

pub relink-of : (slots after : List Slot) (place other last bucket : ℕ) (old new : Slot) → IsRelink slots after place old new → IsOf slots last bucket other → IsOf after last bucket other
relink-of slots after place other last bucket old new re of =
    let found = relink-at slots after place other old new of.slot re of.at in
    let key = found.1.1.0 in
    let P : ℕ → Type 0 = λ k. IsBucket last k bucket in
    let later = of.later in
    record {
      slot = found.0;
      at = found.1.0;
      taken = found.1.1.1 ∙ of.taken;
      later = omega arith;
      of_bucket = subst P (sym key) of.of_bucket;
    }

pub same-pair : (old new : Slot) → new.key ≡ old.key → new.cell ≡ old.cell → new.taken ≡ old.taken → pair_in new ≡ pair_in old
same-pair old new key cell taken =
    ap (λ (k : ℕ). if new.taken then Some (k, new.cell) else None) key
    ∙ ap (λ (c : ℕ). if new.taken then Some (old.key, c) else None) cell
    ∙ ap (λ b. if b then Some (old.key, old.cell) else None) taken

-- a link changes no pair
pub relink-list : (slots : List Slot) (place : ℕ) (old new : Slot) → slice_get slots place ≡ Some old → pair_in new ≡ pair_in old → filter_map pair_in (slice_set slots place new) ≡ filter_map pair_in slots
relink-list [] place old new is same = refl
relink-list (x ∷ xs) zero old new is same =
    let e : x ≡ old = same_Some x old is in
    ap (λ (o : Option (ℕ × ℕ)). cons_option o (filter_map pair_in xs)) (same ∙ ap (λ (s : Slot). pair_in s) (sym e))
relink-list (x ∷ xs) (suc place) old new is same = ap (λ (ys : List (ℕ × ℕ)). cons_option (pair_in x) ys) (relink-list xs place old new is same)

pub relink-pairs : (slots after : List Slot) (place : ℕ) (old new : Slot) → IsRelink slots after place old new → filter_map pair_in after ≡ filter_map pair_in slots
relink-pairs slots after place old new re =
    ap (λ (xs : List Slot). filter_map pair_in xs) re.set ∙ relink-list slots place old new re.at (same-pair old new re.key re.cell re.taken)

-- a chain with the bucket's new first place
abbrev pub chains-with : (ℕ → List ℕ) → ℕ → ℕ → ℕ → List ℕ
chains-with chains to place bucket = if bucket == to then place ∷ chains bucket else chains bucket
