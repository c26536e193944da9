-- What is found in a table.
use Rattle.std.proofs.Common.{◌≡◌, ℕ, ◌+◌, Bool, true, false, not, ◌&&◌, nat_lt, List, [], ◌∷◌, map, length, Option, Some, None, if◌then◌else◌, refl, sym, ap, ◌∙◌}
use Rattle.std.proofs.lemmas.List.{length-map}
use Rattle.std.proofs.lemmas.Option.{none-some, same_Some}
use Rattle.std.specs.Option.{option_map}
use Rattle.std.specs.List.{find, list_all, position, position_or_len}

-- an item that is found passes the test, and what all pass
pub found : {X : Type 0} (test all : X → Bool) (xs : List X) (x : X) → find test xs ≡ Some x → list_all all xs ≡ true →
    (test x ≡ true) × (all x ≡ true)
found test all [] x is each = absurd (none-some x is)
found test all (y ∷ ys) x is each = by (found test all ys x) (test y) refl (all y) refl is each
  where
    by : (find test ys ≡ Some x → list_all all ys ≡ true → (test x ≡ true) × (all x ≡ true)) →
        (a : Bool) → test y ≡ a → (b : Bool) → all y ≡ b → (if a then Some y else find test ys) ≡ Some x →
        (b && list_all all ys) ≡ true → (test x ≡ true) × (all x ≡ true)
    by behind true first true passes h each =
        let same = same_Some y x h in (ap test (sym same) ∙ first, ap all (sym same) ∙ passes)
    by behind false first true passes h each = behind h each
    by behind a first false passes h each = absurd cc

-- what is found of items that are seen as they are
pub as-found : {X : Type 0} (o : Option X) → o ≡ option_map (λ x. x) o
as-found None = refl
as-found (Some x) = refl

first-map : {X Y : Type 0} (seen : X → Y) (test : Y → Bool) (xs : List X) →
    position_or_len test (map seen xs) ≡ position_or_len (λ x. test (seen x)) xs
first-map seen test [] = refl
first-map seen test (x ∷ xs) = ap (λ (n : ℕ). if not (test (seen x)) then 1 + n else 0) (first-map seen test xs)

-- the place of what is found, by what is seen of it
pub position-map : {X Y : Type 0} (seen : X → Y) (test : Y → Bool) (xs : List X) →
    position test (map seen xs) ≡ position (λ x. test (seen x)) xs
position-map seen test xs =
    ap (λ (n : ℕ). if nat_lt n (length (map seen xs)) then Some n else None) (first-map seen test xs) ∙
    ap (λ (n : ℕ). if nat_lt first n then Some first else None) (length-map xs seen)
  where
    first : ℕ
    first = position_or_len (λ x. test (seen x)) xs
