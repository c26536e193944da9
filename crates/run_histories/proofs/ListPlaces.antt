-- What stands in a list at the place that was written, and elsewhere.
use Rattle.std.proofs.Common.{◌≡◌, ℕ, suc, zero, ◌<◌, List, [], ◌∷◌, length, Some, slice_get, slice_set, refl, ap, arith}

pub set-here : {A : Type 0} (xs : List A) (i : ℕ) (x : A) → i < length xs → slice_get (slice_set xs i x) i ≡ Some x
set-here [] i x within = absurd (omega arith)
set-here (y ∷ xs) zero x within = refl
set-here (y ∷ xs) (suc i) x within = set-here xs i x (omega arith)

pub set-elsewhere : {A : Type 0} (xs : List A) (i : ℕ) (x : A) (j : ℕ) → (j ≡ i → ⊥) → slice_get (slice_set xs i x) j ≡ slice_get xs j
set-elsewhere [] i x j other = refl
set-elsewhere (y ∷ xs) zero x zero other = absurd (other refl)
set-elsewhere (y ∷ xs) zero x (suc j) other = refl
set-elsewhere (y ∷ xs) (suc i) x zero other = refl
set-elsewhere (y ∷ xs) (suc i) x (suc j) other = set-elsewhere xs i x j (λ e. other (ap (λ (k : ℕ). suc k) e))
