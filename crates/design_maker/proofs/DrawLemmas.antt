-- What is drawn one after another.
use Rattle.std.proofs.Common.{◌≡◌, ℕ, zero, suc, ◌+◌, ◌/◌, ◌<◌, List, [], ◌∷◌, ◌++◌, length, refl, ap, ◌∙◌, arith}
use Rattle.std.proofs.lemmas.Nat.{mod_below}
use Rattle.design_maker.specs.Draws.{Drawn, after_draw, draw, each}

-- a number that is drawn is below its bound
pub draw-below : (below state : ℕ) → 0 < below → (draw below state).0 < below
unfolding draw
draw-below below state some = mod_below (after_draw state / 65536) below some

module _ {A : Type 0} (item : ℕ → Drawn A) where
  pub each-none : (first state : ℕ) → each item first 0 state ≡ ([], state)
  unfolding each
  each-none first state = refl

  pub each-first : (first count state : ℕ) →
      each item first (suc count) state ≡
      ((item first state).0 ∷ (each item (first + 1) count (item first state).1).0, (each item (first + 1) count (item first state).1).1)
  unfolding each
  each-first first count state = refl

  -- the first items, and then the others
  pub each-parts : (first m n state : ℕ) →
      each item first (m + n) state ≡
      ((each item first m state).0 ++ (each item (first + m) n (each item first m state).1).0, (each item (first + m) n (each item first m state).1).1)
  unfolding each
  each-parts first zero n state =
      let none : zero + n ≡ n = omega arith in
      let same : first ≡ first + zero = omega arith in
      ap (λ (k : ℕ). each item first k state) none ∙ ap (λ (f : ℕ). each item f n state) same
  each-parts first (suc m) n state =
      let more : suc m + n ≡ suc (m + n) = omega arith in
      let same : first + 1 + m ≡ first + suc m = omega arith in
      let one = item first state in
      let before = each item (first + 1) m one.1 in
      ap (λ (k : ℕ). each item first k state) more
      ∙ ap (λ (p : List A × ℕ). (one.0 ∷ p.0, p.1)) (each-parts (first + 1) m n one.1)
      ∙ ap (λ (f : ℕ). (one.0 ∷ (before.0 ++ (each item f n before.1).0), (each item f n before.1).1)) same

  -- one more item
  pub each-more : (first count state : ℕ) →
      each item first (count + 1) state ≡
      ((each item first count state).0 ++ (item (first + count) (each item first count state).1).0 ∷ [], (item (first + count) (each item first count state).1).1)
  unfolding each
  each-more first count state = each-parts first count 1 state

  pub each-length : (first count state : ℕ) → length (each item first count state).0 ≡ count
  unfolding each
  each-length first zero state = refl
  each-length first (suc count) state = ap suc (each-length (first + 1) count (item first state).1)
