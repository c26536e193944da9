-- Numbers that are drawn in turn.
use Rattle.std.specs.Prelude.{ℕ, zero, suc, ◌+◌, ◌*◌, ◌/◌, ◌%◌, ◌^◌, List, [], ◌∷◌}

-- what is drawn from a state, and the state behind the draws
abbrev pub Drawn : Type 0 → Type 0
Drawn A = ℕ → A × ℕ

abbrev pub pure : {A : Type 0} → A → Drawn A
pure a = λ state. (a, state)

infixl 10 ◌>>=◌
abbrev pub ◌>>=◌ : {A B : Type 0} → Drawn A → (A → Drawn B) → Drawn B
first >>= next = λ state. next (first state).0 (first state).1

-- the state behind a draw
abbrev pub after_draw : ℕ → ℕ
after_draw state = (state * 1103515245 + 12345) % 2 ^ 31

-- one of the numbers below a bound
unfoldable pub draw : ℕ → Drawn ℕ
draw below state = (after_draw state / 65536 % below, after_draw state)

-- an item for each of so many numbers, from the first on
unfoldable pub each : {A : Type 0} → (ℕ → Drawn A) → (first count : ℕ) → Drawn (List A)
each item first zero = pure []
each item first (suc count) = do
  one ← item first
  others ← each item (first + 1) count
  pure (one ∷ others)
