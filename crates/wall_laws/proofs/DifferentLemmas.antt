-- One more number among numbers of which the different ones are counted.
use Rattle.std.proofs.Common.{◌≡◌, ℕ, ◌+◌, ◌||◌, ◌==◌, inl, inr, Bool, true, false, cond, List, [], ◌∷◌, ◌++◌, if◌then◌else◌, refl, sym, ap, ◌∙◌, arith}
use Rattle.std.proofs.lemmas.Bool.{cases_Bool, eqb-true}
use Rattle.std.proofs.lemmas.List.Folds.{list_any-append}
use Rattle.gr_base.proofs.General.{eqb-swap}
use Rattle.gr_base.specs.Trees.{is_among}
use Rattle.wall_laws.specs.Spans.{different}

one-if : (a b : Bool) → a ≡ b → cond {A = ℕ} a 0 1 ≡ cond b 0 1
one-if a b is = ap (λ (c : Bool). cond {A = ℕ} c 0 1) is

or-none : (a : Bool) → (a || false) ≡ a
or-none true = refl
or-none false = refl

-- a number behind others is a different one where it isn't among them
pub different-push : (ns : List ℕ) (x : ℕ) → different (ns ++ x ∷ []) ≡ different ns + (if is_among ns x then 0 else 1)
different-push [] x = refl
different-push (n ∷ ns) x =
    let rest = different-push ns x in
    let front : is_among (ns ++ x ∷ []) n ≡ (is_among ns n || x == n) =
    list_any-append (λ m. m == n) ns (x ∷ []) ∙ ap (λ (b : Bool). is_among ns n || b) (or-none (x == n)) in
    elim (cases_Bool (n == x)) [
      | inl same ↦
          let is = eqb-true n x same in
          let swapped : (x == n) ≡ true = eqb-swap x n ∙ same in
          let all : is_among (ns ++ x ∷ []) n ≡ true = front ∙ or-one (is_among ns n) (x == n) swapped in
          let first = one-if (is_among (ns ++ x ∷ []) n) true all in
          let last = one-if (n == x || is_among ns x) true (rw same refl) in
          let moved = one-if (is_among ns x) (is_among ns n) (ap (is_among ns) (sym is)) in
          omega (arith, rest, first, last, moved)
      | inr apart ↦
          let swapped : (x == n) ≡ false = eqb-swap x n ∙ apart in
          let all : is_among (ns ++ x ∷ []) n ≡ is_among ns n = front ∙ ap (λ (b : Bool). is_among ns n || b) swapped ∙ or-none (is_among ns n) in
          let first = one-if (is_among (ns ++ x ∷ []) n) (is_among ns n) all in
          let last = one-if (n == x || is_among ns x) (is_among ns x) (rw apart refl) in
          omega (arith, rest, first, last)
    ]
  where
    or-one : (a b : Bool) → b ≡ true → (a || b) ≡ true
    or-one true b is = refl
    or-one false b is = is
