-- Polarity: which signal each sink gets, and the placements with which each gets what it wants.
use Rattle.std.specs.Prelude.{◌≡◌, ℕ, zero, suc, ◌≤ℤ◌, Bool, false, not, List, All, Option, count_by, unwrap_or, option_and_then}
use Rattle.rc_library.specs.Libraries.{LibraryView, inverts_at}
use Rattle.elmore_delay.specs.RcTrees.{RcTree, path_to}
use Rattle.elmore_delay.specs.Loadings.{LoadingView, rc_of, sinks_of}
use Rattle.elmore_delay.specs.Placements.{placed_at}
use Rattle.buffer_plan.specs.Best.{IsAllowed, time_with}

-- what a node holds is an inverter
abbrev pub is_inverter : LibraryView → Option ℕ → Bool
is_inverter lib held = unwrap_or (option_and_then (inverts_at lib) held) false

-- the number of inverters on the path from node 0 to a node, one at the node itself included, where so much is held
abbrev pub inverters_to : RcTree → LibraryView → (ℕ → Option ℕ) → ℕ → ℕ
inverters_to t lib held node = count_by (λ above. is_inverter lib (held above)) (path_to t node)

-- an odd number of inverters gives the inverted signal
abbrev pub is_odd : ℕ → Bool
is_odd zero = false
is_odd (suc n) = not (is_odd n)

abbrev pub is_inverted : RcTree → LibraryView → (ℕ → Option ℕ) → ℕ → Bool
is_inverted t lib held node = is_odd (inverters_to t lib held node)

-- it is allowed, and the sinks that want the inverted signal are those that get it
pub record IsLegal (l : LoadingView) (p : List (Option ℕ)) : Type 0 where
  pub allowed : IsAllowed l p
  pub served : All (λ sink. is_inverted (rc_of l) l.library (placed_at p) sink.node ≡ sink.flipped) (sinks_of l)

-- it is legal, and no legal placement has a greater required time
pub record IsBestLegal (l : LoadingView) (p : List (Option ℕ)) : Type 0 where
  pub legal : IsLegal l p
  pub greatest : (q : List (Option ℕ)) → IsLegal l q → time_with l q ≤ℤ time_with l p

-- no placement is legal
abbrev pub HasNoLegal : LoadingView → Type 0
HasNoLegal l = (p : List (Option ℕ)) → IsLegal l p → ⊥
