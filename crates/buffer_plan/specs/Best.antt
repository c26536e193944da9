-- The placements that are allowed in a net's tree, and the best of them.
use Rattle.std.specs.Prelude.{◌≡◌, ℕ, ℤ, ◌≤ℤ◌, Bool, List, length, Option, None, IsFalse, nat_lt}
use Rattle.elmore_delay.specs.Loadings.{LoadingView, rc_of, is_free}
use Rattle.elmore_delay.specs.Placements.{placed_at, IsPlacement, NamesKinds, buffers_of}
use Rattle.elmore_delay.specs.RcTrees.{required_time}

-- a net of more than one pin has a sink
abbrev pub has_sinks : LoadingView → Bool
has_sinks l = nat_lt 1 (length l.pins)

-- the required time with a placement
abbrev pub time_with : LoadingView → List (Option ℕ) → ℤ
time_with l p = required_time (rc_of l) (buffers_of l.library p)

-- each node of the tree holds nothing or a kind of the library; nothing stands at node 0 and where no buffer may stand, and
-- where there is no sink nothing at all
pub record IsAllowed (l : LoadingView) (p : List (Option ℕ)) : Type 0 where
  pub long : length p ≡ length l.tree.nodes
  pub root : IsPlacement p
  pub kinds : NamesKinds l.library p
  pub free : (node : ℕ) → IsFalse (is_free l node) → placed_at p node ≡ None
  pub needed : (node : ℕ) → IsFalse (has_sinks l) → placed_at p node ≡ None

-- it is allowed, and no allowed placement has a greater required time
pub record IsBest (l : LoadingView) (p : List (Option ℕ)) : Type 0 where
  pub allowed : IsAllowed l p
  pub greatest : (q : List (Option ℕ)) → IsAllowed l q → time_with l q ≤ℤ time_with l p
