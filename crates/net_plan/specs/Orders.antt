-- The order in which the points of a topology are joined to a tree.
use Rattle.std.specs.Prelude.{◌≡◌, ℕ, zero, suc, ◌-◌, ◌<◌, ◌≤◌, Bool, not, ◌&&◌, ◌||◌, ◌==◌, List, [], ◌∷◌, ◌++◌, length, find, slice_index_or, Option, Some, None}
use Rattle.std.specs.List.{range_with_len}
use Rattle.gr_base.specs.Trees.{is_among}
use Rattle.steiner_topology.specs.Topology.{parent_of}
use Rattle.steiner_topology.specs.declared.point.Point.{Point}

-- a point has been handled if it is point 0, or is one of these
abbrev pub is_handled : List ℕ → ℕ → Bool
is_handled order v = v == 0 || is_among order v

-- a point is due if it hasn't been handled, and its parent has
abbrev pub is_due : List Point → (ℕ → Bool) → ℕ → Bool
is_due points handled v = not (handled v) && handled (parent_of points v)

-- the least-numbered point that is due
abbrev pub next_due : List Point → (ℕ → Bool) → Option ℕ
next_due points handled = find (is_due points handled) (range_with_len 0 (length points))

-- the points handled so far, and the next one, if there is one
abbrev pub with_next : List ℕ → Option ℕ → List ℕ
with_next order None = order
with_next order (Some v) = order ++ v ∷ []

-- handles so many points more
unfoldable pub order_after : ℕ → List Point → List ℕ → List ℕ
order_after zero points order = order
order_after (suc n) points order = order_after n points (with_next order (next_due points (is_handled order)))

-- the points but point 0, in the order in which they are handled
abbrev pub order_of : List Point → List ℕ
order_of points = order_after (length points - 1) points []

-- of the first so many points none has a lower number than the one that is kept for its parent
pub record AreBelowSome (points : List Point) (lowest : List ℕ) (count : ℕ) : Type 0 where
  pub size : length lowest ≡ length points
  pub below : (child : ℕ) → child < count → slice_index_or lowest (parent_of points child) 0 ≤ child

-- no child of a point has a lower number than the one that is kept for the point
abbrev pub AreBelowChildren : List Point → List ℕ → Type 0
AreBelowChildren points lowest = AreBelowSome points lowest (length points)
