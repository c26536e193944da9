-- Which nets are booked as the rounds go on.
use Rattle.std.specs.Prelude.{◌≡◌, ℕ, false, List, None, IsTrue, IsSomeAnd}
use Rattle.gr_base.specs.Designs.{DesignView, is_routed}
use Rattle.gr_base.specs.Plans.{IsRouteOfNet}
use Rattle.book_state.specs.Books.{booked}
use Rattle.book_state.specs.declared.entry.Entry.{Entry}

-- the net is booked by a tree that routes it
abbrev pub IsHeld : DesignView → List Entry → ℕ → Type 0
IsHeld d h net = IsSomeAnd (booked h net) (IsRouteOfNet d net)

-- exactly the routed nets are booked, each by a tree that routes it
pub record Stands (d : DesignView) (h : List Entry) : Type 0 where
  pub held : (net : ℕ) → IsTrue (is_routed d net) → IsHeld d h net
  pub free : (net : ℕ) → is_routed d net ≡ false → booked h net ≡ None
