-- Trees that route nets.
use Rattle.std.specs.Prelude.{◌≡◌, ℕ, All, Some, slice_get, IsTrue}
use Rattle.gr_base.specs.Designs.{DesignView}
use Rattle.gr_base.specs.Trees.{TreeView, cell_at, holds}
use Rattle.gr_base.specs.declared.frame.Net.{Net}
use Rattle.gr_base.specs.declared.grid.Shape.{Shape}

-- a tree that routes a net: it starts at the driver's cell and holds the cell of each pin
pub record IsRouteOf (g : Shape) (net : Net) (t : TreeView) : Type 0 where
  pub shape : t.shape ≡ g
  pub driver : cell_at t.nodes 0 ≡ slice_get net.pins 0
  pub pins : All (λ pin. IsTrue (holds t pin)) net.pins

-- a tree that routes the net with this number
abbrev pub IsRouteOfNet : DesignView → ℕ → TreeView → Type 0
IsRouteOfNet d net t = (value : Net) → slice_get d.nets net ≡ Some value → IsRouteOf d.frame.shape value t
