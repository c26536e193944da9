-- What is looked up of all nets.
use Rattle.std.specs.Prelude.{◌≡◌, ℕ, ◌<◌, List, length, slice_index_or}
use Rattle.gr_base.specs.Designs.{DesignView}
use Rattle.net_order.specs.Freedoms.{IsOfNet}
use Rattle.net_order.specs.declared.traits.Traits.{Traits}

-- each net has its number
pub record AreOfNets (d : DesignView) (nets : List Traits) : Type 0 where
  pub count : length nets ≡ length d.nets
  pub each : (net : ℕ) (t : Traits) → net < length nets → IsOfNet d net (slice_index_or nets net t).freedom
