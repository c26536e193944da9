-- What the fields of a design keep.
use Rattle.std.specs.Prelude.{◌≡◌, map}
use Rattle.gr_base.specs.Designs.{DesignView, IsDesign}
use Rattle.gr_base.specs.declared.design.Design.TheInside.{Inside}

-- what the fields say
abbrev pub seen : Inside → DesignView
seen d = record { frame = d.frame; nets = d.nets.items; adjustments = d.adjustments.items }

-- the fields make a design, and the ids are the nets' in their order
pub record Keeps (d : Inside) : Type 0 where
  pub design : IsDesign (seen d)
  pub ids : d.ids ≡ map (λ net. net.id) d.nets.items
