use Rattle.std.proofs.Common.{List, ℕ, ◌++◌, ap, ◌∙◌}
use Rattle.gr_base.specs.Grid.{cells_of}
use Rattle.gr_base.specs.declared.grid.Way.TheVariants.{East, North}
use Rattle.grid_demand.specs.Tables.{stated_along_way}
use Rattle.grid_demand.proofs.CapacityLemmas.{stated-planes}
use Rattle.grid_demand.proofs.capacity.stated_by_place.Goals as goal

pub returns : goal.returns
returns c =
    let frame = c.args.frame.now in
    let cells = cells_of frame.shape in
    stated-planes frame c.push_plane-2.new.capacities.items
    (c.in_ok-push_plane-2.ensures
    ∙ ap (λ (xs : List ℕ). xs ++ stated_along_way frame North cells)
    (c.in_ok-push_plane.ensures ∙ ap (λ (xs : List ℕ). xs ++ stated_along_way frame East cells) c.in_ok-capacities.ensures.items))
