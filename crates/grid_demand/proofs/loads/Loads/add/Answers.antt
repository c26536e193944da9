use Rattle.std.proofs.Common.{◌*◌, refl, sym, ap, ◌∙◌}
use Rattle.gr_base.specs.Grid.{cells_of}
use Rattle.gr_base.specs.declared.grid.Shape.{Shape}
use Rattle.grid_demand.specs.LoadSums.{LoadsView}
use Rattle.grid_demand.specs.LoadsStore.{seen}
use Rattle.grid_demand.specs.Planes.{by_number}
use Rattle.grid_demand.proofs.LoadLemmas.{demands-long, added-whole}
use Rattle.grid_demand.proofs.loads.Loads.add.Goals as goal

pub change_along-requires-clause-long : goal.change_along-requires-clause-long
change_along-requires-clause-long c =
    demands-long (seen c.self.inside) c.self.inside.demands c.self.invariant.loads refl
    ∙ ap (λ (l : LoadsView). 2 * cells_of l.shape) c.self.view_is ∙ sym (ap (λ (g : Shape). 2 * cells_of g) c.requires.tree)

pub invariant_of-self : goal.invariant_of-self
invariant_of-self c = record {
  loads =
      added-whole c.args.capacity.now c.args.net c.args.tree.now (seen c.self.inside) (by_number 0 c.change_along.new.demands) c.self.invariant.loads c.change_along.ensures.tree
      (c.requires.tree ∙ sym (ap (λ (l : LoadsView). l.shape) c.self.view_is)) c.change_along.ensures.demands;
  unmarked = c.self.invariant.unmarked;
}

pub returns-clause-whole : goal.returns-clause-whole
returns-clause-whole c =
    added-whole c.args.capacity.now c.args.net c.args.tree.now (seen c.self.inside) (by_number 0 c.change_along.new.demands) c.self.invariant.loads c.change_along.ensures.tree
    (c.requires.tree ∙ sym (ap (λ (l : LoadsView). l.shape) c.self.view_is)) c.change_along.ensures.demands
