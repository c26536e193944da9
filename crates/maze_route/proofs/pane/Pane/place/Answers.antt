use Rattle.std.proofs.Common.{refl, sym, subst}
use Rattle.gr_base.specs.declared.grid.Cell.{Cell}
use Rattle.gr_base.specs.Grid.{IsInside}
use Rattle.gr_base.proofs.GridLemmas.{place-inside}
use Rattle.maze_route.proofs.DivisorLemmas.{place-by}
use Rattle.maze_route.proofs.pane.Pane.place.Goals as goal

pub returns-clause-place : goal.returns-clause-place
returns-clause-place c = place-by c.args.self c.args.local c.quotient-row.result c.quotient-layer.result _ _ c.quotient-row.ensures c.quotient-layer.ensures refl refl

pub returns-clause-inside : goal.returns-clause-inside
returns-clause-inside c =
    let place = place-by c.args.self c.args.local c.quotient-row.result c.quotient-layer.result _ _ c.quotient-row.ensures c.quotient-layer.ensures refl refl in
    subst (λ (q : Cell). IsInside c.args.self.shape q) (sym place) (place-inside c.args.self.shape c.args.local c.requires)
