use Rattle.std.proofs.Common.{◌==◌, ◌||◌, ◌↔◌, Bool, get_or, IsTrue, sym, ap, subst, ◌∙◌, arith}
use Rattle.std.specs.List.{list_all}
use Rattle.gr_base.specs.EdgeSets.{IsJoined}
use Rattle.gr_base.specs.Trees.{edges_of}
use Rattle.route_evaluator.proofs.NetCountLemmas.{tree-joins}
use Rattle.route_evaluator.proofs.net_count.joins_pins.Goals as goal

pub holds_all-requires-clause-cells : goal.holds_all-requires-clause-cells
holds_all-requires-clause-cells c = λ k d below. let inside = c.requires.pins k d below in omega (arith, inside, c.requires.cells)

pub returns-then-holds_all : goal.returns-then-holds_all
returns-then-holds_all c =
    subst (λ (b : Bool). IsTrue b ↔ IsJoined c.args.tree.now.shape (edges_of c.args.tree.now) c.args.pins.now)
    (ap (λ (b : Bool). b || list_all (λ pin. pin == get_or c.args.pins.now 0 0) c.args.pins.now) (sym c.holds_all.ensures ∙ c.if-holds_all.true) ∙ sym c.if-holds_all.true)
    (tree-joins c.args.tree.now c.args.pins.now c.requires.tree c.requires.pins c.requires.driver)

pub returns-else-holds_all : goal.returns-else-holds_all
returns-else-holds_all c =
    subst (λ (b : Bool). IsTrue b ↔ IsJoined c.args.tree.now.shape (edges_of c.args.tree.now) c.args.pins.now)
    (ap (λ (b : Bool). b || list_all (λ pin. pin == get_or c.args.pins.now 0 0) c.args.pins.now) (sym c.holds_all.ensures ∙ c.if-holds_all.false) ∙ sym c.are_one.ensures)
    (tree-joins c.args.tree.now c.args.pins.now c.requires.tree c.requires.pins c.requires.driver)
