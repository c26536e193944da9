use Rattle.std.proofs.Common.{ℕ, false, replicate, ap, ◌∙◌}
use Rattle.kept_routes.proofs.MarkLemmas.{none-marked, wanted-are}
use Rattle.kept_routes.proofs.wanted.wanted_nodes.Goals as goal

pub mark_pins-requires-clause-none : goal.mark_pins-requires-clause-none
mark_pins-requires-clause-none c =
    none-marked c.args.tree.now c.in_ok-wanted.wanted.items
    (c.in_ok-wanted.ensures.items_if_clones_equal (λ y e. e) ∙ ap (λ (n : ℕ). replicate n false) c.len.ensures.len)

pub returns : goal.returns
returns c = wanted-are c.args.tree.now c.args.pins.now c.mark_pins.new.wanted.items c.mark_above.new.wanted.items c.mark_pins.ensures c.mark_above.ensures
