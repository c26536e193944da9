use Rattle.kept_routes.proofs.CutLemmas.{cut-pins-ok}
use Rattle.kept_routes.proofs.cut.cut_to_pins.Goals as goal

pub returns-clause-cut : goal.returns-clause-cut
returns-clause-cut c =
    cut-pins-ok c.args.tree.now c.args.pins.now c.in_ok-wanted.wanted.items c.deref.result.now c.cut_to_marked.result c.deref.ensures.value c.in_ok-wanted.ensures c.cut_to_marked.ensures
