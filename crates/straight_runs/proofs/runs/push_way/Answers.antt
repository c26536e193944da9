use Rattle.std.proofs.Common.{List, ◌++◌, ap, ◌∙◌}
use Rattle.gr_base.specs.EdgeSets.{set_of}
use Rattle.solution_text.specs.declared.run.Run.{Run}
use Rattle.straight_runs.proofs.ListLemmas.{list-within, are-lows, runs-agree, gathered-are}
use Rattle.straight_runs.proofs.runs.push_way.Goals as goal

pub push_runs-requires : goal.push_runs-requires
push_runs-requires c =
    are-lows c.args.shape (set_of c.args.edges.now) (list-within c.args.shape c.args.edges.now c.requires) c.args.way c.deref.result.now
    (gathered-are c.args.shape c.args.edges.now c.args.way c.gather_lows.new.lows.items c.deref.result.now c.requires c.in_ok-gather_lows.ensures c.deref.ensures.value)

pub returns : goal.returns
returns c =
    c.in_ok-push_runs.ensures
    ∙ ap (λ (rs : List Run). c.args.runs.now.items ++ rs)
    (runs-agree c.args.shape (set_of c.args.edges.now) (list-within c.args.shape c.args.edges.now c.requires) c.args.way c.deref.result.now
    (gathered-are c.args.shape c.args.edges.now c.args.way c.gather_lows.new.lows.items c.deref.result.now c.requires c.in_ok-gather_lows.ensures c.deref.ensures.value))
