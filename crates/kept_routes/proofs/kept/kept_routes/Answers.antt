use Rattle.std.proofs.Common.{ℕ, Option, None, replicate, ap, ◌∙◌}
use Rattle.gr_base.specs.Trees.{TreeView}
use Rattle.route_reader.specs.Solutions.{edges_by}
use Rattle.kept_routes.proofs.KeptLemmas.{none-kept}
use Rattle.kept_routes.proofs.kept.kept_routes.Goals as goal

pub keep_nets-requires-clause-none : goal.keep_nets-requires-clause-none
keep_nets-requires-clause-none c =
    none-kept c.args.design.now (edges_by c.args.solution.now) c.in_ok-kept.kept
    (c.in_ok-kept.ensures ∙ ap (λ (n : ℕ). replicate {A = Option TreeView} n None) c.nets.ensures.nets)
