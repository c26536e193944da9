use Rattle.std.proofs.Common.{◌≡◌, None, replicate}
use Rattle.gr_base.proofs.routes.Routes.new.Given as goal

abbrev pub invariant-loop : goal.invariant-loop
invariant-loop l = l.trees.items ≡ replicate l.counter None
