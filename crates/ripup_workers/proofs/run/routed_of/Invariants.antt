use Rattle.std.specs.Prelude.{◌≡◌, take}
use Rattle.std.specs.List.{filter}
use Rattle.gr_base.specs.Designs.{is_routed}
use Rattle.ripup_workers.proofs.run.routed_of.Given as goal

-- the nets so far that are routed are kept
abbrev pub invariant-loop-net : goal.invariant-loop-net
invariant-loop-net l = l.kept.items ≡ filter (is_routed l.design) (take l.net-index l.nets)
