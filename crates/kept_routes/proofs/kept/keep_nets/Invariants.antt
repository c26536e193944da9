use Rattle.route_reader.specs.Solutions.{edges_by}
use Rattle.kept_routes.specs.Keepers.{AreKeptBefore, IsKeeperOf}
use Rattle.kept_routes.proofs.kept.keep_nets.Given as goal

abbrev pub invariant-loop-net : goal.invariant-loop-net
invariant-loop-net l = record {
  keeper : IsKeeperOf l.design l.keeper;
  kept : AreKeptBefore l.design (edges_by l.solution) l.net l.kept;
}
