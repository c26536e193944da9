use Rattle.std.proofs.Common.{map}
use Rattle.gr_base.specs.Designs.{AreRouted}
use Rattle.net_order.specs.Orders.{net_in, AreKeysOf}
use Rattle.net_order.proofs.RegionLemmas.{IsCutting}
use Rattle.net_order.proofs.order.regions_of.Given as goal

-- the regions so far are cut off, and the nets that are left are routed
abbrev pub invariant-loop-region : goal.invariant-loop-region
invariant-loop-region l = record {
  cutting : IsCutting l.count l.each l.more l.region l.fn.placed.items l.left.items l.regions.items;
  keys : AreKeysOf l.survey.design.now l.round l.regions.items;
  routed : AreRouted l.survey.design.now (map net_in l.left.items);
}
