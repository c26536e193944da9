use Rattle.std.proofs.Common.{ℕ, subst, ◌∙◌, arith}
use Rattle.net_order.specs.Orders.{ArePartsOf}
use Rattle.net_order.proofs.RegionLemmas.{cutting-none, cutting-enough, cutting-more, cutting-all, no-keys, more-keys}
use Rattle.net_order.proofs.order.regions_of.Goals as goal

pub loop-region-init : goal.loop-region-init
loop-region-init c = record {
  cutting = cutting-none c.args.count c.len.result c.len-2.result c.args.placed.items c.in_ok-regions.regions.items c.requires.some (c.len.ensures ∙ c.args.placed.ok.0)
      (c.len-2.ensures ∙ c.args.placed.ok.0) c.in_ok-regions.ensures.items;
  keys = no-keys c.args.survey.now.design.now c.args.round _ c.in_ok-regions.ensures.items;
  routed = c.requires.routed;
}

pub size_of-size-requires : goal.size_of-size-requires
size_of-size-requires c =
    let enough = cutting-enough c.args.count _ _ c.loop-region.region _ _ _ c.loop-region.invariant.cutting c.loop-region-test.true in
    let ok = c.loop-region.left.ok in
    let small = c.loop-region.left.small in
    omega (arith, enough, ok, small)

pub put_apart-requires : goal.put_apart-requires
put_apart-requires c =
    let enough = cutting-enough c.args.count _ _ c.loop-region.region _ _ _ c.loop-region.invariant.cutting c.loop-region-test.true in
    let size = c.size_of-size.ensures in
    omega (arith, enough, size)

pub loop-region-preserved : goal.loop-region-preserved
loop-region-preserved c = record {
  cutting = cutting-more c.args.count _ _ c.loop-region.region _ _ c.in_ok-others.others.items _ _ c.in_ok-others.keys c.loop-region.invariant.cutting c.loop-region-test.true
      (subst (λ (n : ℕ). ArePartsOf n c.loop-region.left.items c.in_ok-others.others.items c.in_ok-others.keys.items) c.size_of-size.ensures c.in_ok-others.ensures.parts) c.in_ok-push.ensures.items;
  keys = more-keys c.args.survey.now.design.now c.args.round c.loop-region.regions.items _ c.in_ok-others.keys c.loop-region.invariant.keys c.in_ok-others.ensures.keys c.in_ok-push.ensures.items;
  routed = c.in_ok-others.ensures.routed;
}

pub returns-clause-same : goal.returns-clause-same
returns-clause-same c =
    let past = c.loop-region-test.false in
    let end = c.loop-region.auto.region-end in
    (cutting-all c.args.count _ _ c.loop-region.region _ _ _ c.loop-region.invariant.cutting (omega (arith, past, end))).1
