use Rattle.std.proofs.Common.{sym, ap, ◌∙◌, arith}
use Rattle.wall_laws.specs.Spans.{least_of, most_of, vias_above}
use Rattle.span_bounds.proofs.NetLemmas.{layers-part, sum-next}
use Rattle.span_bounds.proofs.net_spans.least_usable_vias.Goals as goal

pub vias_above-requires-clause-parted : goal.vias_above-requires-clause-parted
vias_above-requires-clause-parted c =
    layers-part c.args.frame.now.shape c.loop-layer.layer c.least_of-least.result c.most_of-most.result c.args.pins.now c.list.new.numbers.items
    c.is_between-parted.result c.is_between-parted.ensures c.in_ok-list.ensures (c.least_of-least.ensures ∙ ap least_of c.deref.ensures.value) (c.most_of-most.ensures ∙ ap most_of c.deref-2.ensures.value)

pub loop-layer-preserved : goal.loop-layer-preserved
loop-layer-preserved c = record {
  vias = sum-next (vias_above c.args.frame.now c.args.pins.now) c.loop-layer.layer c.loop-layer.vias c.in_ok-vias.field-0 c.loop-layer.invariant.vias c.in_ok-vias.ensures.vias;
  most = let few = c.loop-layer.invariant.most in let more = c.in_ok-vias.ensures.most in omega (arith, few, more);
}
