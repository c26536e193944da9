use Rattle.std.proofs.Common.{length, set, refl, arith}
use Rattle.std.proofs.lemmas.List.{length-set}
use Rattle.std.proofs.lemmas.Option.{slice_get_read}
use Rattle.layer_assign.proofs.FlatLemmas.{parent-at}
use Rattle.layer_assign.proofs.PinLemmas.{grows-both}
use Rattle.layer_assign.proofs.tiles.grow_spans.Goals as goal

pub returns-clause-spans : goal.returns-clause-spans
returns-clause-spans c = λ other lt.
    let spans = c.args.spans.now.items in
    let up = c.parent-parent.result in
    let early = c.parent-parent.ensures.earlier c.requires.later in
    let below = c.requires.node in
    let count = c.requires.count in
    let long = length-set spans up c.widened.result in
    let first = slice_get_read spans (length spans) up c.index.result.now refl (omega arith) c.index.ensures in
    let second =
    slice_get_read (set spans up c.widened.result) (length (set spans up c.widened.result)) c.args.node c.index-2.result.now refl (omega (arith, long)) c.index-2.ensures in
    grows-both c.args.flat.now spans c.args.node up c.args.layer c.widened.result c.widened-2.result c.index.result.now c.index-2.result.now early (omega arith)
    (parent-at c.args.flat.now c.args.node up c.parent-parent.ensures.parent) first c.widened.ensures second c.widened-2.ensures other
