use Rattle.std.proofs.Common.{Option, ◌+◌, ◌*◌, ap, ◌∙◌, arith}
use Rattle.layer_assign.specs.declared.span.Span.{Span}
use Rattle.layer_assign.specs.Spans.{widened, span_number, spans_of}
use Rattle.layer_assign.proofs.Elimination.{widened-within}
use Rattle.layer_assign.proofs.FlatLemmas.{few_layers}
use Rattle.layer_assign.proofs.TableLemmas.{number-within, place-small}
use Rattle.layer_assign.proofs.tables.entry_with.Goals as goal

pub offset_bounds-costs-place_in : goal.offset_bounds-costs-place_in
offset_bounds-costs-place_in c =
    let within = widened-within c.args.shape.layers c.args.span c.args.layer c.requires.span c.requires.layer in
    let small = place-small c.args.shape.layers c.args.node (widened c.args.span c.args.layer) (few_layers c.args.shape) c.requires.node within in
    let at = c.place_in.ensures ∙ ap (λ (s : Option Span). c.args.node * spans_of c.args.shape.layers + span_number c.args.shape.layers s) c.widened.ensures in
    omega (arith, small, at)

pub bounds-costs-place_in : goal.bounds-costs-place_in
bounds-costs-place_in c =
    let within = widened-within c.args.shape.layers c.args.span c.args.layer c.requires.span c.requires.layer in
    let number = number-within c.args.shape.layers (widened c.args.span c.args.layer) within in
    let row = c.requires.row in
    let at = c.place_in.ensures ∙ ap (λ (s : Option Span). c.args.node * spans_of c.args.shape.layers + span_number c.args.shape.layers s) c.widened.ensures in
    omega (arith, number, row, at)
