use Rattle.std.proofs.Common.{◌≡◌, filter, map, take}
use Rattle.span_bounds.specs.Lines.{number_of}
use Rattle.wall_laws.specs.Spans.{is_low}
use Rattle.span_bounds.proofs.numbers.list_low.Given as goal

abbrev pub invariant-loop-cell : goal.invariant-loop-cell
invariant-loop-cell l = l.numbers.items ≡ map (number_of l.shape l.number) (filter (is_low l.shape l.layer) (take l.cell-index l.cells))
