use Rattle.std.proofs.Common.{◌≡◌, map, take}
use Rattle.span_bounds.specs.Lines.{number_of}
use Rattle.span_bounds.proofs.numbers.list.Given as goal

abbrev pub invariant-loop-cell : goal.invariant-loop-cell
invariant-loop-cell l = l.numbers.items ≡ map (number_of l.shape l.number) (take l.cell-index l.cells)
