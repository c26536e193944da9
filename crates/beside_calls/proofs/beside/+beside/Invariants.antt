use Rattle.std.proofs.Common.{◌+◌, ◌*◌}
use Rattle.beside_calls.proofs.beside.+beside.Given as goal

abbrev pub decreases-call_all : goal.decreases-call_all
decreases-call_all g l = 4 * l.threads + 3

abbrev pub decreases-call_beside : goal.decreases-call_beside
decreases-call_beside g l = 4 * l.threads + 2

abbrev pub decreases-call_beside-here : goal.decreases-call_beside-here
decreases-call_beside-here g l = 4 * l.left + 4
