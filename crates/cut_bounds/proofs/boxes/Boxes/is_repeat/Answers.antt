use Rattle.std.proofs.Common.{◌-◌, arith}
use Rattle.cut_bounds.proofs.CandidateLemmas.{side-small}
use Rattle.cut_bounds.proofs.boxes.Boxes.is_repeat.Goals as goal

pub area_from-half-requires-clause-small : goal.area_from-half-requires-clause-small
area_from-half-requires-clause-small c = side-small (c.args.self.level - 1) (omega (arith, c.args.self.few))
