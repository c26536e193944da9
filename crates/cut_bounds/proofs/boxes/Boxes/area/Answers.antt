use Rattle.cut_bounds.proofs.CandidateLemmas.{side-small}
use Rattle.cut_bounds.proofs.boxes.Boxes.area.Goals as goal

pub area_from-requires-clause-small : goal.area_from-requires-clause-small
area_from-requires-clause-small c = side-small c.args.self.level c.args.self.few
