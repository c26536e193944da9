use Rattle.cut_bounds.proofs.BoxLemmas.{number-inside}
use Rattle.cut_bounds.proofs.boxes.Boxes.number.Goals as goal

pub returns-clause-inside : goal.returns-clause-inside
returns-clause-inside c = number-inside c.args.self.shape c.args.self.level c.args.self.across c.args.tile c.args.self.wide c.requires
