use Rattle.std.proofs.Common.{sym, refl}
use Rattle.route_reader.proofs.StepLemmas.{gathers-end}
use Rattle.route_reader.proofs.gathering.Gathering.take_item.Goals as goal

pub returns-then-is_end : goal.returns-then-is_end
returns-then-is_end c s gathers mode = (_, rw (sym c.if-is_end.ensures) refl, gathers-end c.args.design.now s c.args.self.now gathers)
