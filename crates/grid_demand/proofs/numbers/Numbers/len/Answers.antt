use Rattle.std.proofs.Common.{length, ap, arith}
use Rattle.grid_demand.proofs.JoinedNumbers.{length-together}
use Rattle.grid_demand.proofs.numbers.Numbers.len.Goals as goal

pub returns : goal.returns
returns c =
    let long = length-together 65536 c.self.inside.low.items c.self.inside.high.items in
    let same = ap length c.self.view_is in
    omega (arith, c.len.ensures, c.self.inside.low.ok.0, long, same)
