use Rattle.std.proofs.Common.{◌≡◌, length, refl, arith}
use Rattle.std.proofs.lemmas.Bool.Decides.{nat_tests}
use Rattle.grid_demand.proofs.JoinedNumbers.{within-low}
use Rattle.grid_demand.proofs.JoinedNumbers.{together-put, nothing-high}
use Rattle.grid_demand.proofs.numbers.Numbers.put.Goals as goal

pub index_mut-requires : goal.index_mut-requires
index_mut-requires c =
    let inside = within-low 65536 c.self.inside.low.items c.self.inside.high.items c.args.self.now c.args.place c.self.view_is c.requires.place in
    omega (arith, inside, c.self.inside.low.ok.0)

pub put_high-requires-clause-place : goal.put_high-requires-clause-place
put_high-requires-clause-place c =
    let inside = within-low 65536 c.self.inside.low.items c.self.inside.high.items c.args.self.now c.args.place c.self.view_is c.requires.place in
    omega (arith, inside, c.len.ensures, c.self.inside.low.ok.0)

pub returns-then-number-ge65536 : goal.returns-then-number-ge65536
returns-then-number-ge65536 c =
    together-put c.self.inside.low.items c.self.inside.high.items c.put_high.new.high.items c.args.self.now c.args.place c.args.number
    c.self.view_is c.requires.place c.put_high.ensures.there c.put_high.ensures.others

pub returns-else-not-is_empty : goal.returns-else-not-is_empty
returns-else-not-is_empty c =
    let test = c.is_empty.ensures in
    let said = c.if-not-is_empty.false in
    let long = c.self.inside.high.ok.0 in
    let empty : length c.self.inside.high.items ≡ 0 = grind (arith, nat_tests, test, said, long) in
    together-put c.self.inside.low.items c.self.inside.high.items c.self.inside.high.items c.args.self.now c.args.place c.args.number
    c.self.view_is c.requires.place
    (nothing-high c.self.inside.high.items c.args.place c.args.number empty (omega (arith, c.if-number-ge65536.false)))
    (λ n other. refl)
