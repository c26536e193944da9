use Rattle.std.proofs.Common.{◌≡◌, List, ℕ, length, slice_index, ap, arith}
use Rattle.std.proofs.lemmas.Bool.Decides.{nat_tests}
use Rattle.grid_demand.proofs.JoinedNumbers.{length-together, low-within}
use Rattle.grid_demand.proofs.numbers.Numbers.may_exceed.Goals as goal

pub any_above-requires-clause-numbers : goal.any_above-requires-clause-numbers
any_above-requires-clause-numbers c =
    let long = length-together 65536 c.self.inside.low.items c.self.inside.high.items in
    let same = ap length c.self.view_is in
    let whole = ap length c.deref.ensures.value in
    omega (arith, c.requires.numbers, long, same, whole)

pub returns-else-not-is_empty : goal.returns-else-not-is_empty
returns-else-not-is_empty c none n from to =
    let test = c.is_empty.ensures in
    let said = c.if-not-is_empty.false in
    let long = c.self.inside.high.ok.0 in
    let empty : length c.self.inside.high.items ≡ 0 = grind (arith, nat_tests, test, said, long) in
    let within = c.any_above.ensures none n from to in
    let low = ap (λ (xs : List ℕ). slice_index xs n) c.deref.ensures.value in
    low-within c.self.inside.low.items c.self.inside.high.items c.args.self.now (slice_index c.args.bounds.now n) n c.self.view_is empty
    (omega (arith, to, c.requires.numbers)) (omega (arith, within, low))
