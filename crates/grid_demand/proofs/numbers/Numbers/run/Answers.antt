use Rattle.std.proofs.Common.{◌≡◌, List, ℕ, length, ap, subst, ◌∙◌, arith}
use Rattle.std.proofs.lemmas.Bool.Decides.{nat_tests}
use Rattle.grid_demand.specs.Runs.{IsPart}
use Rattle.grid_demand.proofs.JoinedNumbers.{length-together, low-is}
use Rattle.grid_demand.proofs.numbers.Numbers.run.Goals as goal

pub part-requires-clause-inside : goal.part-requires-clause-inside
part-requires-clause-inside c =
    let long = length-together 65536 c.self.inside.low.items c.self.inside.high.items in
    let same = ap length c.self.view_is in
    let whole = ap length c.deref.ensures.value in
    omega (arith, c.requires.inside, long, same, whole)

pub returns : goal.returns
returns c =
    let test = c.is_empty.ensures in
    let said = c.if-not-is_empty.false in
    let long = c.self.inside.high.ok.0 in
    let empty : length c.self.inside.high.items ≡ 0 = grind (arith, nat_tests, test, said, long) in
    let low = c.deref.ensures.value ∙ low-is c.self.inside.low.items c.self.inside.high.items c.args.self.now c.self.view_is empty in
    subst (λ (xs : List ℕ). IsPart xs c.args.from c.args.to c.part.result.now) low c.part.ensures
