use Rattle.std.proofs.Common.{◌≡◌, ℕ, ◌*◌, ◌/◌, false, length, sym, subst, ◌∙◌, arith}
use Rattle.grid_demand.proofs.PlaneLemmas.{length-by_number}
use Rattle.grid_demand.proofs.overfull.Listing.none_in.Goals as goal

pub into_none-requires : goal.into_none-requires
into_none-requires c =
    let all = c.in-Some.spent.over.ok.0 in
    let long : length c.in-Some.spent.over.items ≡ c.args.wires = omega (arith, all, c.len.ensures, c.if-len-wires.true) in
    subst (λ (n : ℕ). n ≡ 2 * (n / 2)) (sym (length-by_number false c.in-Some.spent.over.items ∙ long)) c.requires

pub returns-in-Some-clause-long : goal.returns-in-Some-clause-long
returns-in-Some-clause-long c =
    let all = c.in-Some.spent.over.ok.0 in
    let long : length c.in-Some.spent.over.items ≡ c.args.wires = omega (arith, all, c.len.ensures, c.if-len-wires.true) in
    c.into_none.ensures.long ∙ length-by_number false c.in-Some.spent.over.items ∙ long
