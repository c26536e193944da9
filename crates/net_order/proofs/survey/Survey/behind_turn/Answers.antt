use Rattle.std.proofs.Common.{◌≡◌, ◌*◌, ◌+◌, ℤ, ℕ, pos, ◌+ℤ◌, ap, sym, subst, ◌∙◌, to_z, of_z, w32, w64, arith}
use Rattle.std.proofs.lemmas.Int.{ints}
use Rattle.net_order.specs.Freedoms.{in_round}
use Rattle.net_order.specs.Orders.{IsKey}
use Rattle.net_order.proofs.KeyLemmas.{is-key}
use Rattle.net_order.proofs.survey.Survey.behind_turn.Goals as goal

pub returns-clause-key : goal.returns-clause-key
returns-clause-key c =
    let d = c.args.self.now.design.now in
    let round = c.args.round in
    let free : to_z w32 (of_z w32 c.traits.result.freedom) ≡ c.traits.result.freedom = omega (arith, ints) in
    let turn : to_z w64 (of_z w64 c.turn.result) ≡ c.turn.result = omega (arith, ints) in
    subst (λ (net : ℕ). IsKey d round (c.raised.result * 4294967296 + net)) (sym c.from.ensures)
    (is-key d round c.args.net c.raised.result c.traits.result.freedom c.turn.result c.ranges.net.fits (c.traits.ensures.freedom_is c.requires) (c.turn.ensures ∙ ap (in_round round) free)
    (c.raised.ensures ∙ ap (λ (z : ℤ). z +ℤ pos 2147483648) turn))
