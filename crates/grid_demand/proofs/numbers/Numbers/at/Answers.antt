use Rattle.std.proofs.Common.{ℕ, Option, unwrap_or, slice_index, ap, ◌∙◌, arith}
use Rattle.std.proofs.lemmas.List.{get_or_read}
use Rattle.grid_demand.proofs.JoinedNumbers.{within-low, together-read}
use Rattle.grid_demand.proofs.numbers.Numbers.at.Goals as goal

pub index-requires : goal.index-requires
index-requires c =
    let inside = within-low 65536 c.self.inside.low.items c.self.inside.high.items c.args.self.now c.args.place c.self.view_is c.requires in
    omega (arith, inside, c.self.inside.low.ok.0)

pub returns-clause-value : goal.returns-clause-value
returns-clause-value c =
    let inside = within-low 65536 c.self.inside.low.items c.self.inside.high.items c.args.self.now c.args.place c.self.view_is c.requires in
    let sum = together-read 65536 c.self.inside.low.items c.self.inside.high.items c.args.self.now c.args.place c.self.view_is c.requires in
    let low = get_or_read c.self.inside.low.items c.args.place c.index.result.now inside c.index.ensures 0 in
    let high = c.unwrap_or-high.ensures ∙ ap (λ (o : Option ℕ). unwrap_or o 0) c.copied.ensures ∙ c.get.ensures.lookup.4 (omega arith) 0
    ∙ ap (λ (xs : _). slice_index xs c.args.place) c.deref.ensures.value in
    omega (arith, sum, low, high, c.from-low.ensures, c.from.ensures)
