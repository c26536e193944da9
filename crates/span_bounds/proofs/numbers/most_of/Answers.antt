use Rattle.std.proofs.Common.{ℕ, Option, unwrap_or, sym, ap, ◌∙◌}
use Rattle.std.proofs.lemmas.Iterator.{YieldsList-from_slice}
use Rattle.std.proofs.lemmas.Iterator.Consumers.{YieldsList-from_copied, max_from_yields_List}
use Rattle.std.proofs.lemmas.Iterator.Adapters.{option_map_id}
use Rattle.span_bounds.proofs.numbers.most_of.Goals as goal

pub returns : goal.returns
returns c =
    c.unwrap_or.ensures
    ∙ ap (λ (o : Option ℕ). unwrap_or o 0)
    (sym (option_map_id c.max.result) ∙ max_from_yields_List {v = λ (n : ℕ). n} _ c.max.result c.max.ensures.ran (YieldsList-from_copied (YieldsList-from_slice c.args.numbers.now cc)))
