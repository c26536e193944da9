use Rattle.std.proofs.Common.{refl}
use Rattle.std.specs.Fmt.{digits}
use Rattle.gr_text.specs.Numbers.{decimal_value, number_in}
use Rattle.gr_text.specs.Tokens.{tokens}
use Rattle.solution_text.specs.Grammar.{segment}
use Rattle.text_rows.proofs.texts.worked_rows.Goals as goal

pub returns : goal.returns
unfolding digits decimal_value number_in tokens segment
returns c = record { long_route = refl; no_edge = refl; one_via = refl; covers = refl }
