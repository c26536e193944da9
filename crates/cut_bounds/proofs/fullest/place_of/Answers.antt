use Rattle.std.proofs.Common.{rules, tests, sym, ◌∙◌}
use Rattle.std.proofs.lemmas.Iterator.{YieldsList-from_slice}
use Rattle.std.proofs.lemmas.Iterator.Search.{position_from_yields_List}
use Rattle.cut_bounds.proofs.FullestLemmas.{found-at, found-none}
use Rattle.cut_bounds.specs.Fullest.{is_fuller}
use Rattle.cut_bounds.proofs.fullest.place_of.Goals as goal

pub returns-in-Some-clause-place : goal.returns-in-Some-clause-place
returns-in-Some-clause-place c =
    found-at (is_fuller c.args.wall) c.args.fullest.now c.in-Some.at
    (sym c.in-Some.is
    ∙ position_from_yields_List (is_fuller c.args.wall) _ _ c.position.result c.position.ensures.ran (YieldsList-from_slice c.args.fullest.now cc)
    (λ x b q k. search (rules, tests)))

pub returns-in-None-clause-place : goal.returns-in-None-clause-place
returns-in-None-clause-place c =
    found-none (is_fuller c.args.wall) c.args.fullest.now
    (sym c.in-None.is
    ∙ position_from_yields_List (is_fuller c.args.wall) _ _ c.position.result c.position.ensures.ran (YieldsList-from_slice c.args.fullest.now cc)
    (λ x b q k. search (rules, tests)))
