use Rattle.std.proofs.Common.{◌≡◌, ℕ, List, [], ◌∷◌, ◌++◌, ap, subst, ◌∙◌}
use mathlib.Core.List.{IsPrefix}
use Rattle.gr_base.specs.declared.grid.Shape.{Shape}
use Rattle.pattern_route.specs.declared.line.Line.{Line}
use Rattle.pattern_route.specs.Lines.{place_on, along, leaving, arriving, crossing, walk_at}
use Rattle.pattern_route.proofs.Prefixes.{prefix-within}
use Rattle.pattern_route.proofs.crossing.put_walk.Goals as goal

-- the list of the walk's first cell
begun : (g : Shape) (line wanted : Line) (from cell : ℕ) (cleared pushed : List ℕ) → cleared ≡ [] → line ≡ wanted → cell ≡ place_on g line from →
    pushed ≡ cleared ++ cell ∷ [] → pushed ≡ place_on g wanted from ∷ []
begun g line wanted from cell cleared pushed empty same is more =
    more ∙ ap (λ (xs : List ℕ). xs ++ cell ∷ []) empty ∙ ap (λ (n : ℕ). n ∷ []) is ∙ ap (λ (l : Line). place_on g l from ∷ []) same

-- a list that begins what goes on along a line
within : (g : Shape) (line wanted : Line) (from to : ℕ) (cells before rest all : List ℕ) → line ≡ wanted →
    IsPrefix cells (before ++ along g line from to) → before ++ (along g wanted from to ++ rest) ≡ all → IsPrefix cells all
within g line wanted from to cells before rest all same part whole =
    prefix-within cells before (along g wanted from to) rest all (subst (λ (l : Line). IsPrefix cells (before ++ along g l from to)) same part) whole

pub returns-in_err-push-clause-part : goal.returns-in_err-push-clause-part
returns-in_err-push-clause-part c =
    let walk = walk_at c.args.shape c.args.crossing in
    (walk, ap (λ (xs : List ℕ). xs ++ walk) (c.in_err-push.ensures.items ∙ c.clear.ensures.items))

pub returns-in_err-push_along-clause-part : goal.returns-in_err-push_along-clause-part
returns-in_err-push_along-clause-part c =
    let g = c.args.shape in
    let span = c.args.crossing.span in
    let at = c.args.crossing.at in
    let rest = along g (crossing span at) span.from span.to ++ along g (arriving span) at span.end in
    let first = begun g c.leaving.result (leaving span) span.start c.cell.result c.clear.new.self.items c.push.new.self.items c.clear.ensures.items c.leaving.ensures c.cell.ensures c.in_ok-push.ensures.items in
    within g c.leaving-2.result (leaving span) span.start at c.push_along.new.cells.items c.push.new.self.items rest (walk_at g c.args.crossing) c.leaving-2.ensures c.in_err-push_along.ensures.part
    (ap (λ (xs : List ℕ). xs ++ (along g (leaving span) span.start at ++ rest)) first)

pub returns-in_err-push_along-2-clause-part : goal.returns-in_err-push_along-2-clause-part
returns-in_err-push_along-2-clause-part c =
    let g = c.args.shape in
    let span = c.args.crossing.span in
    let at = c.args.crossing.at in
    let leg = along g (leaving span) span.start at in
    let rest = along g (arriving span) at span.end in
    let first = begun g c.leaving.result (leaving span) span.start c.cell.result c.clear.new.self.items c.push.new.self.items c.clear.ensures.items c.leaving.ensures c.cell.ensures c.in_ok-push.ensures.items in
    let second : c.push_along.new.cells.items ≡ place_on g (leaving span) span.start ∷ leg =
    c.in_ok-push_along.ensures.all ∙ ap (λ (l : Line). c.push.new.self.items ++ along g l span.start at) c.leaving-2.ensures ∙ ap (λ (xs : List ℕ). xs ++ leg) first in
    within g c.crossing.result (crossing span at) span.from span.to c.push_along-2.new.cells.items c.push_along.new.cells.items rest (walk_at g c.args.crossing) c.crossing.ensures
    c.in_err-push_along-2.ensures.part (ap (λ (xs : List ℕ). xs ++ (along g (crossing span at) span.from span.to ++ rest)) second)
