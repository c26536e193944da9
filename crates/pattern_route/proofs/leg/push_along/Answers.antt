use Rattle.std.proofs.Common.{◌≡◌, ◌≢◌, ℕ, List, [], ◌∷◌, ◌++◌, map, sym, ap, ◌∙◌, append_assoc, append-nil}
use Rattle.gr_base.specs.declared.grid.Shape.{Shape}
use Rattle.pattern_route.specs.declared.line.Line.{Line}
use Rattle.pattern_route.specs.Steps.{toward, onward}
use Rattle.pattern_route.specs.Lines.{place_on, along}
use Rattle.pattern_route.proofs.StepLemmas.{onward-none, onward-step}
use Rattle.pattern_route.proofs.LineLemmas.{next-on-line}
use Rattle.pattern_route.proofs.leg.push_along.Goals as goal

pushed-more : (g : Shape) (line : Line) (at to next : ℕ) (cells more all : List ℕ) → next ≡ toward at to → at ≢ to →
    cells ++ along g line at to ≡ all → more ≡ cells ++ place_on g line next ∷ [] → more ++ along g line next to ≡ all
pushed-more g line at to next cells more all is other so_far pushed =
    let place : ℕ → ℕ = λ p. place_on g line p in
    let step : next ∷ onward next to ≡ onward at to = ap (λ p. p ∷ onward p to) is ∙ sym (onward-step at to other) in
    ap (λ xs. xs ++ along g line next to) pushed ∙ append_assoc cells (place next ∷ []) (along g line next to) ∙
    ap (λ xs. cells ++ map place xs) step ∙ so_far

pushed-all : (g : Shape) (line : Line) (at to : ℕ) (cells all : List ℕ) → at ≡ to →
    cells ++ along g line at to ≡ all → cells ≡ all
pushed-all g line at to cells all same so_far =
    let place : ℕ → ℕ = λ p. place_on g line p in
    sym (append-nil cells) ∙ ap (λ xs. cells ++ map place xs) (sym (onward-none to)) ∙
    ap (λ p. cells ++ along g line p to) (sym same) ∙ so_far

pub loop-at-preserved : goal.loop-at-preserved
loop-at-preserved c = (
  next-on-line c.args.shape c.args.line c.loop-at.at c.args.to c.one_toward-at.result c.one_toward-at.ensures c.loop-at-test.true (c.loop-at.invariant.0) c.requires.to,
  pushed-more c.args.shape c.args.line c.loop-at.at c.args.to c.one_toward-at.result c.loop-at.cells.items c.push.new.self.items
      (c.args.cells.now.items ++ along c.args.shape c.args.line c.args.from c.args.to) c.one_toward-at.ensures c.loop-at-test.true (c.loop-at.invariant.1)
      (c.in_ok-push.ensures.items ∙ ap (λ cell. c.loop-at.cells.items ++ cell ∷ []) c.cell.ensures),
)

pub returns-clause-all : goal.returns-clause-all
returns-clause-all c =
    pushed-all c.args.shape c.args.line c.loop-at.at c.args.to c.loop-at.cells.items
    (c.args.cells.now.items ++ along c.args.shape c.args.line c.args.from c.args.to) c.loop-at-test.false (c.loop-at.invariant.1)

pub returns-clause-part : goal.returns-clause-part
returns-clause-part c = (along c.args.shape c.args.line c.loop-at.at c.args.to, c.loop-at.invariant.1)

pub returns-in_err-push-clause-part : goal.returns-in_err-push-clause-part
returns-in_err-push-clause-part c =
    let rest = along c.args.shape c.args.line c.loop-at.at c.args.to in
    (rest, ap (λ (xs : List ℕ). xs ++ rest) c.in_err-push.ensures.items ∙ c.loop-at.invariant.1)
