use Rattle.std.proofs.Common.{◌≡◌, ℕ, ◌+◌, ◌-◌, ◌*◌, ◌<◌, List, ◌++◌, take, sym, ap, subst, ◌∙◌, arith}
use Rattle.std.specs.Prelude.{slice_range}
use Rattle.layer_assign.specs.Spans.{climb, spans_of}
use Rattle.layer_assign.specs.Choices.{entry}
use Rattle.layer_assign.specs.Tables.{HasRows, AreClimbs}
use Rattle.layer_assign.proofs.ClimbLemmas.{climbs-more}
use Rattle.layer_assign.proofs.TableLemmas.{row-within}
use Rattle.layer_assign.proofs.climbs.climbs.Goals as goal

-- the climbs of one node more, by a copy of the first row
grown : (layers n : ℕ) (xs new : List ℕ) → 0 < n → AreClimbs layers n xs → new ≡ xs ++ take (spans_of layers) xs → AreClimbs layers (n + 1) new
grown layers n xs new some so_far copied =
    let one : 1 * spans_of layers ≡ spans_of layers = omega arith in
    climbs-more layers n n 1 xs xs new some so_far so_far (copied ∙ ap (λ (k : ℕ). xs ++ take k xs) (sym one))

first-part : (xs : List ℕ) (n : ℕ) → slice_range xs 0 n ≡ take n xs
first-part xs n = let none : n - 0 ≡ n = omega arith in ap (λ (k : ℕ). take k xs) none

pub loop-init : goal.loop-init
loop-init c = record {
  some = omega arith;
  rows = c.in_ok-climb_row.ensures.row;
  climbs = λ node s lt within.
      let same : 0 ≡ node = omega arith in
      subst (λ (k : ℕ). entry c.args.shape.layers c.climb_row.new.costs.items k s ≡ climb s) same (c.in_ok-climb_row.ensures.climbs s within);
}

pub extend_from_within-requires-clause-in_bounds : goal.extend_from_within-requires-clause-in_bounds
extend_from_within-requires-clause-in_bounds c =
    let h = row-within c.args.shape.layers c.loop.counter 0 c.loop.costs.items c.loop.invariant.rows c.loop.invariant.some in
    omega (arith, h, c.spans_of-spans.ensures.count, c.loop.costs.ok.0)

pub loop-preserved : goal.loop-preserved
loop-preserved c =
    let layers = c.args.shape.layers in
    let old = c.loop.costs.items in
    let copied = c.in_ok-extend_from_within.ensures.items ∙
    ap (λ (n : ℕ). old ++ slice_range old 0 n) c.spans_of-spans.ensures.count ∙
    ap (λ (ys : List ℕ). old ++ ys) (first-part old (spans_of layers)) in
    let more = grown layers c.loop.counter old c.extend_from_within.new.self.items c.loop.invariant.some
    (record { rows = c.loop.invariant.rows; climbs = c.loop.invariant.climbs }) copied in
    record {
      some = omega arith;
      rows = more.rows;
      climbs = more.climbs;
    }

pub returns-clause-rows : goal.returns-clause-rows
returns-clause-rows c =
    let some = c.requires.some in
    let past = c.loop-test.false in
    let end = c.loop.auto.counter-end in
    let all : c.loop.counter ≡ c.args.nodes = omega arith in
    subst (λ (n : ℕ). HasRows c.args.shape.layers n c.loop.costs.items) all c.loop.invariant.rows

pub returns-clause-climbs : goal.returns-clause-climbs
returns-clause-climbs c = λ node s lt within.
    let past = c.loop-test.false in
    c.loop.invariant.climbs node s (omega arith) within
