use Rattle.std.proofs.Common.{◌≡◌, ◌<◌, ℕ, List, get_or, length, refl, ap, subst, ◌∙◌, arith}
use Rattle.gr_base.specs.declared.grid.Way.{Way}
use Rattle.gr_base.specs.declared.grid.Way.TheVariants.{North, Up}
use Rattle.route_evaluator.specs.EdgeNumbers.{edges_numbered}
use Rattle.route_evaluator.specs.Floods.{IsFlood, spread_along, spread_from}
use Rattle.route_evaluator.specs.NumberSets.{NumberSetView, with_number}
use Rattle.route_evaluator.proofs.FloodLemmas.{flood-start, flood-next}
use Rattle.route_evaluator.proofs.flood.flood.Goals as goal

pub loop-at-init : goal.loop-at-init
loop-at-init c = record {
  bound = ap (λ (s : NumberSetView). s.bound) c.in_ok-insert.ensures ∙ ap (λ (s : NumberSetView). s.bound) c.requires.reached;
  flood =
      flood-start c.args.shape (edges_numbered c.args.edges.now.numbers) c.args.first c.insert.new.self.numbers c.push.new.self.items c.requires.first
      (ap (λ (s : NumberSetView). s.numbers) c.in_ok-insert.ensures
      ∙ ap (λ (s : NumberSetView). with_number s.numbers c.args.first) c.requires.reached)
      (omega (arith, c.in_ok-push.ensures.len, c.clear.ensures.len, c.push.new.self.ok.0));
}

pub loop-at-preserved : goal.loop-at-preserved
loop-at-preserved c =
    let at : ℕ = c.loop-at.at in
    let cells : List ℕ = c.loop-at.reached.cells.numbers in
    let new : List ℕ = c.spread_along-in-loop-at-2.new.cells.numbers in
    let flood = c.loop-at.invariant.flood in
    let long : length c.numbers.result.now ≡ length cells = ap (λ (xs : List ℕ). length xs) c.numbers.ensures.numbers in
    let size : length c.numbers-in-loop-at-2.result.now ≡ length new = ap (λ (xs : List ℕ). length xs) c.numbers-in-loop-at-2.ensures.numbers in
    let below : at < length cells = omega (arith, long, c.loop-at-test.true) in
    let old : length c.loop-at.reached.parents.items ≡ length cells = flood.long in
    let count = c.loop-at.reached.parents.ok.0 in
    let along : Way → List ℕ → List ℕ = λ way xs. spread_along c.args.shape (edges_numbered c.args.edges.now.numbers) way (get_or c.numbers-in-loop-at.result.now at 0) xs in
    let spread = c.in_ok-spread_along-3.ensures.cells ∙ ap (along Up) (c.in_ok-spread_along-2.ensures.cells ∙ ap (along North) c.in_ok-spread_along.ensures.cells) in
    record {
      bound =
          c.in_ok-spread_along-3.ensures.bound ∙ c.in_ok-spread_along-2.ensures.bound ∙ c.in_ok-spread_along.ensures.bound
          ∙ c.loop-at.invariant.bound;
      flood =
          flood-next c.args.shape (edges_numbered c.args.edges.now.numbers) c.args.first at cells c.loop-at.reached.parents.items new c.resize.new.self.items
          c.requires.grid flood below
          (spread
          ∙ ap (λ (xs : List ℕ). spread_from c.args.shape (edges_numbered c.args.edges.now.numbers) (get_or xs at 0) cells) c.numbers-in-loop-at.ensures.numbers)
          (omega (arith, size, c.in_ok-resize.ensures.len, c.resize.new.self.ok.0))
          (λ k less old_k. c.in_ok-resize.ensures.by_index.0 k 0 (omega (arith, size, less)) (omega (arith, count, old, old_k)))
          (λ k later less. c.in_ok-resize.ensures.by_index.1 k 0 refl (omega (arith, count, old, later)) (omega (arith, size, less)));
    }

pub returns-clause-flood : goal.returns-clause-flood
returns-clause-flood c =
    let flood = c.loop-at.invariant.flood in
    let long : length c.numbers.result.now ≡ length c.loop-at.reached.cells.numbers = ap (λ (xs : List ℕ). length xs) c.numbers.ensures.numbers in
    let all : c.loop-at.at ≡ length c.loop-at.reached.cells.numbers = omega (arith, long, flood.within, c.loop-at-test.false) in
    subst (λ (n : ℕ). IsFlood c.args.shape (edges_numbered c.args.edges.now.numbers) c.args.first n c.loop-at.reached.cells.numbers c.loop-at.reached.parents.items) all flood
