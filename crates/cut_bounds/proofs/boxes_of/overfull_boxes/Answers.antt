use Rattle.std.proofs.Common.{◌≡◌, ◌++◌, ℕ, List, All, true, sym, ap, subst, ◌∙◌, arith}
use Rattle.std.proofs.lemmas.List.Elements.{filter_passes}
use Rattle.gr_base.specs.declared.frame.Frame.{Frame}
use Rattle.cut_bounds.specs.Boxes.{is_parted_on}
use Rattle.cut_bounds.specs.Candidates.{candidates_on, AreLeft}
use Rattle.cut_bounds.specs.NetTiles.{Placed, placed_in}
use Rattle.cut_bounds.proofs.DesignLemmas.{candidates_below, side-more, side-passed, side-test}
use Rattle.cut_bounds.proofs.PartedLemmas.{all-left, fewer-left, left-above}
use Rattle.cut_bounds.proofs.boxes_of.overfull_boxes.Goals as goal

pub loop-level-init : goal.loop-level-init
loop-level-init c = record {
  found = c.new-found.ensures.items;
  left = all-left c.args.design.now c.args.nets c.frame.ensures.design c.requires.placed c.requires.whole;
}

pub is_below-requires : goal.is_below-requires
is_below-requires c = omega (arith, c.loop-level-test.true)

pub push_side-requires-clause-left : goal.push_side-requires-clause-left
push_side-requires-clause-left c =
    fewer-left c.args.design.now c.of-boxes.result.shape c.of-boxes.result.level c.loop-level.level c.loop-level.left c.in_ok-fewer.fewer
    (c.of-boxes.ensures.shape ∙ ap (λ (f : Frame). f.shape) c.frame.ensures.frame) c.of-boxes.ensures.level c.loop-level.invariant.left
    c.in_ok-fewer.ensures.nets c.in_ok-fewer.ensures.whole

pub push_side-requires-clause-parted : goal.push_side-requires-clause-parted
push_side-requires-clause-parted c =
    subst (λ (ns : List Placed). All (λ (net : Placed). is_parted_on c.of-boxes.result.shape c.of-boxes.result.level net ≡ true) ns)
    (sym c.in_ok-fewer.ensures.nets) (filter_passes (is_parted_on c.of-boxes.result.shape c.of-boxes.result.level) (placed_in c.loop-level.left))

pub loop-level-preserved-then-not-is_below : goal.loop-level-preserved-then-not-is_below
loop-level-preserved-then-not-is_below c = record {
  found = side-passed c.args.design.now c.loop-level.level c.loop-level.found.items
      (side-test c.args.design.now c.frame.result.now.shape c.loop-level.level c.columns.result c.rows.result c.max-longer.result c.is_below.result (omega (arith, c.loop-level-test.true))
      (ap (λ (f : Frame). f.shape) c.frame.ensures.frame) c.columns.ensures.columns c.rows.ensures.rows c.max-longer.ensures c.is_below.ensures ∙ c.if-not-is_below.true)
      c.loop-level.invariant.found;
  left = left-above c.args.design.now c.loop-level.level c.loop-level.left c.loop-level.invariant.left;
}

pub loop-level-preserved : goal.loop-level-preserved
loop-level-preserved c = record {
  found = side-more c.args.design.now c.loop-level.level c.loop-level.found.items c.push_side.new.found.items
      (side-test c.args.design.now c.frame.result.now.shape c.loop-level.level c.columns.result c.rows.result c.max-longer.result c.is_below.result (omega (arith, c.loop-level-test.true))
      (ap (λ (f : Frame). f.shape) c.frame.ensures.frame) c.columns.ensures.columns c.rows.ensures.rows c.max-longer.ensures c.is_below.ensures ∙ c.if-not-is_below.false)
      c.loop-level.invariant.found
      (c.in_ok-push_side.ensures ∙ ap (λ (n : ℕ). c.loop-level.found.items ++ candidates_on c.args.design.now n) c.of-boxes.ensures.level);
  left = left-above c.args.design.now c.loop-level.level c.in_ok-fewer.fewer
      (subst (λ (k : ℕ). AreLeft c.args.design.now k c.in_ok-fewer.fewer) c.of-boxes.ensures.level
      (fewer-left c.args.design.now c.of-boxes.result.shape c.of-boxes.result.level c.loop-level.level c.loop-level.left c.in_ok-fewer.fewer
      (c.of-boxes.ensures.shape ∙ ap (λ (f : Frame). f.shape) c.frame.ensures.frame) c.of-boxes.ensures.level c.loop-level.invariant.left
      c.in_ok-fewer.ensures.nets c.in_ok-fewer.ensures.whole));
}

pub returns : goal.returns
returns c =
    let all : c.loop-level.level ≡ 24 = omega (arith, c.loop-level-test.false, c.loop-level.auto.level-end) in
    c.loop-level.invariant.found ∙ ap (λ (n : ℕ). candidates_below c.args.design.now n) all
