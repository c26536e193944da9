use Rattle.std.proofs.Common.{◌+◌, ℕ, List, [], length, refl, sym, ap, subst, ◌∙◌}
use Rattle.std.proofs.lemmas.List.{length_push}
use Rattle.book_state.specs.Extents.{AreExtents}
use Rattle.book_state.specs.declared.extents.Extent.{Extent}
use Rattle.book_state.proofs.ExtentSteps.{nothing-seen, first-tile, extents-push}
use Rattle.book_state.proofs.extents.unseen.Goals as goal

pub loop-preserved : goal.loop-preserved
loop-preserved c =
    let g = c.args.capacity.now.shape in
    let pushed = c.in_ok-push.ensures.items in (
      ap (λ (xs : List Extent). length xs) pushed ∙ length_push c.loop.extents.items _ ∙ ap (λ (n : ℕ). n + 1) c.loop.invariant.0,
      subst (AreExtents g []) (sym pushed) (extents-push g [] c.loop.extents.items _ c.loop.invariant.1 (nothing-seen g [] _ refl (first-tile g))),
    )
