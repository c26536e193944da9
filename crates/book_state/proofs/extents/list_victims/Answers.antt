use Rattle.std.proofs.Common.{◌+◌, refl, sym, ap, ◌∙◌, length-set}
use Rattle.std.proofs.lemmas.List.Elements.{All-set}
use Rattle.book_state.specs.Books.{is_victim}
use Rattle.book_state.specs.Extents.{IsExtent}
use Rattle.book_state.proofs.ExtentSteps.{victim-passes, victim-fails}
use Rattle.book_state.proofs.extents.list_victims.Goals as goal
use Rattle.book_state.proofs.extents.list_victims.Goals.{then-look+in_ok-push, else-look}

pub returns-in_err-push-clause-extents : goal.returns-in_err-push-clause-extents
returns-in_err-push-clause-extents c =
    All-set (IsExtent c.args.capacity.now.shape c.args.history.now) c.loop-at.extents.items c.loop-at.at c.look.new.extent c.look.ensures.extent c.loop-at.invariant.extents

pub loop-at-preserved : goal.loop-at-preserved
loop-at-preserved c =
    let p = is_victim c.args.capacity.now c.args.history.now in
    let first = c.args.first in
    let at = c.loop-at.at in
    record {
      long = length-set c.loop-at.extents.items at c.look.new.extent ∙ c.loop-at.invariant.long;
      extents = All-set (IsExtent c.args.capacity.now.shape c.args.history.now) c.loop-at.extents.items at c.look.new.extent c.look.ensures.extent c.loop-at.invariant.extents;
      victims = elim c.if-look.branch [
        | then-look+in_ok-push w ↦
            victim-passes p first at (first + at) c.loop-at.victims.items c.if-look.victims.items c.loop-at.invariant.victims refl (sym c.look.ensures.victim ∙ w.if-look.true)
            (ap (λ v. v.items) w.victims-is ∙ w.in_ok-push.ensures.items)
        | else-look w ↦
            ap (λ v. v.items) w.victims-is ∙ victim-fails p first at (first + at) c.loop-at.victims.items c.loop-at.invariant.victims refl (sym c.look.ensures.victim ∙ w.if-look.false)
      ];
    }
