use Rattle.std.proofs.Common.{◌≡◌, ℕ, List, ◌++◌, ◌∷◌, [], Option, is_none, sym, ap, subst, ◌∙◌, arith}
use Rattle.buffer_plan.specs.Following.{IsFollowed}
use Rattle.buffer_plan.proofs.FollowingLemmas.{none-told, set_free, set-free, set-held, followed-empty, followed-both, followed-buffer}
use Rattle.buffer_plan.proofs.placing.follow.Goals as goal
use Rattle.buffer_plan.proofs.placing.follow.Goals.{then-is_none, else-is_none}

pub returns-in-Empty : goal.returns-in-Empty
returns-in-Empty c = followed-empty c.args.trail.now c.args.mark c.args.marks.now.items c.args.placement.now c.in-Empty.ensures.choice

pub returns-in_ok-push-in-Buffer : goal.returns-in_ok-push-in-Buffer
returns-in_ok-push-in-Buffer c =
    let p = c.args.placement.now in
    let marks = c.args.marks.now.items in
    let lower = c.in-Buffer.ensures.lower in
    let mark = c.requires.mark in
    let told = ap (λ (o : Option ℕ). is_none o) (sym c.at.ensures.placed) ∙ none-told c.is_none.result c.at.result c.is_none.ensures in
    let now : c.if-is_none.placement ≡ set_free p c.in-Buffer.node c.in-Buffer.kind = elim c.if-is_none.branch [
      | then-is_none w ↦ w.placement-is ∙ w.set.ensures.placed ∙ set-free p c.in-Buffer.node c.in-Buffer.kind (told ∙ w.if-is_none.true)
      | else-is_none w ↦ w.placement-is ∙ set-held p c.in-Buffer.node c.in-Buffer.kind (told ∙ w.if-is_none.false)
    ] in
    subst (λ (ms : List ℕ). IsFollowed c.args.trail.now c.args.mark marks p ms c.if-is_none.placement) (sym c.in_ok-push-in-Buffer.ensures.items)
    (followed-buffer c.args.trail.now c.args.mark c.in-Buffer.node c.in-Buffer.kind c.in-Buffer.below marks p c.if-is_none.placement c.in-Buffer.ensures.choice
    (omega arith) c.requires.within now)

pub returns-in_ok-push-in-Both-2 : goal.returns-in_ok-push-in-Both-2
returns-in_ok-push-in-Both-2 c =
    let p = c.args.placement.now in
    let marks = c.args.marks.now.items in
    let mark = c.requires.mark in
    let left = c.in-Both.ensures.lower.0 in
    let right = c.in-Both.ensures.lower.1 in
    let pushed = c.in_ok-push-in-Both-2.ensures.items ∙ ap (λ (ms : List ℕ). ms ++ c.in-Both.left ∷ []) c.in_ok-push-in-Both.ensures.items in
    subst (λ (ms : List ℕ). IsFollowed c.args.trail.now c.args.mark marks p ms p) (sym pushed)
    (followed-both c.args.trail.now c.args.mark c.in-Both.left c.in-Both.right marks p c.in-Both.ensures.choice (omega arith) (omega arith) c.requires.within)
