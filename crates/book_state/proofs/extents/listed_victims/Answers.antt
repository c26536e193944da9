use Rattle.std.proofs.Common.{◌≡◌, ◌+◌, ◌++◌, ◌∷◌, [], take, IsTrue, sym, ap, ◌∙◌}
use Rattle.std.proofs.lemmas.List.{take_more}
use Rattle.std.proofs.lemmas.List.Elements.{All-push, All-same}
use Rattle.book_state.specs.declared.extents.Part.{Part}
use Rattle.book_state.proofs.ExtentSteps.{listed-push}
use Rattle.book_state.proofs.extents.listed_victims.Goals as goal

pub loop-part-preserved : goal.loop-part-preserved
loop-part-preserved c =
    let ps = c.args.parts.now in
    let at = c.loop-part.part-index in
    let p = c.part-item.result in
    let more : take (at + 1) ps ≡ take at ps ++ p ∷ [] =
    take_more ps at p c.loop-part-test.true ∙ ap (λ (q : Part). take at ps ++ q ∷ []) (sym c.part-item.is) in
    record {
      listed_so =
          listed-push (take at ps) (take (at + 1) ps) p c.loop-part.victims c.deref.result.now c.add_each.new.all
          more c.loop-part.invariant.listed_so c.deref.ensures.value c.in_ok-add_each.ensures;
      whole =
          All-same (λ (q : Part). IsTrue q.whole) (take (at + 1) ps) (take at ps ++ p ∷ []) more
          (All-push (λ (q : Part). IsTrue q.whole) (take at ps) p c.loop-part.invariant.whole c.if-not-part.false);
    }
