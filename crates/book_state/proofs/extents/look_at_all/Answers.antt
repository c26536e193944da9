use Rattle.std.proofs.Common.{◌≡◌, ◌++◌, List, length, take, drop, slice_index_or, sym, subst, ap, ◌∙◌, arith}
use Rattle.std.proofs.lemmas.List.{append-nil, drop_all, take_all}
use Rattle.book_state.specs.Extents.{AreParts, IsLookedAt}
use Rattle.book_state.specs.declared.extents.Part.{Part}
use Rattle.book_state.proofs.ExtentSteps.{parts-looked-at}
use Rattle.book_state.proofs.extents.look_at_all.Goals as goal

pub returns-clause-parts : goal.returns-clause-parts
returns-clause-parts g c =
    let capacity = c.args.capacity.now in
    let h = c.args.history.now in
    let old = c.as_mut_slice.result.now in
    let new = c.for_each_beside.new.items in
    let same = c.as_mut_slice.ensures.value in
    let count = c.for_each_beside.auto.items in
    let len = c.args.parts.now.ok.0 in
    let long = ap (λ (ps : List Part). length ps) same in
    let are = subst (AreParts capacity h) (sym same) c.requires.parts in
    let whole : take c.args.parts.now.len (new ++ drop (length new) c.args.parts.now.items) ≡ new =
    ap (λ (ps : List Part). take c.args.parts.now.len (new ++ ps)) (drop_all (length new) c.args.parts.now.items (omega (arith, count, long)))
    ∙ ap (λ (ps : List Part). take c.args.parts.now.len ps) (append-nil new)
    ∙ take_all c.args.parts.now.len new (omega (arith, count, long, len)) in
    subst (AreParts capacity h) (sym whole)
    (parts-looked-at capacity h old new count are
    (λ at d less.
    let e = (c.for_each_beside.ensures at d less).1 in
    subst (λ (p : Part). IsLookedAt capacity h p (slice_index_or new at d)) e.argument_is (subst (λ (p : Part). IsLookedAt capacity h e.argument.now p) e.left e.call)))
