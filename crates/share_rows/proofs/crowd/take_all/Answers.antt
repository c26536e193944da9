use Rattle.std.proofs.Common.{◌≡◌, ◌++◌, List, length, take, drop, sym, subst, ap, ◌∙◌, arith}
use Rattle.std.proofs.lemmas.List.{append-nil, drop_all, take_all}
use Rattle.work_share.specs.Views.{HandView, AreHandsOf, IsHandOf}
use Rattle.work_share.proofs.HandLists.{hand-of, all-are}
use Rattle.share_rows.proofs.crowd.take_all.Goals as goal

pub for_each_mut-requires-clause-accepts : goal.for_each_mut-requires-clause-accepts
for_each_mut-requires-clause-accepts g c κs within = λ i p less is.
    let are = subst (λ (l : List HandView). AreHandsOf c.args.share.now l) (sym c.as_mut_slice.ensures.value) c.requires in
    hand-of c.args.share.now c.as_mut_slice.result.now i p.now are less is

pub returns : goal.returns
returns g c =
    let old = c.as_mut_slice.result.now in
    let new = c.for_each_mut.new.s in
    let same = c.as_mut_slice.ensures.value in
    let count = c.for_each_mut.auto.s in
    let len = c.args.hands.now.ok.0 in
    let long = ap (λ (l : List HandView). length l) same in
    let are = subst (λ (l : List HandView). AreHandsOf c.args.share.now l) (sym same) c.requires in
    let whole : take c.args.hands.now.len (new ++ drop (length new) c.args.hands.now.items) ≡ new =
    ap (λ (l : List HandView). take c.args.hands.now.len (new ++ l)) (drop_all (length new) c.args.hands.now.items (omega (arith, count, long)))
    ∙ ap (λ (l : List HandView). take c.args.hands.now.len l) (append-nil new)
    ∙ take_all c.args.hands.now.len new (omega (arith, count, long, len)) in
    subst (λ (l : List HandView). AreHandsOf c.args.share.now l) (sym whole)
    (all-are c.args.share.now old new are count
    (λ at d less.
    let e = (c.for_each_mut.ensures at d less).1 in (
      ap (λ (h : HandView). h.number) (sym e.left) ∙ e.call.1 ∙ ap (λ (h : HandView). h.number) e.argument_is,
      subst (λ (h : HandView). IsHandOf c.args.share.now h) e.left e.call.0,
    )))
