use Rattle.std.proofs.Common.{◌≡◌, Option, Some, None, List, [], ◌∷◌, ◌++◌, length, map, take, IsSome, sym, ap, subst, ◌∙◌}
use Rattle.std.proofs.lemmas.List.{length-map, map-append, take_more, take_all}
use Rattle.layer_assign.specs.declared.span.Span.{Span}
use Rattle.layer_assign.proofs.PinLemmas.{growing-read, whole-at}
use Rattle.layer_assign.proofs.tiles.whole_spans.Goals as goal

pub unwrap-requires : goal.unwrap-requires
unwrap-requires c =
    let lt = c.loop-span-test.true in
    subst (λ (o : Option Span). IsSome o) (growing-read c.args.spans.now c.loop-span.span-index None lt) (c.requires c.loop-span.span-index lt)

pub loop-span-preserved : goal.loop-span-preserved
loop-span-preserved c =
    let lt = c.loop-span-test.true in
    let spans = c.args.spans.now in
    let at = c.loop-span.span-index in
    ap (λ (xs : List Span). map Some xs) c.in_ok-push.ensures.items
    ∙ map-append Some c.loop-span.whole.items (c.unwrap.result ∷ [])
    ∙ ap (λ (xs : List (Option Span)). xs ++ Some c.unwrap.result ∷ []) c.loop-span.invariant
    ∙ ap (λ (s : Option Span). take at spans ++ s ∷ []) (sym c.unwrap.ensures)
    ∙ sym (take_more spans at None lt)

pub returns-clause-count : goal.returns-clause-count
returns-clause-count c =
    let past = c.loop-span-test.false in
    let whole : map (λ (r : Span). Some r) c.loop-span.whole.items ≡ c.args.spans.now = c.loop-span.invariant ∙ take_all c.loop-span.span-index c.args.spans.now past in
    sym (length-map c.loop-span.whole.items (λ (r : Span). Some r)) ∙ ap (λ (xs : List (Option Span)). length xs) whole

pub returns-clause-spans : goal.returns-clause-spans
returns-clause-spans c = λ node lt.
    let past = c.loop-span-test.false in
    whole-at c.loop-span.whole.items c.args.spans.now node
    (c.loop-span.invariant ∙ take_all c.loop-span.span-index c.args.spans.now past) lt
