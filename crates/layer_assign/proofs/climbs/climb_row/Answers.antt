use Rattle.std.proofs.Common.{◌≡◌, ℕ, ◌+◌, ◌*◌, ◌<◌, Option, List, [], ◌∷◌, ◌++◌, length, map, get_or, refl, sym, ap, ◌∙◌, arith}
use Rattle.std.proofs.lemmas.List.FromFn.{length-map-range_with_len, map-range_with_len_more, get_or-map-range_with_len}
use Rattle.std.specs.List.{range_with_len}
use Rattle.gr_base.specs.declared.grid.Shape.{Shape}
use Rattle.gr_base.proofs.GridLemmas.{some_layers}
use Rattle.layer_assign.specs.declared.span.Span.{Span}
use Rattle.layer_assign.specs.Spans.{climb, IsWithin, span_number, spans_of, span_at}
use Rattle.layer_assign.specs.Choices.{entry}
use Rattle.layer_assign.specs.Tables.{HasRows}
use Rattle.layer_assign.proofs.TableLemmas.{ordered-within, turn-within, turn-next, span_at-row, span_at-number, place-within}
use Rattle.layer_assign.proofs.climbs.climb_row.Goals as goal

abbrev climb_at : ℕ → ℕ → ℕ
climb_at layers place = climb (span_at layers place)

more : (f : ℕ → ℕ) (xs new : List ℕ) (n y : ℕ) → xs ≡ map f (range_with_len 0 n) → new ≡ xs ++ y ∷ [] → y ≡ f n → new ≡ map f (range_with_len 0 (n + 1))
more f xs new n y so_far pushed is =
    pushed ∙ ap (λ (k : ℕ). xs ++ k ∷ []) is ∙ ap (λ (ys : List ℕ). ys ++ f n ∷ []) so_far ∙ sym (map-range_with_len_more f 0 n n (omega arith))

rows : (layers nodes n : ℕ) (xs : List ℕ) → xs ≡ map (climb_at layers) (range_with_len 0 n) → n ≡ nodes * spans_of layers → HasRows layers nodes xs
rows layers nodes n xs is count = ap (λ (ys : List ℕ). length ys) is ∙ length-map-range_with_len (climb_at layers) 0 n ∙ count

climbs-at : (g : Shape) (nodes n : ℕ) (xs : List ℕ) → xs ≡ map (climb_at g.layers) (range_with_len 0 n) → n ≡ nodes * spans_of g.layers →
    (node : ℕ) → (s : Option Span) → node < nodes → IsWithin g.layers s → entry g.layers xs node s ≡ climb s
climbs-at g nodes n xs is count node s below within =
    let layers = g.layers in
    let place = node * spans_of layers + span_number layers s in
    let inside = place-within layers nodes node s xs (rows layers nodes n xs is count) below within in
    let long : length xs ≡ n = ap (λ (ys : List ℕ). length ys) is ∙ length-map-range_with_len (climb_at layers) 0 n in
    let read : get_or (map (climb_at layers) (range_with_len 0 n)) place 0 ≡ climb_at layers place =
    get_or-map-range_with_len (climb_at layers) 0 n place place 0 (omega arith) (omega arith) in
    let at : span_at layers place ≡ s = span_at-row layers node (span_number layers s) (some_layers g) ∙ span_at-number layers s (some_layers g) within in
    ap (λ (ys : List ℕ). get_or ys place 0) is ∙ read ∙ ap (λ (t : Option Span). climb t) at

pub loop-init : goal.loop-init
unfolding span_at
loop-init c = record { span = refl; costs = c.requires }

pub climb-requires : goal.climb-requires
climb-requires c =
    ordered-within c.args.shape.layers c.loop.span (turn-within c.args.shape c.loop.span c.loop.counter c.loop.invariant.span)

pub next_span-span-requires : goal.next_span-span-requires
next_span-span-requires c = turn-within c.args.shape c.loop.span c.loop.counter c.loop.invariant.span

pub loop-preserved : goal.loop-preserved
loop-preserved c = record {
  span = turn-next c.args.shape.layers c.loop.span c.next_span-span.result c.loop.counter c.loop.invariant.span c.next_span-span.ensures;
  costs =
      more (climb_at c.args.shape.layers) c.loop.costs.items c.push.new.self.items c.loop.counter c.climb.result c.loop.invariant.costs c.in_ok-push.ensures.items
      (c.climb.ensures ∙ ap (λ (s : Option Span). climb s) c.loop.invariant.span);
}

pub returns-clause-row : goal.returns-clause-row
returns-clause-row c =
    rows c.args.shape.layers 1 c.loop.counter c.loop.costs.items c.loop.invariant.costs
    (let e = c.loop-test.false in let f = c.loop.auto.counter-end in omega (arith, c.spans_of-end.ensures.count))

pub returns-clause-climbs : goal.returns-clause-climbs
returns-clause-climbs c = λ s within.
    climbs-at c.args.shape 1 c.loop.counter c.loop.costs.items c.loop.invariant.costs
    (let e = c.loop-test.false in let f = c.loop.auto.counter-end in omega (arith, c.spans_of-end.ensures.count)) 0 s (omega arith) within
