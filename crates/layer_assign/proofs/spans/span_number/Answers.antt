use Rattle.std.proofs.Common.{◌≡◌, ℕ, ◌+◌, ◌-◌, ◌*◌, ◌/◌, ◌<◌, Option, Some, sym, ap, subst, ◌∙◌}
use Rattle.layer_assign.specs.declared.span.Span.{Span}
use Rattle.layer_assign.specs.Spans.{triangle, span_number, spans_of}
use Rattle.layer_assign.proofs.TableLemmas.{triangle-half, number-within}
use Rattle.layer_assign.proofs.spans.span_number.Goals as goal

numbered : (layers count : ℕ) (o : Option Span) (s : Span) → count ≡ layers → o ≡ Some s →
    1 + (count - 1 - s.low) * (count - 1 - s.low + 1) / 2 + (s.high - s.low) ≡ span_number layers o
numbered layers count o s same is =
    ap (λ (k : ℕ). 1 + k + (s.high - s.low)) (triangle-half (count - 1 - s.low))
    ∙ ap (λ (k : ℕ). 1 + triangle (k - 1 - s.low) + (s.high - s.low)) same
    ∙ ap (λ (r : Option Span). span_number layers r) (sym is)

pub returns-clause-number : goal.returns-clause-number
returns-clause-number c = numbered c.args.shape.layers c.layers.result c.args.span c.in-Some.span c.layers.ensures.layers c.in-Some.is

pub returns-clause-below : goal.returns-clause-below
returns-clause-below c =
    let at = numbered c.args.shape.layers c.layers.result c.args.span c.in-Some.span c.layers.ensures.layers c.in-Some.is in
    let below = number-within c.args.shape.layers c.args.span c.requires in
    subst (λ (n : ℕ). n < spans_of c.args.shape.layers) (sym at) below
