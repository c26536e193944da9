use Rattle.std.proofs.Common.{ℕ, ◌+◌, ◌-◌, get_or, sym, ap, subst, ◌∙◌, arith}
use Rattle.std.proofs.lemmas.List.Sums.{sum_by_more}
use Rattle.std.proofs.lemmas.Option.{unwrap_or-slice_get}
use Rattle.layer_assign.specs.declared.span.Span.{Span}
use Rattle.layer_assign.specs.Spans.{IsSpan}
use Rattle.layer_assign.proofs.raised.cells_in.Goals as goal

pub loop-span-preserved : goal.loop-span-preserved
loop-span-preserved c =
    let lt = c.loop-span-test.true in
    let none : Span = record { low = 0; high = 0 } in
    let at = c.loop-span.span-index in
    let spans = c.args.spans.now in
    let cells : Span → ℕ = λ span. span.high + 1 - span.low in
    let so_far = c.loop-span.invariant.so_far in
    let most = c.loop-span.invariant.most in
    let within : IsSpan 16 (get_or spans at none) = subst (λ (s : Span). IsSpan 16 s) (unwrap_or-slice_get spans at none) (c.requires.spans at lt) in
    let high = within.high in
    record {
      so_far = ap (λ (n : ℕ). n + cells (get_or spans at none)) so_far ∙ sym (sum_by_more cells spans at none lt);
      most = omega arith;
    }
