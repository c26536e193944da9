use Rattle.std.proofs.Common.{ℕ, ◌≤◌, arith}
use Rattle.gr_base.specs.declared.frame.Layer.{Layer}
use Rattle.std.proofs.lemmas.List.FromFn.{fill_by_all}
use Rattle.ispd_reader.specs.Header.{layer_at, stack_of}
use Rattle.ispd_reader.proofs.header.stacked.Goals as goal

pub returns : goal.returns
unfolding stack_of
returns c =
    let zero : Layer = record { vertical = 0; horizontal = 0; width = 0; spacing = 0; via = 0 } in
    let f : ℕ → Layer = layer_at c.args.vertical.now c.args.horizontal.now c.args.width.now c.args.spacing.now c.args.via.now in
    let end : 16 ≤ c.loop-at.at = omega arith in
    fill_by_all f c.loop-at.layers 16 zero c.loop-at.invariant.count (λ k below. c.loop-at.invariant.done k zero (omega arith))
