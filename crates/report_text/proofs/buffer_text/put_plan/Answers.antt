use Rattle.std.proofs.Common.{ℕ, ◌<◌, List, ◌++◌, All, length, Some, sym, ap, subst, ◌∙◌, append_assoc}
use Rattle.std.specs.List.{flat_map}
use Rattle.gr_base.specs.Grid.{cells_of}
use Rattle.gr_base.specs.declared.grid.Shape.{Shape}
use Rattle.report_text.specs.BufferTexts.{kind_line, placement_text, plan_line}
use Rattle.report_text.specs.declared.buffer_text.Buffered.{Buffered}
use Rattle.report_text.proofs.BufferLemmas.{placement-lines, rising-cells, rising-kinds}
use Rattle.report_text.proofs.buffer_text.put_plan.Goals as goal

pub put_buffers-requires-clause-cells : goal.put_buffers-requires-clause-cells
put_buffers-requires-clause-cells c =
    subst (λ (g : Shape). All (λ (b : Buffered). b.cell < cells_of g) c.deref.result.now) c.requires.shape
    (subst (λ (bs : List Buffered). All (λ (b : Buffered). b.cell < cells_of c.args.tree.now.shape) bs)
    (sym (c.deref.ensures.value ∙ c.in_ok-gather.ensures))
    (rising-cells c.args.tree.now c.args.plan.now.placement))

pub put_buffers-requires-clause-kinds : goal.put_buffers-requires-clause-kinds
put_buffers-requires-clause-kinds c =
    subst (λ (bs : List Buffered). All (λ (b : Buffered). b.kind < length c.args.library.now.kinds) bs)
    (sym (c.deref.ensures.value ∙ c.in_ok-gather.ensures))
    (rising-kinds c.args.tree.now c.args.plan.now.placement c.args.library.now c.requires.kinds)

pub returns : goal.returns
returns c =
    let lines : List Buffered → List ℕ = λ bs. flat_map (λ (b : Buffered). kind_line c.args.design.now.frame c.args.library.now b.cell (Some b.kind)) bs in
    let head : List ℕ = plan_line c.args.net.now c.args.plan.now in
    c.in_ok-put_buffers.ensures
    ∙ ap (λ (text : List ℕ). text ++ lines c.deref.result.now) c.in_ok-put_plan_line.ensures
    ∙ ap (λ (bs : List Buffered). (c.args.text.now ++ head) ++ lines bs) (c.deref.ensures.value ∙ c.in_ok-gather.ensures)
    ∙ ap (λ (text : List ℕ). (c.args.text.now ++ head) ++ text)
    (placement-lines c.args.tree.now c.args.plan.now.placement c.args.design.now.frame c.args.library.now)
    ∙ append_assoc c.args.text.now head (placement_text c.args.design.now.frame c.args.library.now c.args.tree.now c.args.plan.now.placement)
