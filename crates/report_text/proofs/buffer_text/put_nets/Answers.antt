use Rattle.std.proofs.Common.{ℕ, List, ◌++◌, ap, ◌∙◌, arith}
use Rattle.report_text.specs.BufferTexts.{net_buffers}
use Rattle.report_text.proofs.BufferLemmas.{lines-more}
use Rattle.report_text.proofs.buffer_text.put_nets.Goals as goal

pub loop-net-preserved : goal.loop-net-preserved
loop-net-preserved c =
    let f : ℕ → List ℕ = net_buffers c.args.design.now c.args.library.now c.args.routes.now c.args.plans.now in
    c.in_ok-put_net.ensures
    ∙ ap (λ (text : List ℕ). text ++ f c.loop-net.net) c.loop-net.invariant
    ∙ lines-more f c.args.text.now 0 c.loop-net.net (omega arith)
