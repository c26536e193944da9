use Rattle.std.proofs.Common.{◌≡◌, ◌++◌, length}
use Rattle.beside_calls.specs.Blocks.{block_start}
use Rattle.buffer_plan.specs.Rules.{plans_by}
use Rattle.report_text.specs.BufferTexts.{net_lines}
use Rattle.text_commands.proofs.placing.put_blocks.Given as goal

-- the lines of the blocks so far
abbrev pub invariant-loop-block : goal.invariant-loop-block
invariant-loop-block g l =
    l.text ≡ l.fn.text
    ++ net_lines l.nets.design.now l.nets.library.now l.nets.routes.now (plans_by g.P.NetPlanner.rule l.nets.design.now l.nets.library.now l.nets.routes.now) 0 (block_start (length l.nets.design.now.nets) 0 l.size l.block-index)
