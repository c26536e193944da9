use Rattle.std.proofs.Common.{◌≡◌, ◌++◌, take, Some}
use Rattle.std.specs.List.{flat_map}
use Rattle.report_text.specs.BufferTexts.{kind_line}
use Rattle.report_text.proofs.buffer_text.put_buffers.Given as goal

abbrev pub invariant-loop-buffer : goal.invariant-loop-buffer
invariant-loop-buffer l =
    l.text ≡ l.fn.text ++ flat_map (λ buffer. kind_line l.design.frame l.library buffer.cell (Some buffer.kind)) (take l.buffer-index l.buffers)
