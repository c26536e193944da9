use Rattle.std.specs.Prelude.{codes}
use Rattle.std.proofs.Common.{◌≡◌, ◌++◌, length, take}
use Rattle.std.specs.List.{flat_map}
use Rattle.report_text.specs.Texts.{line_of}
use Rattle.std.specs.Prelude.{slice_get}
use Rattle.gr_text.specs.Lines.{number_line}
use Rattle.report_text.proofs.texts.unjoined.Given as goal

abbrev pub invariant-loop-net : goal.invariant-loop-net
invariant-loop-net l =
    l.text ≡ number_line (codes "unjoined") (length l.nets) ++ flat_map (λ net. line_of (slice_get l.design.nets net)) (take l.net-index l.nets)
