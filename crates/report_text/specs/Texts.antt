-- The texts that tell a verdict on routes.
use Rattle.std.specs.Prelude.{ℕ, List, [], ◌++◌, length, Option, Some, None, slice_get, codes}
use Rattle.std.specs.List.{flat_map}
use Rattle.gr_base.specs.declared.frame.Net.{Net}
use Rattle.gr_text.specs.Lines.{number_line}

-- the measures of routes
abbrev pub report_text : (routed total most wirelength vias : ℕ) → List ℕ
report_text routed total most wirelength vias =
    number_line (codes "routed") routed ++
    number_line (codes "overflow") total ++
    number_line (codes "maximum") most ++
    number_line (codes "wirelength") wirelength ++
    number_line (codes "vias") vias

-- the line of a net's name and id
abbrev pub net_line : Net → List ℕ
net_line net = number_line net.name net.id

abbrev pub line_of : Option Net → List ℕ
line_of None = []
line_of (Some net) = net_line net

-- how many nets aren't joined, and which of the nets these are
abbrev pub unjoined_text : List Net → List ℕ → List ℕ
unjoined_text nets unjoined =
    number_line (codes "unjoined") (length unjoined) ++ flat_map (λ net. line_of (slice_get nets net)) unjoined
