-- What the fields of labels keep.
use Rattle.net_prices.specs.LabelTables.{LabelsView, AreLabels}
use Rattle.net_prices.specs.declared.labels.Labels.TheInside.{Inside}

-- what the fields say
abbrev pub seen : Inside → LabelsView
seen l = record { table = l.table.items; cells = l.cells.items }

abbrev pub Keeps : Inside → Type 0
Keeps l = AreLabels (seen l)
