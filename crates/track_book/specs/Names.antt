-- Names of books, where any will do.
use Rattle.std.specs.Prelude.{[], refl}
use Rattle.atomic_table.specs.Seated.{TableId}
use Rattle.grid_demand.specs.Tables.{CapacityView}

abbrev pub no_word : TableId
no_word = record { words = 0; slots = 0; views_name = 0; atom = 0; block = 0; offset = 0; slot_names = [] }

abbrev pub no_capacity : CapacityView
no_capacity = record {
  shape = record { columns = 1; rows = 1; layers = 1; valid = refl };
  layers = [];
  widths = [];
  capacities = [];
}
